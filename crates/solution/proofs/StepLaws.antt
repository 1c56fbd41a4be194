-- One column of the split in place: what the sum of the solutions stores makes the product's column that of the old rows.
-- Assumes nothing.
use mathlib.Core.Path.{◌≡◌, refl, sym, ap, ap₂, subst, fun_ext, ◌∙◌}
use mathlib.Core.Logic.{⊎_elim, ◌⊎◌, inl, inr}
use mathlib.Core.List.{List}
use Prim.Native.Nat.{ℕ, zero, suc, ◌+◌, ◌-◌, ◌*◌, ◌%◌, ◌≤◌, ◌<◌, Fin}
use native.Mathlib.Nat.{mod-lt, eq-or-lt_of_le, zero-add as zero-addₙ, add-zero as add-zeroₙ, add-mul as add-mulₙ}
use native.Mathlib.Omega.{arith}
use borrow.Author.Tests.{lt-ltb, le-ltb, eq-eqb, ne_eqb}
use lib.ListN.{length, take, drop, get_or-eq_default}
use lib.Seq.{get_or-drop, get_or-take, length-take-le}
use Rattle.algebra.specs.Sums.{sum_to}
use Rattle.algebra.proofs.SumsLaws.{sum_to-zero, sum_to-suc}
use Rattle.algebra.specs.internal.Ring.{CommRing, add_assoc, add_comm, add-zero, zero-add, mul-zero, mul_comm}
use Rattle.algebra.specs.internal.Series.{Series, conv}
use Rattle.algebra.proofs.SeriesLaws.{add_at, mul_at}
use Rattle.algebra.specs.internal.Poly.{const}
use Rattle.algebra.proofs.PolyLaws.{const-mul}
use Rattle.algebra.specs.internal.Fp.{Fp, rem}
use Rattle.algebra.proofs.FpLaws.{rem-add, rem-mul, rem-mod}
use Rattle.algebra.proofs.BridgeLaws.{rem-zero, same-rem, sub-rem, conv-rem}
use Rattle.numbers.specs.Words.{word, tabulate}
use Rattle.numbers.specs.internal.Facts.{AllBelow}
use Rattle.numbers.proofs.WordsLaws.{lt-or-ge, length-tabulate, word-tabulate, from, from_is, length_from}
use Rattle.rows.specs.Rows.{mul, rows_of, unit}
use Rattle.rows.specs.internal.Passes.{pass_sum, weight_sum}
use Rattle.rows.proofs.RowsLaws.{rows-below, rows-past, by_row, row_fits}
use Rattle.rows.proofs.MulLaws.{mul-lt, mul-ext}
use Rattle.columns.specs.internal.Column.{middle_sum, times, ColumnStored}
use Rattle.rows.proofs.MonicLaws.{by_place}
use Rattle.columns.proofs.SolveLaws.{mul-middle, pass-ext}
use Rattle.algebra.proofs.SolutionLaws.{tot, tot-zero, tot-suc, tot-ext, tot-at, assembled}
use Rattle.solution.specs.internal.Table.{poly, plus, by, low_of, high_of, Table, Bases, capped, rows_from, low_poly, high_poly, left_at, Step, SplitTo}
use Rattle.solution.proofs.TableLaws.{low-at, low-past, high-at, high-past}

pub capped-low : (d x : ℕ) (a : ℕ → ℕ → ℕ) (j t : ℕ) → j < d → capped d x a j t ≡ a j t
unfolding capped
capped-low d x a j t l = simp (lt-ltb j d l)

pub capped-top : (d x : ℕ) (a : ℕ → ℕ → ℕ) (t : ℕ) → capped d x a d t ≡ x * unit t
unfolding capped
capped-top d x a t = simp (le-ltb d d (omega arith), eq-eqb d d refl)

pub capped-above : (d x : ℕ) (a : ℕ → ℕ → ℕ) (j t : ℕ) → d < j → capped d x a j t ≡ 0
unfolding capped
capped-above d x a j t l = simp (le-ltb j d (omega arith), ne_eqb j d (λ e. let z : ⊥ = omega arith in z))

pub capped-later : (d x : ℕ) (a : ℕ → ℕ → ℕ) (j t : ℕ) → d ≤ j → 1 ≤ t → capped d x a j t ≡ 0
capped-later d x a j zero l g = absurd (let z : ⊥ = omega arith in z)
capped-later d x a j (suc t) l g =
    ⊎_elim (λ (e : d ≡ j). subst (λ i. capped d x a i (suc t) ≡ 0) e (capped-top d x a (suc t) ∙ omega arith)) (λ (u : d < j). capped-above d x a j (suc t) u) (eq-or-lt_of_le l)

pub capped-ext : (d x : ℕ) (a a' : ℕ → ℕ → ℕ) (t : ℕ) → ((j : ℕ) → j < d → a j t ≡ a' j t) → (j : ℕ) → capped d x a j t ≡ capped d x a' j t
capped-ext d x a a' t h =
    by_place (λ j. capped d x a j t ≡ capped d x a' j t) d (λ j g. capped-low d x a j t g ∙ h j g ∙ sym (capped-low d x a' j t g)) (capped-top d x a t ∙ sym (capped-top d x a' t))
    (λ j g. capped-above d x a j t g ∙ sym (capped-above d x a' j t g))

pub same_or_not : (i v : ℕ) → (i ≡ v) ⊎ (i ≡ v → ⊥)
same_or_not i v = ⊎_elim (λ (l : i < v). inr (λ e. omega arith)) (λ (l : v ≤ i). ⊎_elim (λ (e : v ≡ i). inl (sym e)) (λ (u : v < i). inr (λ e. omega arith)) (eq-or-lt_of_le l)) (lt-or-ge i v)

-- the two parts of the rows
module _ (m k N : ℕ) (s : List ℕ) (long : length s ≡ (m + k) * N) where
  whole : (m + k) * N ≡ m * N + k * N
  whole = add-mulₙ m k N

  pub seam-long : length (take (m * N) s) ≡ m * N
  seam-long = length-take-le (m * N) s (omega (arith, whole))

  pub rest-long : length (from s (m * N)) ≡ k * N
  rest-long = length_from s (m * N) ∙ omega (arith, whole)

  pub seam-fits : m * N ≤ length s
  seam-fits = omega (arith, whole)

pub gathered : (p m k N t : ℕ) (s e E : List ℕ) → length e ≡ m + k
    → E ≡ tabulate (length e) (λ j. (word s (j * N + t) + (p - middle_sum (rows_of (take (m * N) s) N m) (rows_of (from s (m * N)) N k) j t % p)) % p)
    → E ≡ tabulate (m + k) (left_at p N m k s t)
unfolding left_at
gathered p m k N t s e E n q =
    q ∙ ap₂ (λ x r. tabulate x (λ j. (word s (j * N + t) + (p - middle_sum (rows_of (take (m * N) s) N m) (rows_of r N k) j t % p)) % p)) n (from_is s (m * N))

pub left_below : (p m k N t : ℕ) (s : List ℕ) → 1 ≤ p → AllBelow p (tabulate (m + k) (left_at p N m k s t))
unfolding left_at
left_below p m k N t s pos i l =
    subst (λ x. x < p) (sym (word-tabulate (m + k) _ i (omega (arith, length-tabulate (m + k) (λ j. (word s (j * N + t) + (p - middle_sum (rows_of (take (m * N) s) N m) (rows_of (drop (m * N) s) N k) j t % p)) % p))))) (mod-lt _ pos)

tot-zeros : {S : Type 0} (𝓢 : CommRing S) (n : ℕ) (f : ℕ → S) → ((i : ℕ) → i < n → f i ≡ 𝓢.𝟘) → tot 𝓢 n f ≡ 𝓢.𝟘
tot-zeros 𝓢 zero f h = tot-zero 𝓢 f
tot-zeros 𝓢 (suc n) f h = tot-suc 𝓢 n f ∙ ap₂ 𝓢.add (tot-zeros 𝓢 n f (λ i l. h i (omega arith))) (h n (omega arith)) ∙ add-zero 𝓢 _

pub tot-rem : (p : ℕ) (pos : zero < p) (n : ℕ) (f : ℕ → ℕ) → rem p pos (sum_to n f) ≡ tot (Fp p pos) n (λ i. rem p pos (f i))
tot-rem p pos zero f = ap (rem p pos) (sum_to-zero f) ∙ rem-zero p pos ∙ sym (tot-zero (Fp p pos) _)
tot-rem p pos (suc n) f =
    ap (rem p pos) (sum_to-suc n f) ∙ sym (rem-add p pos (sum_to n f) (f n)) ∙ ap (λ x. (Fp p pos).add x (rem p pos (f n))) (tot-rem p pos n f) ∙ sym (tot-suc (Fp p pos) n _)

module _ (p N m k : ℕ) (P A T : List ℕ) (b : Bases p m k P A) (tab : Table p m k (word P) (word A) (m + k) T) (t : ℕ) (one : 1 ≤ t) (inside : t < N)
    (s s' : List ℕ) (st : Step p N m k T t s s') where
  abbrev n : ℕ
  n = m + k

  abbrev E : List ℕ
  E = tabulate (m + k) (left_at p N m k s t)

  abbrev R : List ℕ
  R = tabulate (m + k) (λ i. weight_sum T (m + k) E i % p)

  nE : length E ≡ m + k
  nE = length-tabulate (m + k) _

  nR : length R ≡ m + k
  nR = length-tabulate (m + k) _

  new : (j : ℕ) → j < m + k → word s' (j * N + t) ≡ word R j
  new j l = st.here j (omega (arith, nR))

  kept : (j : ℕ) → j < m + k → (u : ℕ) → u < N → (u ≡ t → ⊥) → word s' (j * N + u) ≡ word s (j * N + u)
  kept j l u g ne = st.others j (omega (arith, nR)) u g ne

  zero-ne : zero ≡ t → ⊥
  zero-ne e = omega arith

  two : 2 ≤ p
  two = b.two

  pos : zero < p
  pos = let z = two in omega arith

  R-below : (i : ℕ) → i < m + k → word R i < p
  R-below i l = subst (λ x. x < p) (sym (word-tabulate (m + k) (λ i. weight_sum T (m + k) E i % p) i l)) (mod-lt _ pos)

  P' : ℕ → ℕ → ℕ
  P' = low_poly m P N s'

  A' : ℕ → ℕ → ℕ
  A' = high_poly m k A N s'

  low_word : (x : List ℕ) (j u : ℕ) → rows_from 0 N x j u ≡ word x (j * N + u)
  low_word x j u = ap (λ v. word x (v * N + u)) (zero-addₙ j)

  module _ (first-low : (j : ℕ) → j < m → word s (j * N) ≡ word P j) (first-high : (j : ℕ) → j < k → word s ((m + j) * N) ≡ word A j) where
    P-first : (j : ℕ) → P' j 0 ≡ word P j
    unfolding P'
    P-first = by_place (λ j. low_poly m P N s' j 0 ≡ word P j) m
        (λ j l. capped-low m (word P m) (rows_from 0 N s') j 0 l ∙ low_word s' j 0 ∙ kept j (omega arith) 0 (omega arith) zero-ne ∙ ap (word s) (add-zeroₙ (j * N)) ∙ first-low j l)
        (capped-top m (word P m) (rows_from 0 N s') 0 ∙ omega arith)
        (λ j l. capped-above m (word P m) (rows_from 0 N s') j 0 l ∙ sym (get_or-eq_default P 0 (let e = b.P-long in omega arith)))

    A-first : (j : ℕ) → A' j 0 ≡ word A j
    unfolding A'
    A-first = by_place (λ j. high_poly m k A N s' j 0 ≡ word A j) k
        (λ j l. capped-low k (word A k) (rows_from m N s') j 0 l ∙ kept (m + j) (omega arith) 0 (omega arith) zero-ne ∙ ap (word s) (add-zeroₙ ((m + j) * N)) ∙ first-high j l)
        (capped-top k (word A k) (rows_from m N s') 0 ∙ omega arith)
        (λ j l. capped-above k (word A k) (rows_from m N s') j 0 l ∙ sym (get_or-eq_default A 0 (let e = b.A-long in omega arith)))

    P-new : (j : ℕ) → P' j t ≡ low_of m (word R) j
    unfolding P'
    P-new j =
        ⊎_elim (λ (l : j < m). capped-low m (word P m) (rows_from 0 N s') j t l ∙ low_word s' j t ∙ new j (omega arith) ∙ sym (low-at m (word R) j l))
        (λ (l : m ≤ j). capped-later m (word P m) (rows_from 0 N s') j t l one ∙ sym (low-past m (word R) j l)) (lt-or-ge j m)

    A-new : (j : ℕ) → A' j t ≡ high_of m k (word R) j
    unfolding A'
    A-new j =
        ⊎_elim (λ (l : j < k). capped-low k (word A k) (rows_from m N s') j t l ∙ new (m + j) (omega arith) ∙ sym (high-at m k (word R) j l))
        (λ (l : k ≤ j). capped-later k (word A k) (rows_from m N s') j t l one ∙ sym (high-past m k (word R) j l)) (lt-or-ge j k)

    -- between, nothing changed
    low-between : (i u : ℕ) → 1 ≤ u → u < t → rows_of (take (m * N) s) N m i u ≡ P' i u
    unfolding P'
    low-between i u lo hi =
        ⊎_elim
        (λ (l : i < m).
        rows-below (take (m * N) s) N m i u l ∙ get_or-take (m * N) s (i * N + u) 0 (let z = row_fits i m N l in omega arith)
        ∙ sym (capped-low m (word P m) (rows_from 0 N s') i u l ∙ low_word s' i u ∙ kept i (omega arith) u (omega arith) (λ e. let z : ⊥ = omega arith in z)))
        (λ (l : m ≤ i). rows-past (take (m * N) s) N m i u l ∙ sym (capped-later m (word P m) (rows_from 0 N s') i u l lo)) (lt-or-ge i m)

    high-between : (i u : ℕ) → 1 ≤ u → u < t → rows_of (drop (m * N) s) N k i u ≡ A' i u
    unfolding A'
    high-between i u lo hi =
        ⊎_elim
        (λ (l : i < k).
        rows-below (drop (m * N) s) N k i u l ∙ get_or-drop (m * N) s (i * N + u) 0 ∙ ap (word s) (let e = add-mulₙ m i N in let z : m * N + (i * N + u) ≡ (m + i) * N + u = omega arith in z)
        ∙ sym (capped-low k (word A k) (rows_from m N s') i u l ∙ kept (m + i) (omega arith) u (omega arith) (λ e. let z : ⊥ = omega arith in z)))
        (λ (l : k ≤ i). rows-past (drop (m * N) s) N k i u l ∙ sym (capped-later k (word A k) (rows_from m N s') i u l lo)) (lt-or-ge i k)

    middle : (j : ℕ) → middle_sum (rows_of (take (m * N) s) N m) (rows_of (drop (m * N) s) N k) j t ≡ pass_sum P' A' j 1 (t - 1)
    middle j = pass-ext j 1 (t - 1) (λ i u _ lo hi. low-between i u lo (omega arith)) (λ i u _ lo hi. high-between i u lo (omega arith))

    -- the sum of the solutions solves for what is left
    K : CommRing (Fin p)
    K = Fp p pos

    abbrev e : ℕ → Fin p
    e j = rem p pos (word E j)

    abbrev row : ℕ → ℕ → ℕ
    row j = λ i. word T (j * (m + k) + i)

    weight : (i : ℕ) → i < m + k → rem p pos (word R i) ≡ tot (Fp p pos) (m + k) (λ j. (Fp p pos).mul (e j) (rem p pos (row j i)))
    unfolding weight_sum
    weight i l =
        ap (rem p pos) (word-tabulate (m + k) _ i l) ∙ rem-mod p pos _
        ∙ ap (λ x. rem p pos (sum_to x (λ j. word T (j * (m + k) + i) * word E j))) nE
        ∙ tot-rem p pos (m + k) (λ j. word T (j * (m + k) + i) * word E j)
        ∙ tot-ext (Fp p pos) (m + k) (λ j _. sym (rem-mul p pos (word T (j * (m + k) + i)) (word E j)) ∙ mul_comm (Fp p pos) _ _)

    low_sum : poly p pos (low_of m (word R)) ≡ tot (Series (Fp p pos)) (m + k) (λ j. by p pos (const (Fp p pos) (e j)) (poly p pos (low_of m (row j))))
    low_sum = fun_ext (λ i. ⊎_elim
        (λ (l : i < m).
        ap (rem p pos) (low-at m (word R) i l) ∙ weight i (omega arith)
        ∙ tot-ext (Fp p pos) (m + k) (λ j _. sym (const-mul (Fp p pos) (e j) (poly p pos (low_of m (row j))) i ∙ ap (λ x. (Fp p pos).mul (e j) (rem p pos x)) (low-at m (row j) i l))))
        (λ (l : m ≤ i).
        ap (rem p pos) (low-past m (word R) i l) ∙ rem-zero p pos
        ∙ sym (tot-zeros (Fp p pos) (m + k) _ (λ j _. const-mul (Fp p pos) (e j) (poly p pos (low_of m (row j))) i ∙ ap (λ x. (Fp p pos).mul (e j) (rem p pos x)) (low-past m (row j) i l) ∙ ap ((Fp p pos).mul (e j)) (rem-zero p pos) ∙ mul-zero (Fp p pos) _)))
        (lt-or-ge i m)
        ∙ sym (tot-at (Fp p pos) (m + k) _ i))

    high_sum : poly p pos (high_of m k (word R)) ≡ tot (Series (Fp p pos)) (m + k) (λ j. by p pos (const (Fp p pos) (e j)) (poly p pos (high_of m k (row j))))
    high_sum = fun_ext (λ i. ⊎_elim
        (λ (l : i < k).
        ap (rem p pos) (high-at m k (word R) i l) ∙ weight (m + i) (omega arith)
        ∙ tot-ext (Fp p pos) (m + k) (λ j _. sym (const-mul (Fp p pos) (e j) (poly p pos (high_of m k (row j))) i ∙ ap (λ x. (Fp p pos).mul (e j) (rem p pos x)) (high-at m k (row j) i l))))
        (λ (l : k ≤ i).
        ap (rem p pos) (high-past m k (word R) i l) ∙ rem-zero p pos
        ∙ sym (tot-zeros (Fp p pos) (m + k) _ (λ j _. const-mul (Fp p pos) (e j) (poly p pos (high_of m k (row j))) i ∙ ap (λ x. (Fp p pos).mul (e j) (rem p pos x)) (high-past m k (row j) i l) ∙ ap ((Fp p pos).mul (e j)) (rem-zero p pos) ∙ mul-zero (Fp p pos) _)))
        (lt-or-ge i k)
        ∙ sym (tot-at (Fp p pos) (m + k) _ i))

    solves : (j : ℕ) → j < m + k → plus p pos (by p pos (poly p pos (word P)) (poly p pos (high_of m k (word R)))) (by p pos (poly p pos (low_of m (word R))) (poly p pos (word A))) j ≡ e j
    solves j l =
        ap₂ (λ x y. plus p pos (by p pos (poly p pos (word P)) x) (by p pos y (poly p pos (word A))) j) high_sum low_sum
        ∙ assembled (Fp p pos) (poly p pos (word P)) (poly p pos (word A)) (m + k) (λ j. poly p pos (low_of m (row j))) (λ j. poly p pos (high_of m k (row j))) e (λ i g. (tab i g).solves pos) j l

    left : (j : ℕ) → j < m + k → e j ≡ (Fp p pos).add (rem p pos (word s (j * N + t))) ((Fp p pos).neg (rem p pos (pass_sum P' A' j 1 (t - 1))))
    unfolding left_at
    left j l =
        ap (rem p pos) (word-tabulate (m + k) _ j l) ∙ rem-mod p pos _
        ∙ ap (λ x. rem p pos (word s (j * N + t) + (p - x % p))) (middle j) ∙ sub-rem p pos (word s (j * N + t)) (pass_sum P' A' j 1 (t - 1))

    column-rem : (j : ℕ) → j < m + k → rem p pos (mul p P' A' j t) ≡ rem p pos (word s (j * N + t))
    column-rem j l =
        let F = Fp p pos in
        let x = pass_sum P' A' j 1 (t - 1) in
        let y = times (λ i. P' i 0) (λ i. A' i t) j in
        let z = times (λ i. P' i t) (λ i. A' i 0) j in
        ap (rem p pos) (mul-middle p P' A' j t one) ∙ rem-mod p pos _ ∙ sym (rem-add p pos (x + y) z) ∙ ap (λ v. F.add v (rem p pos z)) (sym (rem-add p pos x y))
        ∙ add_assoc F _ _ _
        ∙ ap (F.add (rem p pos x))
        (ap₂ F.add
        (conv-rem p pos (λ i. P' i 0) (λ i. A' i t) j ∙ ap₂ (λ u v. conv F (poly p pos u) (poly p pos v) j) (fun_ext P-first) (fun_ext A-new) ∙ sym (mul_at F (poly p pos (word P)) (poly p pos (high_of m k (word R))) j))
        (conv-rem p pos (λ i. P' i t) (λ i. A' i 0) j ∙ ap₂ (λ u v. conv F (poly p pos u) (poly p pos v) j) (fun_ext P-new) (fun_ext A-first) ∙ sym (mul_at F (poly p pos (low_of m (word R))) (poly p pos (word A)) j))
        ∙ sym (add_at F _ _ j) ∙ solves j l ∙ left j l ∙ add_comm F _ _)
        ∙ sym (add_assoc F _ _ _) ∙ ap (λ v. F.add v (rem p pos (word s (j * N + t)))) (F.+-neg (rem p pos x)) ∙ zero-add F _

    pub column : AllBelow p s → length s ≡ (m + k) * N → (j : ℕ) → j < m + k → mul p (low_poly m P N s') (high_poly m k A N s') j t ≡ word s (j * N + t)
    unfolding P' A'
    column below long j l = same-rem p pos (mul-lt p _ _ j t pos) (below (j * N + t) (let z = row_fits j (m + k) N l in omega arith)) (column-rem j l)

  module _ (first : ℕ) (reached : first ≤ t) (old : List ℕ) (h : SplitTo p N m k P A first t old s) (long : length s ≡ (m + k) * N) where
    earlier : (u : ℕ) → u < t → (j : ℕ) → mul p (low_poly m P N s') (high_poly m k A N s') j u ≡ mul p (low_poly m P N s) (high_poly m k A N s) j u
    earlier u l j =
        mul-ext p _ _ _ _ j u
        (λ i v _ g. capped-ext m (word P m) (rows_from 0 N s') (rows_from 0 N s) v (λ i a. low_word s' i v ∙ kept i (omega arith) v (omega arith) (λ e. let z : ⊥ = omega arith in z) ∙ sym (low_word s i v)) i)
        (λ i v _ g. capped-ext k (word A k) (rows_from m N s') (rows_from m N s) v (λ i a. kept (m + i) (omega arith) v (omega arith) (λ e. let z : ⊥ = omega arith in z)) i)

    below : AllBelow p s'
    below x l =
        by_row (m + k) N (λ x. word s' x < p) (omega arith)
        (λ j a u g. ⊎_elim (λ (e : u ≡ t). subst (λ x. word s' (j * N + x) < p) (sym e) (subst (λ x. x < p) (sym (new j a)) (R-below j a)))
        (λ ne. subst (λ x. x < p) (sym (kept j a u g ne)) (h.below (j * N + u) (let z = row_fits j (m + k) N a in omega arith))) (same_or_not u t))
        x (let e = st.long in omega arith)

    pub split_step : SplitTo p N m k P A first (t + 1) old s'
    split_step = record {
      long = st.long ∙ h.long;
      below = below;
      first-low = λ j l. ap (word s') (sym (add-zeroₙ (j * N))) ∙ kept j (omega arith) 0 (omega arith) zero-ne ∙ ap (word s) (add-zeroₙ (j * N)) ∙ h.first-low j l;
      first-high = λ j l. ap (word s') (sym (add-zeroₙ ((m + j) * N))) ∙ kept (m + j) (omega arith) 0 (omega arith) zero-ne ∙ ap (word s) (add-zeroₙ ((m + j) * N)) ∙ h.first-high j l;
      kept = λ u lo hi j l. kept j l u (omega arith) (λ e. let z : ⊥ = omega arith in z) ∙ h.kept u lo hi j l;
      same = λ u lo hi j l. ⊎_elim
          (λ (e : u ≡ t). subst (λ x. mul p (low_poly m P N s') (high_poly m k A N s') j x ≡ word old (j * N + x)) (sym e)
          (column h.first-low h.first-high h.below long j l ∙ h.rest t (omega arith) inside j l))
          (λ (g : u < t). earlier u g j ∙ h.same u lo g j l) (eq-or-lt_of_le {n = u} {m = t} (omega arith));
      rest = λ u lo hi j l. kept j l u hi (λ e. let z : ⊥ = omega arith in z) ∙ h.rest u (omega arith) hi j l;
    }

-- what the calls of `split_column` are lent
pub combine-fits : (n : ℕ) (E T : List ℕ) → length E ≡ n → length T ≡ n * n → length E * n ≤ length T
combine-fits n E T e q = let z : length E * n ≡ n * n = ap (λ x. x * n) e in omega arith

pub store-fits : (n N : ℕ) (R s : List ℕ) → length R ≡ n → length s ≡ n * N → length R * N ≤ length s
store-fits n N R s e q = let z : length R * N ≡ n * N = ap (λ x. x * N) e in omega arith

pub step_is : (p N m k : ℕ) (T : List ℕ) (t : ℕ) (s s' E R : List ℕ) → E ≡ tabulate (m + k) (left_at p N m k s t) → R ≡ tabulate (m + k) (λ i. weight_sum T (m + k) E i % p)
    → ColumnStored N t R s s' → Step p N m k T t s s'
step_is p N m k T t s s' E R e r h =
    subst (λ x. ColumnStored N t x s s') (r ∙ ap (λ y. tabulate (m + k) (λ i. weight_sum T (m + k) y i % p)) e) h

-- the columns from h on are still to be split
pub split-none : (p N m k : ℕ) (P A : List ℕ) (h : ℕ) (s : List ℕ) → AllBelow p s → ((j : ℕ) → j < m → word s (j * N) ≡ word P j) → ((j : ℕ) → j < k → word s ((m + j) * N) ≡ word A j) → SplitTo p N m k P A h h s s
split-none p N m k P A h s b f g =
    record { long = refl; below = b; first-low = f; first-high = g; kept = λ t lo hi j l. refl; same = λ t lo hi. absurd (let z : ⊥ = omega arith in z); rest = λ t lo hi j l. refl }

pub combine-room : (n : ℕ) (f : ℕ → ℕ) (E T : List ℕ) → E ≡ tabulate n f → length T ≡ n * n → length E * n ≤ length T
combine-room n f E T e q = combine-fits n E T (ap length e ∙ length-tabulate n f) q

pub store-room : (n N : ℕ) (f : ℕ → ℕ) (R s : List ℕ) → R ≡ tabulate n f → length s ≡ n * N → length R * N ≤ length s
store-room n N f R s e q = store-fits n N R s (ap length e ∙ length-tabulate n f) q
