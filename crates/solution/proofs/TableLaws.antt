-- The table of solutions: the solution for 1 from its digits, the next from the one before, rows of the table.
-- Assumes nothing.
use mathlib.Core.Path.{◌≡◌, refl, sym, ap, ap₂, subst, fun_ext, ◌∙◌}
use mathlib.Core.Logic.{⊎_elim, ◌⊎◌, inl, inr}
use mathlib.Core.List.{List, ◌++◌}
use Prim.Native.Nat.{ℕ, zero, suc, ◌+◌, ◌-◌, ◌*◌, ◌≤◌, ◌<◌, Fin}
use native.Mathlib.Numerals.{add-one}
use native.Mathlib.Nat.{mod-lt, eq-or-lt_of_le}
use native.Mathlib.Omega.{arith}
use borrow.Author.Tests.{lt-ltb, le-ltb}
use lib.ListN.{length, take, drop, set, length-set, length-append, length-drop, get_or-append, get_or-eq_default}
use lib.Seq.{get_or-drop, get_or-take, get_or-append-add, length-take-le, drop_at, get_or-set_same, get_or-set_other}
use Rattle.algebra.specs.internal.Ring.{CommRing, add_comm, add-zero, zero-add, mul-one, mul-zero}
use Rattle.algebra.proofs.RingLaws.{neg-mul}
use Rattle.algebra.specs.internal.Series.{Series}
use Rattle.algebra.proofs.SeriesLaws.{add_at, neg-at, zero-at, one_at}
use Rattle.algebra.specs.internal.Poly.{const, lines, newton, mono, up}
use Rattle.algebra.proofs.PolyLaws.{const-mul, Below}
use Rattle.algebra.specs.internal.Fp.{Fp, rem}
use Rattle.algebra.proofs.FpLaws.{rem-add, rem-mul, rem-mod}
use Rattle.algebra.proofs.BridgeLaws.{rem-zero, rem-one, neg-rem}
use Rattle.numbers.specs.Words.{word, tabulate}
use Rattle.numbers.specs.internal.Facts.{AllBelow}
use Rattle.rows.proofs.RowsLaws.{by_row, row_fits}
use Rattle.numbers.proofs.WordsLaws.{lt-or-ge, length-tabulate, word-tabulate, from, from_is, drop-below, append-below}
use Rattle.columns.specs.internal.Column.{first_only}
use Rattle.columns.proofs.ColumnLaws.{put_from}
use Rattle.algebra.proofs.SolutionLaws.{newton-ext, newton-zeros, mono-zero, mono-suc, mono-other, up-zero, up_suc, next-solves, next_low, next-high}
use Rattle.solution.proofs.DigitsLaws.{put-kept, put-drop, put-long, copied}
use Rattle.solution.specs.internal.Table.{poly, plus, by, Expanded, Digits, low_of, high_of, Solution, Table, before_word, next_word, Lines, FirstSolution, Bases}

pub low-at : (m : ℕ) (w : ℕ → ℕ) (i : ℕ) → i < m → low_of m w i ≡ w i
low-at m w i l = rw (lt-ltb i m l)

pub low-past : (m : ℕ) (w : ℕ → ℕ) (i : ℕ) → m ≤ i → low_of m w i ≡ 0
low-past m w i l = rw (le-ltb i m l)

pub high-at : (m k : ℕ) (w : ℕ → ℕ) (i : ℕ) → i < k → high_of m k w i ≡ w (m + i)
high-at m k w i l = rw (lt-ltb i k l)

pub high-past : (m k : ℕ) (w : ℕ → ℕ) (i : ℕ) → k ≤ i → high_of m k w i ≡ 0
high-past m k w i l = rw (le-ltb i k l)

pub low-ext : (m : ℕ) (w w' : ℕ → ℕ) → ((i : ℕ) → i < m → w i ≡ w' i) → low_of m w ≡ low_of m w'
low-ext m w w' h = fun_ext (λ i. ⊎_elim (λ (l : i < m). low-at m w i l ∙ h i l ∙ sym (low-at m w' i l)) (λ (l : m ≤ i). low-past m w i l ∙ sym (low-past m w' i l)) (lt-or-ge i m))

pub high-ext : (m k : ℕ) (w w' : ℕ → ℕ) → ((i : ℕ) → i < k → w (m + i) ≡ w' (m + i)) → high_of m k w ≡ high_of m k w'
high-ext m k w w' h = fun_ext (λ i. ⊎_elim (λ (l : i < k). high-at m k w i l ∙ h i l ∙ sym (high-at m k w' i l)) (λ (l : k ≤ i). high-past m k w i l ∙ sym (high-past m k w' i l)) (lt-or-ge i k))

pub solution-ext : (p m k : ℕ) (P A : ℕ → ℕ) (j : ℕ) (w w' : ℕ → ℕ) → ((i : ℕ) → i < m + k → w i ≡ w' i) → Solution p m k P A j w → Solution p m k P A j w'
solution-ext p m k P A j w w' e h = record {
  below = λ i l. subst (λ x. x < p) (e i l) (h.below i l);
  solves = λ pos.
      ap₂ (λ x y. plus p pos (by p pos (poly p pos P) (poly p pos x)) (by p pos (poly p pos y) (poly p pos A)))
      (sym (high-ext m k w w' (λ i l. e (m + i) (omega arith)))) (sym (low-ext m w w' (λ i l. e i (omega arith))))
      ∙ h.solves pos;
}

-- 0, .., 0, 1 expanded
pub lines-words : (p : ℕ) (c s s' : List ℕ) → length s ≡ length c + 1 → ((i : ℕ) → i < length c → word s i ≡ 0) → word s (length c) ≡ 1
    → Expanded p c s s' → Lines p c s'
lines-words p c s s' n zeros one h = record {
  long = h.long ∙ n;
  below = h.below;
  is = λ pos.
      let K = Fp p pos in
      let C = poly p pos (word c) in
      let m = length c in
      let last : poly p pos (word (drop m s)) ≡ (Series K).𝟙 = fun_ext (elim [
        | zero ↦ ap (rem p pos) (get_or-drop m s 0 0 ∙ ap (word s) (let e : m + 0 ≡ m = omega arith in e) ∙ one) ∙ rem-one p pos ∙ sym (ap (λ x. x zero) (one_at K))
        | suc j ↦ ap (rem p pos) (get_or-eq_default (drop m s) 0 (let e = length-drop m s in omega arith)) ∙ rem-zero p pos ∙ sym (ap (λ x. x (suc j)) (one_at K))
      ]) in
      h.is pos
      ∙ ap₂ (plus p pos) (newton-zeros K C (poly p pos (word s)) m (λ i l. ap (rem p pos) (zeros i l) ∙ rem-zero p pos)) (ap (by p pos (lines K C m)) last ∙ mul-one (Series K) _)
      ∙ zero-add (Series K) _;
}

first-only-zero : (j : ℕ) → first_only 0 j ≡ 0
first-only-zero zero = refl
first-only-zero (suc j) = refl

-- what `product_of` expands
pub unit-words : (p : ℕ) (c s z s' : List ℕ) (v : ℕ) → length s ≡ length c + 1 → z ≡ tabulate (length s) (first_only 0) → v ≡ length z - 1 → Expanded p c (set z v 1) s' → Lines p c s'
unit-words p c s z s' v n q k h =
    let nz : length z ≡ length c + 1 = ap length q ∙ length-tabulate (length s) _ ∙ n in
    let e : v ≡ length c = omega arith in
    lines-words p c (set z v 1) s' (length-set z v 1 ∙ nz)
    (λ i l. get_or-set_other z v i 1 0 (λ x. let y : ⊥ = omega arith in y) ∙ ap (λ x. word x i) q ∙ word-tabulate (length s) _ i (omega arith) ∙ first-only-zero i)
    (ap (word (set z v 1)) (sym e) ∙ get_or-set_same z v 1 0 (omega arith)) h

pub unit-below : (p : ℕ) (s z : List ℕ) (v : ℕ) → 2 ≤ p → z ≡ tabulate (length s) (first_only 0) → v < length z → AllBelow p (set z v 1)
unit-below p s z v two q l i g =
    ⊎_elim (λ (e : i ≡ v). rw e (subst (λ x. x < p) (sym (get_or-set_same z v 1 0 l)) two))
    (λ ne. subst (λ x. x < p) (sym (get_or-set_other z v i 1 0 ne ∙ ap (λ x. word x i) q
    ∙ word-tabulate (length s) _ i (let a = ap length q ∙ length-tabulate (length s) (first_only 0) in omega (arith, length-set z v 1)) ∙ first-only-zero i)) (omega arith))
    (same_or_not i v)
  where
    same_or_not : (i v : ℕ) → (i ≡ v) ⊎ (i ≡ v → ⊥)
    same_or_not i v = ⊎_elim (λ (l : i < v). inr (λ e. omega arith)) (λ (l : v ≤ i). ⊎_elim (λ (e : v ≡ i). inl (sym e)) (λ (u : v < i). inr (λ e. omega arith)) (eq-or-lt_of_le l)) (lt-or-ge i v)

first-unit : (p : ℕ) (pos : zero < p) (n : ℕ) → 1 ≤ n → poly p pos (word (tabulate n (first_only 1))) ≡ mono (Fp p pos) 0
first-unit p pos n l = fun_ext (elim [
  | zero ↦ ap (rem p pos) (word-tabulate n _ 0 l) ∙ rem-one p pos ∙ sym (ap (λ x. x zero) (mono-zero K ∙ one_at K))
  | suc j ↦ ap (rem p pos) (later j) ∙ rem-zero p pos ∙ sym (mono-other K 0 (suc j) (λ e. let z : ⊥ = omega arith in z))
])
  where
    K : CommRing (Fin p)
    K = Fp p pos

    later : (j : ℕ) → word (tabulate n (first_only 1)) (suc j) ≡ 0
    later j =
        ⊎_elim (λ (g : suc j < n). word-tabulate n _ (suc j) g)
        (λ (g : n ≤ suc j). get_or-eq_default (tabulate n (first_only 1)) 0 {n = suc j} (omega (arith, length-tabulate n (first_only 1)))) (lt-or-ge (suc j) n)

-- the solution for 1
pub first-is : (p : ℕ) (c a : List ℕ) (k : ℕ) (z s d x : List ℕ) → 1 ≤ length s → length s ≡ length c + k → z ≡ tabulate (length s) (first_only 1)
    → Digits p c a (length c) z d → Expanded p c (take (length c) d) x → FirstSolution p c a k (x ++ drop (length c) d)
first-is p c a k z s d x some n q h g =
    let m = length c in
    let nz : length z ≡ m + k = ap length q ∙ length-tabulate (length s) _ ∙ n in
    let nd : length d ≡ m + k = h.long ∙ nz in
    let nt : length (take m d) ≡ m = length-take-le m d (omega arith) in
    let nx : length x ≡ m = g.long ∙ nt in
    let nr : length (drop m d) ≡ k = length-drop m d ∙ omega arith in
    let low : low_of m (word (x ++ drop m d)) ≡ word x = fun_ext (λ i. ⊎_elim
    (λ (l : i < m). low-at m (word (x ++ drop m d)) i l ∙ get_or-append x (drop m d) 0 i (omega arith))
    (λ (l : m ≤ i). low-past m (word (x ++ drop m d)) i l ∙ sym (get_or-eq_default x 0 (omega arith))) (lt-or-ge i m)) in
    let high : high_of m k (word (x ++ drop m d)) ≡ word (drop m d) = fun_ext (λ i. ⊎_elim
    (λ (l : i < k). high-at m k (word (x ++ drop m d)) i l ∙ ap (λ u. word (x ++ drop m d) (u + i)) (sym nx) ∙ get_or-append-add x (drop m d) i 0)
    (λ (l : k ≤ i). high-past m k (word (x ++ drop m d)) i l ∙ sym (get_or-eq_default (drop m d) 0 (omega arith))) (lt-or-ge i k)) in
    record {
      long = length-append x (drop m d) ∙ omega arith;
      below = append-below p x (drop m d) g.below (drop-below p m d h.below);
      solves = λ pos.
          let K = Fp p pos in
          let C = poly p pos (word c) in
          let X : poly p pos (word x) ≡ newton K C (poly p pos (word d)) m =
          g.is pos
          ∙ ap₂ (plus p pos) (newton-ext K C m (λ i l. ap (rem p pos) (get_or-take m d i 0 l)))
          (ap (by p pos (lines K C m)) (fun_ext (λ j. ap (rem p pos) (get_or-eq_default (drop m (take m d)) 0 (let e = length-drop m (take m d) in omega arith)) ∙ rem-zero p pos ∙ sym (zero-at K j))) ∙ mul-zero (Series K) _)
          ∙ add-zero (Series K) _ in
          ap₂ (λ u v. plus p pos (by p pos (lines K C m) (poly p pos u)) (by p pos (poly p pos v) (poly p pos (word a)))) high low
          ∙ ap (λ u. plus p pos (by p pos (lines K C m) (poly p pos (word (drop m d)))) (by p pos u (poly p pos (word a)))) X
          ∙ add_comm (Series K) _ _ ∙ sym (h.is pos) ∙ ap (λ u. poly p pos (word u)) q ∙ first-unit p pos (length s) some;
    }

pub first_below : (p n : ℕ) → 2 ≤ p → AllBelow p (tabulate n (first_only 1))
first_below p n two k l =
    let g : k < n = omega (arith, length-tabulate n (first_only 1)) in
    subst (λ x. x < p) (sym (word-tabulate n (first_only 1) k g)) (small k)
  where
    small : (k : ℕ) → first_only 1 k < p
    small zero = two
    small (suc k) = omega arith

-- with the words of the product of the lines it is a solution in the plain sense
pub first-solution : (p : ℕ) (c a P : List ℕ) (k : ℕ) (w : List ℕ) → Lines p c P → FirstSolution p c a k w → Solution p (length c) k (word P) (word a) 0 (word w)
first-solution p c a P k w h g = record {
  below = λ i l. g.below i (let n = g.long in omega arith);
  solves = λ pos. ap (λ x. plus p pos (by p pos x (poly p pos (high_of (length c) k (word w)))) (by p pos (poly p pos (low_of (length c) (word w))) (poly p pos (word a)))) (h.is pos) ∙ g.solves pos;
}

-- the next solution
module _ (p m k : ℕ) (P A row out : List ℕ) (b : Bases p m k P A) (n : length row ≡ m + k)
    (low : (i : ℕ) → i < m → word out i ≡ next_word p (p - word row (m - 1)) P (take m row) i)
    (high : (i : ℕ) → i < k → word out (m + i) ≡ next_word p (word row (m - 1)) A (drop m row) i) where
  lows : low_of m (word row) ≡ word (take m row)
  lows = fun_ext (λ i. ⊎_elim (λ (l : i < m). low-at m (word row) i l ∙ sym (get_or-take m row i 0 l))
      (λ (l : m ≤ i). low-past m (word row) i l ∙ sym (get_or-eq_default (take m row) 0 (let e = length-take-le m row (omega arith) in omega arith))) (lt-or-ge i m))

  highs : high_of m k (word row) ≡ word (drop m row)
  highs = fun_ext (λ i. ⊎_elim (λ (l : i < k). high-at m k (word row) i l ∙ sym (get_or-drop m row i 0))
      (λ (l : k ≤ i). high-past m k (word row) i l ∙ sym (get_or-eq_default (drop m row) 0 (let e = length-drop m row in omega arith))) (lt-or-ge i k))

  module _ (pos : zero < p) where
    abbrev K : CommRing (Fin p)
    K = Fp p pos

    before-rem : (e : List ℕ) (i : ℕ) → rem p pos (before_word e i) ≡ up K (poly p pos (word e)) i
    before-rem e zero = rem-zero p pos ∙ sym (up-zero K _)
    before-rem e (suc i) = sym (up_suc K (poly p pos (word e)) i)

    next-rem : (q : ℕ) (b e : List ℕ) (i : ℕ) → rem p pos (next_word p q b e i) ≡ K.add (up K (poly p pos (word e)) i) (K.mul (rem p pos q) (rem p pos (word b i)))
    unfolding next_word
    next-rem q b e i =
        rem-mod p pos _ ∙ sym (rem-add p pos (before_word e i) (q * word b i)) ∙ ap₂ K.add (before-rem e i) (sym (rem-mul p pos q (word b i)))

    q : Fin p
    q = rem p pos (word row (m - 1))

    neg-q : (x : ℕ) → x < p → rem p pos (p - x) ≡ K.neg (rem p pos x)
    neg-q x l = sym (neg-rem p pos x l)

    below-P : Below K (suc m) (poly p pos (word P))
    below-P j l = ap (rem p pos) (get_or-eq_default P 0 (let e = b.P-long in omega arith)) ∙ rem-zero p pos

    below-A : Below K (suc k) (poly p pos (word A))
    below-A j l = ap (rem p pos) (get_or-eq_default A 0 (let e = b.A-long in omega arith)) ∙ rem-zero p pos

    below-low : Below K m (poly p pos (low_of m (word row)))
    below-low j l = ap (rem p pos) (low-past m (word row) j l) ∙ rem-zero p pos

    below-high : Below K k (poly p pos (high_of m k (word row)))
    below-high j l = ap (rem p pos) (high-past m k (word row) j l) ∙ rem-zero p pos

    top-P : poly p pos (word P) m ≡ K.𝟙
    top-P = ap (rem p pos) b.P-top ∙ rem-one p pos

    q-is : q ≡ poly p pos (low_of m (word row)) (m - 1)
    unfolding q
    q-is = ap (rem p pos) (sym (low-at m (word row) (m - 1) (let e = b.low in omega arith)))

    m-suc : m ≡ suc (m - 1)
    m-suc = let e = b.low in omega arith

    module _ (lt : word row (m - 1) < p) (j : ℕ) (jl : j + 1 < m + k) (h : Solution p m k (word P) (word A) j (word row)) where
      abbrev p' : ℕ → Fin p
      p' = plus p pos (up K (poly p pos (low_of m (word row)))) ((Series K).neg (by p pos (const K q) (poly p pos (word P))))

      abbrev a' : ℕ → Fin p
      a' = plus p pos (up K (poly p pos (high_of m k (word row)))) (by p pos (const K q) (poly p pos (word A)))

      new-low : poly p pos (low_of m (word out)) ≡ p'
      unfolding q
      new-low = fun_ext (λ i. ⊎_elim
          (λ (l : i < m).
          ap (rem p pos) (low-at m (word out) i l ∙ low i l) ∙ next-rem (p - word row (m - 1)) P (take m row) i
          ∙ ap₂ (λ x y. K.add (up K (poly p pos x) i) (K.mul y (rem p pos (word P i)))) (sym lows) (neg-q (word row (m - 1)) lt)
          ∙ ap (K.add (up K (poly p pos (low_of m (word row))) i)) (neg-mul K (rem p pos (word row (m - 1))) (rem p pos (word P i)))
          ∙ sym (add_at K _ _ i ∙ ap (K.add (up K (poly p pos (low_of m (word row))) i)) (neg-at K _ i ∙ ap K.neg (const-mul K (rem p pos (word row (m - 1))) (poly p pos (word P)) i))))
          (λ (l : m ≤ i).
          ap (rem p pos) (low-past m (word out) i l) ∙ rem-zero p pos
          ∙ sym (next_low K (poly p pos (word P)) (poly p pos (word A)) m k below-P top-P below-A _ _ below-low below-high q (m - 1) m-suc q-is i l))
          (lt-or-ge i m))

      new-high : poly p pos (high_of m k (word out)) ≡ a'
      unfolding q
      new-high = fun_ext (λ i. ⊎_elim
          (λ (l : i < k).
          ap (rem p pos) (high-at m k (word out) i l ∙ high i l) ∙ next-rem (word row (m - 1)) A (drop m row) i
          ∙ ap (λ x. K.add (up K (poly p pos x) i) (K.mul (rem p pos (word row (m - 1))) (rem p pos (word A i)))) (sym highs)
          ∙ sym (add_at K _ _ i ∙ ap (K.add (up K (poly p pos (high_of m k (word row))) i)) (const-mul K (rem p pos (word row (m - 1))) (poly p pos (word A)) i)))
          (λ (l : k ≤ i).
          ap (rem p pos) (high-past m k (word out) i l) ∙ rem-zero p pos
          ∙ sym (next-high K (poly p pos (word P)) (poly p pos (word A)) m k below-P top-P below-A _ _ below-low below-high q (m - 1) m-suc q-is (mono K j) (h.solves pos)
          (ap (λ x. x (m + k)) (sym (mono-suc K j)) ∙ mono-other K (suc j) (m + k) (λ e. let z : ⊥ = omega arith in z)) i l))
          (lt-or-ge i k))

      new-solves : plus p pos (by p pos (poly p pos (word P)) (poly p pos (high_of m k (word out)))) (by p pos (poly p pos (low_of m (word out))) (poly p pos (word A))) ≡ mono K (suc j)
      new-solves =
          ap₂ (λ x y. plus p pos (by p pos (poly p pos (word P)) x) (by p pos y (poly p pos (word A)))) new-high new-low
          ∙ next-solves K (poly p pos (word P)) (poly p pos (word A)) m k below-P top-P below-A _ _ below-low below-high q (mono K j) (h.solves pos)
          ∙ sym (mono-suc K j)

  pub next-below : (i : ℕ) → i < m + k → word out i < p
  unfolding next_word
  next-below i l =
      let two = b.two in
      ⊎_elim (λ (g : i < m). subst (λ x. x < p) (sym (low i g)) (mod-lt _ (omega arith)))
      (λ (g : m ≤ i). let e : m + (i - m) ≡ i = omega arith in subst (λ x. word out x < p) e (subst (λ x. x < p) (sym (high (i - m) (omega arith))) (mod-lt _ (omega arith))))
      (lt-or-ge i m)

  pub next-solution : AllBelow p row → (j : ℕ) → j + 1 < m + k → Solution p m k (word P) (word A) j (word row) → Solution p m k (word P) (word A) (j + 1) (word out)
  next-solution ba j l h = record {
    below = next-below;
    solves = λ pos. new-solves pos (ba (m - 1) (let e = b.low in omega arith)) j l h ∙ ap (mono (Fp p pos)) (sym (add-one j));
  }

pub unit-long : (c s z : List ℕ) (v : ℕ) → length s ≡ length c + 1 → z ≡ tabulate (length s) (first_only 0) → length (set z v 1) ≡ length s
unit-long c s z v n q = length-set z v 1 ∙ ap length q ∙ length-tabulate (length s) (first_only 0)

-- the words that `next_solution` leaves
module _ (p m k : ℕ) (P A row x : List ℕ) (n : length row ≡ m + k) (ex : x ≡ tabulate (length (take m row)) (next_word p (p - word row (m - 1)) P (take m row))) where
  pub take_long : length (take m row) ≡ m
  take_long = length-take-le m row (omega arith)

  x-long : length x ≡ m
  x-long = ap length ex ∙ length-tabulate (length (take m row)) _ ∙ take_long

  pub mid-drop : from (x ++ drop m row) m ≡ drop m row
  mid-drop = from_is (x ++ drop m row) m ∙ drop_at x (drop m row) m x-long

  pub mid-length : length (from (x ++ drop m row) m) ≡ k
  mid-length = ap length mid-drop ∙ length-drop m row ∙ omega arith

  pub mid-whole : length (x ++ drop m row) ≡ m + k
  mid-whole = length-append x (drop m row) ∙ omega (arith, x-long, length-drop m row)

  pub mid-below : AllBelow p row → AllBelow p (from (x ++ drop m row) m)
  mid-below b = rw mid-drop (drop-below p m row b)

  module _ (y : List ℕ) (ey : y ≡ tabulate (length (from (x ++ drop m row) m)) (next_word p (word row (m - 1)) A (from (x ++ drop m row) m))) where
    abbrev out : List ℕ
    out = put_from m (x ++ drop m row) y

    le : m ≤ length (x ++ drop m row)
    le = omega (arith, mid-whole)

    y-long : length y ≡ k
    y-long = ap length ey ∙ length-tabulate (length (from (x ++ drop m row) m)) _ ∙ mid-length

    pub out-long : length out ≡ m + k
    out-long = put-long m (x ++ drop m row) y le (omega (arith, mid-whole, y-long)) ∙ mid-whole

    pub out-low : (i : ℕ) → i < m → word out i ≡ next_word p (p - word row (m - 1)) P (take m row) i
    out-low i l =
        put-kept m (x ++ drop m row) y le i l ∙ get_or-append x (drop m row) 0 i (omega (arith, x-long)) ∙ ap (λ s. word s i) ex
        ∙ word-tabulate (length (take m row)) _ i (omega (arith, take_long))

    pub out-high : (i : ℕ) → i < k → word out (m + i) ≡ next_word p (word row (m - 1)) A (drop m row) i
    out-high i l =
        sym (get_or-drop m out i 0) ∙ ap (λ s. word s i) (put-drop m (x ++ drop m row) y le ∙ ey) ∙ word-tabulate (length (from (x ++ drop m row) m)) _ i (omega (arith, mid-length))
        ∙ ap (λ s. next_word p (word row (m - 1)) A s i) mid-drop

-- rows of a table
module _ (p m k : ℕ) (P A : ℕ → ℕ) (j : ℕ) (T row y : List ℕ) (lj : j < m + k) (nT : length T ≡ (m + k) * (m + k)) (nr : length row ≡ m + k) where
  abbrev n' : ℕ
  n' = m + k

  abbrev T' : List ℕ
  T' = take (j * (m + k)) T ++ (y ++ drop (m + k) (drop (j * (m + k)) T))

  room : j * (m + k) + (m + k) ≤ length T
  room = let z = row_fits j (m + k) (m + k) lj in omega arith

  pub part-long : length (take (m + k) (drop (j * (m + k)) T)) ≡ m + k
  part-long = length-take-le (m + k) (drop (j * (m + k)) T) (let z = room in omega (arith, length-drop (j * (m + k)) T))

  module _ (e : y ≡ row) where
    ny : length y ≡ m + k
    ny = ap length e ∙ nr

    nt : length (take (j * (m + k)) T) ≡ j * (m + k)
    nt = length-take-le (j * (m + k)) T (let z = room in omega arith)

    pub table-long : length T' ≡ length T
    table-long =
        let z = room in
        length-append (take (j * (m + k)) T) _ ∙ omega (arith, nt, ny, length-append y (drop (m + k) (drop (j * (m + k)) T)), length-drop (m + k) (drop (j * (m + k)) T), length-drop (j * (m + k)) T)

    old-word : (x : ℕ) → x < j * (m + k) → word T' x ≡ word T x
    old-word x l = get_or-append (take (j * (m + k)) T) (y ++ drop (m + k) (drop (j * (m + k)) T)) 0 x (omega (arith, nt)) ∙ get_or-take (j * (m + k)) T x 0 l

    new_word : (x : ℕ) → x < m + k → word T' (j * (m + k) + x) ≡ word row x
    new_word x l =
        ap (λ u. word T' (u + x)) (sym nt) ∙ get_or-append-add (take (j * (m + k)) T) (y ++ drop (m + k) (drop (j * (m + k)) T)) x 0
        ∙ get_or-append y (drop (m + k) (drop (j * (m + k)) T)) 0 x (omega (arith, ny)) ∙ ap (λ s. word s x) e

    pub table_step : Table p m k P A j T → Solution p m k P A j (word row) → Table p m k P A (j + 1) T'
    table_step h g i l =
        ⊎_elim
        (λ (q : i ≡ j). solution-ext p m k P A i (word row) (λ x. word T' (i * (m + k) + x)) (λ x u. sym (ap (λ v. word T' (v * (m + k) + x)) q ∙ new_word x u)) (subst (λ v. Solution p m k P A v (word row)) (sym q) g))
        (λ (q : i < j). solution-ext p m k P A i (λ x. word T (i * (m + k) + x)) (λ x. word T' (i * (m + k) + x))
        (λ x u. sym (old-word (i * (m + k) + x) (let z = row_fits i j (m + k) q in omega arith))) (h i q))
        (eq-or-lt_of_le {n = i} {m = j} (omega arith))

-- the words of a table are below p
pub table_below : (p m k : ℕ) (P A : ℕ → ℕ) (T : List ℕ) → length T ≡ (m + k) * (m + k) → Table p m k P A (m + k) T → AllBelow p T
table_below p m k P A T n h x l = by_row (m + k) (m + k) (λ v. word T v < p) (pos_of (m + k) (omega arith)) (λ j g t u. (h j g).below t u) x (omega arith)
  where
    pos_of : (a : ℕ) → x < a * a → zero < a
    pos_of zero l = absurd (let z : ⊥ = omega arith in z)
    pos_of (suc a) l = omega arith

pub unit-room : (c s z : List ℕ) (v : ℕ) → length s ≡ length c + 1 → z ≡ tabulate (length s) (first_only 0) → length c ≤ length (set z v 1)
unit-room c s z v n q = omega (arith, unit-long c s z v n q)

pub solution-after : (p m k : ℕ) (P A row x : List ℕ) (n : length row ≡ m + k) (ex : x ≡ tabulate (length (take m row)) (next_word p (p - word row (m - 1)) P (take m row)))
    (y : List ℕ) → y ≡ tabulate (length (from (x ++ drop m row) m)) (next_word p (word row (m - 1)) A (from (x ++ drop m row) m)) → Bases p m k P A → AllBelow p row
    → record {
      long : length (put_from m (x ++ drop m row) y) ≡ m + k;
      below : AllBelow p (put_from m (x ++ drop m row) y);
      next : (j : ℕ) → j + 1 < m + k → Solution p m k (word P) (word A) j (word row) → Solution p m k (word P) (word A) (j + 1) (word (put_from m (x ++ drop m row) y));
    }
solution-after p m k P A row x n ex y ey b r =
    let z = out-long p m k P A row x n ex y ey in
    let low = out-low p m k P A row x n ex y ey in
    let high = out-high p m k P A row x n ex y ey in
    record {
      long = z;
      below = λ i l. next-below p m k P A row (put_from m (x ++ drop m row) y) b n low high i (omega arith);
      next = next-solution p m k P A row (put_from m (x ++ drop m row) y) b n low high r;
    }

-- one more row of the table, written by a call that was lent `len` words
pub table-after : (p m k : ℕ) (P A : ℕ → ℕ) (j : ℕ) (T row y : List ℕ) (len : ℕ) → j < m + k → length T ≡ (m + k) * (m + k) → length row ≡ m + k → len ≡ m + k
    → y ≡ tabulate (length (take len (drop (j * (m + k)) T))) (λ i. word row (i * 1 + 0)) → Table p m k P A j T → Solution p m k P A j (word row)
    → (length (take (j * (m + k)) T ++ (y ++ drop len (drop (j * (m + k)) T))) ≡ length T) × Table p m k P A (j + 1) (take (j * (m + k)) T ++ (y ++ drop len (drop (j * (m + k)) T)))
table-after p m k P A j T row y len l nT nr e ey h g =
    let q : y ≡ row = copied row (take len (drop (j * (m + k)) T)) y (ap (λ n. length (take n (drop (j * (m + k)) T))) e ∙ part-long p m k P A j T row y l nT nr ∙ sym nr) ey in
    subst (λ n. (length (take (j * (m + k)) T ++ (y ++ drop n (drop (j * (m + k)) T))) ≡ length T) × Table p m k P A (j + 1) (take (j * (m + k)) T ++ (y ++ drop n (drop (j * (m + k)) T)))) (sym e)
    (table-long p m k P A j T row y l nT nr q, table_step p m k P A j T row y l nT nr q h g)

pub lent-long : (n j len : ℕ) (T : List ℕ) → j < n → length T ≡ n * n → len ≡ n → length (take len (drop (j * n) T)) ≡ n
lent-long n j len T l nT e =
    ap (λ x. length (take x (drop (j * n) T))) e
    ∙ length-take-le n (drop (j * n) T) (let z = row_fits j n n l in omega (arith, length-drop (j * n) T))
