-- Factors by halving: a node of one group is its factor, and the factors of both halves of a split are those of the node.
-- Assumes nothing.
use mathlib.Core.Path.{◌≡◌, refl, sym, ap, ap₂, subst, fun_ext, ◌∙◌}
use mathlib.Core.Logic.{⊎_elim, ◌⊎◌, inl, inr}
use mathlib.Core.List.{List, ◌++◌}
use Prim.Native.Nat.{ℕ, zero, suc, ◌+◌, ◌-◌, ◌*◌, ◌≤◌, ◌<◌, Fin}
use native.Mathlib.Nat.{add-zero as add-zeroₙ, zero-add as zero-addₙ, add-mul as add-mulₙ, add_assoc as add-assocₙ}
use native.Mathlib.Omega.{arith}
use lib.ListN.{length, take, drop, length-drop, length-append, get_or-append}
use lib.Seq.{get_or-drop, get_or-take, length-take-le, drop_at}
use Rattle.algebra.specs.Sums.{sum_to}
use Rattle.algebra.proofs.SumsLaws.{sum_to-zero, sum_to-suc, sum_to-ext, sum_to-append, sum_to-mono, sum_to-count}
use Rattle.algebra.specs.internal.Ring.{CommRing, prod, mul-one}
use Rattle.algebra.proofs.RingLaws.{prod-zero, prod-suc, prod-append}
use Rattle.algebra.specs.internal.Series.{Series}
use Rattle.algebra.proofs.SeriesLaws.{mul-agree, prod-agree, mul-at-zero}
use Rattle.algebra.specs.internal.Poly.{Columns, lines}
use Rattle.algebra.proofs.Chain.{Monic, monic-mul}
use Rattle.algebra.specs.internal.Fp.{Fp, rem, col}
use Rattle.algebra.proofs.FpLaws.{p-pos}
use Rattle.algebra.proofs.BridgeLaws.{same-rem, rem-zero, rem-one}
use Rattle.numbers.specs.Words.{word}
use Rattle.numbers.specs.internal.Facts.{AllBelow}
use Rattle.numbers.proofs.WordsLaws.{lt-or-ge, from, from_is, drop-below, take_below}
use Rattle.rows.specs.Rows.{line_power, unit, monic}
use Rattle.rows.proofs.RowsLaws.{line-lt, row_fits}
use Rattle.rows.proofs.MulLaws.{mul-rem, mul-ext}
use Rattle.rows.proofs.MonicLaws.{monic-low, monic-top, monic-above, monic-ext, by_place}
use Rattle.columns.proofs.ColumnLaws.{put_from}
use Rattle.hensel.proofs.FactorsLaws.{monic-rem}
use Rattle.algebra.proofs.SolutionLaws.{lines-ext, lines-append, lines_same, lines-below, lines-top}
use Rattle.rows.proofs.ShiftLaws.{root-power}
use Rattle.solution.specs.internal.Table.{poly, capped, rows_from, Split}
use Rattle.split.specs.internal.Found.{Roots, NodeReady, factor_at, Factored}
use Rattle.solution.proofs.DigitsLaws.{put-kept, put-drop, put-long}
use Rattle.solution.proofs.StepLaws.{capped-low, capped-top, capped-above}

capped-monic : (d : ℕ) (a : ℕ → ℕ → ℕ) (t j : ℕ) → capped d 1 a j t ≡ monic d a j t
capped-monic d a t = by_place (λ j. capped d 1 a j t ≡ monic d a j t) d (λ j l. capped-low d 1 a j t l ∙ sym (monic-low d a j t l))
    (capped-top d 1 a t ∙ (let e : 1 * unit t ≡ unit t = omega arith in e) ∙ sym (monic-top d a t)) (λ j l. capped-above d 1 a j t l ∙ sym (monic-above d a j t l))

row_zero : (N j t : ℕ) (s : List ℕ) → rows_from 0 N s j t ≡ word s (j * N + t)
row_zero N j t s = ap (λ v. word s (v * N + t)) (zero-addₙ j)

-- a node of one group is its factor
pub leaf : (p N w : ℕ) (powers c s : List ℕ) → length powers < 2 → NodeReady p N w powers c s → Factored p N w powers c s s
leaf p N w powers c s one h =
    let r1 : length powers ≡ 1 = let z = h.some in omega arith in
    let s0 : sum_to 0 (word powers) ≡ 0 = sum_to-zero (word powers) in
    let d : length c ≡ word powers 0 = sym h.roots.sum ∙ ap (λ n. sum_to n (word powers)) r1 ∙ sum_to-suc 0 (word powers) ∙ omega (arith, s0) in
    record {
      long = refl;
      below = h.below;
      first = λ i l j g.
          let i0 : i ≡ 0 = omega arith in
          let si : sum_to i (word powers) ≡ 0 = ap (λ n. sum_to n (word powers)) i0 ∙ s0 in
          let g'' : j < length c = let e = ap (word powers) i0 in omega arith in
          ap (λ v. word s ((v + j) * N)) si ∙ ap (λ v. word s (v * N)) (zero-addₙ j)
          ∙ at_leaf d j g''
          ∙ ap₂ (λ u v. line_power p (p - word c u) v j) (sym si) (d ∙ ap (word powers) (sym i0));
      same = λ pos t l.
          ap (λ n. prod (Columns (Fp p pos)) n (λ i. col p pos (factor_at powers N s i)) t) r1
          ∙ ap (λ x. x t) (prod-suc (Columns (Fp p pos)) 0 (λ i. col p pos (factor_at powers N s i)) ∙ ap ((Columns (Fp p pos)).mul (col p pos (factor_at powers N s 0))) (prod-zero (Columns (Fp p pos)) _) ∙ mul-one (Columns (Fp p pos)) _)
          ∙ ap₂ (λ u v. col p pos (monic u (rows_from v N s)) t) (sym d) s0;
      rest = λ j l t lo hi. refl;
    }
  where
    at_leaf : length c ≡ word powers 0 → (j : ℕ) → j < length c → word s (j * N) ≡ line_power p (p - word c 0) (length c) j
    at_leaf d j l =
        let pos = p-pos h.prime in
        let wide : 1 ≤ N = let a = h.terms-low in let b = h.terms-high in omega arith in
        let c0 : word c 0 < p = h.c-below 0 (omega arith) in
        same-rem p pos (h.below (j * N) (let z = row_fits j (length c) N l in let e = h.long in omega arith)) (line-lt p (p - word c 0) (length c) j h.prime.two-le)
        (h.first pos j l
        ∙ ap (λ f. f j) (lines-ext (Fp p pos) (length c) {c = poly p pos (word c)} {d = λ _. rem p pos (word c 0)} (λ i g. ap (rem p pos) (same-root i (omega arith)))
        ∙ lines_same (Fp p pos) (rem p pos (word c 0)) (length c) ∙ sym (root-power p pos (word c 0) c0 (length c))))
      where
        same-root : (i : ℕ) → i < word powers 0 → word c i ≡ word c 0
        same-root i g =
            let s0 : sum_to 0 (word powers) ≡ 0 = sum_to-zero (word powers) in
            ap (word c) (sym (ap (λ v. v + i) s0 ∙ zero-addₙ i)) ∙ h.roots.same 0 h.some i g ∙ ap (word c) s0

-- the halves
module _ (p N w : ℕ) (powers c s s1 : List ℕ) (h : NodeReady p N w powers c s) (mid : ℕ) (lo : 1 ≤ mid) (hi : mid < length powers) (m : ℕ) (em : m ≡ sum_to mid (word powers)) where
  abbrev k : ℕ
  k = length c - m

  abbrev S : ℕ → ℕ
  S i = sum_to i (word powers)

  r-sum : mid + (length powers - mid) ≡ length powers
  r-sum = omega arith

  pub S-mono : (i j : ℕ) → i ≤ j → S i ≤ S j
  S-mono i j l = sum_to-mono i j (word powers) l

  S-in : (i : ℕ) → i < length powers → S i + word powers i ≤ length c
  S-in i l = let z = sum_to-suc i (word powers) in let y = S-mono (suc i) (length powers) l in let e = h.roots.sum in omega arith

  pub m-low : 1 ≤ m
  m-low = let z = sum_to-suc 0 (word powers) in let z0 = sum_to-zero (word powers) in let y = S-mono 1 mid lo in let x = h.roots.some 0 (omega arith) in omega arith

  pub m-high : m < length c
  m-high = let z = S-in mid hi in let x = h.roots.some mid hi in omega arith

  pub node-apart : (i j : ℕ) → i < m → m ≤ j → j < length c → word c i < word c j
  node-apart i j a b g = h.roots.apart mid i j (omega arith) (omega arith) g

  nl : length (take mid powers) ≡ mid
  nl = length-take-le mid powers (omega arith)

  nr : length (drop mid powers) ≡ length powers - mid
  nr = length-drop mid powers

  cl : length (take m c) ≡ m
  cl = length-take-le m c (let z = m-high in omega arith)

  cr : length (drop m c) ≡ k
  cr = length-drop m c

  S-left : (i : ℕ) → i ≤ mid → sum_to i (word (take mid powers)) ≡ S i
  S-left i l = sum_to-ext i (λ j g. get_or-take mid powers j 0 (omega arith))

  S-right : (i : ℕ) → m + sum_to i (word (drop mid powers)) ≡ S (mid + i)
  S-right i = ap₂ ◌+◌ em (sum_to-ext i (λ j g. get_or-drop mid powers j 0)) ∙ sym (sum_to-append mid i (word powers))

  pub roots-left : Roots (take mid powers) (take m c)
  roots-left = record {
    sum = ap (λ n. sum_to n (word (take mid powers))) nl ∙ S-left mid (omega arith) ∙ sym em ∙ sym cl;
    some = λ i l. subst (λ x. 1 ≤ x) (sym (get_or-take mid powers i 0 (omega (arith, nl)))) (h.roots.some i (omega (arith, nl)));
    same = λ i l x g.
        let i' : i < mid = omega (arith, nl) in
        let pw : word (take mid powers) i ≡ word powers i = get_or-take mid powers i 0 i' in
        let z = sum_to-suc i (word powers) in let y = S-mono (suc i) mid i' in
        let si = S-left i (omega arith) in
        get_or-take m c (sum_to i (word (take mid powers)) + x) 0 (omega arith) ∙ ap (λ v. word c (v + x)) si ∙ h.roots.same i (omega arith) x (omega arith)
        ∙ ap (word c) (sym si) ∙ sym (get_or-take m c (sum_to i (word (take mid powers))) 0 (omega arith));
    apart = λ i a b ga gb l.
        ⊎_elim (λ (u : i ≤ mid).
        let si = S-left i u in
        subst (λ v. v < word (take m c) b) (sym (get_or-take m c a 0 (omega (arith, cl)))) (subst (λ v. word c a < v) (sym (get_or-take m c b 0 (omega (arith, cl))))
        (h.roots.apart i a b (omega arith) (omega arith) (let z = m-high in omega (arith, cl)))))
        (λ (u : mid < i). absurd (let z = sum_to-mono mid i (word (take mid powers)) (omega arith) in let y = S-left mid (omega arith) in let x : ⊥ = omega (arith, cl) in x))
        (le-or-gt i mid);
  }
    where
      le-or-gt : (a b : ℕ) → (a ≤ b) ⊎ (b < a)
      le-or-gt a b = ⊎_elim (λ (l : b < a). inr l) (λ (l : a ≤ b). inl l) (lt-or-ge b a)

  pub roots-right : Roots (drop mid powers) (drop m c)
  roots-right = record {
    sum =
        let e : m + sum_to (length (drop mid powers)) (word (drop mid powers)) ≡ length c = S-right (length (drop mid powers)) ∙ ap S (ap (λ n. mid + n) nr ∙ r-sum) ∙ h.roots.sum in
        omega (arith, cr);
    some = λ i l. subst (λ x. 1 ≤ x) (sym (get_or-drop mid powers i 0)) (h.roots.some (mid + i) (omega (arith, nr)));
    same = λ i l x g.
        let pw : word (drop mid powers) i ≡ word powers (mid + i) = get_or-drop mid powers i 0 in
        let si = S-right i in
        get_or-drop m c (sum_to i (word (drop mid powers)) + x) 0 ∙ ap (word c) (let e : m + (sum_to i (word (drop mid powers)) + x) ≡ S (mid + i) + x = omega arith in e)
        ∙ h.roots.same (mid + i) (omega (arith, nr)) x (omega arith)
        ∙ sym (get_or-drop m c (sum_to i (word (drop mid powers))) 0 ∙ ap (word c) si);
    apart = λ i a b ga gb l.
        let si = S-right i in
        subst (λ v. v < word (drop m c) b) (sym (get_or-drop m c a 0)) (subst (λ v. word c (m + a) < v) (sym (get_or-drop m c b 0))
        (h.roots.apart (mid + i) (m + a) (m + b) (omega arith) (omega arith) (omega (arith, cr))));
  }

  module _ (sp : Split p N w m c s s1) where
    P : List ℕ
    P = sp.P

    A : List ℕ
    A = sp.A

    wide : 1 ≤ N
    wide = let a = h.terms-low in let b = h.terms-high in omega arith

    whole : (m + k) * N ≡ length c * N
    whole = ap (λ x. x * N) (let z = m-high in let e : m + k ≡ length c = omega arith in e)

    parts : (m + k) * N ≡ m * N + k * N
    parts = add-mulₙ m k N

    n1 : length s1 ≡ length c * N
    n1 = sp.done.long ∙ h.long

    pub seam-ok : m * N ≤ length s1
    seam-ok = let z = m-high in omega (arith, parts, whole, n1)

    nt : length (take (m * N) s1) ≡ m * N
    nt = length-take-le (m * N) s1 seam-ok

    nd : length (drop (m * N) s1) ≡ k * N
    nd = length-drop (m * N) s1 ∙ omega (arith, parts, whole, n1)

    low-cell : (j t : ℕ) → j < m → t < N → word (take (m * N) s1) (j * N + t) ≡ word s1 (j * N + t)
    low-cell j t l g = get_or-take (m * N) s1 (j * N + t) 0 (let z = row_fits j m N l in omega arith)

    high-cell : (j t : ℕ) → word (drop (m * N) s1) (j * N + t) ≡ word s1 ((m + j) * N + t)
    high-cell j t = get_or-drop (m * N) s1 (j * N + t) 0 ∙ ap (word s1) (let e = add-mulₙ m j N in let z : m * N + (j * N + t) ≡ (m + j) * N + t = omega arith in z)

    pub ready-left : NodeReady p N w (take mid powers) (take m c) (take (m * N) s1)
    ready-left = record {
      prime = h.prime;
      small = h.small;
      width = h.width;
      terms-low = h.terms-low;
      terms-high = h.terms-high;
      some = omega (arith, nl);
      roots = roots-left;
      room = let z = m-high in let y = h.room in omega (arith, cl);
      c-below = take_below p m c (let z = m-high in omega arith) h.c-below;
      long = nt ∙ ap (λ x. x * N) (sym cl);
      below = take_below p (m * N) s1 seam-ok sp.done.below;
      first = λ pos j l.
          let l' : j < m = omega (arith, cl) in
          ap (rem p pos) (get_or-take (m * N) s1 (j * N) 0 (let z = row_fits j m N l' in omega arith) ∙ sp.done.first-low j l') ∙ ap (λ f. f j) (sp.lines-low.is pos);
    }

    pub ready-right : NodeReady p N w (drop mid powers) (drop m c) (drop (m * N) s1)
    ready-right = record {
      prime = h.prime;
      small = h.small;
      width = h.width;
      terms-low = h.terms-low;
      terms-high = h.terms-high;
      some = omega (arith, nr);
      roots = roots-right;
      room = let y = h.room in omega (arith, cr);
      c-below = drop-below p m c h.c-below;
      long = nd ∙ ap (λ x. x * N) (sym cr);
      below = drop-below p (m * N) s1 sp.done.below;
      first = λ pos j l.
          let l' : j < k = omega (arith, cr) in
          ap (rem p pos) (get_or-drop (m * N) s1 (j * N) 0 ∙ ap (word s1) (sym (add-mulₙ m j N)) ∙ sp.done.first-high j l') ∙ ap (λ f. f j) (sp.lines-high.is pos);
    }

    -- the factors of both halves
    module _ (x y new : List ℕ) (fx : Factored p N w (take mid powers) (take m c) (take (m * N) s1) x) (fy : Factored p N w (drop mid powers) (drop m c) (drop (m * N) s1) y)
        (nn : length new ≡ length s1) (new-low : (z : ℕ) → z < m * N → word new z ≡ word x z) (new-high : (z : ℕ) → word new (m * N + z) ≡ word y z) where
      low-row : (j t : ℕ) → j < m → t < N → word new (j * N + t) ≡ word x (j * N + t)
      low-row j t l g = new-low (j * N + t) (let z = row_fits j m N l in omega arith)

      high-row : (j t : ℕ) → word new ((m + j) * N + t) ≡ word y (j * N + t)
      high-row j t = ap (word new) (let e = add-mulₙ m j N in let z : (m + j) * N + t ≡ m * N + (j * N + t) = omega arith in z) ∙ new-high (j * N + t)

      -- rows of a factor of either half
      low-factor : (i : ℕ) → i < mid → (j t : ℕ) → t < N → factor_at powers N new i j t ≡ factor_at (take mid powers) N x i j t
      low-factor i l j t g =
          let z = sum_to-suc i (word powers) in let q = S-mono (suc i) mid l in
          monic-ext (word powers i) (rows_from (S i) N new) (rows_from (S i) N x) t (λ j u. low-row (S i + j) t (omega arith) g) j
          ∙ ap₂ (λ a b. monic a (rows_from b N x) j t) (sym (get_or-take mid powers i 0 l)) (sym (S-left i (omega arith)))

      high-factor : (i : ℕ) (j t : ℕ) → factor_at powers N new (mid + i) j t ≡ factor_at (drop mid powers) N y i j t
      high-factor i j t =
          let q = S-right i in
          monic-ext (word powers (mid + i)) (rows_from (S (mid + i)) N new) (rows_from (sum_to i (word (drop mid powers))) N y) t
          (λ j u. ap (λ v. word new (v * N + t)) (let e : S (mid + i) + j ≡ m + (sum_to i (word (drop mid powers)) + j) = omega arith in e) ∙ high-row (sum_to i (word (drop mid powers)) + j) t) j
          ∙ ap (λ a. monic a (rows_from (sum_to i (word (drop mid powers))) N y) j t) (sym (get_or-drop mid powers i 0))

      L : ℕ → ℕ → ℕ
      L = monic m (rows_from 0 N s1)

      H : ℕ → ℕ → ℕ
      H = monic k (rows_from m N s1)

      module _ (pos : zero < p) where
        abbrev K : CommRing (Fin p)
        K = Fp p pos

        abbrev F : ℕ → ℕ → ℕ → Fin p
        F i = col p pos (factor_at powers N new i)

        left-product : (t : ℕ) → t < w → prod (Columns K) mid F t ≡ col p pos L t
        unfolding L
        left-product t l =
            let top = h.terms-high in
            prod-agree (Series K) mid w {F = F} {F' = λ i. col p pos (factor_at (take mid powers) N x i)} (λ i g u v. fun_ext (λ j. ap (rem p pos) (low-factor i g j u (omega arith)))) t l
            ∙ ap (λ n. prod (Columns K) n (λ i. col p pos (factor_at (take mid powers) N x i)) t) (sym nl)
            ∙ fx.same pos t l
            ∙ fun_ext (λ j. ap (rem p pos) (ap (λ d. monic d (rows_from 0 N (take (m * N) s1)) j t) cl
            ∙ monic-ext m (rows_from 0 N (take (m * N) s1)) (rows_from 0 N s1) t (λ j g. row_zero N j t (take (m * N) s1) ∙ low-cell j t g (omega arith) ∙ sym (row_zero N j t s1)) j))

        right-product : (t : ℕ) → t < w → prod (Columns K) (length powers - mid) (λ i. F (mid + i)) t ≡ col p pos H t
        unfolding H
        right-product t l =
            prod-agree (Series K) (length powers - mid) w {F = λ i. F (mid + i)} {F' = λ i. col p pos (factor_at (drop mid powers) N y i)} (λ i g u v. fun_ext (λ j. ap (rem p pos) (high-factor i j u))) t l
            ∙ ap (λ n. prod (Columns K) n (λ i. col p pos (factor_at (drop mid powers) N y i)) t) (sym nr)
            ∙ fy.same pos t l
            ∙ fun_ext (λ j. ap (rem p pos) (ap (λ d. monic d (rows_from 0 N (drop (m * N) s1)) j t) cr
            ∙ monic-ext k (rows_from 0 N (drop (m * N) s1)) (rows_from m N s1) t (λ j g. row_zero N j t (drop (m * N) s1) ∙ high-cell j t) j))

        P-top : word sp.P m ≡ 1
        P-top =
            same-rem p pos (sp.lines-low.below m (let e = sp.lines-low.long in omega (arith, cl))) h.prime.two-le
            (ap (λ f. f m) (sp.lines-low.is pos) ∙ ap (λ n. lines K (poly p pos (word (take m c))) n m) cl ∙ lines-top K (poly p pos (word (take m c))) m ∙ sym (rem-one p pos))

        A-top : word sp.A k ≡ 1
        A-top =
            same-rem p pos (sp.lines-high.below k (let e = sp.lines-high.long in omega (arith, cr))) h.prime.two-le
            (ap (λ f. f k) (sp.lines-high.is pos) ∙ ap (λ n. lines K (poly p pos (word (drop m c))) n k) cr ∙ lines-top K (poly p pos (word (drop m c))) k ∙ sym (rem-one p pos))

        m-k : m + k ≡ length c
        m-k = let z = m-high in omega arith

        -- a polynomial that is the product of lines, in its words below the top
        lines-column : (d : ℕ) (c' : ℕ → Fin p) (a : ℕ → ℕ → ℕ) → ((j : ℕ) → j < d → rem p pos (a j 0) ≡ lines K c' d j) → col p pos (monic d a) 0 ≡ lines K c' d
        lines-column d c' a e = fun_ext (by_place (λ j. col p pos (monic d a) 0 j ≡ lines K c' d j) d
            (λ j l. ap (rem p pos) (monic-low d a j 0 l) ∙ e j l)
            (ap (rem p pos) (monic-top d a 0) ∙ rem-one p pos ∙ sym (lines-top K c' d))
            (λ j l. ap (rem p pos) (monic-above d a j 0 l) ∙ rem-zero p pos ∙ sym (lines-below K c' d j l)))

        L-first : col p pos L 0 ≡ lines K (poly p pos (word c)) m
        unfolding L
        L-first =
            lines-column m (poly p pos (word (take m c))) (rows_from 0 N s1) (λ j l.
            ap (rem p pos) (row_zero N j 0 s1 ∙ ap (word s1) (add-zeroₙ (j * N)) ∙ sp.done.first-low j l) ∙ ap (λ f. f j) (sp.lines-low.is pos) ∙ ap (λ n. lines K (poly p pos (word (take m c))) n j) cl)
            ∙ lines-ext K m (λ i l. ap (rem p pos) (get_or-take m c i 0 l))

        H-first : col p pos H 0 ≡ lines K (λ i. poly p pos (word c) (m + i)) k
        unfolding H
        H-first =
            lines-column k (poly p pos (word (drop m c))) (rows_from m N s1) (λ j l.
            ap (rem p pos) (ap (word s1) (add-zeroₙ ((m + j) * N)) ∙ sp.done.first-high j l) ∙ ap (λ f. f j) (sp.lines-high.is pos) ∙ ap (λ n. lines K (poly p pos (word (drop m c))) n j) cr)
            ∙ lines-ext K k (λ i l. ap (rem p pos) (get_or-drop m c i 0))

        f-first : col p pos (monic (length c) (rows_from 0 N s)) 0 ≡ lines K (poly p pos (word c)) (length c)
        f-first = lines-column (length c) (poly p pos (word c)) (rows_from 0 N s) (λ j l. ap (rem p pos) (row_zero N j 0 s ∙ ap (word s) (add-zeroₙ (j * N))) ∙ h.first pos j l)

        product-monic : Monic K (m + k) ((Columns K).mul (col p pos L) (col p pos H))
        unfolding L H
        product-monic = monic-mul K m k _ _ (monic-rem p pos m (rows_from 0 N s1)) (monic-rem p pos k (rows_from m N s1))

        later : (t : ℕ) → suc t < w → (j : ℕ) → (Columns K).mul (col p pos L) (col p pos H) (suc t) j ≡ rem p pos (monic (length c) (rows_from 0 N s) j (suc t))
        unfolding L H
        later t l = by_place (λ j. (Columns K).mul (col p pos L) (col p pos H) (suc t) j ≡ rem p pos (monic (length c) (rows_from 0 N s) j (suc t))) (length c)
            (λ j g.
            ap (λ f. f (suc t) j) (sym (mul-rem p pos (monic m (rows_from 0 N s1)) (monic k (rows_from m N s1))))
            ∙ ap (rem p pos)
            (mul-ext p _ _ _ _ j (suc t) (λ i v _ _. sym (ap (λ a. capped m a (rows_from 0 N s1) i v) P-top ∙ capped-monic m (rows_from 0 N s1) v i)) (λ i v _ _. sym (ap (λ a. capped k a (rows_from m N s1) i v) A-top ∙ capped-monic k (rows_from m N s1) v i))
            ∙ sp.done.same (suc t) (omega arith) l j (let e = m-k in omega arith) ∙ sym (monic-low (length c) (rows_from 0 N s) j (suc t) g ∙ row_zero N j (suc t) s)))
            (ap ((Columns K).mul (col p pos L) (col p pos H) (suc t)) (sym m-k) ∙ product-monic.rest t ∙ sym (rem-zero p pos) ∙ ap (rem p pos) (sym (monic-top (length c) (rows_from 0 N s) (suc t))))
            (λ j g. product-monic.bound (suc t) j (let e = m-k in omega arith) ∙ sym (rem-zero p pos) ∙ ap (rem p pos) (sym (monic-above (length c) (rows_from 0 N s) j (suc t) g)))

        product-column : (t : ℕ) → t < w → (Columns K).mul (col p pos L) (col p pos H) t ≡ col p pos (monic (length c) (rows_from 0 N s)) t
        product-column zero l =
            mul-at-zero (Series K) (col p pos L) (col p pos H) ∙ ap₂ (Series K).mul L-first H-first ∙ sym (lines-append K m k (poly p pos (word c))) ∙ ap (lines K (poly p pos (word c))) m-k ∙ sym f-first
        product-column (suc t) l = fun_ext (later t l)

        same-all : (t : ℕ) → t < w → prod (Columns K) (length powers) F t ≡ col p pos (monic (length c) (rows_from 0 N s)) t
        same-all t l =
            ap (λ n. prod (Columns K) n F t) (sym r-sum) ∙ ap (λ f. f t) (prod-append (Columns K) mid (length powers - mid) F)
            ∙ mul-agree (Series K) w left-product right-product t l ∙ product-column t l

      below_new : AllBelow p new
      below_new z l =
          ⊎_elim (λ (g : z < m * N). subst (λ v. v < p) (sym (new-low z g)) (fx.below z (omega (arith, fx.long, nt))))
          (λ (g : m * N ≤ z). let e : m * N + (z - m * N) ≡ z = omega arith in
          subst (λ v. word new v < p) e (subst (λ v. v < p) (sym (new-high (z - m * N))) (fy.below (z - m * N) (omega (arith, fy.long, nd, nn, n1, parts, whole))))) (lt-or-ge z (m * N))

      first-all : (i : ℕ) → i < length powers → (j : ℕ) → j < word powers i → word new ((S i + j) * N) ≡ line_power p (p - word c (S i)) (word powers i) j
      first-all i l j g =
          ⊎_elim
          (λ (u : i < mid).
          let pw : word (take mid powers) i ≡ word powers i = get_or-take mid powers i 0 u in
          let si = S-left i (omega arith) in
          let z = sum_to-suc i (word powers) in let q = S-mono (suc i) mid u in
          let cell : (S i + j) * N < m * N = let y = row_fits (S i + j) m N (omega arith) in let w1 = wide in omega arith in
          new-low ((S i + j) * N) cell ∙ ap (λ v. word x ((v + j) * N)) (sym si) ∙ fx.first i (omega (arith, nl)) j (omega arith)
          ∙ ap₂ (λ a b. line_power p (p - a) b j) (ap (word (take m c)) si ∙ get_or-take m c (S i) 0 (omega arith)) pw)
          (λ (u : mid ≤ i).
          let e : mid + (i - mid) ≡ i = omega arith in
          let pw : word (drop mid powers) (i - mid) ≡ word powers i = get_or-drop mid powers (i - mid) 0 ∙ ap (word powers) e in
          let si : m + sum_to (i - mid) (word (drop mid powers)) ≡ S i = S-right (i - mid) ∙ ap S e in
          ap (λ v. word new ((v + j) * N)) (sym si) ∙ ap (word new) (let d = add-mulₙ m (sum_to (i - mid) (word (drop mid powers)) + j) N in
          ap (λ v. v * N) (add-assocₙ m (sum_to (i - mid) (word (drop mid powers))) j) ∙ d)
          ∙ new-high ((sum_to (i - mid) (word (drop mid powers)) + j) * N) ∙ fy.first (i - mid) (omega (arith, nr)) j (omega arith)
          ∙ ap₂ (λ a b. line_power p (p - a) b j) (get_or-drop m c (sum_to (i - mid) (word (drop mid powers))) 0 ∙ ap (word c) si) pw)
          (lt-or-ge i mid)

      rest_all : (j : ℕ) → j < length c → (t : ℕ) → w ≤ t → t < N → word new (j * N + t) ≡ word s (j * N + t)
      rest_all j l t lo' hi' =
          ⊎_elim
          (λ (u : j < m). low-row j t u hi' ∙ fx.rest j (omega (arith, cl)) t lo' hi' ∙ low-cell j t u hi' ∙ sp.done.rest t lo' hi' j (omega arith))
          (λ (u : m ≤ j).
          let e : m + (j - m) ≡ j = omega arith in
          subst (λ v. word new (v * N + t) ≡ word s (v * N + t)) e
          (high-row (j - m) t ∙ fy.rest (j - m) (omega (arith, cr)) t lo' hi' ∙ high-cell (j - m) t ∙ sp.done.rest t lo' hi' (m + (j - m)) (omega arith)))
          (lt-or-ge j m)

      pub halves : Factored p N w powers c s new
      halves = record { long = nn ∙ sp.done.long; below = below_new; first = first-all; same = same-all; rest = rest_all }

    -- what the two calls leave
    pub halved : (x y : List ℕ) → Factored p N w (take mid powers) (take m c) (take (m * N) s1) x
        → Factored p N w (from powers mid) (from c m) (from (x ++ drop (m * N) s1) (m * N)) y → Factored p N w powers c s (put_from (m * N) (x ++ drop (m * N) s1) y)
    halved x y fx fy' =
        let nx : length x ≡ m * N = fx.long ∙ nt in
        let d : from (x ++ drop (m * N) s1) (m * N) ≡ drop (m * N) s1 = from_is (x ++ drop (m * N) s1) (m * N) ∙ drop_at x (drop (m * N) s1) (m * N) nx in
        let fy : Factored p N w (drop mid powers) (drop m c) (drop (m * N) s1) y =
        subst (λ a. Factored p N w a (drop m c) (drop (m * N) s1) y) (from_is powers mid) (subst (λ a. Factored p N w (from powers mid) a (drop (m * N) s1) y) (from_is c m) (subst (λ a. Factored p N w (from powers mid) (from c m) a y) d fy')) in
        let v = x ++ drop (m * N) s1 in
        let nv : length v ≡ length s1 = length-append x (drop (m * N) s1) ∙ omega (arith, nx, nd, n1, parts, whole) in
        let le : m * N ≤ length v = omega (arith, nv, seam-ok) in
        halves x y (put_from (m * N) v y) fx fy
        (put-long (m * N) v y le (fy.long ∙ omega (arith, nd, nv, n1, parts, whole)) ∙ nv)
        (λ z l. put-kept (m * N) v y le z l ∙ get_or-append x (drop (m * N) s1) 0 z (omega arith))
        (λ z. sym (get_or-drop (m * N) (put_from (m * N) v y) z 0) ∙ ap (λ a. word a z) (put-drop (m * N) v y le))

    pub ready-right-lent : (x : List ℕ) → length x ≡ m * N → NodeReady p N w (from powers mid) (from c m) (from (x ++ drop (m * N) s1) (m * N))
    ready-right-lent x nx =
        subst (λ a. NodeReady p N w a (from c m) (from (x ++ drop (m * N) s1) (m * N))) (sym (from_is powers mid))
        (subst (λ a. NodeReady p N w (drop mid powers) a (from (x ++ drop (m * N) s1) (m * N))) (sym (from_is c m))
        (subst (λ a. NodeReady p N w (drop mid powers) (drop m c) a) (sym (from_is (x ++ drop (m * N) s1) (m * N) ∙ drop_at x (drop (m * N) s1) (m * N) nx)) ready-right))

    pub left-size : length (take (m * N) s1) ≡ m * N
    left-size = nt

-- how many groups there are, and how large their powers
pub count_room : (powers c : List ℕ) → Roots powers c → length powers ≤ length c
count_room powers c h = let z = sum_to-count (length powers) (word powers) h.some in let e = h.sum in omega arith

pub power-room : (powers c : List ℕ) → Roots powers c → (i : ℕ) → i < length powers → word powers i ≤ length c
power-room powers c h i l = let z = sum_to-suc i (word powers) in let y = sum_to-mono (suc i) (length powers) (word powers) l in let e = h.sum in omega arith

pub half-sum : (powers : List ℕ) (mid : ℕ) → mid ≤ length powers → sum_to (length (take mid powers)) (word (take mid powers)) ≡ sum_to mid (word powers)
half-sum powers mid l = ap (λ n. sum_to n (word (take mid powers))) (length-take-le mid powers l) ∙ sum_to-ext mid (λ j g. get_or-take mid powers j 0 g)

pub half_room : (powers c : List ℕ) → Roots powers c → (mid : ℕ) → mid ≤ length powers → sum_to (length (take mid powers)) (word (take mid powers)) ≤ length c
half_room powers c h mid l = let z = sum_to-mono mid (length powers) (word powers) l in let e = h.sum in omega (arith, half-sum powers mid l)

pub seam-after : (q : ℕ) (s1 x : List ℕ) → q ≤ length s1 → length x ≡ length (take q s1) → (q ≤ length (x ++ drop q s1)) × (length x ≡ q)
seam-after q s1 x l e = let n = length-take-le q s1 l in (omega (arith, length-append x (drop q s1)), omega arith)
