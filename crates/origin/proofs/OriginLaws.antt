-- The factors of f(Y + c) are the shifted factors of f.
--   factors-moved   of conditions alone: the shifted factors, turned, are the factors of the shifted polynomial
--   cut-opens, cut-same, cut-none   f cut to its least known length
--   variant_opens   open accepts the variant of what is cut
--   variant-reach   it can be worked to as many terms
--   variant-sheets, variant-calls   and its factors are the shifted ones, in sheets and after lists of calls
--   origin          all of it
-- Assumes nothing.
use Prim.Native.Nat.{ℕ, zero, suc, ◌+◌, ◌-◌, ◌*◌, ◌≤◌, ◌<◌}
use native.Mathlib.Nat.{mod-lt, eq-or-lt_of_le, zero-add}
use native.Mathlib.Omega.{arith}
use mathlib.Core.Path.{◌≡◌, refl, sym, ◌∙◌, ap, ap₂, subst}
use mathlib.Core.Logic.{⊎_elim}
use mathlib.Core.Option.{some}
use mathlib.Core.List.{List, ◌++◌}
use lib.ListN.{length}
use lib.Seq.{ext_get_or}
use Rattle.algebra.specs.Prime.{Prime}
use Rattle.algebra.specs.internal.Poly.{Columns}
use Rattle.algebra.specs.internal.Fp.{Fp, col}
use Rattle.algebra.proofs.FpLaws.{p-pos}
use Rattle.algebra.proofs.BridgeLaws.{same-rem}
use Rattle.numbers.specs.Words.{word, first_large, tabulate, up_to}
use Rattle.numbers.specs.internal.Facts.{AllBelow}
use Rattle.numbers.specs.Refusals.{judge, Pass}
use Rattle.numbers.proofs.WordsLaws.{lt-or-ge, large-le, length-tabulate, word-tabulate, tabulate-below, up-low, up-high, least-le, least_at, least-from}
use Rattle.numbers.proofs.TestsLaws.{rising-are}
use Rattle.series.specs.Known.{KnownTo}
use Rattle.series.proofs.SeriesLaws.{word_below}
use Rattle.rows.specs.Rows.{rows_of, table, shift_checks, shifted, row_shift, unit, monic}
use Rattle.rows.proofs.RowsLaws.{rows-below, length-table, word-table, table-ext, table-rows, table_below}
use Rattle.rows.proofs.MonicLaws.{monic-low, monic-top, monic-ext}
use Rattle.rows.proofs.ShiftLaws.{shifted-lt, shifted-ext, shifted_none, shifted-top, shifted-monic}
use Rattle.rows.proofs.CheckLaws.{shift-fine}
use Rattle.hensel.specs.Factors.{root_power, flat, product, IsFactors, SameFactors}
use Rattle.hensel.proofs.FactorsLaws.{product-rem, product_lt, product-ext, factors-ext, factors-unique}
use Rattle.hensel.proofs.ShiftedLaws.{shifted_product, shifted-line}
use Rattle.layout.specs.Layout.{total, modulus, width, count, power, factor}
use Rattle.sheet.specs.Sheet.{Given, given_of, given-reach, given-polynomial, Holds}
use Rattle.sheet.specs.internal.Content.{Splits, start}
use Rattle.sheet.proofs.BuildLaws.{start_is}
use Rattle.sheet.proofs.HoldsLaws.{holds-reach, holds-factors}
use Rattle.sheet.proofs.WorkLaws.{unit-later}
use Rattle.open.specs.Open.{powers_of, needed, open_verdict, polynomial_checks, list_checks}
use Rattle.open.proofs.OpenLaws.{powers-are}
use Rattle.open.proofs.OpenChecksLaws.{RowsPass, ListPass, list-passes, open-rows-split, other-rows, other-roots, other-list}
use Rattle.open.proofs.OpenSplitLaws.{split-some, room-pass}
use Rattle.open.proofs.OpeningLaws.{open-passed, open-ready, column-opens, powers}
use Rattle.calls.specs.Calls.{SameLists, History, worked, held}
use Rattle.calls.proofs.Demand3Laws.{demand3-kept, holds_agree}
use Rattle.origin.specs.Origin.{moved, IsMoved, cut, variant, whole_factor, IsShifted, Shifted, Origin}
use Rattle.origin.proofs.TurnLaws.{turn, turn-lt, turn-onto, sum-turn, prod-turn, source, moved_list, moved-rising, moved-is}
use Rattle.origin.proofs.WholeLaws.{factor-low, factor-rest, whole-table, whole-accepted, whole-shift}

-- factor lists, by their conditions; the list is turned so that its roots rise
module _ {p : ℕ} (prime : Prime p) (c : ℕ) (cp : c < p) (D k r n : ℕ) (f : ℕ → ℕ → ℕ) (root power : ℕ → ℕ) (a : ℕ → ℕ → ℕ → ℕ) (h : IsFactors p D k r f root power a)
    (nr : n ≤ r) (low : zero < k) (up : (i : ℕ) → suc i < r → moved p c (root (turn r n i)) < moved p c (root (turn r n (suc i)))) where
  abbrev two : 2 ≤ p
  two = prime.two-le

  abbrev pos : zero < p
  pos = p-pos prime

  abbrev T : ℕ → ℕ
  T = turn r n

  -- factor i, shifted with its leading 1
  abbrev B : ℕ → ℕ → ℕ → ℕ
  B i = shifted p (power i + 1) c (monic (power i) (a i))

  turned-product : (j t : ℕ) → product p r (λ i. B (T i)) j t ≡ product p r B j t
  turned-product j t =
      same-rem p pos (product_lt p r _ two j t) (product_lt p r _ two j t)
      (ap (λ x. x t j) (product-rem p pos r (λ i. B (T i)) ∙ prod-turn r n nr (Columns (Fp p pos)) (λ i. col p pos (B i)) ∙ sym (product-rem p pos r B)))

  moved_same : (j : ℕ) → j ≤ D → (t : ℕ) → t < k → product p r (λ i. monic (power (T i)) (B (T i))) j t ≡ shifted p (D + 1) c f j t
  moved_same j l t g =
      product-ext p k r _ _ (λ i u j t v. shifted-monic p c (power (T i)) (a (T i)) two j t) j t g
      ∙ turned-product j t ∙ sym (shifted_product prime c cp r power a j t) ∙ ap (λ d. shifted p (d + 1) c (product p r (λ i. monic (power i) (a i))) j t) h.degree
      ∙ shifted-ext p (D + 1) c _ f j t (λ i u. h.same i (omega arith) t g)

  moved-first : (i : ℕ) → i < r → (j : ℕ) → B (T i) j zero ≡ root_power p (moved p c (root (T i))) (power (T i)) j
  moved-first i l = let u = turn-lt r n nr i l in shifted-line prime c cp (root (T i)) (power (T i)) (a (T i)) (h.reduced (T i) u) (h.first (T i) u)

  moved-flat : (i : ℕ) → i < r → (j t : ℕ) → t < 1 → flat (root_power p (moved p c (root (T i))) (power (T i))) j t ≡ monic (power (T i)) (B (T i)) j t
  moved-flat i l j zero g = sym (moved-first i l j) ∙ sym (shifted-monic p c (power (T i)) (a (T i)) two j zero)
  moved-flat i l j (suc t) g = absurd (let z : ⊥ = omega arith in z)

  pub factors-moved : IsFactors p D k r (shifted p (D + 1) c f) (λ i. moved p c (root (turn r n i))) (λ i. power (turn r n i))
      (λ i. shifted p (power (turn r n i) + 1) c (monic (power (turn r n i)) (a (turn r n i))))
  factors-moved = record {
    rising = up;
    reduced = λ i l. mod-lt _ pos;
    powers = λ i l. h.powers (T i) (turn-lt r n nr i l);
    degree = sum-turn r n nr power ∙ h.degree;
    splits = λ j l. product-ext p 1 r _ _ moved-flat j zero (omega arith) ∙ moved_same j l zero low;
    first = λ i l j g. moved-first i l j;
    same = moved_same;
  }

-- f, which open accepts
module _ (g : Given) (pass : open_verdict g (needed g) ≡ Pass) where
  abbrev p : ℕ
  p = g.p

  abbrev D : ℕ
  D = g.D

  abbrev N : ℕ
  N = g.N

  abbrev r : ℕ
  r = length g.roots

  abbrev m : ℕ
  m = given-reach g

  L : ListPass g
  L = (open-passed g (needed g) pass).list

  prime : Prime p
  prime = L.rows.polynomial.modulus.prime

  reach-high : m ≤ N
  reach-high = least-le N (word g.lengths) D

  reach-low : 1 ≤ m
  reach-low = least-from N (word g.lengths) 1 D L.rows.polynomial.width_low (λ j l. (L.rows.lengths j l).low)

  -- cut to its least length
  abbrev G : Given
  G = cut g

  cut_at : (j : ℕ) → j ≤ D → (t : ℕ) → t < N → given-polynomial G j t ≡ up_to m (given-polynomial g j) t
  cut_at j l t v =
      ap (word G.rows) (ap (λ x. x + t) (zero-add (j * N))) ∙ word-table (D + 1) N _ j t (omega arith) v

  cut_low : (j : ℕ) → j ≤ D → (t : ℕ) → t < m → given-polynomial G j t ≡ given-polynomial g j t
  cut_low j l t v = cut_at j l t (omega (arith, reach-high)) ∙ up-low m (given-polynomial g j) t v

  cut_high : (j : ℕ) → j ≤ D → (t : ℕ) → m ≤ t → t < N → given-polynomial G j t ≡ 0
  cut_high j l t u v = cut_at j l t v ∙ up-high m (given-polynomial g j) t u

  cut-lt : (j t : ℕ) → up_to m (given-polynomial g j) t < p
  cut-lt j t =
      ⊎_elim
      (λ (u : t < m). subst (λ x. x < p) (sym (up-low m (given-polynomial g j) t u)) (word_below p g.rows (p-pos prime) L.rows.polynomial.rows-below (0 + j * N + t)))
      (λ (u : m ≤ t). subst (λ x. x < p) (sym (up-high m (given-polynomial g j) t u)) (p-pos prime))
      (lt-or-ge t m)

  cut-known : (f : ℕ → ℕ → ℕ) → ((j : ℕ) → j < D → (t : ℕ) → m ≤ t → t < N → f j t ≡ 0) → (j : ℕ) → j < D → KnownTo N (word G.lengths j) (f j)
  cut-known f none j l =
      subst (λ n. KnownTo N n (f j)) (sym (word-tabulate D (λ _. m) j l)) (record { low = reach-low; high = reach-high; rest = none j l })

  cut-top : (t : ℕ) → t < N → given-polynomial G D t ≡ unit t
  cut-top t v =
      ⊎_elim (λ (u : t < m). cut_low D (omega arith) t u ∙ L.rows.top t v)
      (λ (u : m ≤ t). cut_high D (omega arith) t u v ∙ sym (unit-later t (omega (arith, reach-low)))) (lt-or-ge t m)

  cut_below : AllBelow p G.rows
  cut_below = table_below p (D + 1) N (λ j. up_to m (given-polynomial g j)) (λ j t l v. cut-lt j t)

  cut_list : ListPass G
  cut_list = other-list g G.rows G.lengths (length-table (D + 1) N _) (length-tabulate D (λ _. m)) cut_below
      (cut-known (given-polynomial G) (λ j l t u v. cut_high j (omega arith) t u v)) cut-top L

  -- T stays
  cut-needed : needed G ≡ needed g
  unfolding needed
  cut-needed = refl

  cut-opens : open_verdict G (needed g) ≡ Pass
  cut-opens = subst (λ n. open_verdict G n ≡ Pass) cut-needed (column-opens g G.rows G.lengths (λ j l. cut_low j l 0 reach-low) pass cut_list)

  terms-in : (k : ℕ) (s : List ℕ) → Holds g k s → (1 ≤ k) × (k ≤ m)
  terms-in k s h = let e = h.same-terms in (omega (arith, h.sound.terms-low), omega (arith, h.sound.terms-high, holds-reach g k s h))

  cut-same : (k : ℕ) (s u : List ℕ) → Holds g k s → Holds G k u → SameLists k s u
  cut-same k s u h h' =
      let (low, high) = terms-in k s h in
      (holds_agree g G k k s u h h' refl k low (omega arith) (omega arith)).1 (record { degrees = refl; columns = λ j l t v. sym (cut_low j l t (omega arith)) })

  module _ (one : (j : ℕ) → j < D → word g.lengths j ≡ m) where
    rest : (j : ℕ) → j < D + 1 → (t : ℕ) → m ≤ t → t < N → given-polynomial g j t ≡ 0
    rest j l t u v =
        ⊎_elim (λ (e : j ≡ D). ap (λ x. given-polynomial g x t) e ∙ L.rows.top t v ∙ unit-later t (omega (arith, reach-low)))
        (λ (w : j < D). (L.rows.lengths j w).rest t (omega (arith, one j w)) v) (eq-or-lt_of_le {n = j} {m = D} (omega arith))

    own : (j t : ℕ) → j < D + 1 → t < N → up_to m (given-polynomial g j) t ≡ given-polynomial g j t
    own j t l v =
        ⊎_elim (λ (u : t < m). up-low m (given-polynomial g j) t u) (λ (u : m ≤ t). up-high m (given-polynomial g j) t u ∙ sym (rest j l t u v)) (lt-or-ge t m)

    rows-own : G.rows ≡ g.rows
    rows-own =
        table-ext (D + 1) N _ (rows_of g.rows N (D + 1)) (λ j t l v. own j t l v ∙ ap (λ x. word g.rows (x + t)) (zero-add (j * N)) ∙ sym (rows-below g.rows N (D + 1) j t l))
        ∙ table-rows g.rows (D + 1) N L.rows.polynomial.long

    lengths-own : G.lengths ≡ g.lengths
    lengths-own = ext_get_or 0 G.lengths g.lengths (length-tabulate D (λ _. m) ∙ sym L.rows.polynomial.lengths-long)
        (λ j l. let u : j < D = omega (arith, length-tabulate D (λ _. m)) in word-tabulate D (λ _. m) j u ∙ sym (one j u))

    cut-none : G ≡ g
    cut-none = ap₂ (λ rows lengths. given_of p D N rows lengths g.roots) rows-own lengths-own

  -- c below p, and the roots less c in rising order
  module _ (c : ℕ) (cp : c < p) (l : List ℕ) (is : IsMoved p c g.roots l) where
    abbrev S : ℕ → ℕ
    S = source c g.roots

    abbrev g'' : Given
    g'' = variant G c l

    nr : first_large c g.roots ≤ r
    nr = large-le c g.roots

    S-lt : (i : ℕ) → i < r → S i < r
    S-lt = turn-lt r (first_large c g.roots) nr

    list-is : moved_list p c g.roots ≡ l
    list-is = moved-is p c cp g.roots L.up L.rows.polynomial.roots-below l is

    root-at : (i : ℕ) → i < r → word l i ≡ moved p c (word g.roots (S i))
    root-at i u = ap (λ x. word x i) (sym list-is) ∙ word-tabulate r (λ i. moved p c (word g.roots (S i))) i u

    shift-accepts : judge (shift_checks p D N G.rows c ((D + 1) * N)) ≡ Pass
    shift-accepts =
        let q = L.rows.polynomial in
        shift-fine p D N G.rows c q.modulus q.degree-high q.width_low q.width-high (length-table (D + 1) N _) cut_below cp

    -- the polynomial of the variant
    variant-at : (j : ℕ) → j ≤ D → (t : ℕ) → t < N → given-polynomial g'' j t ≡ shifted p (D + 1) c (given-polynomial G) j t
    unfolding row_shift
    variant-at j u t v =
        ap (word g''.rows) (ap (λ x. x + t) (zero-add (j * N))) ∙ word-table (D + 1) N _ j t (omega arith) v
        ∙ shifted-ext p (D + 1) c _ _ j t (λ i w. rows-below G.rows N (D + 1) i t w ∙ ap (λ x. word G.rows (x + t)) (sym (zero-add (i * N))))

    variant-high : (j : ℕ) → j < D → (t : ℕ) → m ≤ t → t < N → given-polynomial g'' j t ≡ 0
    variant-high j u t w v = variant-at j (omega arith) t v ∙ shifted_none p (D + 1) c (given-polynomial G) j t (λ i o. cut_high i (omega arith) t w v)

    variant-top : (t : ℕ) → t < N → given-polynomial g'' D t ≡ unit t
    variant-top t v =
        variant-at D (omega arith) t v
        ∙ shifted-ext p (D + 1) c (given-polynomial G) (monic D (given-polynomial G)) D t (λ i o.
        ⊎_elim (λ (e : i ≡ D). ap (λ x. given-polynomial G x t) e ∙ cut-top t v ∙ sym (ap (λ x. monic D (given-polynomial G) x t) e ∙ monic-top D (given-polynomial G) t))
        (λ (w : i < D). sym (monic-low D (given-polynomial G) i t w)) (eq-or-lt_of_le {n = i} {m = D} (omega arith)))
        ∙ shifted-top p c D (given-polynomial G) t prime.two-le

    variant-rows : RowsPass (given_of p D N g''.rows G.lengths g.roots)
    unfolding row_shift
    variant-rows = other-rows G g''.rows G.lengths (length-table (D + 1) N _) (length-tabulate D (λ _. m))
        (table_below p (D + 1) N _ (λ j t u v. shifted-lt p (D + 1) c _ j t (p-pos prime))) (cut-known (given-polynomial g'') variant-high) variant-top cut_list.rows

    variant-list : ListPass g''
    variant-list =
        let e = is.long in
        record {
          rows = other-roots (given_of p D N g''.rows G.lengths g.roots) variant-rows l (subst (AllBelow p) list-is (tabulate-below p r _ (λ i u. mod-lt _ (p-pos prime))));
          count_low = omega (arith, L.count_low);
          count-high = omega (arith, L.count-high);
          up = rising-are l is.rises;
        }

    -- the factors of f to k terms, shifted and turned, are those of the variant
    module _ (k : ℕ) (low : 1 ≤ k) (high : k ≤ m) (power : ℕ → ℕ) (a : ℕ → ℕ → ℕ → ℕ) (F : IsFactors p D k r (given-polynomial g) (word g.roots) power a) where
      variant-factors : IsFactors p D k r (given-polynomial g'') (word l) (λ i. power (S i)) (λ i. shifted p (power (S i) + 1) c (monic (power (S i)) (a (S i))))
      variant-factors =
          factors-ext p D k r (shifted p (D + 1) c (given-polynomial g)) (given-polynomial g'') _ (word l) _ _ _ _ low
          (λ j u t v. variant-at j u t (omega (arith, reach-high)) ∙ shifted-ext p (D + 1) c _ _ j t (λ i o. cut_low i (omega arith) t (omega arith)))
          root-at (λ i u. refl) (λ i u j o t v. refl)
          (factors-moved prime c cp D k r (first_large c g.roots) (given-polynomial g) (word g.roots) power a F nr low
          (moved-rising p c cp g.roots L.up L.rows.polynomial.roots-below))

    -- the powers that open finds
    abbrev turned : List ℕ
    turned = tabulate r (λ i. powers g (S i))

    found : powers_of g'' ≡ some turned
    found =
        let w = word-tabulate r (λ i. powers g (S i)) in
        let sp = (open-ready g (needed g) pass).0.splits in
        let x = variant-factors 1 (omega arith) reach-low (powers g) (start p (word g.roots) (powers g)) (start_is p D r (given-polynomial g) (word g.roots) (powers g) prime.two-le sp) in
        let y = factors-ext p D 1 r (given-polynomial g'') (given-polynomial g'') (word l) (word l) _ (word turned) _ _ (omega arith) (λ j u t v. refl) (λ i u. refl) w (λ i u j o t v. refl) x in
        (powers-are g'' prime variant-list.up variant-list.rows.polynomial.roots-below turned).1 (
          length-tabulate r _ ∙ sym is.long,
          subst (λ x. Splits p D x (given-polynomial g'') (word l) (word turned)) (sym is.long)
              (record { rising = y.rising; reduced = y.reduced; powers = y.powers; degree = y.degree; splits = y.splits }),
        )

    variant-needed : needed g'' ≡ needed g
    unfolding needed
    variant-needed = ap (λ (n : ℕ). total D N n) is.long

    variant_opens : open_verdict g'' (needed g) ≡ Pass
    variant_opens =
        open-rows-split g'' (needed g) ∙ split-some (polynomial_checks g'' ++ list_checks g'') (list-passes g'' variant-list) g'' (needed g) turned found
        ∙ room-pass (needed g) (needed g'') (omega (arith, variant-needed))

    variant-reach : given-reach g'' ≡ m
    variant-reach =
        let at : (j : ℕ) → j < D → word G.lengths j ≡ m = word-tabulate D (λ _. m) in
        let one : 0 < D = L.rows.polynomial.degree-low in
        let high = least-from N (word G.lengths) m D reach-high (λ j u. rw (at j u) (omega arith)) in
        omega (arith, least_at N (word G.lengths) D 0 one, at 0 one)

    -- a sheet of f and one of the variant, worked to the same terms
    module _ (k : ℕ) (s s' : List ℕ) (h : Holds g k s) (h' : Holds g'' k s') where
      same-p : modulus s ≡ p
      same-p = h.same-modulus

      lists : SameFactors (suc (k - 1)) (length l) r (word l) (word l) (power s') (λ i. power s (S i)) (factor s')
          (λ i. shifted p (power s (S i) + 1) c (monic (power s (S i)) (factor s (S i))))
      lists =
          let (low, high) = terms-in k s h in
          let e = h'.same-terms in
          factors-unique prime (k - 1) k k D D (length l) r (given-polynomial g'') (given-polynomial g'') (word l) (word l) (power s') (λ i. power s (S i)) (factor s') _
          (holds-factors g'' k s' h') (variant-factors k low high (power s) (factor s) (holds-factors g k s h)) (omega arith) (omega arith)
          (λ i u j o t v. omega (arith, factor-low s' h'.sound i (omega (arith, h'.same_count)) j o t (omega arith), h'.same-modulus))
          (λ i u j o t v. shifted-lt p _ c _ j t (p-pos prime)) (record { degrees = refl; columns = λ j u t v. refl })

      -- factor n of the variant is factor S n of f
      module _ (n : ℕ) (u : n < r) where
        abbrev i : ℕ
        i = S n

        here : n < count s'
        here = omega (arith, h'.same_count, is.long)

        there : i < count s
        there = omega (arith, S-lt n u, h.same_count)

        same_power : power s' n ≡ power s i
        same_power = lists.powers n (omega (arith, is.long))

        abbrev b : ℕ → ℕ → ℕ
        b = shifted p (power s i + 1) c (monic (power s i) (factor s i))

        same-column : (j t : ℕ) → t < N → monic (power s' n) (factor s' n) j t ≡ b j t
        same-column j t v =
            ⊎_elim
            (λ (o : t < k).
            monic-ext (power s' n) (factor s' n) b t (λ j w. lists.columns n (omega (arith, is.long)) j w t (omega arith)) j
            ∙ ap (λ d. monic d b j t) same_power ∙ shifted-monic p c (power s i) (factor s i) prime.two-le j t)
            (λ (o : k ≤ t).
            factor-rest s' h'.sound n here j t (omega (arith, h'.same-terms)) (omega (arith, h'.same_width))
            ∙ sym (shifted_none p (power s i + 1) c _ j t (λ j w. factor-rest s h.sound i there j t (omega (arith, h.same-terms)) (omega (arith, h.same_width)))))
            (lt-or-ge t k)

        same_rows : whole_factor s' n ≡ row_shift (modulus s) (power s i) (width s) (whole_factor s i) c
        same_rows =
            whole-table s' h'.sound n here
            ∙ ap₂ (λ d w. table (d + 1) w (monic (power s' n) (factor s' n))) same_power (h'.same_width ∙ sym h.same_width)
            ∙ table-ext (power s i + 1) (width s) _ _ (λ j t o v. same-column j t (omega (arith, h.same_width)))
            ∙ ap (λ q. table (power s i + 1) (width s) (shifted q (power s i + 1) c (monic (power s i) (factor s i)))) (sym same-p)
            ∙ sym (whole-shift s h.sound i there c)

        is-shifted : IsShifted c s i s' n
        is-shifted = record {
          roots = h'.same-roots n here ∙ root-at n u ∙ ap₂ (λ q x. moved q c x) (sym same-p) (sym (h.same-roots i there));
          powers = same_power;
          accepted = whole-accepted s h.sound i there c (omega (arith, same-p));
          rows = same_rows;
        }

      variant-sheets : Shifted c s s'
      variant-sheets = record {
        counts = h'.same_count ∙ is.long ∙ sym h.same_count;
        each = λ i u.
            let (n, o, e) = turn-onto r (first_large c g.roots) nr i (omega (arith, h.same_count)) in
            (n, here n o, subst (λ x. IsShifted c s x s' n) e (is-shifted n o));
      }

    variant-calls : (x y : History) → held x ≡ g → held y ≡ g'' → worked x ≡ worked y → Shifted c x.last y.last
    variant-calls x y ex ey ew =
        variant-sheets (worked x) x.last y.last (subst (λ f. Holds f (worked x) x.last) ex (demand3-kept x).holds)
        (subst (λ f. Holds f (worked x) y.last) ey (subst (λ k. Holds (held y) k y.last) (sym ew) (demand3-kept y).holds))

pub origin : (g : Given) → open_verdict g (needed g) ≡ Pass → (c : ℕ) → c < g.p → (l : List ℕ) → IsMoved g.p c g.roots l → Origin g c l
origin g pass c cp l is = record {
  cut-opens = cut-opens g pass;
  cut-same = cut-same g pass;
  cut-none = cut-none g pass;
  shift-accepts = shift-accepts g pass c cp l is;
  variant_opens = variant_opens g pass c cp l is;
  reach = variant-reach g pass c cp l is;
  sheets = variant-sheets g pass c cp l is;
  calls = variant-calls g pass c cp l is;
}
