-- From roots and powers to the roots with repetition, and from the product of the factors to document 01's conditions.
-- Assumes nothing.
use mathlib.Core.Path.{◌≡◌, refl, sym, ap, ap₂, subst, ◌∙◌}
use mathlib.Core.Logic.{⊎_elim, inl}
use mathlib.Core.Bool.{true, false}
use mathlib.Core.List.{List}
use Prim.Native.Nat.{ℕ, zero, suc, ◌+◌, ◌*◌, ◌≤◌, ◌<◌, Fin}
use native.Mathlib.Nat.{eq-or-lt_of_le, not-suc-le-zero, le_of_suc-le-suc, add-zero as add-zeroₙ, zero-add as zero-addₙ}
use native.Mathlib.Numerals.{add-one}
use native.Mathlib.Omega.{arith}
use lib.ListN.{length, take, drop}
use Rattle.algebra.specs.Sums.{sum_to}
use Rattle.algebra.proofs.SumsLaws.{sum_to-zero, sum_to-suc, sum_to-mono}
use Rattle.algebra.specs.internal.Ring.{prod, mul-one}
use Rattle.algebra.proofs.RingLaws.{prod-zero, prod-suc, prod-ext, prod-append}
use Rattle.algebra.specs.internal.Series.{Series}
use Rattle.algebra.proofs.SeriesLaws.{prod-at-zero}
use Rattle.algebra.specs.internal.Poly.{lin_pow, lines}
use Rattle.algebra.specs.internal.Fp.{Fp, rem, col}
use Rattle.algebra.proofs.FpLaws.{p-pos}
use Rattle.algebra.proofs.BridgeLaws.{same-rem, rem-one}
use Rattle.numbers.specs.Words.{word, tabulate}
use Rattle.numbers.specs.internal.Facts.{AllBelow}
use Rattle.numbers.proofs.WordsLaws.{lt-or-ge, length-tabulate, word-tabulate, true-false}
use Rattle.rows.specs.Rows.{monic}
use Rattle.rows.proofs.MonicLaws.{unit-lt, monic-low, monic-top, monic-ext, by_place}
use Rattle.rows.proofs.RowsLaws.{by_row, row_fits}
use Rattle.hensel.specs.Factors.{root_power, flat, split}
use Rattle.hensel.proofs.FactorsLaws.{product-rem, product_lt, factors-ext}
use Rattle.hensel.proofs.BlocksLaws.{Block, locate}
use Rattle.algebra.proofs.SolutionLaws.{lines-zero, lines-ext, lines-append, lines_same, lines-top}
use Rattle.rows.proofs.ShiftLaws.{root-power}
use Rattle.columns.specs.internal.Column.{ColumnsSet}
use Rattle.columns.proofs.ColumnLaws.{length-lent, put, put-long, put-before, put_in}
use Rattle.solution.specs.internal.Table.{poly, rows_from, Lines}
use Rattle.split.specs.internal.Found.{Roots, NodeReady, Factored, Spread, RootsListed, SplitsAtZero, Splitting, FactorsTo, Found}

module _ (roots powers c : List ℕ) (sp : Spread roots powers (length powers) c) (n : length c ≡ sum_to (length powers) (word powers)) (some : (i : ℕ) → i < length powers → 1 ≤ word powers i)
    (rising : (i : ℕ) → suc i < length powers → word roots i < word roots (suc i)) where
  abbrev S : ℕ → ℕ
  S i = sum_to i (word powers)

  rises : (i j : ℕ) → i < j → j < length powers → word roots i < word roots j
  rises i zero l g = absurd (not-suc-le-zero l)
  rises i (suc j) l g =
      ⊎_elim (λ (e : i ≡ j). subst (λ x. word roots x < word roots (suc j)) (sym e) (rising j g)) (λ (u : i < j). let a = rises i j u (omega arith) in let b = rising j g in omega arith) (eq-or-lt_of_le (le_of_suc-le-suc l))

  at : (a : ℕ) (b : Block (length powers) (word powers) a) → word c a ≡ word roots b.block
  at a b = ap (word c) b.at ∙ sp b.block b.block-low b.row b.row_low

  pub spread-roots : Roots powers c
  spread-roots = record {
    sum = sym n;
    some = some;
    same = λ i l x g. sp i l x g ∙ sym (ap (word c) (sym (add-zeroₙ (S i))) ∙ sp i l 0 (some i l));
    apart = λ i a b ga gb l.
        let la : a < S (length powers) = ⊎_elim (λ (u : i < length powers). let z = sum_to-mono i (length powers) (word powers) (omega arith) in omega arith) (λ (u : length powers ≤ i). absurd (let z = sum_to-mono (length powers) i (word powers) u in let y : ⊥ = omega arith in y)) (lt-or-ge i (length powers)) in
        let A = locate (length powers) (word powers) a la in
        let B = locate (length powers) (word powers) b (omega arith) in
        subst (λ v. v < word c b) (sym (at a A)) (subst (λ v. word roots A.block < v) (sym (at b B)) (rises A.block B.block (order i a b A B ga gb) B.block-low));
  }
    where
      order : (i a b : ℕ) (A : Block (length powers) (word powers) a) (B : Block (length powers) (word powers) b) → a < S i → S i ≤ b → A.block < B.block
      order i a b A B ga gb =
          let x : A.block < i = ⊎_elim (λ (u : A.block < i). u) (λ (u : i ≤ A.block). absurd (let z = sum_to-mono i A.block (word powers) u in let e = A.at in let y : ⊥ = omega arith in y)) (lt-or-ge A.block i) in
          let y : i ≤ B.block = ⊎_elim (λ (u : B.block < i). absurd (let z = sum_to-mono (suc B.block) i (word powers) u in let e = B.at in let r = B.row_low in let q = sum_to-suc B.block (word powers) in let v : ⊥ = omega arith in v)) (λ (u : i ≤ B.block). u) (lt-or-ge B.block i) in
          omega arith

  -- the lines of all roots are the powers of the lines, multiplied
  module _ (p : ℕ) (pos : zero < p) where
    pub lines-groups : (r : ℕ) → r ≤ length powers → lines (Fp p pos) (poly p pos (word c)) (S r) ≡ prod (Series (Fp p pos)) r (λ i. lin_pow (Fp p pos) (rem p pos (word roots i)) (word powers i))
    lines-groups zero l = ap (lines (Fp p pos) (poly p pos (word c))) (sum_to-zero (word powers)) ∙ lines-zero (Fp p pos) _ ∙ sym (prod-zero (Series (Fp p pos)) _)
    lines-groups (suc r) l =
        let K = Fp p pos in
        let G : ℕ → ℕ → Fin p = λ i. lin_pow K (rem p pos (word roots i)) (word powers i) in
        ap (lines K (poly p pos (word c))) (sum_to-suc r (word powers)) ∙ lines-append K (S r) (word powers r) (poly p pos (word c))
        ∙ ap₂ (Series K).mul (lines-groups r (omega arith))
        (lines-ext K (word powers r) {c = λ i. poly p pos (word c) (S r + i)} {d = λ _. rem p pos (word roots r)} (λ x g. ap (rem p pos) (sp r l x g)) ∙ lines_same K (rem p pos (word roots r)) (word powers r))
        ∙ sym (ap (λ x. prod (Series K) x G) (sym (add-one r)) ∙ prod-append (Series K) r 1 G
        ∙ ap ((Series K).mul (prod (Series K) r G)) (prod-suc (Series K) 0 (λ i. G (r + i)) ∙ ap ((Series K).mul (G (r + 0))) (prod-zero (Series K) _) ∙ mul-one (Series K) _ ∙ ap G (add-zeroₙ r)))

-- f at X = 0 over the numbers below p
split-rem : (p : ℕ) (pos : zero < p) (r : ℕ) (root power : ℕ → ℕ) → ((i : ℕ) → i < r → root i < p) → (j : ℕ)
    → rem p pos (split p r root power j) ≡ prod (Series (Fp p pos)) r (λ i. lin_pow (Fp p pos) (rem p pos (root i)) (power i)) j
split-rem p pos r root power low j =
    ap (λ f. f zero j) (product-rem p pos r (λ i. flat (root_power p (root i) (power i))))
    ∙ ap (λ f. f j) (prod-at-zero (Series (Fp p pos)) r (λ i. col p pos (flat (root_power p (root i) (power i)))) ∙ prod-ext (Series (Fp p pos)) r (λ i l. root-power p pos (root i) (low i l) (power i)))

pub spread-below : {p N w : ℕ} {roots powers s : List ℕ} → RootsListed p N w roots powers s → (c : List ℕ) → length c ≡ sum_to (length powers) (word powers) → Spread roots powers (length powers) c → AllBelow p c
spread-below {p} {N} {w} {roots} {powers} {s} h c n sp a l =
    let b = locate (length powers) (word powers) a (omega arith) in
    subst (λ v. v < p) (sym (ap (word c) b.at ∙ sp b.block b.block-low b.row b.row_low)) (h.reduced b.block (let e = h.count in let z = b.block-low in omega arith))

module _ (p N w : ℕ) (roots powers s : List ℕ) (h : Splitting p N w roots powers s) (c : List ℕ) (n : length c ≡ sum_to (length powers) (word powers)) (sp : Spread roots powers (length powers) c) where
  abbrev D : ℕ
  D = sum_to (length powers) (word powers)

  abbrev pos : zero < p
  pos = p-pos h.listed.prime

  pub ready : NodeReady p N w powers c s
  ready = record {
    prime = h.listed.prime;
    small = h.listed.small;
    width = h.listed.width;
    terms-low = h.listed.terms-low;
    terms-high = h.listed.terms-high;
    some = h.listed.some;
    roots = spread-roots roots powers c sp n h.listed.powers-low h.listed.rising;
    room = let z = h.listed.room in omega arith;
    c-below = spread-below h.listed c n sp;
    long = h.listed.long ∙ ap (λ x. x * N) (sym n);
    below = h.listed.below;
    first = λ pos j l.
        let l' : j < D = omega arith in
        ap (rem p pos) (sym (h.splits j (omega arith) ∙ monic-low D (rows_from 0 N s) j 0 l' ∙ ap (λ v. word s (v * N + 0)) (zero-addₙ j) ∙ ap (word s) (add-zeroₙ (j * N))))
        ∙ split-rem p pos (length powers) (word roots) (word powers) (λ i g. h.listed.reduced i (let e = h.listed.count in omega arith)) j
        ∙ ap (λ f. f j) (sym (lines-groups roots powers c sp n h.listed.powers-low h.listed.rising p pos (length powers) (omega arith))) ∙ ap (λ x. lines (Fp p pos) (poly p pos (word c)) x j) (sym n);
  }

  f_lt : (j t : ℕ) → j ≤ D → t < N → monic D (rows_from 0 N s) j t < p
  f_lt j t l g =
      let two = h.listed.prime.two-le in
      by_place (λ j. j ≤ D → monic D (rows_from 0 N s) j t < p) D
      (λ j u _. subst (λ v. v < p) (sym (monic-low D (rows_from 0 N s) j t u ∙ ap (λ v. word s (v * N + t)) (zero-addₙ j))) (h.listed.below (j * N + t) (let z = row_fits j D N u in let e = h.listed.long in omega arith)))
      (λ _. subst (λ v. v < p) (sym (monic-top D (rows_from 0 N s) t)) (unit-lt p t two))
      (λ j u v. absurd (let z : ⊥ = omega arith in z)) j l

  pub factors-done : (new : List ℕ) → ((j : ℕ) → j < D → (t : ℕ) → w ≤ t → t < N → word s (j * N + t) ≡ 0) → Factored p N w powers c s new → FactorsTo p N w roots powers s new
  factors-done new none g = record {
    long = g.long;
    below = g.below;
    factors = record {
      rising = h.listed.rising;
      reduced = λ i l. h.listed.reduced i (let e = h.listed.count in omega arith);
      powers = h.listed.powers-low;
      degree = refl;
      splits = h.splits;
      first = λ i l j u.
          ap (word new) (add-zeroₙ ((sum_to i (word powers) + j) * N)) ∙ g.first i l j u
          ∙ ap (λ x. root_power p x (word powers i) j) (ap (word c) (sym (add-zeroₙ (sum_to i (word powers)))) ∙ sp i l 0 (h.listed.powers-low i l));
      same = λ j l t u.
          let top = h.listed.terms-high in
          same-rem p pos (product_lt p (length powers) _ h.listed.prime.two-le j t) (f_lt j t l (omega arith))
          (ap (λ f. f t j) (product-rem p pos (length powers) (λ i. monic (word powers i) (rows_from (sum_to i (word powers)) N new))) ∙ ap (λ f. f j) (g.same pos t u) ∙ ap (λ d. rem p pos (monic d (rows_from 0 N s) j t)) n);
    };
    rest = λ j l t lo hi. g.rest j (omega arith) t lo hi ∙ none j l t lo hi;
  }

-- where the words of a root end
pub spread-room : (powers : List ℕ) (i a : ℕ) → i < length powers → a ≡ sum_to i (word powers) → a + word powers i ≤ sum_to (length powers) (word powers)
spread-room powers i a l e = let z = sum_to-suc i (word powers) in let q = sum_to-mono (suc i) (length powers) (word powers) l in omega arith

-- one more root is spread, by a call that was lent `len` words
pub spread-step : (roots powers c y : List ℕ) (i a len : ℕ) → a ≡ sum_to i (word powers) → i < length powers → length c ≡ sum_to (length powers) (word powers) → len ≡ word powers i
    → y ≡ tabulate (length (take len (drop a c))) (λ _. word roots i) → Spread roots powers i c
    → (length (put a len c y) ≡ length c) × Spread roots powers (i + 1) (put a len c y)
spread-step roots powers c y i a len ea l n el ey h =
    let fits : a + len ≤ length c = omega (arith, spread-room powers i a l ea) in
    let np = length-lent a len c fits in
    let ny : length y ≡ len = ap length ey ∙ length-tabulate (length (take len (drop a c))) _ ∙ np in (
      put-long a len c y fits ny,
      λ j u x g.
          ⊎_elim
          (λ (e : j ≡ i).
          let g'' : x < len = let w = ap (word powers) e in omega arith in
          ap (λ v. word (put a len c y) (v + x)) (ap (λ v. sum_to v (word powers)) e ∙ sym ea) ∙ put_in a len c y fits ny x g''
          ∙ ap (λ s. word s x) ey ∙ word-tabulate (length (take len (drop a c))) _ x (omega (arith, np)) ∙ ap (word roots) (sym e))
          (λ (e : j < i).
          let z = sum_to-suc j (word powers) in let q = sum_to-mono (suc j) i (word powers) e in
          put-before a len c y fits ny (sum_to j (word powers) + x) (omega arith) ∙ h j e x g)
          (eq-or-lt_of_le {n = j} {m = i} (omega arith)),
    )

pub spread_none : (roots powers c : List ℕ) → Spread roots powers 0 c
spread_none roots powers c i l = absurd (not-suc-le-zero l)

-- what is cleared splits as before, and its factors to w terms are those of what was there
module _ (p N w : ℕ) (roots powers s s1 : List ℕ) (h : Splitting p N w roots powers s) (cl : ColumnsSet N w N (sum_to (length powers) (word powers)) (λ _ _. 0) s s1) where
  abbrev DD : ℕ
  DD = sum_to (length powers) (word powers)

  kept : (j : ℕ) → j < DD → (t : ℕ) → t < w → word s1 (j * N + t) ≡ word s (j * N + t)
  kept j l t u = let z = h.listed.terms-high in cl.others j l t (omega arith) (inl u)

  same-f : (j : ℕ) (t : ℕ) → t < w → monic DD (rows_from 0 N s1) j t ≡ monic DD (rows_from 0 N s) j t
  same-f j t l = monic-ext DD (rows_from 0 N s1) (rows_from 0 N s) t (λ j g. ap (λ v. word s1 (v * N + t)) (zero-addₙ j) ∙ kept j g t l ∙ sym (ap (λ v. word s (v * N + t)) (zero-addₙ j))) j

  pub cleared-splitting : Splitting p N w roots powers s1
  cleared-splitting = record { listed = cleared-listed; splits = λ j l. h.splits j l ∙ sym (same-f j 0 h.listed.terms-low) }
    where
      cleared-listed : RootsListed p N w roots powers s1
      cleared-listed = record {
        prime = h.listed.prime;
        small = h.listed.small;
        width = h.listed.width;
        terms-low = h.listed.terms-low;
        terms-high = h.listed.terms-high;
        some = h.listed.some;
        count = h.listed.count;
        rising = h.listed.rising;
        reduced = h.listed.reduced;
        powers-low = h.listed.powers-low;
        room = h.listed.room;
        long = cl.long ∙ h.listed.long;
        below = λ z l.
            let wide : 1 ≤ N = let a = h.listed.terms-low in let b = h.listed.terms-high in omega arith in
            by_row DD N (λ z. word s1 z < p) wide
            (λ j a t g. ⊎_elim (λ (u : t < w). subst (λ v. v < p) (sym (kept j a t u)) (h.listed.below (j * N + t) (let y = row_fits j DD N a in let e = h.listed.long in omega arith)))
            (λ (u : w ≤ t). subst (λ v. v < p) (sym (cl.set j a t u g)) (p-pos h.listed.prime)) (lt-or-ge t w)) z (let e = h.listed.long in let c = cl.long in omega arith);
      }

  pub cleared-factors : (new : List ℕ) → FactorsTo p N w roots powers s1 new → FactorsTo p N w roots powers s new
  cleared-factors new g = record {
    long = g.long ∙ cl.long;
    below = g.below;
    factors = factors-ext p DD w (length powers) _ _ (word roots) (word roots) (word powers) (word powers) _ _ h.listed.terms-low (λ j l t u. sym (same-f j t u)) (λ i l. refl) (λ i l. refl) (λ i l j u t v. refl) g.factors;
    rest = g.rest;
  }

-- The product of the lines of all roots, as words, is the product of the powers.
module _ (p N w : ℕ) (roots powers s : List ℕ) (h : RootsListed p N w roots powers s) (c : List ℕ) (n : length c ≡ sum_to (length powers) (word powers))
    (sp : Spread roots powers (length powers) c) (line : List ℕ) (ln : Lines p c line) where
  abbrev D₀ : ℕ
  D₀ = sum_to (length powers) (word powers)

  abbrev pos₀ : zero < p
  pos₀ = p-pos h.prime

  line-rem : (j : ℕ) → rem p pos₀ (word line j) ≡ lines (Fp p pos₀) (poly p pos₀ (word c)) D₀ j
  line-rem j = ap (λ f. f j) (ln.is pos₀) ∙ ap (λ x. lines (Fp p pos₀) (poly p pos₀ (word c)) x j) n

  pub line-split : (j : ℕ) → j ≤ D₀ → word line j ≡ split p (length powers) (word roots) (word powers) j
  line-split j l =
      same-rem p pos₀ (ln.below j (let e = ln.long in omega arith)) (product_lt p (length powers) _ h.prime.two-le j zero)
      (line-rem j ∙ ap (λ f. f j) (lines-groups roots powers c sp n h.powers-low h.rising p pos₀ (length powers) (omega arith))
      ∙ sym (split-rem p pos₀ (length powers) (word roots) (word powers) (λ i g. h.reduced i (let e = h.count in omega arith)) j))

  pub line-last : word line D₀ ≡ 1
  line-last =
      same-rem p pos₀ (ln.below D₀ (let e = ln.long in omega arith)) h.prime.two-le (line-rem D₀ ∙ lines-top (Fp p pos₀) (poly p pos₀ (word c)) D₀ ∙ sym (rem-one p pos₀))

  low_word : (j : ℕ) → j < D₀ → monic D₀ (rows_from 0 N s) j 0 ≡ word s (j * N)
  low_word j l = monic-low D₀ (rows_from 0 N s) j 0 l ∙ ap (λ v. word s (v * N + 0)) (zero-addₙ j) ∙ ap (word s) (add-zeroₙ (j * N))

  pub begins-splits : ((j : ℕ) → j + 1 < length line → word s (j * N) ≡ word line j) → SplitsAtZero p N roots powers s
  begins-splits e j l =
      ⊎_elim (λ (q : j ≡ D₀). sym (line-split j l) ∙ ap (word line) q ∙ line-last ∙ sym (ap (λ x. monic D₀ (rows_from 0 N s) x 0) q ∙ monic-top D₀ (rows_from 0 N s) 0))
      (λ (u : j < D₀). sym (line-split j l) ∙ sym (e j (let z = ln.long in omega arith)) ∙ sym (low_word j u)) (eq-or-lt_of_le l)

  pub splits-begins : SplitsAtZero p N roots powers s → (j : ℕ) → j + 1 < length line → word s (j * N) ≡ word line j
  splits-begins g j l =
      let u : j < D₀ = let z = ln.long in omega arith in
      sym (low_word j u) ∙ sym (g j (omega arith)) ∙ sym (line-split j (omega arith))

-- the answers
pub found_some : {p N w : ℕ} {roots powers old new : List ℕ} → FactorsTo p N w roots powers old new → Found p N w roots powers old true new
found_some f = record { yes = λ _. f; no = λ e. true-false e }

pub found_none : {p N w : ℕ} {roots powers old new : List ℕ} → (SplitsAtZero p N roots powers old → ⊥) → Found p N w roots powers old false new
found_none n = record { yes = λ e. true-false (sym e); no = λ _. n }
