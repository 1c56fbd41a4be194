-- Finding the powers of the roots, root after root.
--   Finding ..       the loop's invariant: what is left is the product of the powers that are still to come, for all powers that there are
--   finding-none, finding-step   before the first root, and one root more
--   finding-stops    a root that does not divide: there are no such powers
--   gives_same       what is said of powers looks only at those of the roots
--   finding-ends     after the last root there are powers exactly where nothing is left but 1
-- Assumes nothing.
use Prim.Native.Nat.{ℕ, zero, suc, ◌+◌, ◌-◌, ◌≤◌, ◌<◌, Fin}
use native.Mathlib.Bridge.{le_prop}
use native.Mathlib.Numerals.{add-one}
use native.Mathlib.Omega.{arith}
use mathlib.Core.Path.{◌≡◌, refl, sym, ◌∙◌, ap, ap₂, subst, fun_ext}
use mathlib.Core.Logic.{◌≢◌, ⊎_elim}
use mathlib.Core.Bool.{Bool, false}
use mathlib.Core.List.{List}
use borrow.Author.Tests.{eqb-true, eq-eqb}
use lib.Dec.{eqb}
use lib.ListN.{length, drop, set, length-drop, get_or-eq_default}
use lib.Seq.{get_or-drop, get_or-set_same, get_or-set_other}
use Rattle.algebra.specs.Sums.{sum_to}
use Rattle.algebra.proofs.SumsLaws.{sum_to-zero, sum_to-suc, sum_to-ext}
use Rattle.algebra.specs.internal.Ring.{CommRing, prod}
use Rattle.algebra.proofs.RingLaws.{prod-zero, prod-ext, prod_from, prod_from-zero, prod_from-suc}
use Rattle.algebra.specs.internal.Series.{Series}
use Rattle.algebra.proofs.SeriesLaws.{one_at}
use Rattle.algebra.specs.internal.Poly.{lin_pow}
use Rattle.algebra.proofs.PolyLaws.{eval}
use Rattle.algebra.proofs.Multiplicity.{multiplicity-field}
use Rattle.algebra.proofs.Chain.{at-zero-below, at-zero-nonroot, rising-distinct}
use Rattle.algebra.specs.Prime.{Prime}
use Rattle.algebra.specs.internal.Fp.{Fp, rem}
use Rattle.algebra.proofs.FpLaws.{p-pos, Fp-field}
use Rattle.algebra.proofs.BridgeLaws.{same-rem, rem-zero, rem-one}
use Rattle.numbers.specs.Words.{word}
use Rattle.numbers.specs.internal.Facts.{AllBelow}
use Rattle.numbers.proofs.WordsLaws.{true-false, lt-or-ge, drop-below}
use Rattle.columns.specs.internal.Column.{horner_words}
use Rattle.columns.proofs.ColumnLaws.{horner-words-at, horner-below, length-horner}
use Rattle.columns.proofs.SolveLaws.{below-pol, horner-poly}
use Rattle.powers.specs.internal.Powers.{over_field, DividedOut, GivesPowers, FoundPowers}
use Rattle.hensel.proofs.FactorsLaws.{roots_of, key, roots-rising}
use Rattle.powers.proofs.PowersLaws.{horner-last}

pub gives_same : {p : ℕ} {roots e : List ℕ} {m k : ℕ → ℕ} → ((i : ℕ) → i < length roots → m i ≡ k i) → GivesPowers p roots e m → GivesPowers p roots e k
gives_same {p} {roots} {e} {m} {k} same G = record {
  low = λ i l. let z = same i l in let y = G.low i l in omega arith;
  sum = ap suc (sym (sum_to-ext (length roots) same)) ∙ G.sum;
  product = λ pos. G.product pos ∙ prod-ext (Series (Fp p pos)) (length roots) (λ i l. ap (lin_pow (Fp p pos) (rem p pos (word roots i))) (same i l));
}

module _ {p : ℕ} (prime : Prime p) (roots : List ℕ) (reduced : AllBelow p roots) (up : (i : ℕ) → suc i < length roots → word roots i < word roots (suc i)) where
  abbrev pos : zero < p
  pos = p-pos prime

  abbrev K : CommRing (Fin p)
  K = Fp p pos

  abbrev q : ℕ → Fin p
  q = rem p pos

  abbrev r : ℕ
  r = length roots

  -- the power of factor l
  abbrev F : (ℕ → ℕ) → ℕ → ℕ → Fin p
  F m l = lin_pow K (q (word roots l)) (m l)

  pub record Finding (e₀ : List ℕ) (i at : ℕ) (e powers : List ℕ) : Type 0 where
    pub long : length e ≡ length e₀
    pub high : at < length e₀
    pub below : AllBelow p e
    pub top : word e (length e₀ - 1) ≡ 1
    pub low : (l : ℕ) → l < i → 1 ≤ word powers l
    pub sum : sum_to i (word powers) ≡ at
    pub sound : (m : ℕ → ℕ) → ((l : ℕ) → l < i → m l ≡ word powers l) → over_field p pos (drop at e) ≡ prod_from (Series K) i r (F m) → over_field p pos e₀ ≡ prod (Series K) r (F m)
    pub complete : (m : ℕ → ℕ) → GivesPowers p roots e₀ m → (over_field p pos (drop at e) ≡ prod_from (Series K) i r (F m)) × (sum_to i m ≡ at)

  pub finding-none : (e powers : List ℕ) → 1 ≤ length e → AllBelow p e → word e (length e - 1) ≡ 1 → Finding e 0 0 e powers
  finding-none e powers l b t = record {
    long = refl;
    high = l;
    below = b;
    top = t;
    low = λ l g. absurd (let z : ⊥ = omega arith in z);
    sum = sum_to-zero (word powers);
    sound = λ m _ h. h ∙ prod_from-zero (Series K) r (F m);
    complete = λ m G. (G.product pos ∙ sym (prod_from-zero (Series K) r (F m)), sum_to-zero m);
  }

  -- what is left after a root is not 0 there
  module _ (c at : ℕ) (e : List ℕ) (b : ℕ) (e' : List ℕ) (d : DividedOut p c at e b e') (one : word e (length e - 1) ≡ 1) where
    abbrev s : List ℕ
    s = drop b e'

    s-long : length s ≡ length e - b
    s-long = length-drop b e' ∙ ap (λ n. n - b) d.divided.long

    value : word (horner_words p c s) 0 ≢ 0
    value z = ⊎_elim (λ (l : suc b < length e). d.out l (sym (horner-words-at p c pos s 0) ∙ z)) (λ (l : length e ≤ suc b). last l) (lt-or-ge (suc b) (length e))
      where
        last : length e ≤ suc b → ⊥
        last l =
            let h = d.divided.high in
            let n = s-long in
            let k : b + 0 ≡ length e - 1 = omega arith in
            let w : word s 0 ≡ 1 = get_or-drop b e' 0 0 ∙ ap (word e') k ∙ d.divided.top ∙ one in
            let y : word (horner_words p c s) 0 ≡ word s 0 = horner-last p c s (drop-below p b e' d.divided.below) 0 (omega arith) in
            omega arith

    left-nonroot : eval K (q c) (length s) (over_field p pos s) ≢ K.𝟘
    left-nonroot z =
        let h = d.divided.high in
        let n = s-long in
        let lt : word (horner_words p c s) 0 < p = horner-below p pos c s 0 (let m = length-horner p c s in omega arith) in
        value (same-rem p pos lt pos (ap q (horner-words-at p c pos s 0) ∙ horner-poly p pos c (length s) (word s) 0 ∙ z ∙ sym (rem-zero p pos)))

  module _ (e₀ : List ℕ) (i at : ℕ) (e powers : List ℕ) (h : Finding e₀ i at e powers) (l : i < r) (b : ℕ) (e' : List ℕ) (d : DividedOut p (word roots i) at e b e') where
    one : word e (length e - 1) ≡ 1
    one = ap (λ n. word e (n - 1)) h.long ∙ h.top

    -- for all powers that there are, as often as was divided is the power of root i, and what is left are the others
    next : (m : ℕ → ℕ) → GivesPowers p roots e₀ m → (b - at ≡ m i) × (over_field p pos (drop b e') ≡ prod_from (Series K) (suc i) r (F m))
    next m G =
        multiplicity-field K (q (word roots i)) (Fp-field prime) (b - at) (m i) (length (drop b e')) _ (over_field p pos (drop b e')) (prod_from (Series K) (suc i) r (F m))
        (below-pol p pos (drop b e')) (at-zero-below K (r - suc i) (λ l. q (word roots (suc i + l))) (λ l. m (suc i + l)))
        (left-nonroot (word roots i) at e b e' d one)
        (at-zero-nonroot K (Fp-field prime) (r - suc i) (λ l. q (word roots (suc i + l))) (λ l. m (suc i + l)) (q (word roots i))
        (λ k g. rising-distinct (key prime) r (roots_of prime (word roots)) (roots-rising prime r (word roots) up reduced) i (suc i + k) (omega arith) (omega arith)) _
        (at-zero-below K (r - suc i) (λ l. q (word roots (suc i + l))) (λ l. m (suc i + l))))
        (sym (d.divided.product pos) ∙ (h.complete m G).0 ∙ prod_from-suc (Series K) i r (F m) l)

    pub finding-stops : b ≤ at → (ps : List ℕ) → FoundPowers p roots e₀ false ps
    finding-stops g ps = record {
      yes = λ z. true-false (sym z);
      no = λ _ m G. let z = (next m G).0 in let y = G.low i l in let w : ⊥ = omega arith in w;
    }

    pub finding-step : at < b → i < length powers → Finding e₀ (i + 1) b e' (set powers i (b - at))
    finding-step g n =
        let ps = set powers i (b - at) in
        let here : word ps i ≡ b - at = get_or-set_same powers i (b - at) 0 n in
        let before : (l : ℕ) → l < i → word ps l ≡ word powers l = λ l u. get_or-set_other powers i l (b - at) 0 (let z : l ≢ i = λ e. let y : ⊥ = omega arith in y in z) in
        record {
          long = d.divided.long ∙ h.long;
          high = let z = d.divided.high in let y = h.long in omega arith;
          below = d.divided.below;
          top = ap (λ n. word e' (n - 1)) (sym h.long) ∙ d.divided.top ∙ one;
          low = λ l u. ⊎_elim (λ (v : l < i). let z = h.low l v in let y = before l v in omega arith)
              (λ (v : i ≤ l). let k : l ≡ i = omega arith in let z : word ps l ≡ b - at = ap (word ps) k ∙ here in omega arith) (lt-or-ge l i);
          sum = ap (λ n. sum_to n (word ps)) (add-one i) ∙ sum_to-suc i (word ps) ∙ ap₂ ◌+◌ (sum_to-ext i before ∙ h.sum) here ∙ (let z : at + (b - at) ≡ b = omega arith in z);
          sound = λ m agree x. h.sound m (λ l u. agree l (omega arith) ∙ before l u)
              (d.divided.product pos ∙ ap₂ (λ n y. (Series K).mul (lin_pow K (q (word roots i)) n) y) (sym (agree i (omega arith) ∙ here)) (x ∙ ap (λ n. prod_from (Series K) n r (F m)) (add-one i))
              ∙ sym (prod_from-suc (Series K) i r (F m) l));
          complete = λ m G.
              let z = next m G in
              let y = z.0 in (
                z.1 ∙ ap (λ n. prod_from (Series K) n r (F m)) (sym (add-one i)),
                ap (λ n. sum_to n m) (add-one i) ∙ sum_to-suc i m ∙ ap₂ ◌+◌ (h.complete m G).1 (sym y) ∙ (let z : at + (b - at) ≡ b = omega arith in z),
              );
        }

  module _ (e₀ : List ℕ) (i at : ℕ) (e powers : List ℕ) (h : Finding e₀ i at e powers) (end : i ≡ r) where
    -- nothing is left but 1
    left_one : at + 1 ≡ length e₀ → over_field p pos (drop at e) ≡ prod_from (Series K) i r (F (word powers))
    left_one g =
        fun_ext (elim [
          | zero ↦ ap q (get_or-drop at e 0 0 ∙ ap (word e) (let z : at + 0 ≡ length e₀ - 1 = omega arith in z) ∙ h.top) ∙ rem-one p pos ∙ sym (ap (λ x. x zero) (one_at K))
          | suc t ↦ ap q (get_or-eq_default (drop at e) 0 (let n = h.long in omega (arith, length-drop at e))) ∙ rem-zero p pos ∙ sym (ap (λ x. x (suc t)) (one_at K))
        ])
        ∙ sym (ap (λ n. prod (Series K) n (λ l. F (word powers) (i + l))) (let z : r - i ≡ zero = omega arith in z) ∙ prod-zero (Series K) _)

    pub finding-ends : (found : Bool) → found ≡ eqb (at + 1) (length e₀) → FoundPowers p roots e₀ found powers
    finding-ends found f = record {
      yes = λ z.
          let g : at + 1 ≡ length e₀ = eqb-true (at + 1) (length e₀) (sym f ∙ z) in
          record {
            low = λ l u. h.low l (omega arith);
            sum = let s = h.sum in ap (λ n. suc (sum_to n (word powers))) (sym end) ∙ (let z : suc (sum_to i (word powers)) ≡ length e₀ = omega arith in z);
            product = λ pos'. product' pos' g;
          };
      no = λ z m G.
          let s = (h.complete m G).1 in
          let t : suc (sum_to i m) ≡ length e₀ = ap (λ n. suc (sum_to n m)) end ∙ G.sum in
          true-false (sym (eq-eqb (at + 1) (length e₀) (omega arith)) ∙ sym f ∙ z);
    }
      where
        product' : (pos' : zero < p) → at + 1 ≡ length e₀
            → over_field p pos' e₀ ≡ prod (Series (Fp p pos')) r (λ l. lin_pow (Fp p pos') (rem p pos' (word roots l)) (word powers l))
        product' pos' g = subst
            (λ (w : zero < p). over_field p w e₀ ≡ prod (Series (Fp p w)) r (λ l. lin_pow (Fp p w) (rem p w (word roots l)) (word powers l)))
            (le_prop (p-pos prime) pos') (h.sound (word powers) (λ l u. refl) (left_one g))

-- The same with the conditions on the roots inside, as a loop's invariant wants it.
pub record Searching (p : ℕ) (roots e₀ : List ℕ) (i at : ℕ) (e powers : List ℕ) : Type 0 where
  pub prime : Prime p
  pub reduced : AllBelow p roots
  pub up : (i : ℕ) → suc i < length roots → word roots i < word roots (suc i)
  pub finding : Finding prime roots reduced up e₀ i at e powers

pub searching-none : (p : ℕ) (roots e powers : List ℕ) → Prime p → AllBelow p roots → ((i : ℕ) → suc i < length roots → word roots i < word roots (suc i))
    → 1 ≤ length e → AllBelow p e → word e (length e - 1) ≡ 1 → Searching p roots e 0 0 e powers
searching-none p roots e powers prime reduced up l b t = record { prime = prime; reduced = reduced; up = up; finding = finding-none prime roots reduced up e powers l b t }

module _ (p : ℕ) (roots e₀ : List ℕ) (i at : ℕ) (e powers : List ℕ) (h : Searching p roots e₀ i at e powers) where
  pub searching-long : (length e ≡ length e₀) × (at < length e₀) × AllBelow p e
  searching-long = let f = h.finding in (f.long, f.high, f.below)

  pub searching-ends : i ≡ length roots → (found : Bool) → found ≡ eqb (at + 1) (length e₀) → FoundPowers p roots e₀ found powers
  searching-ends end found f = finding-ends h.prime roots h.reduced h.up e₀ i at e powers h.finding end found f

  module _ (l : i < length roots) (b : ℕ) (e' : List ℕ) (d : DividedOut p (word roots i) at e b e') where
    pub searching-stops : b ≤ at → (ps : List ℕ) → FoundPowers p roots e₀ false ps
    searching-stops = finding-stops h.prime roots h.reduced h.up e₀ i at e powers h.finding l b e' d

    pub searching-step : at < b → i < length powers → Searching p roots e₀ (i + 1) b e' (set powers i (b - at))
    searching-step g n = record {
      prime = h.prime;
      reduced = h.reduced;
      up = h.up;
      finding = finding-step h.prime roots h.reduced h.up e₀ i at e powers h.finding l b e' d g n;
    }
