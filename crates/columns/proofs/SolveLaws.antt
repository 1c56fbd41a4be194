-- A digit divides by Y − c, over the numbers below p; and what a column of a product is made of.
-- Assumes nothing.
use mathlib.Core.Path.{◌≡◌, sym, ap, ap₂, fun_ext, ◌∙◌}
use mathlib.Core.List.{List, ◌∷◌}
use Prim.Native.Nat.{ℕ, zero, suc, ◌+◌, ◌-◌, ◌*◌, ◌%◌, ◌≤◌, ◌<◌, Fin}
use native.Mathlib.Nat.{mod-eq_of_lt, mul_comm}
use native.Mathlib.Numerals.{add-one}
use native.Mathlib.Omega.{arith}
use lib.ListN.{length, drop, get_or-eq_default}
use lib.Seq.{get_or-drop}
use Rattle.algebra.specs.Sums.{sum_to}
use Rattle.algebra.proofs.SumsLaws.{sum_to-suc, sum_to-front, sum_to-ext, sum_to-add, sum_to-reverse}
use Rattle.algebra.specs.internal.Ring.{CommRing, ring, add_comm, add-zero, zero-add, neg-add, mul_assoc, mul-one}
use Rattle.algebra.specs.internal.Series.{Series, tail}
use Rattle.algebra.proofs.SeriesLaws.{add_at, neg-at}
use Rattle.algebra.specs.internal.Poly.{const, lin}
use Rattle.algebra.proofs.PolyLaws.{const-const, Below, horner, horner-zero, horner-suc, div, const-coeff-zero, const-coeff-suc, const-mul, lin-mul-zero, lin-mul-suc}
use Rattle.algebra.specs.internal.Fp.{Fp, rem}
use Rattle.algebra.proofs.FpLaws.{rem-add, rem-mul, rem-mod}
use Rattle.algebra.proofs.BridgeLaws.{rem-eq, rem-zero, rem-one, neg-rem, sub-rem}
use Rattle.numbers.specs.Words.{word}
use Rattle.rows.specs.Rows.{mul}
use Rattle.rows.specs.internal.Passes.{pass_sum}
use Rattle.columns.specs.internal.Column.{horner_word, horner_words, less_multiple, digit_of, digit_words, line_times, times}
use Rattle.columns.proofs.ColumnLaws.{horner-word-suc, horner-word-none, horner-words-at, line-words-at, less-words-at, length_rest, digit-words}

-- the identity behind a digit, over ring variables
module _ {S : Type 0} (𝓢 : CommRing S) where
  open 𝓢 use {add as ◌+ₛ◌, mul as ◌*ₛ◌, neg}

  infixl 65 ◌+ₛ◌
  infixl 70 ◌*ₛ◌
  regroup : (d v l a r x : S) → d *ₛ v +ₛ l *ₛ (r +ₛ (x +ₛ d *ₛ a)) ≡ d *ₛ (v +ₛ l *ₛ a) +ₛ l *ₛ (r +ₛ x)
  regroup d v l a r x = simp ring

  step : (d v l a r : S) → d *ₛ v +ₛ l *ₛ r ≡ d *ₛ (v +ₛ l *ₛ a) +ₛ l *ₛ (r +ₛ neg (d *ₛ a))
  step d v l a r =
      ap (λ y. d *ₛ v +ₛ l *ₛ y) (sym (ap (λ y. r +ₛ y) (neg-add 𝓢 (d *ₛ a)) ∙ add-zero 𝓢 r)) ∙ regroup d v l a r (neg (d *ₛ a))

-- Words as polynomials over the numbers below p
module _ (p : ℕ) (pos : zero < p) where
  abbrev K : CommRing (Fin p)
  K = Fp p pos

  abbrev q : ℕ → Fin p
  q = rem p pos

  open K use {𝟙, add as ◌⊹◌, mul as ◌·◌, neg}
  open Series K use {add as ◌⊕◌, mul as ◌⊛◌, neg as ⊖}

  infixl 65 ◌⊹◌
  infixl 70 ◌·◌
  infixl 65 ◌⊕◌
  infixl 70 ◌⊛◌
  -- the coefficients a 0, a 1, .., modulo p
  abbrev pub poly : (ℕ → ℕ) → ℕ → Fin p
  poly a j = q (a j)

  -- the words of s as coefficients
  abbrev pub pol : List ℕ → ℕ → Fin p
  pol s = poly (word s)

  pub below-pol : (s : List ℕ) → Below K (length s) (pol s)
  below-pol s j l = ap q (get_or-eq_default s 0 l) ∙ rem-zero p pos

  pol-tail : (s : List ℕ) → tail (pol s) ≡ pol (drop 1 s)
  pol-tail s = fun_ext (λ j. ap q (ap (word s) (let e : suc j ≡ 1 + j = omega arith in e) ∙ sym (get_or-drop 1 s j 0)))

  -- Horner's scheme on words is Horner's scheme over the numbers below p
  pub horner-poly : (c n : ℕ) (b : ℕ → ℕ) (t : ℕ) → q (horner_word p c n b t) ≡ horner K (q c) n (poly b) t
  horner-poly c zero b t = ap q (horner-word-none p c b t) ∙ rem-zero p pos ∙ sym (horner-zero K (q c) (poly b) t)
  horner-poly c (suc n) b t =
      ap q (horner-word-suc p c n b t) ∙ rem-mod p pos _ ∙ sym (rem-add p pos (b t) (c * horner_word p c n b (suc t)))
      ∙ ap (λ x. q (b t) ⊹ x) (sym (rem-mul p pos c (horner_word p c n b (suc t))) ∙ ap (λ x. q c · x) (horner-poly c n b (suc t)))
      ∙ sym (horner-suc K (q c) n (poly b) t)

  pol-horner : (c : ℕ) (e : List ℕ) → horner K (q c) (length e) (pol e) ≡ pol (horner_words p c e)
  pol-horner c e = fun_ext (λ t. sym (ap q (horner-words-at p c pos e t) ∙ horner-poly c (length e) (word e) t))

  -- so its words are the division by Y − c
  pub pol-div : (c : ℕ) (e : List ℕ) → pol e ≡ const K (q (word (horner_words p c e) 0)) ⊕ lin K (q c) ⊛ pol (drop 1 (horner_words p c e))
  pol-div c e =
      div K (q c) (length e) (pol e) (below-pol e)
      ∙ ap (λ x. const K (x zero) ⊕ lin K (q c) ⊛ tail x) (pol-horner c e)
      ∙ ap (λ x. const K (q (word (horner_words p c e) 0)) ⊕ lin K (q c) ⊛ x) (pol-tail (horner_words p c e))

  -- e − d · a
  pub pol-less : (d : ℕ) (a e : List ℕ) → length a ≤ length e → pol (less_multiple p d a e) ≡ pol e ⊕ ⊖ (const K (q d) ⊛ pol a)
  pol-less d a e h = fun_ext (λ j.
      (rem-eq p pos _ _).1 (less-words-at p pos d a e h j) ∙ rem-mod p pos _ ∙ sub-rem p pos (word e j) (d * word a j)
      ∙ ap (λ x. q (word e j) ⊹ neg x) (sym (rem-mul p pos d (word a j)))
      ∙ sym (add_at K (pol e) (⊖ (const K (q d) ⊛ pol a)) j ∙ ap (λ x. q (word e j) ⊹ x) (neg-at K (const K (q d) ⊛ pol a) j ∙ ap neg (const-mul K (q d) (pol a) j))))

  -- a word of d + (Y − c) · r
  line-rem : (c x y : ℕ) → c < p → q ((x + (p - c) * y) % p) ≡ q x ⊹ neg (q c) · q y
  line-rem c x y h =
      rem-mod p pos _ ∙ sym (rem-add p pos x ((p - c) * y))
      ∙ ap (λ u. q x ⊹ u) (sym (rem-mul p pos (p - c) y) ∙ ap (λ u. u · q y) (sym (neg-rem p pos c h)))

  pub pol-line : (c : ℕ) → c < p → (d : ℕ) (r : List ℕ) → pol (line_times p c (d ∷ r)) ≡ const K (q d) ⊕ lin K (q c) ⊛ pol r
  pol-line c h d r = fun_ext (elim [
    | zero ↦ ap q (line-words-at p c pos (d ∷ r) 0) ∙ line-rem c d (word r 0) h
        ∙ sym (add_at K (const K (q d)) (lin K (q c) ⊛ pol r) zero ∙ ap₂ ◌⊹◌ (const-coeff-zero K (q d)) (lin-mul-zero K (q c) (pol r)))
    | suc t ↦ ap q (line-words-at p c pos (d ∷ r) (suc t)) ∙ ap (λ k. q ((word r t + (p - c) * word (d ∷ r) k) % p)) (add-one (suc t))
        ∙ line-rem c (word r t) (word r (suc t)) h ∙ add_comm K (q (word r t)) (neg (q c) · q (word r (suc t)))
        ∙ sym (add_at K (const K (q d)) (lin K (q c) ⊛ pol r) (suc t) ∙ ap₂ ◌⊹◌ (const-coeff-suc K (q d) t) (lin-mul-suc K (q c) (pol r) t) ∙ zero-add K _)
  ])

  -- A digit of E: E = q · A + (Y − c) · B, where w is 1 / A(c) and a the quotient of A by Y − c.
  pub digit-divides : (c : ℕ) (A : List ℕ) (w : ℕ) (E : List ℕ) → 1 < p → length A ≤ length E → w * word (horner_words p c A) 0 % p ≡ 1
      → (a : List ℕ) → a ≡ drop 1 (horner_words p c A)
      → pol E ≡ const K (q (word (digit_words p c w a E) 0)) ⊛ pol A ⊕ lin K (q c) ⊛ pol (drop 1 (digit_words p c w a E))
  digit-divides c A w E one room unit a is =
      let d = digit_of p c w E in
      let v = word (horner_words p c A) 0 in
      let x = word (horner_words p c E) 0 in
      let r = drop 1 (horner_words p c E) in
      let fits : length a ≤ length r = omega (arith, ap length is, length_rest p c A, length_rest p c E) in
      let inverse : q (w * v) ≡ 𝟙 = (rem-eq p pos (w * v) 1).1 (unit ∙ sym (mod-eq_of_lt one)) ∙ rem-one p pos in
      let value : q d · q v ≡ q x =
      ap (λ y. y · q v) (rem-mod p pos (x * w) ∙ sym (rem-mul p pos x w)) ∙ mul_assoc K (q x) (q w) (q v)
      ∙ ap (λ y. q x · y) (rem-mul p pos w v ∙ inverse) ∙ mul-one K (q x) in
      pol-div c E
      ∙ ap (λ y. y ⊕ lin K (q c) ⊛ pol r) (ap (const K) (sym value) ∙ sym (const-const K (q d) (q v)))
      ∙ step (Series K) (const K (q d)) (const K (q v)) (lin K (q c)) (pol a) (pol r)
      ∙ ap₂ (λ y z. const K (q d) ⊛ y ⊕ lin K (q c) ⊛ z)
      (ap (λ s. const K (q v) ⊕ lin K (q c) ⊛ pol s) is ∙ sym (pol-div c A)) (sym (pol-less d a r fits))
      ∙ ap (λ s. const K (q (word s 0)) ⊛ pol A ⊕ lin K (q c) ⊛ pol (drop 1 s)) (sym (digit-words p c w a E))

-- the inner sum of a product's coefficient without its first and last summand
inner-middle : (u : ℕ) (a b : ℕ → ℕ) → sum_to (suc (suc u)) (λ s. a s * b (suc u - s))
    ≡ sum_to u (λ s. a (1 + s) * b (1 + (u - (s + 1)))) + a 0 * b (suc u) + a (suc u) * b 0
inner-middle u a b =
    let e₀ : suc u - suc u ≡ 0 = omega arith in
    let e₁ : suc u - 0 ≡ suc u = omega arith in
    omega (
      arith,
      sum_to-suc (suc u) (λ s. a s * b (suc u - s)),
      sum_to-front u (λ s. a s * b (suc u - s)),
      ap (λ n. a (suc u) * b n) e₀,
      ap (λ n. a 0 * b n) e₁,
      sum_to-ext u {f = λ s. a (suc s) * b (suc u - suc s)} {g = λ s. a (1 + s) * b (1 + (u - (s + 1)))} (λ s l.
          ap₂ (λ x y. a x * b y) (let e : suc s ≡ 1 + s = omega arith in e) (let e : suc u - suc s ≡ 1 + (u - (s + 1)) = omega arith in e)),
    )

-- The product's column t, t ≥ 1: the products with column 0 of either factor, and those between.
pub mul-middle : (p : ℕ) (P A : ℕ → ℕ → ℕ) (j t : ℕ) → 1 ≤ t
    → mul p P A j t ≡ (pass_sum P A j 1 (t - 1) + times (λ i. P i 0) (λ i. A i t) j + times (λ i. P i t) (λ i. A i 0) j) % p
unfolding mul pass_sum
mul-middle p P A j zero h = absurd (let z : ⊥ = omega arith in z)
mul-middle p P A j (suc u) h =
    let k : u ≡ suc u - 1 = omega arith in
    ap (λ x. x % p)
    (sum_to-ext (suc j) (λ i l. inner-middle u (P i) (A (j - i)))
    ∙ sum_to-add (suc j) (λ i. sum_to u (λ s. P i (1 + s) * A (j - i) (1 + (u - (s + 1)))) + P i 0 * A (j - i) (suc u)) (λ i. P i (suc u) * A (j - i) 0)
    ∙ ap (λ x. x + times (λ i. P i (suc u)) (λ i. A i 0) j)
    (sum_to-add (suc j) (λ i. sum_to u (λ s. P i (1 + s) * A (j - i) (1 + (u - (s + 1))))) (λ i. P i 0 * A (j - i) (suc u))
    ∙ ap (λ n. sum_to (suc j) (λ i. sum_to n (λ s. P i (1 + s) * A (j - i) (1 + (n - (s + 1))))) + times (λ i. P i 0) (λ i. A i (suc u)) j) k))

-- Sums of products that agree in the columns and rows which they read are equal.
pub pass-ext : {P P' A A' : ℕ → ℕ → ℕ} (j skip count : ℕ)
    → ((i s : ℕ) → i ≤ j → skip ≤ s → s < skip + count → P i s ≡ P' i s) → ((i s : ℕ) → i ≤ j → skip ≤ s → s < skip + count → A i s ≡ A' i s)
    → pass_sum P A j skip count ≡ pass_sum P' A' j skip count
unfolding pass_sum
pass-ext {P} {P'} {A} {A'} j skip count f g =
    sum_to-ext (suc j) (λ i l. sum_to-ext count (λ s r. ap₂ (λ x y. x * y) (f i (skip + s) (omega arith) (omega arith) (omega arith))
    (g (j - i) (skip + (count - (s + 1))) (omega arith) (omega arith) (omega arith))))

-- They are the same with the factors exchanged.
pub pass-turn : (P A : ℕ → ℕ → ℕ) (j skip count : ℕ) → pass_sum P A j skip count ≡ pass_sum A P j skip count
unfolding pass_sum
pass-turn P A j skip count =
    sum_to-reverse (suc j) _
    ∙ sum_to-ext (suc j) (λ i l.
    let e : suc j - (i + 1) ≡ j - i = omega arith in
    let d : j - (suc j - (i + 1)) ≡ i = omega arith in
    sum_to-reverse count _
    ∙ sum_to-ext count (λ s g.
    let u : count - (count - (s + 1) + 1) ≡ s = omega arith in
    ap₂ ◌*◌ (ap (λ x. P x (skip + (count - (s + 1)))) e) (ap₂ (λ x y. A x (skip + y)) d u) ∙ mul_comm (P (j - i) (skip + (count - (s + 1)))) (A i (skip + s))))
