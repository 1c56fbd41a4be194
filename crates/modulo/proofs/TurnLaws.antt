-- One turn of the product modulo f.
--   turn-all          the end of the loop that writes it, from the last word down
--   turned-bound      its words stay small
--   turned-modulo     Y · s + c · b is the same modulo f
-- Assumes nothing.
use mathlib.Core.Path.{◌≡◌, refl, sym, ap, ap₂, subst, ◌∙◌, fun_ext}
use mathlib.Core.Logic.{⊎_elim}
use mathlib.Core.List.{List}
use Prim.Native.Nat.{ℕ, zero, suc, ◌+◌, ◌-◌, ◌*◌, ◌%◌, ◌≤◌, ◌<◌, Fin}
use native.Mathlib.Nat.{mod-lt, eq-or-lt_of_le}
use native.Mathlib.Omega.{arith}
use lib.ListN.{length, set}
use Rattle.algebra.specs.internal.Ring.{CommRing, ring, add-zero, mul-zero}
use Rattle.algebra.specs.internal.Series.{Series}
use Rattle.algebra.specs.internal.Poly.{const, lin, SameModulo}
use Rattle.algebra.specs.internal.Fp.{Fp, rem}
use Rattle.algebra.proofs.RingLaws.{minus}
use Rattle.algebra.proofs.SeriesLaws.{add_at}
use Rattle.algebra.proofs.PolyLaws.{const-mul, poly-const, y-mul-zero, y-mul-suc}
use Rattle.algebra.proofs.FpLaws.{rem-add, rem-mul, rem-mod}
use Rattle.algebra.proofs.BridgeLaws.{rem-zero, rem-one, neg-rem}
use Rattle.numbers.specs.Words.{word}
use Rattle.numbers.specs.internal.Facts.{AllBelow}
use Rattle.numbers.proofs.WordsLaws.{lt-or-ge, length-tabulate, word-tabulate, tabulate-below}
use Rattle.columns.proofs.ColumnLaws.{product-fits, Sinking, sinking-store, sinking-all}
use Rattle.columns.proofs.SolveLaws.{below-pol}
use Rattle.powers.specs.internal.Powers.{over_field}
use Rattle.modulo.specs.internal.Modulo.{before, turned, turned_at, ModulusOf}

-- 2^57: two products that a turn adds stay below it
abbrev pub two_products : ℕ
two_products = 144115188075855872

module _ (p : ℕ) (f : List ℕ) (c : ℕ) (b s : List ℕ) where
  abbrev q : ℕ
  q = word s (length s - 1) % p

  pub turn-all : (e : List ℕ) (j x r : ℕ) → Sinking (turned_at p f c b s) s e j → j ≡ 1 → 1 ≤ length s → x ≡ q
      → r ≡ 0 + (p - word f 0) * x + c * word b 0 → set e 0 r ≡ turned p f c b s
  unfolding turned
  turn-all e j x r w z l ex er =
      sinking-all (turned_at p f c b s) s (set e 0 r) 0
      (sinking-store (turned_at p f c b s) s e 1 r (subst (Sinking (turned_at p f c b s) s e) z w) (omega arith) l
      (er ∙ ap (λ y. 0 + (p - word f 0) * y + c * word b 0) ex)) refl

  pub turned-long : length (turned p f c b s) ≡ length s
  unfolding turned
  turned-long = length-tabulate (length s) _

  pub turned-bound : (B : ℕ) → ModulusOf p f (length s) → c < p → length b ≡ length s → AllBelow p b → AllBelow B s → 1 ≤ B
      → AllBelow (B + two_products) (turned p f c b s)
  unfolding turned
  turned-bound B h lc nb bb bs one = tabulate-below (B + two_products) (length s) (turned_at p f c b s) (λ j l.
      let pos = h.positive in
      let small = h.small in
      let x = prior j l in
      let y = bb j (omega arith) in
      let m = mod-lt (word s (length s - 1)) {m = p} pos in
      let k = product-fits (p - word f j) q (omega arith) (omega arith) in
      omega (arith, product-fits c (word b j) (omega arith) (omega arith)))
    where
      prior : (j : ℕ) → j < length s → before s j < B
      prior zero l = one
      prior (suc j) l = bs j (omega arith)

-- the identities, over ring variables
module _ {S : Type 0} (𝓢 : CommRing S) where
  open 𝓢 use {𝟘, 𝟙, add as ◌⊹◌, mul as ◌·◌, neg}

  infixl 65 ◌⊹◌
  infixl 70 ◌·◌
  word-identity : (e x f t : S) → e ⊹ t ≡ e ⊹ neg f · x ⊹ t ⊹ x · f
  word-identity e x f t = simp (ring, minus)

  top-identity : (x : S) → x ⊹ neg 𝟙 · x ≡ 𝟘
  top-identity x = simp minus

  past-identity : (x : S) → 𝟘 ⊹ neg 𝟘 · x ≡ 𝟘
  past-identity x = simp minus

module _ (p : ℕ) (pos : zero < p) (f : List ℕ) (c : ℕ) (b s : List ℕ) (h : ModulusOf p f (length s)) (nb : length b ≡ length s) where
  abbrev K : CommRing (Fin p)
  K = Fp p pos

  abbrev r : ℕ → Fin p
  r = rem p pos

  abbrev pol : List ℕ → ℕ → Fin p
  pol = over_field p pos

  open K use {𝟘, add as ◌⊹◌, mul as ◌·◌, neg}
  open Series K use {add as ◌⊕◌, mul as ◌⊛◌}

  infixl 65 ◌⊹◌
  infixl 70 ◌·◌
  infixl 65 ◌⊕◌
  infixl 70 ◌⊛◌
  abbrev x : Fin p
  x = r (word s (length s - 1))

  shifted_at : (j : ℕ) → (lin K 𝟘 ⊛ pol s) j ≡ r (before s j)
  shifted_at zero = y-mul-zero K (pol s) ∙ sym (rem-zero p pos)
  shifted_at (suc j) = y-mul-suc K (pol s) j

  low : (j : ℕ) → j < length s → pol (turned p f c b s) j ≡ r (before s j) ⊹ neg (r (word f j)) · x ⊹ r c · r (word b j)
  unfolding turned
  low j l =
      let n = h.long in
      ap r (word-tabulate (length s) (turned_at p f c b s) j l)
      ∙ sym (rem-add p pos (before s j + (p - word f j) * (word s (length s - 1) % p)) (c * word b j))
      ∙ ap₂ ◌⊹◌ (sym (rem-add p pos (before s j) ((p - word f j) * (word s (length s - 1) % p)))
      ∙ ap (λ y. r (before s j) ⊹ y) (sym (rem-mul p pos (p - word f j) (word s (length s - 1) % p))
      ∙ ap₂ ◌·◌ (sym (neg-rem p pos (word f j) (h.below j (omega arith)))) (rem-mod p pos (word s (length s - 1)))))
      (sym (rem-mul p pos c (word b j)))

  -- past the last word Y · s is the multiple of f that is taken off
  lead : (j : ℕ) → length s ≤ j → r (before s j) ⊹ neg (r (word f j)) · x ≡ 𝟘
  lead zero l = absurd (let z = h.some in let y : ⊥ = omega arith in y)
  lead (suc j) l =
      let n = h.long in
      ⊎_elim
      (λ (e : length s ≡ suc j). ap₂ (λ u v. u ⊹ neg v · x) (ap (λ i. r (word s i)) (let z : j ≡ length s - 1 = omega arith in z))
      (ap r (ap (word f) (sym e) ∙ h.top) ∙ rem-one p pos) ∙ top-identity K x)
      (λ (g : length s < suc j). ap₂ (λ u v. u ⊹ neg v · x) (below-pol p pos s j (omega arith)) (below-pol p pos f (suc j) (omega arith)) ∙ past-identity K x)
      (eq-or-lt_of_le l)

  turned-at : (j : ℕ) → pol (turned p f c b s) j ≡ r (before s j) ⊹ neg (r (word f j)) · x ⊹ r c · r (word b j)
  turned-at j =
      ⊎_elim (low j)
      (λ (l : length s ≤ j). below-pol p pos (turned p f c b s) j (let z = turned-long p f c b s in omega arith)
      ∙ sym (ap₂ ◌⊹◌ (lead j l) (ap (λ y. r c · y) (below-pol p pos b j (omega arith)) ∙ mul-zero K (r c)) ∙ add-zero K 𝟘))
      (lt-or-ge j (length s))

  pub turned-modulo : SameModulo K (pol f) (lin K 𝟘 ⊛ pol s ⊕ const K (r c) ⊛ pol b) (pol (turned p f c b s))
  turned-modulo = record {
    quotient = const K x;
    bounded = poly-const K x;
    same = fun_ext (λ j.
        add_at K (lin K 𝟘 ⊛ pol s) (const K (r c) ⊛ pol b) j ∙ ap₂ ◌⊹◌ (shifted_at j) (const-mul K (r c) (pol b) j)
        ∙ word-identity K (r (before s j)) x (r (word f j)) (r c · r (word b j))
        ∙ sym (add_at K (pol (turned p f c b s)) (const K x ⊛ pol f) j ∙ ap₂ ◌⊹◌ (turned-at j) (const-mul K x (pol f) j)));
  }
