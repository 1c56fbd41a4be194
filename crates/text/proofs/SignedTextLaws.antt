-- Signed numbers on 32 bits, and their text.
--   Held x                               x is no larger than a modulus, with either sign
--   signed-held                          so is the signed number of an entry
--   signed-short                         its text has at most ten bytes
--   on_word x                             x, read back from the word of 32 bits that holds it
--   minus-fits, minus-cast, minus-text   where x is below 0: −x fits, it is cast, and its digits are put after a minus
--   plain-cast, plain-text               where it isn't: x is cast, and its digits are put
-- Assumes nothing.
use Prim.Native.Nat.{ℕ, zero, suc, ◌≤◌, ◌<◌}
use native.Mathlib.Omega.{arith}
use mathlib.Core.Path.{◌≡◌, refl, sym, ap, subst, ◌∙◌}
use mathlib.Core.Bool.{Bool, true, false}
use mathlib.Core.List.{◌++◌}
use borrow.Author.Tests.{ltb-true}
use lib.Dec.{T}
use lib.IntN.{ℤ, pos, negsuc, neg_ℤ, nat_abs, ◌-ℤ◌, +ℤ_idl}
use lib.Signed.{lt_z, non_neg}
use lib.ListN.{length}
use mir.Syntax.{w32}
use mir.Val.{to_z, of_z, SFits, Fits}
use mir.ValLaws.{to_z-of_z}
use Rattle.numbers.specs.Limits.{largest_modulus}
use Rattle.numbers.proofs.WordsLaws.{true-false}
use Rattle.signed.specs.Signed.{IsSigned}
use Rattle.text.specs.Decimal.{digits}
use Rattle.text.specs.Text.{bytes, signed_text}
use Rattle.text.proofs.DecimalLaws.{tens, digits-few}

abbrev pub Held : ℤ → Type 0
Held x = nat_abs x ≤ largest_modulus

pub signed-held : (p v : ℕ) (x : ℤ) → p ≤ largest_modulus → IsSigned p v x → Held x
signed-held p v (pos n) h e = let r = e.range in let z : n ≤ largest_modulus = omega arith in z
signed-held p v (negsuc n) h e = let r = e.range in let z : suc n ≤ largest_modulus = omega arith in z

held-digits : (n : ℕ) → n ≤ largest_modulus → length (digits n) ≤ 8
unfolding tens
held-digits n h = digits-few 7 n (omega arith)

pub signed-short : (x : ℤ) → Held x → length (signed_text x) ≤ 10
unfolding signed_text
signed-short (pos n) h = omega (arith, held-digits n h)
signed-short (negsuc n) h = omega (arith, held-digits (suc n) h)

held_fits : (x : ℤ) → Held x → SFits w32 x
held_fits (pos n) h = record { sfits = let z : n < 2147483648 = omega arith in z }
held_fits (negsuc n) h = record { sfits = let z : n < 2147483648 = omega arith in z }

held-neg : (x : ℤ) → Held x → Held (neg_ℤ x)
held-neg (pos zero) h = h
held-neg (pos (suc n)) h = h
held-neg (negsuc n) h = h

-- the cast and the text, below 0 and not below 0
minus_is : (x : ℤ) → Held x → lt_z x (pos 0) ≡ true → (T (non_neg (neg_ℤ x)) × Fits w32 (nat_abs (neg_ℤ x))) × (bytes "-" ++ digits (nat_abs (neg_ℤ x)) ≡ signed_text x)
unfolding signed_text
minus_is (pos n) h l = absurd (let z : n < 0 = ltb-true n 0 l in let y : ⊥ = omega arith in y)
minus_is (negsuc n) h l = ((tt, record { fits = let z : suc n < 4294967296 = omega arith in z }), refl)

plain-is : (x : ℤ) → Held x → lt_z x (pos 0) ≡ false → (T (non_neg x) × Fits w32 (nat_abs x)) × (digits (nat_abs x) ≡ signed_text x)
unfolding signed_text
plain-is (pos n) h l = ((tt, record { fits = let z : n < 4294967296 = omega arith in z }), refl)
plain-is (negsuc n) h l = true-false l

-- the same of what the code reads
abbrev pub on_word : ℤ → ℤ
on_word x = to_z w32 (of_z w32 x)

back : (x : ℤ) → Held x → on_word x ≡ x
back x h = to_z-of_z w32 x (held_fits x h)

module _ (x : ℤ) (h : Held x) where
  minus-back : pos 0 -ℤ on_word x ≡ neg_ℤ x
  minus-back = ap (λ y. pos 0 -ℤ y) (back x h) ∙ +ℤ_idl (neg_ℤ x)

  minus-read : on_word (pos 0 -ℤ on_word x) ≡ neg_ℤ x
  minus-read = ap on_word minus-back ∙ back (neg_ℤ x) (held-neg x h)

  test : {t : Bool} → lt_z (on_word x) (pos 0) ≡ t → lt_z x (pos 0) ≡ t
  test l = ap (λ y. lt_z y (pos 0)) (sym (back x h)) ∙ l

  pub minus-fits : SFits w32 (pos 0 -ℤ on_word x)
  minus-fits = subst (SFits w32) (sym minus-back) (held_fits (neg_ℤ x) (held-neg x h))

  pub minus-cast : lt_z (on_word x) (pos 0) ≡ true → T (non_neg (on_word (pos 0 -ℤ on_word x))) × Fits w32 (nat_abs (on_word (pos 0 -ℤ on_word x)))
  minus-cast l = subst (λ z. T (non_neg z) × Fits w32 (nat_abs z)) (sym minus-read) (minus_is x h (test l)).0

  pub minus-text : lt_z (on_word x) (pos 0) ≡ true → bytes "-" ++ digits (nat_abs (on_word (pos 0 -ℤ on_word x))) ≡ signed_text x
  minus-text l = ap (λ z. bytes "-" ++ digits (nat_abs z)) minus-read ∙ (minus_is x h (test l)).1

  pub plain-cast : lt_z (on_word x) (pos 0) ≡ false → T (non_neg (on_word x)) × Fits w32 (nat_abs (on_word x))
  plain-cast l = subst (λ z. T (non_neg z) × Fits w32 (nat_abs z)) (sym (back x h)) (plain-is x h (test l)).0

  pub plain-text : lt_z (on_word x) (pos 0) ≡ false → digits (nat_abs (on_word x)) ≡ signed_text x
  plain-text l = ap (λ z. digits (nat_abs z)) (back x h) ∙ (plain-is x h (test l)).1
