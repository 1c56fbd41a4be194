-- The signed number of v: there is exactly one, and the code's is it.
--   signed_low, signed_high   signed_of, by where v stands
--   signed_is, signed-only    it is a signed number of v, and there is no other
--   signed-one                so
--   held, minus-fits, minus_is   what the code computes on 32 bits
-- Assumes nothing.
use Prim.Native.Nat.{ℕ, zero, suc, ◌+◌, ◌-◌, ◌*◌, ◌≤◌, ◌<◌, ◌%◌}
use native.Mathlib.Nat.{mod-eq_of_lt, mod_self, add-mod_right}
use native.Mathlib.Omega.{arith}
use mathlib.Core.Path.{◌≡◌, refl, sym, ◌∙◌, ap, subst}
use mathlib.Core.Logic.{⊎_elim}
use borrow.Author.Tests.{le-leb, lt-leb, lt-ltb}
use lib.IntN.{ℤ, pos, negsuc, neg_ℤ, ◌-ℤ◌, +ℤ_idl}
use mir.Syntax.{w32}
use mir.Val.{to_z, of_z, SFits}
use mir.ValLaws.{to_z-of_z}
use Rattle.numbers.specs.One.{TheOne}
use Rattle.numbers.proofs.WordsLaws.{lt-or-ge}
use Rattle.signed.specs.Signed.{IsSigned, signed_of}

pub signed_low : (p v : ℕ) → 2 * v ≤ p → signed_of p v ≡ pos v
signed_low p v h = simp (le-leb (2 * v) p h)

pub signed_high : (p v : ℕ) → p < 2 * v → signed_of p v ≡ neg_ℤ (pos (p - v))
signed_high p v h = simp (lt-leb (2 * v) p h)

-- −n, for n from 1 on
minus-suc : (n : ℕ) → 1 ≤ n → neg_ℤ (pos n) ≡ negsuc (n - 1)
minus-suc zero l = absurd (let z : ⊥ = omega arith in z)
minus-suc (suc n) l = ap negsuc (let z : n ≡ suc n - 1 = omega arith in z)

pub signed_is : (p v : ℕ) → v < p → IsSigned p v (signed_of p v)
signed_is p v l =
    ⊎_elim
    (λ (g : p < 2 * v).
    let e : signed_of p v ≡ negsuc (p - v - 1) = signed_high p v g ∙ minus-suc (p - v) (omega arith) in
    subst (IsSigned p v) (sym e) (record { range = omega arith; congruent = ap (λ (x : ℕ). x % p) (let z : v + suc (p - v - 1) ≡ p = omega arith in z) ∙ mod_self p }))
    (λ (g : 2 * v ≤ p). subst (IsSigned p v) (sym (signed_low p v g)) (record { range = omega arith; congruent = refl }))
    (lt-or-ge p (2 * v))

pub signed-only : (p v : ℕ) (x : ℤ) → v < p → IsSigned p v x → x ≡ signed_of p v
signed-only p v (pos n) l h =
    let r = h.range in
    let e : n ≡ v = sym (mod-eq_of_lt (let z : n < p = omega arith in z)) ∙ h.congruent ∙ mod-eq_of_lt l in
    ap pos e ∙ sym (signed_low p v (omega arith))
signed-only p v (negsuc n) l h =
    let r = h.range in
    let e : v + suc n ≡ p = ⊎_elim
    (λ (g : v + suc n < p). absurd (let z = sym (mod-eq_of_lt g) ∙ h.congruent in let y : ⊥ = omega arith in y))
    (λ (g : p ≤ v + suc n).
    let a : (v + suc n - p + p) % p ≡ v + suc n - p = add-mod_right (v + suc n - p) p ∙ mod-eq_of_lt (omega arith) in
    let b : v + suc n - p + p ≡ v + suc n = omega arith in
    let d : v + suc n - p ≡ 0 = sym a ∙ ap (λ (x : ℕ). x % p) b ∙ h.congruent in
    omega arith)
    (lt-or-ge (v + suc n) p) in
    ap negsuc (let z : n ≡ p - v - 1 = omega arith in z) ∙ sym (minus-suc (p - v) (omega arith)) ∙ sym (signed_high p v (omega arith))

pub signed-one : (p v : ℕ) → v < p → TheOne (IsSigned p v) (signed_of p v)
signed-one p v l = record { is = signed_is p v l; only = λ x h. signed-only p v x l h }

-- on 32 bits
pub to_pos : (n : ℕ) → n < 2147483648 → to_z w32 n ≡ pos n
to_pos n l = simp (lt-ltb n 2147483648 l)

minus-word : (n : ℕ) → n < 2147483648 → pos 0 -ℤ to_z w32 n ≡ neg_ℤ (pos n)
minus-word n l = ap (λ x. pos 0 -ℤ x) (to_pos n l) ∙ +ℤ_idl (neg_ℤ (pos n))

neg-fits : (n : ℕ) → n < 2147483648 → SFits w32 (neg_ℤ (pos n))
neg-fits zero l = record { sfits = omega arith }
neg-fits (suc n) l = record { sfits = let z : n < 2147483648 = omega arith in z }

pub minus-fits : (n : ℕ) → n < 2147483648 → SFits w32 (pos 0 -ℤ to_z w32 n)
minus-fits n l = subst (SFits w32) (sym (minus-word n l)) (neg-fits n l)

pub minus_is : (n : ℕ) → n < 2147483648 → to_z w32 (of_z w32 (pos 0 -ℤ to_z w32 n)) ≡ neg_ℤ (pos n)
minus_is n l = to_z-of_z w32 (pos 0 -ℤ to_z w32 n) (minus-fits n l) ∙ minus-word n l
