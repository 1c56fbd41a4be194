-- The numbers below p: a commutative ring, and a field where p is prime.
-- Assumes nothing.
use Prim.Native.Nat.{ℕ, zero, suc, ◌+◌, ◌*◌, ◌-◌, ◌/◌, ◌%◌, ◌≤◌, ◌<◌, Fin}
use native.Mathlib.Nat.{mod-lt, mod-eq_of_lt, mod-mod, mod-add-mod, add-mod-mod, sub-add_cancel, div-add-mod', div-le_self, add-mul-mod_self_left, dvd_of_mod-eq-zero, pos_of_ne-zero, eq-or-lt_of_le}
use native.Mathlib.Omega.{arith}
use mathlib.Core.Path.{◌≡◌, sym, ◌∙◌, ap}
use mathlib.Core.Logic.{⊎_elim}
use Rattle.algebra.proofs.RingLaws.{IsField}
use Rattle.algebra.specs.Prime.{Prime}
use Rattle.algebra.specs.internal.Fp.{mod-mul-mod, mul-mod-mod, rem, Fp}

module _ (p : ℕ) (pos : zero < p) where
  -- rem keeps sums and products
  pub rem-add : (a b : ℕ) → (Fp p pos).add (rem p pos a) (rem p pos b) ≡ rem p pos (a + b)
  unfolding Fp
  rem-add a b = native.Mathlib.Fin.val_path (simp (mod-add-mod, add-mod-mod))

  pub rem-mul : (a b : ℕ) → (Fp p pos).mul (rem p pos a) (rem p pos b) ≡ rem p pos (a * b)
  unfolding Fp
  rem-mul a b = native.Mathlib.Fin.val_path (simp (mod-mul-mod, mul-mod-mod))

  pub rem-mod : (a : ℕ) → rem p pos (a % p) ≡ rem p pos a
  rem-mod a = native.Mathlib.Fin.val_path (mod-mod a p)

  pub rem-val : (a : Fin p) → rem p pos a.0 ≡ a
  rem-val a = native.Mathlib.Fin.val_path (mod-eq_of_lt a.1)

-- numbers below p are told apart by their value: the key that orders them
pub val-unique : {p : ℕ} (a b : Fin p) → a.0 ≡ b.0 → a ≡ b
val-unique a b e = native.Mathlib.Fin.val_path e

module _ {p : ℕ} (prime : Prime p) where
  abbrev Inverse : ℕ → Type 0
  Inverse a = (b : ℕ) × (a * b % p ≡ 1)

  -- the inverse of a from that of r = p % a: with p = q a + r and r s = 1 modulo p it is (p − q) s
  inverse-step : (a : ℕ) → 1 < a → a < p → ((r : ℕ) → zero < r → r < a → Inverse r) → Inverse a
  inverse-step a h g f =
      let q = p / a in
      let r = p % a in
      let (s, e) = f r (pos_of_ne-zero (λ z. prime.no-divisor a h g (dvd_of_mod-eq-zero a z))) (mod-lt p (omega arith)) in (
        (p - q) * s,
        sym (add-mul-mod_self_left (a * ((p - q) * s)) p s)
            ∙ ap (λ x. x % p) (omega (arith, ap (λ x. x * s) (div-add-mod' p a), ap (λ x. a * (x * s)) (sub-add_cancel (div-le_self p a))))
            ∙ add-mul-mod_self_left (r * s) p (a * s)
            ∙ e,
      )

  inverse-upto : (n a : ℕ) → a ≤ n → zero < a → a < p → Inverse a
  inverse-upto zero a l h g = absurd (let z : ⊥ = omega arith in z)
  inverse-upto (suc n) a l h g =
      ⊎_elim (λ e. (1, rw (← e) (mod-eq_of_lt prime.two-le))) (λ h₂. inverse-step a h₂ g (λ r hr lr. inverse-upto n r (omega arith) hr (omega arith)))
      (eq-or-lt_of_le h)

  pub p-pos : zero < p
  p-pos = let h = prime.two-le in omega arith

  pub Fp-field : IsField (Fp p p-pos)
  unfolding Fp
  Fp-field = record {
    nontrivial = λ e. let h : zero ≡ 1 = ap (λ x. x.0) e ∙ mod-eq_of_lt prime.two-le in omega arith;
    inverse = λ a ne.
        let (b, e) = inverse-upto a.0 a.0 (omega arith) (pos_of_ne-zero (λ z. ne (native.Mathlib.Fin.val_path z))) a.1 in
        (rem p p-pos b, native.Mathlib.Fin.val_path (mul-mod-mod a.0 b p ∙ e ∙ sym (mod-eq_of_lt prime.two-le)));
  }
