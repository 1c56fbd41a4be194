-- The numbers below p as a commutative ring. Only private contracts cite these.
--   rem p pos n    n modulo p, as a number below p
--   Fp p pos       the ring of the numbers below p; the two laws before it are part of what makes it one
--   col p pos a    a given by rows of numbers (a j t at Y^j X^t), as columns over the numbers below p
-- Assumes nothing.
use Prim.Native.Nat.{ℕ, zero, ◌+◌, ◌*◌, ◌-◌, ◌/◌, ◌%◌, ◌<◌, Fin}
use Rattle.std.proofs.Common.{add_assoc, add_comm, add-zero, mul_assoc, mul_comm, mul-one, mul-add, mod-lt, mod-eq_of_lt, add-sub_of_le, le_of_lt, arith, sym, ◌∙◌, ap}
use Rattle.std.proofs.Math.Nat.{mod_self, mod-add-mod, add-mod-mod, mod-add-div', add-mul-mod_self_right}
use Rattle.std.proofs.Math.Decide.{Fin-discrete}
use Rattle.std.specs.Prelude.{◌≡◌}
use mathlib.Core.HLevel.{hedberg}
use Rattle.algebra.specs.internal.Ring.{CommRing}

pub mod-mul-mod : (a b m : ℕ) → a % m * b % m ≡ a * b % m
mod-mul-mod a b m =
    sym (add-mul-mod_self_right (a % m * b) (a / m * b) m)
    ∙ ap (λ x. x % m) (omega (arith, ap (λ x. x * b) (mod-add-div' a m)))

pub mul-mod-mod : (a b m : ℕ) → a * (b % m) % m ≡ a * b % m
mul-mod-mod a b m = ap (λ x. x % m) (mul_comm a (b % m)) ∙ mod-mul-mod b a m ∙ ap (λ x. x % m) (mul_comm b a)

module _ (p : ℕ) (pos : zero < p) where
  abbrev pub rem : ℕ → Fin p
  rem n = (n % p, mod-lt n pos)

  unfoldable pub Fp : CommRing (Fin p)
  Fp = record {
    set = hedberg (Fin-discrete p);
    𝟘 = (zero, pos);
    𝟙 = rem 1;
    add = λ a b. rem (a.0 + b.0);
    mul = λ a b. rem (a.0 * b.0);
    neg = λ a. rem (p - a.0);
    +_assoc = λ a b c. native.Mathlib.Fin.val_path (simp (mod-add-mod, add-mod-mod, add_assoc));
    +_comm = λ a b. native.Mathlib.Fin.val_path (ap (λ x. x % p) (add_comm a.0 b.0));
    +-zero = λ a. native.Mathlib.Fin.val_path (ap (λ x. x % p) (add-zero a.0) ∙ mod-eq_of_lt a.1);
    +-neg = λ a. native.Mathlib.Fin.val_path (add-mod-mod a.0 (p - a.0) p ∙ ap (λ x. x % p) (add-sub_of_le (le_of_lt a.1)) ∙ mod_self p);
    *-assoc = λ a b c. native.Mathlib.Fin.val_path (simp (mod-mul-mod, mul-mod-mod, mul_assoc));
    *-comm = λ a b. native.Mathlib.Fin.val_path (ap (λ x. x % p) (mul_comm a.0 b.0));
    *-one = λ a. native.Mathlib.Fin.val_path (mul-mod-mod a.0 1 p ∙ ap (λ x. x % p) (mul-one a.0) ∙ mod-eq_of_lt a.1);
    *-add = λ a b c. native.Mathlib.Fin.val_path (simp (mul-mod-mod, mod-add-mod, add-mod-mod, mul-add));
  }

  abbrev pub col : (ℕ → ℕ → ℕ) → ℕ → ℕ → Fin p
  col a t j = rem (a j t)
