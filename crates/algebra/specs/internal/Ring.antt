-- Commutative rings: a record of operations and laws over a carrier. Only private contracts cite these.
--   CommRing     a commutative ring with 1 on a given carrier
--   pow a m      a · a · .. · a, m times
--   prod n F     F 0 · F 1 · .. · F (n − 1)
-- The record's laws stand again as lemmas, with the few that follow at once, so that the rulesets can list them: `ring` sorts sums and products, `units` knows
-- 0 and 1. Series are a ring by these; what else follows stands in proofs/RingLaws. Assumes nothing.
use Rattle.std.specs.Prelude.{ℕ, zero, suc, ◌≡◌}
use Rattle.std.proofs.Common.{◌∙◌, ap₂}

pub record CommRing (R : Type 0) : Type 0 where
  pub set : IsSet R
  pub 𝟘 : R
  pub 𝟙 : R
  pub add : R → R → R
  pub mul : R → R → R
  pub neg : R → R
  pub +_assoc : (a b c : R) → add (add a b) c ≡ add a (add b c)
  pub +_comm : (a b : R) → add a b ≡ add b a
  pub +-zero : (a : R) → add a 𝟘 ≡ a
  pub +-neg : (a : R) → add a (neg a) ≡ 𝟘
  pub *-assoc : (a b c : R) → mul (mul a b) c ≡ mul a (mul b c)
  pub *-comm : (a b : R) → mul a b ≡ mul b a
  pub *-one : (a : R) → mul a 𝟙 ≡ a
  pub *-add : (a b c : R) → mul a (add b c) ≡ add (mul a b) (mul a c)

module _ {R : Type 0} (𝓡 : CommRing R) where
  open 𝓡 use {𝟘, 𝟙, add as ◌+◌, mul as ◌*◌, neg}

  infixl 65 ◌+◌
  infixl 70 ◌*◌
  pub add_assoc : (a b c : R) → a + b + c ≡ a + (b + c)
  add_assoc = 𝓡.+_assoc

  pub add_comm : (a b : R) → a + b ≡ b + a
  add_comm = 𝓡.+_comm

  pub add-zero : (a : R) → a + 𝟘 ≡ a
  add-zero = 𝓡.+-zero

  pub add-neg : (a : R) → a + neg a ≡ 𝟘
  add-neg = 𝓡.+-neg

  pub mul_assoc : (a b c : R) → a * b * c ≡ a * (b * c)
  mul_assoc = 𝓡.*-assoc

  pub mul_comm : (a b : R) → a * b ≡ b * a
  mul_comm = 𝓡.*-comm

  pub mul-one : (a : R) → a * 𝟙 ≡ a
  mul-one = 𝓡.*-one

  pub mul-add : (a b c : R) → a * (b + c) ≡ a * b + a * c
  mul-add = 𝓡.*-add

  pub zero-add : (a : R) → 𝟘 + a ≡ a
  zero-add a = add_comm 𝟘 a ∙ add-zero a

  pub neg-add : (a : R) → neg a + a ≡ 𝟘
  neg-add a = add_comm (neg a) a ∙ add-neg a

  pub one-mul : (a : R) → 𝟙 * a ≡ a
  one-mul a = mul_comm 𝟙 a ∙ mul-one a

  pub add-mul : (a b c : R) → (a + b) * c ≡ a * c + b * c
  add-mul a b c = mul_comm (a + b) c ∙ mul-add c a b ∙ ap₂ ◌+◌ (mul_comm c a) (mul_comm c b)

  pub add_left_comm : (a b c : R) → a + (b + c) ≡ b + (a + c)
  add_left_comm a b c = cc (add_assoc a b c, add_assoc b a c, add_comm a b)

  pub mul_left_comm : (a b c : R) → a * (b * c) ≡ b * (a * c)
  mul_left_comm a b c = cc (mul_assoc a b c, mul_assoc b a c, mul_comm a b)

  pub add-neg-add : (a b : R) → a + (neg a + b) ≡ b
  add-neg-add a b = cc (add_assoc a (neg a) b, add-neg a, zero-add b)

  pub neg-add-add : (a b : R) → neg a + (a + b) ≡ b
  neg-add-add a b = cc (add_assoc (neg a) a b, neg-add a, zero-add b)

  pub add-cancel-left : (a : R) {b c : R} → a + b ≡ a + c → b ≡ c
  add-cancel-left a {b} {c} h = cc (neg-add-add a b, neg-add-add a c)

  pub add-cancel-right : (a : R) {b c : R} → b + a ≡ c + a → b ≡ c
  add-cancel-right a {b} {c} h = add-cancel-left a (cc (add_comm a b, add_comm a c))

  pub mul-zero : (a : R) → a * 𝟘 ≡ 𝟘
  mul-zero a = add-cancel-left (a * 𝟘) (cc (mul-add a 𝟘 𝟘, add-zero 𝟘, add-zero (a * 𝟘)))

  pub zero-mul : (a : R) → 𝟘 * a ≡ 𝟘
  zero-mul a = mul_comm 𝟘 a ∙ mul-zero a

  unfoldable pub pow : R → ℕ → R
  pow a zero = 𝟙
  pow a (suc m) = a * pow a m

  -- by recursion at the front: the first factor, and the product of the others
  unfoldable pub prod : ℕ → (ℕ → R) → R
  prod zero F = 𝟙
  prod (suc n) F = F zero * prod n (λ i. F (suc i))

pub ruleset ring = (mul-add, add-mul, add_assoc, add_comm, add_left_comm, mul_comm, mul_assoc, mul_left_comm)

pub ruleset units = (add-zero, zero-add, mul-zero, zero-mul, mul-one, one-mul)
