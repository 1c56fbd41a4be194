-- Power series over a commutative ring: functions of the index, with the product by recursion on it. They are a commutative ring again. Only private
-- contracts cite these.
--   tail a      the series without its first coefficient
--   cons x a    x, and then the coefficients of a
--   conv a b    the product: coefficient t is a 0 · b t + .. + a t · b 0
--   Series      the ring of power series; the laws before it are what makes it one
-- Assumes nothing.
use Rattle.std.specs.Prelude.{ℕ, zero, suc, ◌≡◌}
use Rattle.std.proofs.Math.Path.{refl, fun_ext}
use Rattle.std.proofs.Common.{◌∙◌}
use mathlib.Core.HLevel.{Π_set}
use Rattle.algebra.specs.internal.Ring.{CommRing, ring, units, add_assoc, add_comm, add-zero, add-neg, mul_comm}

module _ {R : Type 0} where
  abbrev pub tail : (ℕ → R) → ℕ → R
  tail a = λ t. a (suc t)

  abbrev pub cons : R → (ℕ → R) → ℕ → R
  cons x a zero = x
  cons x a (suc t) = a t

module _ {R : Type 0} (𝓡 : CommRing R) where
  open 𝓡 use {𝟘, 𝟙, add as ◌+◌, mul as ◌*◌, neg}

  infixl 65 ◌+◌
  infixl 70 ◌*◌
  unfoldable pub conv : (ℕ → R) → (ℕ → R) → ℕ → R
  conv a b zero = a zero * b zero
  conv a b (suc t) = a zero * b (suc t) + conv (tail a) b t

  pub conv-zero : (a b : ℕ → R) → conv a b zero ≡ a zero * b zero
  unfolding conv
  conv-zero a b = refl

  pub conv-suc : (a b : ℕ → R) (t : ℕ) → conv a b (suc t) ≡ a zero * b (suc t) + conv (tail a) b t
  unfolding conv
  conv-suc a b t = refl

  -- the product by recursion on the other factor
  pub conv-suc-right : (a b : ℕ → R) (t : ℕ) → conv a b (suc t) ≡ conv a (tail b) t + a (suc t) * b zero
  conv-suc-right a b zero = rw (conv-suc a b zero, conv-zero (tail a) b, conv-zero a (tail b))
  conv-suc-right a b (suc t) = simp (conv-suc a, conv-suc-right (tail a) b t, add_assoc, 𝓡)

  pub conv-comm : (a b : ℕ → R) (t : ℕ) → conv a b t ≡ conv b a t
  conv-comm a b zero = simp (conv-zero, mul_comm, 𝓡)
  conv-comm a b (suc t) = rw (conv-suc a b t, conv-suc-right b a t, conv-comm (tail a) b t) (simp (ring, 𝓡))

  pub conv-add : (a b c : ℕ → R) (t : ℕ) → conv a (λ i. b i + c i) t ≡ conv a b t + conv a c t
  conv-add a b c zero = simp (conv-zero, ring, 𝓡)
  conv-add a b c (suc t) = simp (conv-suc, conv-add (tail a) b c t, ring, 𝓡)

  pub add-conv : (a b c : ℕ → R) (t : ℕ) → conv (λ i. a i + b i) c t ≡ conv a c t + conv b c t
  add-conv a b c t = cc (conv-comm (λ i. a i + b i) c t, conv-add c a b t, conv-comm a c t, conv-comm b c t)

  pub scale-conv : (x : R) (a b : ℕ → R) (t : ℕ) → conv (λ i. x * a i) b t ≡ x * conv a b t
  scale-conv x a b zero = simp (conv-zero, ring, 𝓡)
  scale-conv x a b (suc t) = simp (conv-suc, scale-conv x (tail a) b t, ring, 𝓡)

  tail-conv : (a b : ℕ → R) → tail (conv a b) ≡ (λ i. a zero * b (suc i) + conv (tail a) b i)
  tail-conv a b = fun_ext (conv-suc a b)

  pub conv-assoc : (a b c : ℕ → R) (t : ℕ) → conv (conv a b) c t ≡ conv a (conv b c) t
  conv-assoc a b c zero = simp (conv-zero, ring, 𝓡)
  conv-assoc a b c (suc t) =
      rw (
        conv-suc (conv a b) c t,
        tail-conv a b,
        add-conv (λ i. a zero * b (suc i)) (conv (tail a) b) c t,
        scale-conv (a zero) (tail b) c t,
        conv-assoc (tail a) b c t,
      )
      (simp (conv-suc, conv-zero, ring, 𝓡))

  pub zero-conv : (b : ℕ → R) (t : ℕ) → conv (λ _. 𝟘) b t ≡ 𝟘
  zero-conv b zero = simp (conv-zero, units, 𝓡)
  zero-conv b (suc t) = simp (conv-suc, zero-conv b t, units, 𝓡)

  pub one-conv : (b : ℕ → R) (t : ℕ) → conv (cons 𝟙 (λ _. 𝟘)) b t ≡ b t
  one-conv b zero = simp (conv-zero, units, 𝓡)
  one-conv b (suc t) = simp (conv-suc, zero-conv b t, units, 𝓡)

  unfoldable pub Series : CommRing (ℕ → R)
  Series = record {
    set = Π_set (λ _. 𝓡.set);
    𝟘 = λ _. 𝟘;
    𝟙 = cons 𝟙 (λ _. 𝟘);
    add = λ a b t. a t + b t;
    mul = conv;
    neg = λ a t. neg (a t);
    +_assoc = λ a b c. fun_ext (λ t. add_assoc 𝓡 (a t) (b t) (c t));
    +_comm = λ a b. fun_ext (λ t. add_comm 𝓡 (a t) (b t));
    +-zero = λ a. fun_ext (λ t. add-zero 𝓡 (a t));
    +-neg = λ a. fun_ext (λ t. add-neg 𝓡 (a t));
    *-assoc = λ a b c. fun_ext (conv-assoc a b c);
    *-comm = λ a b. fun_ext (conv-comm a b);
    *-one = λ a. fun_ext (λ t. conv-comm a (cons 𝟙 (λ _. 𝟘)) t ∙ one-conv a t);
    *-add = λ a b c. fun_ext (conv-add a b c);
  }
