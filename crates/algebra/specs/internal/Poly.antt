-- Polynomials in Y over a commutative ring, as series that end, and what is made of lines Y − c. Only private contracts cite these.
--   const x            the constant x
--   lin c              Y − c
--   lin_pow c m         (Y − c)^m
--   lines c m          (Y − c_0) .. (Y − c_(m−1))
--   newton c q m       q_0 + q_1 (Y − c_0) + .. : Newton's form with the digits q
--   up a               Y · a
--   mono j             Y^j
--   SameModulo f a b   a and b differ by a polynomial times f
--   Columns            series in X of series in Y, by columns: f t is the column of X^t, and f t j the coefficient of X^t Y^j
-- Assumes nothing.
use Rattle.std.specs.Prelude.{ℕ, zero, suc, ◌≤◌, ◌≡◌}
use Rattle.algebra.specs.internal.Ring.{CommRing, pow}
use Rattle.algebra.specs.internal.Series.{cons, Series}

module _ {R : Type 0} (𝓡 : CommRing R) where
  open 𝓡 use {𝟘, neg}
  open Series 𝓡 use {𝟘 as 𝟘ₛ, 𝟙 as 𝟙ₛ, add as ◌⊕◌, mul as ◌⊛◌}

  infixl 65 ◌⊕◌
  infixl 70 ◌⊛◌
  unfoldable pub const : R → ℕ → R
  const x = cons x 𝟘ₛ

  unfoldable pub lin : R → ℕ → R
  lin c = cons (neg c) 𝟙ₛ

  abbrev pub lin_pow : R → ℕ → ℕ → R
  lin_pow c m = pow (Series 𝓡) (lin c) m

  unfoldable pub lines : (ℕ → R) → ℕ → ℕ → R
  lines c zero = 𝟙ₛ
  lines c (suc m) = lines c m ⊛ lin (c m)

  unfoldable pub newton : (c q : ℕ → R) → ℕ → ℕ → R
  newton c q zero = 𝟘ₛ
  newton c q (suc m) = newton c q m ⊕ const (q m) ⊛ lines c m

  unfoldable pub up : (ℕ → R) → ℕ → R
  up a = cons 𝟘 a

  unfoldable pub mono : ℕ → ℕ → R
  mono zero = 𝟙ₛ
  mono (suc j) = up (mono j)

  pub record SameModulo (f a b : ℕ → R) : Type 0 where
    pub quotient : ℕ → R
    pub bounded : (n : ℕ) × ((j : ℕ) → n ≤ j → quotient j ≡ 𝟘)
    pub same : a ≡ b ⊕ quotient ⊛ f

  abbrev pub Columns : CommRing (ℕ → ℕ → R)
  Columns = Series (Series 𝓡)
