-- Remainders modulo a monic polynomial f over F_p, as words: f has D + 1 words, a remainder D. No public contract cites these.
--   sum_bound              2^62: sums of products stay below it
--   before e j            word j − 1 of e: word j of Y · e
--   turned_at, turned p f c b e   Y · e + c · b, less word D − 1 of e times f; not reduced
--   two_to, PowerOfTwo     2^i, and that a number is one of these
--   ModulusOf p f d       f is monic of degree d, from 1 to 32, and p is from 1 to 2^24 − 1
--   Congruent p f g e     the words e as they stand, reduced or not, are the same as g modulo f
--   Remainder p f g e     the words e, below p, are the remainder of g modulo f
--   words_of, times, power, plus, frobenius   polynomials over F_p: words, products, powers, Y + c, and Y^p − Y
-- Assumes nothing.
use Prim.Native.Nat.{ℕ, zero, suc, ◌+◌, ◌-◌, ◌*◌, ◌%◌, ◌≤◌, ◌<◌, Fin}
use Rattle.std.specs.Prelude.{◌≡◌, List, length}
use Rattle.algebra.specs.internal.Ring.{pow}
use Rattle.algebra.specs.internal.Series.{Series}
use Rattle.algebra.specs.internal.Poly.{lin, lin_pow, SameModulo}
use Rattle.algebra.specs.internal.Fp.{Fp, rem}
use Rattle.numbers.specs.Words.{word, tabulate}
use Rattle.numbers.specs.Limits.{largest_degree}
use Rattle.numbers.specs.internal.Facts.{AllBelow}
use Rattle.numbers.specs.internal.Limits.{modulus_bound}
use Rattle.powers.specs.internal.Powers.{over_field}

abbrev pub sum_bound : ℕ
sum_bound = 4611686018427387904

abbrev pub before : List ℕ → ℕ → ℕ
before e zero = 0
before e (suc j) = word e j

abbrev pub turned_at : (p : ℕ) (f : List ℕ) (c : ℕ) (b e : List ℕ) → ℕ → ℕ
turned_at p f c b e j = before e j + (p - word f j) * (word e (length e - 1) % p) + c * word b j

unfoldable pub turned : (p : ℕ) (f : List ℕ) (c : ℕ) (b e : List ℕ) → List ℕ
turned p f c b e = tabulate (length e) (turned_at p f c b e)

unfoldable pub two_to : ℕ → ℕ
two_to zero = 1
two_to (suc i) = 2 * two_to i

abbrev pub PowerOfTwo : ℕ → Type 0
PowerOfTwo bit = (i : ℕ) × (bit ≡ two_to i)

pub record ModulusOf (p : ℕ) (f : List ℕ) (d : ℕ) : Type 0 where
  pub positive : 1 ≤ p
  pub small : p < modulus_bound
  pub some : 1 ≤ d
  pub few : d ≤ largest_degree
  pub long : length f ≡ d + 1
  pub below : AllBelow p f
  pub top : word f d ≡ 1

pub record Congruent (p : ℕ) (f : List ℕ) (g : (pos : zero < p) → ℕ → Fin p) (e : List ℕ) : Type 0 where
  pub long : length f ≡ length e + 1
  pub same : (pos : zero < p) → SameModulo (Fp p pos) (over_field p pos f) (g pos) (over_field p pos e)

pub record Remainder (p : ℕ) (f : List ℕ) (g : (pos : zero < p) → ℕ → Fin p) (e : List ℕ) : Type 0 where
  pub below : AllBelow p e
  pub congruent : Congruent p f g e

abbrev pub words_of : (p : ℕ) (e : List ℕ) (pos : zero < p) → ℕ → Fin p
words_of p e pos = over_field p pos e

abbrev pub times : (p : ℕ) (a b : (pos : zero < p) → ℕ → Fin p) (pos : zero < p) → ℕ → Fin p
times p a b pos = (Series (Fp p pos)).mul (a pos) (b pos)

abbrev pub power : (p : ℕ) (g : (pos : zero < p) → ℕ → Fin p) (n : ℕ) (pos : zero < p) → ℕ → Fin p
power p g n pos = pow (Series (Fp p pos)) (g pos) n

abbrev pub plus : (p c : ℕ) (pos : zero < p) → ℕ → Fin p
plus p c pos = lin (Fp p pos) ((Fp p pos).neg (rem p pos c))

abbrev pub frobenius : (p : ℕ) (pos : zero < p) → ℕ → Fin p
frobenius p pos = (Series (Fp p pos)).add (lin_pow (Fp p pos) (Fp p pos).𝟘 p) ((Series (Fp p pos)).neg (lin (Fp p pos) (Fp p pos).𝟘))
