-- Repeated division of a polynomial by Y − c, in place. No public contract cites these.
--   over_field p pos s   the words of s as a polynomial over F_p
--   Divided ..          from word `at` on in old, Y − c was divided out a − at times; what is left stands in new from word a on
--   DividedOut ..       and it can't be divided again
--   GivesPowers ..      powers, all 1 or more, of the roots that give a polynomial
--   Unsplit p e         no list of numbers, in any order, has such powers
--   FoundPowers ..      whether there are any, and then which
-- Assumes nothing.
use Prim.Native.Nat.{ℕ, zero, suc, ◌-◌, ◌≤◌, ◌<◌, Fin}
use Rattle.std.specs.Prelude.{◌≡◌, Bool, true, false, List, length, drop}
use Rattle.algebra.specs.Sums.{sum_to}
use Rattle.algebra.specs.internal.Ring.{prod}
use Rattle.algebra.specs.internal.Series.{Series}
use Rattle.algebra.specs.internal.Poly.{lin_pow}
use Rattle.algebra.specs.internal.Fp.{Fp, rem}
use Rattle.numbers.specs.Words.{word}
use Rattle.numbers.specs.internal.Facts.{AllBelow}
use Rattle.columns.specs.internal.Column.{horner_word}

abbrev pub over_field : (p : ℕ) (pos : zero < p) → List ℕ → ℕ → Fin p
over_field p pos s j = rem p pos (word s j)

pub record Divided (p c at : ℕ) (old : List ℕ) (a : ℕ) (new : List ℕ) : Type 0 where
  pub long : length new ≡ length old
  pub low : at ≤ a
  pub high : a < length old
  pub below : AllBelow p new
  pub top : word new (length old - 1) ≡ word old (length old - 1)
  pub product : (pos : zero < p) → over_field p pos (drop at old) ≡ (Series (Fp p pos)).mul (lin_pow (Fp p pos) (rem p pos c) (a - at)) (over_field p pos (drop a new))

pub record DividedOut (p c at : ℕ) (old : List ℕ) (a : ℕ) (new : List ℕ) : Type 0 where
  pub divided : Divided p c at old a new
  pub out : suc a < length old → horner_word p c (length (drop a new)) (word (drop a new)) 0 ≡ 0 → ⊥

-- m are powers, all 1 or more, of the roots, whose product the polynomial in e is
pub record GivesPowers (p : ℕ) (roots e : List ℕ) (m : ℕ → ℕ) : Type 0 where
  pub low : (l : ℕ) → l < length roots → 1 ≤ m l
  pub sum : suc (sum_to (length roots) m) ≡ length e
  pub product : (pos : zero < p) → over_field p pos e ≡ prod (Series (Fp p pos)) (length roots) (λ l. lin_pow (Fp p pos) (rem p pos (word roots l)) (m l))

-- no list of numbers, and powers of Y minus these, give the polynomial in e
abbrev pub Unsplit : (p : ℕ) (e : List ℕ) → Type 0
Unsplit p e = (l : List ℕ) (m : ℕ → ℕ) → GivesPowers p l e m → ⊥

-- the powers, if there are any
pub record FoundPowers (p : ℕ) (roots e : List ℕ) (found : Bool) (powers : List ℕ) : Type 0 where
  pub yes : found ≡ true → GivesPowers p roots e (word powers)
  pub no : found ≡ false → (m : ℕ → ℕ) → GivesPowers p roots e m → ⊥
