-- What finding the roots of a monic polynomial leaves. No public contract cites these.
--   Monic p e       e is a monic polynomial of degree 1 to 32 over F_p, p below 2^24
--   Kept b c n ..   where the test b holds, c was put as word n; the count is that of the words then
--   SplitAnswer ..  whether the listed numbers, with some powers, give the polynomial, and then with which
--   RootsAre ..     the first `count` words of `roots` are all roots, at least one, and those of `powers` their powers
--   FoundRoots ..   so it is; or there is no count, and the polynomial does not split
-- Assumes nothing.
use Rattle.std.specs.Prelude.{ℕ, ◌+◌, ◌-◌, ◌≤◌, ◌<◌, ◌≡◌, Bool, true, false, List, [], length, take, set, Option, None, Some}
use Rattle.algebra.specs.Prime.{Prime}
use Rattle.numbers.specs.Words.{word, choose, keep}
use Rattle.numbers.specs.Limits.{most_rows}
use Rattle.numbers.specs.internal.Facts.{AllBelow, Rising}
use Rattle.numbers.specs.internal.Limits.{modulus_bound}
use Rattle.powers.specs.internal.Powers.{GivesPowers, Unsplit}
use Rattle.rootfinding.specs.Roots.{all_roots}

pub record Monic (p : ℕ) (e : List ℕ) : Type 0 where
  pub prime : Prime p
  pub small : p < modulus_bound
  pub some : 2 ≤ length e
  pub few : length e ≤ most_rows
  pub below : AllBelow p e
  pub top : word e (length e - 1) ≡ 1

abbrev pub Kept : (b : Bool) (c n : ℕ) (old : List ℕ) (count : ℕ) (new : List ℕ) → Type 0
Kept b c n old count new = (count ≡ n + length (keep b c [])) × (new ≡ choose b (set old n c) old)

pub record SplitAnswer (p : ℕ) (e roots : List ℕ) (found : Bool) (powers : List ℕ) : Type 0 where
  pub yes : found ≡ true → Rising roots × AllBelow p roots × GivesPowers p roots e (word powers)
  pub no : found ≡ false → Rising roots → AllBelow p roots → (m : ℕ → ℕ) → GivesPowers p roots e m → ⊥

pub record RootsAre (p : ℕ) (e : List ℕ) (count : ℕ) (roots powers : List ℕ) : Type 0 where
  pub some : 1 ≤ count
  pub fits : count ≤ length roots
  pub all : take count roots ≡ all_roots p e
  pub gives : GivesPowers p (all_roots p e) e (word powers)

abbrev pub FoundRoots : (p : ℕ) (e : List ℕ) → Option ℕ → (roots powers : List ℕ) → Type 0
FoundRoots p e None roots powers = Unsplit p e
FoundRoots p e (Some count) roots powers = RootsAre p e count roots powers
