-- `rootfinding::search::part` meets its contract.
-- Assumes nothing.
use mathlib.Core.Path.{refl}
use native.Mathlib.Omega.{arith}
use lib.ListN.{length-take, length-set}
use Rattle.numbers.proofs.WordsLaws.{none-large}
use Rattle.rootfinding.proofs.SearchLaws.{piece-modulus}
use Rattle.rootfinding.proofs.search.part.Goals as goal

pub invariant_of-modulus : goal.invariant_of-modulus
invariant_of-modulus c =
    let piece = c.args.piece.now in
    let below = none-large c.args.p piece (omega (arith, c.first_large.ensures)) in
    record { fits = piece-modulus c.args.p c.requires.0 c.requires.1 piece c.requires.3 c.requires.4 below _ _ _ refl c.copy.ensures (simp (length-take, length-set) (omega arith)) }

pub factor-n-requires : goal.factor-n-requires
factor-n-requires c =
    (c.requires.0, c.requires.2, simp (length-take, length-set) (omega arith), simp (length-take, length-set) (omega arith))
