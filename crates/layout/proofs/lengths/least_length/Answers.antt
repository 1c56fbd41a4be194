-- `layout::lengths::least_length` meets its contract. The loop's invariant: `shortest` is the least of n and the lengths so far.
-- Assumes nothing.
use native.Mathlib.Omega.{arith}
use mathlib.Core.Path.{refl}
use Rattle.numbers.specs.Words.{word, least}
use Rattle.numbers.proofs.WordsLaws.{least-next}
use Rattle.layout.proofs.lengths.least_length.Goals as goal

pub loop-length-init : goal.loop-length-init
unfolding least
loop-length-init c = refl

pub loop-length-preserved : goal.loop-length-preserved
loop-length-preserved c =
    let e = c.min-shortest.ensures in
    omega (arith, least-next c.args.n c.loop-length.length-index (word c.args.lengths.now))
