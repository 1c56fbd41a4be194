-- `read::places::has_byte` meets its contract.
-- Assumes nothing.
use borrow.Author.Tests.{lt-ltb, le-ltb}
use Rattle.read.specs.internal.Places.{has_byte}
use Rattle.read.proofs.places.has_byte.Goals as goal

pub returns-then-at-text : goal.returns-then-at-text
unfolding has_byte
returns-then-at-text c = simp (lt-ltb _ _ c.if-at-text.true)

pub returns-else-at-text : goal.returns-else-at-text
unfolding has_byte
returns-else-at-text c = simp (le-ltb _ _ c.if-at-text.false)
