-- `capi::factor::check_factor` meets its contract: check 10, and then those of reading.
-- Assumes nothing.
use mathlib.Core.Path.{◌∙◌, sym}
use borrow.Author.Tests.{lt-ltb, le-ltb}
use Rattle.numbers.proofs.RefusalsLaws.{take-check, skip-check}
use Rattle.capi.proofs.factor.check_factor.Goals as goal

pub returns-then-room-lt4 : goal.returns-then-room-lt4
returns-then-room-lt4 c = sym (take-check _ _ (lt-ltb _ _ c.if-room-lt4.true))

pub returns : goal.returns
returns c = c.check_read.ensures ∙ sym (skip-check _ _ (le-ltb _ _ c.if-room-lt4.false))
