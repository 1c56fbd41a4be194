-- `key::reply` meets its contract: what `typed::key` answers; it has room.
-- Assumes nothing.
use mathlib.Core.Path.{ap}
use Rattle.numbers.specs.Refusals.{outcome}
use Rattle.typed.proofs.KeyLaws.{keyed-never, keyed-as}
use Rattle.key.proofs.reply.Goals as goal

pub returns-in-Ok : goal.returns-in-Ok
returns-in-Ok c = keyed-as c.args.input.now c.args.text.now _ _ _ (ap outcome c.in-Ok.is) c.key.ensures

pub returns-in-Err : goal.returns-in-Err
returns-in-Err c = keyed-never c.args.input.now c.args.text.now _ _ _ _ (ap outcome c.in-Err.is) c.requires c.key.ensures
