-- `capi::bk_sheet_replay` meets its contract.
-- Assumes nothing.
use Rattle.capi.specs.Packed.{packed}
use mathlib.Core.Path.{ap, ◌∙◌}
use Rattle.capi.proofs.bk_sheet_replay.Goals as goal

pub returns : goal.returns
returns c =
    let replay = c.replay in
    record { answer = c.pack.ensures ∙ ap packed replay.ensures.answers; words = replay.ensures.leaves }
