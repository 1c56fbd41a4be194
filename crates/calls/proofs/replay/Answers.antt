-- `calls::replay` meets its contract: the checks, then the calls.
-- Assumes nothing.
use Rattle.numbers.proofs.RefusalsLaws.{told-pass, told-refuse, handed-up}
use mathlib.Core.Path.{◌≡◌}
use lib.ListN.{length}
use Rattle.numbers.specs.Refusals.{Pass}
use Rattle.calls.specs.Replay.{replay_verdict}
use Rattle.calls.proofs.ReplayLaws.{calls-lent, replay-refused, replay-done}
use Rattle.calls.proofs.replay.Goals as goal
use Rattle.calls.proofs.replay.Lts as step
use Rattle.calls.proofs.replay.Reads as reads
use Rattle.calls.proofs.replay.Tie as tie

-- the checks have passed
passed : (b : step.Past-After-known_told tie.the-claims reads.Pre reads.Post tie.handed_clauses) → let a = b.args in replay_verdict (length a.sheet.now) a.calls.now (length a.answers.now) ≡ Pass
passed b = told-pass b.check_calls.ensures b.in_ok-check_calls.was

pub returns-in_err-check_calls : goal.returns-in_err-check_calls
returns-in_err-check_calls c =
    let a = c.args in
    rw (handed-up c.from_residual.ensures.1) (replay-refused a.calls.now a.sheet.now a.answers.now _ (told-refuse c.check_calls.ensures c.in_err-check_calls.was))

pub make_calls-requires : goal.make_calls-requires
make_calls-requires c =
    let a = c.args in
    let f = calls-lent (length a.sheet.now) a.calls.now (length a.answers.now) (passed c.before.before.before) in
    (f.roomy, f.lends)

pub returns : goal.returns
returns c =
    let a = c.args in
    replay-done a.calls.now a.sheet.now _ a.answers.now _ _ (passed c.before.before.before.before.before.before.before.before.before) c.twice.ensures c.make_calls.ensures
