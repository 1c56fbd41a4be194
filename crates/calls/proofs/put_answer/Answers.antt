-- `calls::put_answer` meets its contract.
-- Assumes nothing.
use mathlib.Core.Path.{sym, ap, ap₂, ◌∙◌}
use Prim.Native.Nat.{◌*◌, ◌+◌}
use lib.ListN.{set}
use Rattle.numbers.specs.Refusals.{outcome}
use Rattle.calls.specs.internal.Making.{put_answer}
use Rattle.calls.proofs.put_answer.Goals as goal

pub returns-in-Ok : goal.returns-in-Ok
returns-in-Ok c =
    let a = c.args in
    c.put_pair.ensures ∙ sym (ap (λ o. put_answer (outcome o) a.i a.answers.now) c.in-Ok.is)

pub returns-in-Err : goal.returns-in-Err
returns-in-Err c =
    let a = c.args in
    c.put_pair-in-Err.ensures
    ∙ ap₂ (λ n d. set (set a.answers.now (2 * a.i) n) (2 * a.i + 1) d) c.number.ensures c.detail.ensures
    ∙ sym (ap (λ o. put_answer (outcome o) a.i a.answers.now) c.in-Err.is)
