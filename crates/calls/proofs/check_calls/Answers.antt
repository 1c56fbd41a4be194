-- `calls::check_calls` meets its contract.
-- Assumes nothing.
use mathlib.Core.Path.{◌≡◌, sym, ap, ◌∙◌}
use mathlib.Core.Bool.{true}
use Prim.Native.Nat.{ℕ}
use native.Mathlib.Omega.{arith}
use Rattle.numbers.specs.Words.{all_to}
use Rattle.numbers.specs.Refusals.{refusal, Refuse}
use Rattle.calls.specs.Replay.{call_count, call_fits}
use Rattle.calls.proofs.ReplayLaws.{calls-broken, calls-unfit, calls-short, calls-pass}
use Rattle.calls.proofs.check_calls.Goals as goal
use Rattle.calls.proofs.check_calls.Lts as step
use Rattle.calls.proofs.check_calls.Reads as reads
use Rattle.calls.proofs.check_calls.Tie as tie

-- all calls fit
fit : (b : step.Else2 tie.the-claims reads.Pre reads.Post) → let a = b.args in all_to (call_count a.calls.now) (call_fits a.size a.calls.now) ≡ true
fit b = sym b.calls_fit.ensures ∙ b.if-not-calls_fit.false

pub returns-then-calls-ne0 : goal.returns-then-calls-ne0
returns-then-calls-ne0 c = let a = c.args in sym (calls-broken a.size _ a.room c.if-calls-ne0.true)

pub returns-then-not-calls_fit : goal.returns-then-not-calls_fit
returns-then-not-calls_fit c =
    let a = c.args in
    sym (calls-unfit a.size _ a.room c.if-calls-ne0.false (sym c.calls_fit.ensures ∙ c.if-not-calls_fit.true))

pub returns-then-room-count : goal.returns-then-room-count
returns-then-room-count c =
    let a = c.args in
    ap (λ (x : ℕ). Refuse (refusal 10 x)) c.twice.ensures ∙ sym (calls-short a.size _ a.room c.if-calls-ne0.false (fit c.before.before.before) (omega arith))

pub returns : goal.returns
returns c =
    let a = c.args in
    sym (calls-pass a.size _ a.room c.if-calls-ne0.false (fit c.before.before) (omega arith))
