-- `series::check_known` meets its contract.
-- Assumes nothing.
use mathlib.Core.Path.{◌≡◌, sym, ◌∙◌}
use mathlib.Core.Bool.{true}
use mathlib.Core.List.{[], ◌∷◌}
use lib.ListN.{length}
use borrow.Author.Tests.{lt-ltb, le-ltb}
use Rattle.numbers.specs.Words.{word}
use Rattle.numbers.specs.Refusals.{judge, room_check, input_checks, Pass}
use Rattle.numbers.proofs.RefusalsLaws.{after-refuse, take-check, skip-check, none-judged, told-pass, told-refuse, handed-up}
use Rattle.series.specs.Known.{known_to}
use Rattle.series.specs.Series.{known_checks}
use Rattle.series.proofs.CheckLaws.{first-unknown, second-unknown, both-known}
use Rattle.series.proofs.check_known.Goals as goal
use Rattle.series.proofs.check_known.Lts as step
use Rattle.series.proofs.check_known.Reads as reads
use Rattle.series.proofs.check_known.Tie as tie

pub returns-in_err-check_inputs : goal.returns-in_err-check_inputs
returns-in_err-check_inputs c =
    let a = c.args in
    rw (handed-up c.from_residual.ensures.1) (sym (after-refuse (input_checks a.p a.n a.g.now 1 a.h.now 1 1) _ _ (told-refuse c.check_inputs.ensures c.in_err-check_inputs.was)))

-- where checks 1 to 6 have passed
passed : (b : step.Past-After-known_told tie.the-claims reads.Pre reads.Post tie.handed_clauses) → let a = b.args in judge (input_checks a.p a.n a.g.now 1 a.h.now 1 1) ≡ Pass
passed b = told-pass b.check_inputs.ensures b.in_ok-check_inputs.was

-- and where the rows are known to their counts
known-g : (b : step.Else1 tie.the-claims reads.Pre reads.Post tie.handed_clauses) → let a = b.args in true ≡ known_to (length a.g.now) a.gknown (word a.g.now)
known-g b = sym b.if-not-known_to.false ∙ b.known_to.ensures

only-room : (b : step.Else2 tie.the-claims reads.Pre reads.Post tie.handed_clauses) → let a = b.args in
    judge (known_checks a.p a.n a.g.now a.gknown a.h.now a.hknown a.room) ≡ judge (room_check a.room a.n ∷ [])
only-room b =
    let a = b.args in
    both-known a.p a.n a.g.now a.gknown a.h.now a.hknown a.room (passed b.before.before.before.before) (known-g b.before.before) (sym b.if-not-known_to-2.false ∙ b.known_to-2.ensures)

pub returns-then-not-known_to : goal.returns-then-not-known_to
returns-then-not-known_to c =
    let a = c.args in
    sym (first-unknown a.p a.n a.g.now a.gknown a.h.now a.hknown a.room (passed c.before.before.before) (sym c.if-not-known_to.true ∙ c.known_to.ensures))

pub returns-then-not-known_to-2 : goal.returns-then-not-known_to-2
returns-then-not-known_to-2 c =
    let a = c.args in
    sym (second-unknown a.p a.n a.g.now a.gknown a.h.now a.hknown a.room (passed c.before.before.before.before.before) (known-g c.before.before.before) (sym c.if-not-known_to-2.true ∙ c.known_to-2.ensures))

pub returns-then-room-n : goal.returns-then-room-n
returns-then-room-n c = sym (only-room c.before.before ∙ take-check _ _ (lt-ltb _ _ c.if-room-n.true))

pub returns : goal.returns
returns c = sym (only-room c.before.before ∙ skip-check _ _ (le-ltb _ _ c.if-room-n.false) ∙ none-judged)
