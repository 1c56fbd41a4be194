-- `sheet::check_read` meets its contract: at each `return` the tests that led there say which row it is.
-- Assumes nothing.
use mathlib.Core.Path.{◌≡◌, ◌∙◌, sym, ap}
use mathlib.Core.Bool.{true, not}
use mathlib.Core.List.{[], ◌∷◌}
use native.Mathlib.Omega.{arith}
use borrow.Author.Tests.{le-leb, lt-leb}
use Rattle.numbers.specs.Refusals.{judge}
use Rattle.numbers.proofs.RefusalsLaws.{take-check, skip-check, none-judged}
use Rattle.layout.specs.Layout.{count}
use Rattle.layout.proofs.PlacesLaws.{placed-entries}
use Rattle.sheet.specs.Test.{sound_test}
use Rattle.sheet.specs.Reading.{sound_check, index_check, read_verdict}
use Rattle.sheet.proofs.SoundTestLaws.{sound-test}
use Rattle.sheet.proofs.ReadingLaws.{sound-placed}
use Rattle.sheet.proofs.check_read.Goals as goal
use Rattle.sheet.proofs.check_read.Lts as step
use Rattle.sheet.proofs.check_read.Reads as reads
use Rattle.sheet.proofs.check_read.Tie as tie

pub returns-then-not-test : goal.returns-then-not-test
returns-then-not-test c = sym (take-check (sound_check c.args.sheet.now) _ (ap not (sym c.test.ensures ∙ c.if-not-test.true)))

sound : (b : step.Else1 tie.the-claims reads.Pre reads.Post) → sound_test b.args.sheet.now ≡ true
sound b = sym b.test.ensures ∙ b.if-not-test.false

pub read_header-h-requires : goal.read_header-h-requires
read_header-h-requires c = let s = c.args.sheet.now in let l = placed-entries s (sound-placed s ((sound-test s).0 (sound c.before))) in omega arith

-- check 13 has passed
passed : (b : step.Else1 tie.the-claims reads.Pre reads.Post) → let a = b.args in read_verdict a.sheet.now a.i ≡ judge (index_check a.sheet.now a.i ∷ [])
passed b = skip-check (sound_check b.args.sheet.now) _ (ap not (sound b))

pub returns-then-h-i : goal.returns-then-h-i
returns-then-h-i c =
    let a = c.args in
    let e = c.read_header-h.ensures.count-is in
    sym (passed c.before.before.before.before ∙ take-check (index_check a.sheet.now a.i) [] (le-leb (count a.sheet.now) a.i (omega (arith, c.if-h-i.true))))

pub returns : goal.returns
returns c =
    let a = c.args in
    let e = c.read_header-h.ensures.count-is in
    sym (passed c.before.before.before.before ∙ skip-check (index_check a.sheet.now a.i) [] (lt-leb (count a.sheet.now) a.i (omega (arith, c.if-h-i.false))) ∙ none-judged)
