-- `simple::check_simple` meets its contract: at each `return` the tests that led there say which row it is.
-- Assumes nothing.
use Rattle.numbers.proofs.RefusalsLaws.{told-pass, told-refuse, handed-up}
use mathlib.Core.Path.{◌≡◌, ◌∙◌, sym, ap}
use native.Mathlib.Omega.{arith}
use Rattle.numbers.specs.Refusals.{refusal, Pass, Refuse}
use Rattle.numbers.proofs.WordsLaws.{true-false}
use Rattle.layout.proofs.PlacesLaws.{placed-entries}
use Rattle.sheet.specs.Sheet.{Sound}
use Rattle.sheet.proofs.SoundTestLaws.{sound-test}
use Rattle.sheet.proofs.ReadingLaws.{sound-placed}
use Rattle.simple.specs.internal.Factors.{multiple_verdict}
use Rattle.simple.proofs.SimpleLaws.{simple-spoiled, simple-multiple, simple-short, simple-fine, header-words, words-few}
use Rattle.simple.proofs.check_simple.Goals as goal
use Rattle.simple.proofs.check_simple.Lts as step
use Rattle.simple.proofs.check_simple.Reads as reads
use Rattle.simple.proofs.check_simple.Tie as tie

pub returns-then-not-test : goal.returns-then-not-test
returns-then-not-test c =
    let t = c.test in
    let a = c.args in
    sym (simple-spoiled a.sheet.now a.room (λ h. true-false (sym ((sound-test a.sheet.now).1 h) ∙ sym t.ensures ∙ c.if-not-test.true)))

sound : (b : step.Else1 tie.the-claims reads.Pre reads.Post tie.handed_clauses) → Sound b.args.sheet.now
sound b = let t = b.test in (sound-test b.args.sheet.now).0 (sym t.ensures ∙ b.if-not-test.false)

pub check_multiple-requires : goal.check_multiple-requires
check_multiple-requires c = sound c.before

pub returns-in_err-check_multiple : goal.returns-in_err-check_multiple
returns-in_err-check_multiple c =
    let a = c.args in
    rw (handed-up c.from_residual.ensures.1) (sym (simple-multiple a.sheet.now a.room (sound c.before.before.before.before.before) _ (told-refuse c.check_multiple.ensures c.in_err-check_multiple.was)))

-- 22 is not given
passed : (b : step.Past-After-known_told tie.the-claims reads.Pre reads.Post tie.handed_clauses) → multiple_verdict b.args.sheet.now ≡ Pass
passed b = told-pass b.check_multiple.ensures b.in_ok-check_multiple.was

pub read_header-h-requires : goal.read_header-h-requires
read_header-h-requires c = omega (arith, placed-entries _ (sound-placed _ (sound c.before.before.before.before)))

pub overflow_mul-words : goal.overflow_mul-words
overflow_mul-words c =
    let s = c.args.sheet.now in
    omega (arith, header-words s _ c.read_header-h.ensures, words-few s (sound c.before.before.before.before.before.before))

pub overflow_cast-result : goal.overflow_cast-result
overflow_cast-result c =
    let s = c.args.sheet.now in
    omega (arith, header-words s _ c.read_header-h.ensures, words-few s (sound c.before.before.before.before.before.before.before))

pub returns-then-room-words : goal.returns-then-room-words
returns-then-room-words c =
    let a = c.args in
    let w = header-words a.sheet.now _ c.read_header-h.ensures in
    ap (λ n. Refuse (refusal 10 n)) w
    ∙ sym (simple-short a.sheet.now a.room (sound c.before.before.before.before.before.before.before) (passed c.before.before.before.before) (omega (arith, c.if-room-words.true)))

pub returns : goal.returns
returns c =
    let a = c.args in
    sym (simple-fine a.sheet.now a.room (sound c.before.before.before.before.before.before.before) (passed c.before.before.before.before) (omega (arith, c.if-room-words.false, header-words a.sheet.now _ c.read_header-h.ensures)))
