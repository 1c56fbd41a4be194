-- `sheet::factor_times` meets its contract: what follows the two checks is the row product of the part.
-- Assumes nothing.
use mathlib.Core.Path.{◌≡◌}
use Prim.Native.Nat.{◌+◌, ◌*◌, ◌<◌}
use lib.ListN.{length}
use Rattle.numbers.specs.Refusals.{Pass}
use Rattle.numbers.proofs.RefusalsLaws.{after-refuse, answer-refused, told-pass, told-refuse, handed-up}
use Rattle.rows.specs.Rows.{product_checks, row_product}
use Rattle.layout.specs.Layout.{count}
use Rattle.sheet.specs.Sheet.{Sound}
use Rattle.sheet.specs.Reading.{read_checks, read_verdict, times_words}
use Rattle.sheet.proofs.ReadingLaws.{read-pass, sound-placed, passed_on}
use Rattle.sheet.proofs.factor_times.Goals as goal
use Rattle.sheet.proofs.factor_times.Lts as step
use Rattle.sheet.proofs.factor_times.Reads as reads
use Rattle.sheet.proofs.factor_times.Tie as tie

pub returns-in_err-check_read : goal.returns-in_err-check_read
returns-in_err-check_read c =
    let a = c.args in
    rw (handed-up c.from_residual.ensures.1) (answer-refused _ _ _ _ (after-refuse (read_checks a.sheet.now a.i) _ _ (told-refuse c.check_read.ensures c.in_err-check_read.was)))

-- checks 13 and 16 have passed: the factor is there
passed : (b : step.Past-After-known_told tie.the-claims reads.Pre reads.Post tie.handed_clauses) → let a = b.args in read_verdict a.sheet.now a.i ≡ Pass
passed b = told-pass b.check_read.ensures b.in_ok-check_read.was

there : (b : step.Past-After-known_told tie.the-claims reads.Pre reads.Post tie.handed_clauses) → let a = b.args in Sound a.sheet.now × (a.i < count a.sheet.now)
there b = let a = b.args in read-pass a.sheet.now a.i (passed b)

pub factor_shape-f-requires : goal.factor_shape-f-requires
factor_shape-f-requires c = there c.before

pub factor_part-part-requires : goal.factor_part-part-requires
factor_part-part-requires c = let (sound, i) = there c.before.before in (sound-placed _ sound, i)

pub returns : goal.returns
unfolding times_words
returns c =
    let a = c.args in
    passed_on (λ f x. product_checks f.p f.bound a.e f.width x a.g.now (length a.out.now)) (λ f. (f.bound + a.e + 1) * f.width)
    (λ f x. row_product f.p f.bound a.e f.width x a.g.now) a.sheet.now a.i a.out.now _ _ _ _ (passed c.before.before.before.before.before.before.before) c.factor_shape-f.ensures c.factor_part-part.ensures c.product.ensures.answer c.product.ensures.words
