-- `sheet::factor_rows` meets its contract.
-- Assumes nothing.
use mathlib.Core.Path.{◌∙◌, sym, refl}
use Rattle.numbers.proofs.RefusalsLaws.{told-fine, told-failed}
use Rattle.sheet.proofs.ReadingLaws.{read-pass, sound-placed}
use Rattle.sheet.proofs.factor_rows.Goals as goal

pub returns-then-is_err : goal.returns-then-is_err
returns-then-is_err c =
    let failed = told-failed _ c.check_read.ensures (sym c.is_err.ensures.value ∙ c.if-is_err.true) in
    rw failed.1 refl

pub factor_part-requires : goal.factor_part-requires
factor_part-requires c =
    let (sound, l) = read-pass c.args.sheet.now c.args.i (told-fine _ c.check_read.ensures (sym c.is_err.ensures.value ∙ c.if-is_err.false)) in
    (sound-placed _ sound, l)

pub returns : goal.returns
returns c = rw (told-fine _ c.check_read.ensures (sym c.is_err.ensures.value ∙ c.if-is_err.false)) c.factor_part.ensures
