-- `read::read` meets its contract.
-- Assumes nothing.
use Rattle.numbers.proofs.RefusalsLaws.{told-pass, told-refuse, handed-up}
use Rattle.read.proofs.OutcomeLaws.{text-passed, read-refused}
use Rattle.read.proofs.read.Goals as goal

pub returns-in_err-check_text : goal.returns-in_err-check_text
returns-in_err-check_text c =
    let the-args = c.args in
    rw (handed-up c.from_residual.ensures.1) (read-refused the-args.p the-args.n the-args.text.now the-args.out.now _ (told-refuse c.check_text.ensures c.in_err-check_text.was))

pub invariant_of-ring : goal.invariant_of-ring
invariant_of-ring c =
    let the-args = c.args in
    let v = told-pass c.check_text.ensures c.in_ok-check_text.was in
    let g = text-passed the-args.p the-args.n the-args.text.now v in
    record { bounds = (g.modulus.two, g.modulus.small, g.low, g.high) }

pub read_checked-requires : goal.read_checked-requires
read_checked-requires c = told-pass c.check_text.ensures c.in_ok-check_text.was

pub returns : goal.returns
returns c = c.read_checked.ensures
