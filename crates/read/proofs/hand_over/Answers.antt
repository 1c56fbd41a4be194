-- `read::hand_over` meets its contract.
-- Assumes nothing.
use Prim.Native.Nat.{◌-◌, ◌*◌}
use Rattle.read.proofs.OutcomeLaws.{handed-none, handed-all}
use Rattle.read.proofs.hand_over.Goals as goal

pub returns-then-out-words : goal.returns-then-out-words
returns-then-out-words c =
    let the-args = c.args in
    handed-none (the-args.rows * the-args.n) (the-args.rows - 1) the-args.value.now the-args.out.now c.if-out-words.true

pub returns : goal.returns
returns c =
    let the-args = c.args in
    handed-all (the-args.rows * the-args.n) (the-args.rows - 1) the-args.value.now the-args.out.now c.if-out-words.false _ c.put.ensures
