-- `typed::write_key` meets its contract: the length, the first line, and the text of the order.
-- Assumes nothing.
use lib.ListN.{drop}
use Rattle.typed.proofs.KeyLaws.{key-long, key-none, key-asked}
use Rattle.typed.proofs.write_key.Goals as goal

pub returns-then-input-gt-LONGEST_INPUT : goal.returns-then-input-gt-LONGEST_INPUT
returns-then-input-gt-LONGEST_INPUT c = key-long c.args.input.now c.if-input-gt-LONGEST_INPUT.true c.put_refused.ensures

pub text_end-end-requires : goal.text_end-end-requires
text_end-end-requires c = c.in-Some.ensures.0

pub returns-in_default : goal.returns-in_default
returns-in_default c = key-none c.args.input.now c.if-input-gt-LONGEST_INPUT.false c.in_default.ensures c.put_refused-in_default.ensures

pub returns : goal.returns
returns c = let input = c.args.input.now in key-asked input _ _ (drop c.in-Some.line.text input) _ c.if-input-gt-LONGEST_INPUT.false c.in-Some.ensures.1 c.text_end-end.ensures.2 c.write_typed.ensures
