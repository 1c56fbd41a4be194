-- `numbers::judge::check_modulus` meets its contract: at each `return` the tests that led there say which row it is.
-- Assumes nothing.
use mathlib.Core.Path.{◌≡◌, ◌∙◌, sym}
use mathlib.Core.Bool.{false}
use native.Mathlib.Omega.{arith}
use borrow.Author.Tests.{le-ltb}
use Rattle.numbers.specs.Words.{outside}
use Rattle.numbers.specs.Limits.{largest_modulus}
use Rattle.numbers.proofs.RefusalsLaws.{inside, take-check, skip-check, none-judged, modulus-composite}
use Rattle.numbers.proofs.judge.check_modulus.Goals as goal
use Rattle.numbers.proofs.judge.check_modulus.Lts as step
use Rattle.numbers.proofs.judge.check_modulus.Reads as reads
use Rattle.numbers.proofs.judge.check_modulus.Tie as tie

pub returns-then-outside : goal.returns-then-outside
returns-then-outside c = sym (take-check _ _ (sym c.outside.ensures ∙ c.if-outside.true))

-- check 1 has passed
in-range : (b : step.Else1 tie.the-claims reads.Pre reads.Post) → outside 2 largest_modulus b.args.p ≡ false
in-range b = sym b.outside.ensures ∙ b.if-outside.false

pub least_divisor-d-requires : goal.least_divisor-d-requires
least_divisor-d-requires c = let (low, high) = inside 2 largest_modulus _ (in-range c) in (low, omega arith)

pub returns-then-d-p : goal.returns-then-d-p
returns-then-d-p c =
    let (low, high) = inside 2 largest_modulus _ (in-range c.before.before) in
    sym (modulus-composite _ _ low high (sym c.least_divisor-d.ensures) c.if-d-p.true)

pub returns : goal.returns
returns c = sym (skip-check _ _ (in-range c.before.before) ∙ skip-check _ _ (simp (← c.least_divisor-d.ensures) (le-ltb _ _ c.if-d-p.false)) ∙ none-judged)
