-- `numbers::kernel::least_divisor` meets its contract: an answer below p is the least divisor, and so is every answer below the square of the part's end; and where the low primes do not
-- divide p, no number below 256 does.
-- Assumes nothing.
use mathlib.Core.Path.{◌∙◌, subst}
use Prim.Native.Nat.{◌≤◌, ◌<◌}
use native.Mathlib.Omega.{arith}
use Rattle.numbers.specs.internal.Limits.{table_bound, low_bound}
use Rattle.numbers.proofs.DivisorLaws.{none-two}
use Rattle.numbers.proofs.PrimesLaws.{among_below, among-least, among_none}
use Rattle.numbers.proofs.kernel.least_divisor.Goals as goal

pub returns-then-d-p : goal.returns-then-d-p
returns-then-d-p c =
    let p = c.args.p in
    let found = c.first_low-d.ensures in
    found ∙ among_below p 2 low_bound c.requires.0 (omega arith) (omega arith) (none-two p) (subst (λ r. r < p) found c.if-d-p.true)

pub returns-then-p-lt-LOW_MODULI : goal.returns-then-p-lt-LOW_MODULI
returns-then-p-lt-LOW_MODULI c =
    let p = c.args.p in
    c.first_low-d.ensures ∙ among-least p 2 low_bound c.requires.0 (omega arith) (omega arith) (none-two p) c.if-p-lt-LOW_MODULI.true

pub returns : goal.returns
returns c =
    let p = c.args.p in
    let two = c.requires.0 in
    let none = among_none p 2 low_bound two (omega arith) (omega arith) (none-two p) (subst (λ r. p ≤ r) c.first_low-d.ensures c.if-d-p.false) (omega arith) in
    c.first_high.ensures ∙ among-least p low_bound table_bound two (omega arith) (omega arith) none c.requires.1
