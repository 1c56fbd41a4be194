-- `numbers::kernel::first_among` meets its contract. The loop's invariant: what it would find among all the numbers, it would find among those from i on.
-- Assumes nothing.
use borrow.Author.Rules.{rules}
use mathlib.Core.Path.{refl, ◌∙◌, sym}
use Prim.Native.Nat.{◌≤◌, ◌<◌}
use native.Mathlib.Omega.{arith}
use native.Mathlib.Nat.{mul-le-mul, le_of_lt}
use Rattle.numbers.specs.Words.{word}
use Rattle.numbers.specs.internal.Limits.{table_bound}
use Rattle.numbers.proofs.PrimesLaws.{in-table-at, among-end, among-past, among-found, among_next}
use Rattle.numbers.proofs.kernel.first_among.Goals as goal
use Rattle.numbers.proofs.kernel.first_among.Lts as step
use Rattle.numbers.proofs.kernel.first_among.Reads as reads

pub loop-i-init : goal.loop-i-init
loop-i-init c = (omega arith, refl)

-- the number that is tried
entry : (c : step.After-shared_slice_known reads.Pre reads.Post goal.the-invariant-loop-i goal.the-decreases-loop-i) → (2 ≤ word c.args.primes.now c.loop-i.i) × (word c.args.primes.now c.loop-i.i < table_bound)
entry c = in-table-at c.args.primes.now c.requires c.loop-i.i (omega arith)

pub overflow_cast-q : goal.overflow_cast-q
overflow_cast-q c = record { fits = (let (low, high) = entry c.before in omega arith) }

pub overflow_mul-q : goal.overflow_mul-q
overflow_mul-q c = record { fits = (let (low, high) = entry c.before in let f = mul-le-mul (le_of_lt high) (le_of_lt high) in omega arith) }

pub nonzero_rem-p : goal.nonzero_rem-p
nonzero_rem-p c = let (low, high) = entry c.before.before in omega arith

pub loop-i-preserved : goal.loop-i-preserved
loop-i-preserved c =
    (search rules, c.loop-i.invariant.1 ∙ among_next _ c.args.primes.now c.loop-i.i (omega arith) (omega arith) c.if-p-q-eq0.false)

pub returns-then-i-primes : goal.returns-then-i-primes
returns-then-i-primes c = sym (c.loop-i.invariant.1 ∙ among-end _ _ _ c.if-i-primes.true)

pub returns-then-p-q : goal.returns-then-p-q
returns-then-p-q c =
    sym (c.loop-i.invariant.1 ∙ among-past _ c.args.primes.now c.loop-i.i (omega arith) c.if-p-q.true)

pub returns-then-p-q-eq0 : goal.returns-then-p-q-eq0
returns-then-p-q-eq0 c =
    sym (c.loop-i.invariant.1 ∙ among-found _ c.args.primes.now c.loop-i.i (omega arith) c.if-p-q.false c.if-p-q-eq0.true)
