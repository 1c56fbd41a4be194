-- `rows::product` meets its contract: what the check lets pass is what the kernel requires.
-- Assumes nothing.
use mathlib.Core.Path.{◌≡◌, subst}
use Prim.Native.Nat.{ℕ, ◌+◌, ◌-◌, ◌*◌, ◌≤◌}
use native.Mathlib.Omega.{arith}
use lib.ListN.{length}
use Rattle.numbers.specs.Refusals.{judge, Pass}
use Rattle.numbers.proofs.RefusalsLaws.{Operation, operation-pass, answer-refused, answer-done, few_words, told-pass, told-refuse, handed-up}
use Rattle.rows.specs.Rows.{product_checks, rows_of, table, mul, row_product}
use Rattle.rows.proofs.product.Goals as goal
use Rattle.rows.proofs.product.Lts as step
use Rattle.rows.proofs.product.Reads as reads
use Rattle.rows.proofs.product.Tie as tie

-- where the check has passed
passed : (b : step.Past-After-known_told tie.the-claims reads.Pre reads.Post tie.handed_clauses) → let a = b.args in judge (product_checks a.p a.d a.e a.n a.f.now a.g.now (length a.out.now)) ≡ Pass
passed b = told-pass b.check_operation.ensures b.in_ok-check_operation.was

facts : (b : step.Past-After-known_told tie.the-claims reads.Pre reads.Post tie.handed_clauses) → let a = b.args in Operation a.p a.n a.f.now (a.d + 1) a.g.now (a.e + 1) (a.d + a.e + 1) (length a.out.now)
facts b =
    let a = b.args in
    operation-pass a.p a.n a.f.now (a.d + 1) a.g.now (a.e + 1) (a.d + a.e + 1) (length a.out.now) (passed b)

pub returns-in_err-check_operation : goal.returns-in_err-check_operation
returns-in_err-check_operation c =
    rw (handed-up c.from_residual.ensures.1) (answer-refused _ _ _ _ (told-refuse c.check_operation.ensures c.in_err-check_operation.was))

pub multiply-requires : goal.multiply-requires
multiply-requires c =
    let a = c.args in
    let o = facts c.before.before in
    let q : a.d + a.e + 1 ≡ a.d + 1 + (a.e + 1) - 1 = omega arith in (
      omega arith,
      omega arith,
      omega arith,
      omega arith,
      omega arith,
      omega arith,
      o.inputs.f-long,
      o.inputs.g-long,
      omega arith,
      subst (λ (k : ℕ). k * a.n ≤ length a.out.now) q o.roomy,
      o.inputs.f-below,
      o.inputs.g-below,
    )

pub overflow_add-result : goal.overflow_add-result
overflow_add-result c = let o = facts c.before.before.before.before.before in record { fits = omega arith }

pub overflow_add-result-2 : goal.overflow_add-result-2
overflow_add-result-2 c = let o = facts c.before.before.before.before.before in record { fits = omega arith }

pub overflow_mul-result : goal.overflow_mul-result
overflow_mul-result c =
    let a = c.args in
    let o = facts c.before.before.before.before.before in
    let s = few_words (a.d + a.e + 1) a.n o.inputs.high o.inputs.width-high in
    record { fits = omega arith }

pub returns : goal.returns
unfolding row_product
returns c =
    let a = c.args in
    let m = passed c.before.before.before.before.before in
    answer-done (λ k. table k a.n (mul a.p (rows_of a.f.now a.n (a.d + 1)) (rows_of a.g.now a.n (a.e + 1)))) _ _ _ _ _ m c.multiply.ensures (omega arith)
