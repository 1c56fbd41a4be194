-- `layout::writing::write_header` meets its contract.
-- Assumes nothing.
use Prim.Native.Nat.{◌+◌, ◌*◌}
use native.Mathlib.Omega.{arith}
use lib.ListN.{length-set}
use Rattle.numbers.proofs.RefusalsLaws.{few_words}
use Rattle.layout.proofs.PlacesLaws.{all-rows-small}
use Rattle.layout.proofs.WritingLaws.{header-stored}
use Rattle.layout.proofs.writing.write_header.Goals as goal

pub overflow_cast-factors : goal.overflow_cast-factors
overflow_cast-factors c =
    let a = c.args in
    let e = c.factors_from-factors.ensures in
    omega (arith, few_words (a.d + 1) a.n (omega arith) (omega arith))

pub overflow_cast-total : goal.overflow_cast-total
overflow_cast-total c =
    let a = c.args in
    let e = c.total_of-total.ensures in
    omega (arith, all-rows-small (2 * a.d + 1) a.n (omega arith) (omega arith))

pub bounds-out-1 : goal.bounds-out-1
bounds-out-1 c = simp length-set (omega arith)

pub bounds-out-2 : goal.bounds-out-2
bounds-out-2 c = simp length-set (omega arith)

pub bounds-out-3 : goal.bounds-out-3
bounds-out-3 c = simp length-set (omega arith)

pub bounds-out-4 : goal.bounds-out-4
bounds-out-4 c = simp length-set (omega arith)

pub bounds-out-5 : goal.bounds-out-5
bounds-out-5 c = simp length-set (omega arith)

pub bounds-out-6 : goal.bounds-out-6
bounds-out-6 c = simp length-set (omega arith)

pub bounds-out-7 : goal.bounds-out-7
bounds-out-7 c = simp length-set (omega arith)

pub bounds-out-8 : goal.bounds-out-8
bounds-out-8 c = simp length-set (omega arith)

pub bounds-out-9 : goal.bounds-out-9
bounds-out-9 c = simp length-set (omega arith)

pub bounds-out-10 : goal.bounds-out-10
bounds-out-10 c = simp length-set (omega arith)

pub shape_of-out : goal.shape_of-out
shape_of-out c = simp length-set

pub returns : goal.returns
returns c =
    let a = c.args in
    header-stored a.p a.d a.n a.terms a.r a.reach _ _ _ _ a.out.now c.requires.3 c.roots_from-roots.ensures c.polynomial_from-polynomial.ensures c.factors_from-factors.ensures c.total_of-total.ensures
