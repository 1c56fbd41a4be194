-- `pair::Ordered::lift` meets its contract.
-- Assumes nothing.
use mathlib.Core.Path.{refl, sym, subst, ◌∙◌}
use Prim.Native.Nat.{◌+◌, ◌-◌, ◌≤◌}
use native.Mathlib.Omega.{arith}
use lib.ListN.{length, take}
use lib.Seq.{length-take-le}
use Rattle.rows.proofs.RowsLaws.{zeros}
use Rattle.pair.specs.Pair.{PairWords}
use Rattle.pair.proofs.LiftLaws.{zeros-none, lift-whole, lift-begins, lift-ends}
use Rattle.pair.proofs.Ordered.lift.Goals as goal

pub returns-then-h-w : goal.returns-then-h-w
returns-then-h-w c = let a = c.args in let r = c.requires in
    record { long = refl; words = subst (λ x. PairWords a.self.p a.self.degree a.self.width a.self.f.now x a.rows.now) c.if-h-w.true (r.1 (omega (arith, r.3, c.if-h-w.true))) }

pub returns-then-d-eq0 : goal.returns-then-d-eq0
returns-then-d-eq0 c =
    let a = c.args in
    let r = c.requires in
    record { long = c.put_columns.ensures.long ∙ c.clear.ensures.long; words = lift-whole a.self.p a.self.degree a.self.width a.self.f.now a.self.order c.args.self.given a.h a.w a.rows.now _ _ r.0 r.1 r.2 r.3 r.4 c.clear.ensures c.put_columns.ensures c.if-d-eq0.true }

pub slice_bounds-split_rows-end : goal.slice_bounds-split_rows-end
slice_bounds-split_rows-end c = sym (length-take-le _ zeros (let b = c.args.self.given.bound in let h = c.args.self.given.degree-high in omega arith))

pub slice_bounds-split_rows-end-2 : goal.slice_bounds-split_rows-end-2
slice_bounds-split_rows-end-2 c = sym (length-take-le _ zeros (let b = c.args.self.given.bound in let h = c.args.self.given.degree-high in omega (arith, c.if-d-eq0.false)))

pub split_rows-requires : goal.split_rows-requires
split_rows-requires c =
    let a = c.args in
    let r = c.requires in
    let b = c.args.self.given.bound in
    let high = c.args.self.given.degree-high in
    let some : 1 ≤ a.self.order = omega (arith, c.if-d-eq0.false) in
    lift-begins a.self.p a.self.degree a.self.width a.self.f.now a.self.order c.args.self.given a.h a.w a.rows.now c.clear.new.rows c.put_columns.new.rows r.0 r.1 r.2 r.3 r.4 c.clear.ensures c.put_columns.ensures c.first_column.result c.first_column.ensures (take a.self.order zeros) (length (take (a.self.degree + 1 - a.self.order + 1) zeros)) some (length-take-le a.self.order zeros (omega arith)) (zeros-none a.self.order (omega arith)) (length-take-le (a.self.degree + 1 - a.self.order + 1) zeros (omega arith))

pub returns : goal.returns
returns c =
    let a = c.args in
    let r = c.requires in
    let b = c.args.self.given.bound in
    let high = c.args.self.given.degree-high in
    let some : 1 ≤ a.self.order = omega (arith, c.if-d-eq0.false) in
    record { long = c.split_rows.ensures.split.done.long ∙ c.put_columns.ensures.long ∙ c.clear.ensures.long; words = lift-ends a.self.p a.self.degree a.self.width a.self.f.now a.self.order c.args.self.given a.h a.w a.rows.now c.clear.new.rows c.put_columns.new.rows r.0 r.1 r.2 r.3 r.4 c.clear.ensures c.put_columns.ensures c.first_column.result c.first_column.ensures (take a.self.order zeros) (length (take (a.self.degree + 1 - a.self.order + 1) zeros)) some (length-take-le a.self.order zeros (omega arith)) (zeros-none a.self.order (omega arith)) (length-take-le (a.self.degree + 1 - a.self.order + 1) zeros (omega arith)) _ _ c.split_rows.ensures.column c.split_rows.ensures.split }
