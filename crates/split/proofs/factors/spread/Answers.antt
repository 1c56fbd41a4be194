-- `split::factors::spread` meets its contract.
-- Assumes nothing.
use mathlib.Core.Path.{◌≡◌, refl, sym, ◌∙◌}
use Prim.Native.Nat.{◌+◌, ◌-◌}
use native.Mathlib.Omega.{arith}
use lib.ListN.{length}
use Rattle.std.proofs.lemmas.List.{length_push}
use Rattle.std.proofs.lemmas.Slice.Zip.{zip_turn}
use Rattle.numbers.specs.Words.{word}
use Rattle.split.proofs.FactorsToLaws.{spread-step, spread_none, spread-room}
use Rattle.algebra.proofs.SumsLaws.{sum_to-zero}
use Rattle.series.proofs.SeriesLaws.{sum-next}
use Rattle.split.proofs.factors.spread.Goals as goal

pub loop-root-init : goal.loop-root-init
loop-root-init c =
    let a = c.args in
    (sym (sum_to-zero _), refl, spread_none a.roots.now a.powers.now a.c.now)

pub overflow_add-e : goal.overflow_add-e
overflow_add-e c =
    let l = c.loop-root in
    let t = zip_turn c.args.roots.now c.args.powers.now l.yielded c.into_iter-root-iterator.result l.root-iterator c.next.new.self _ (cc) (cc) l.yielded_by _ c.in-Some.is c.next.ensures.steps in
    omega (arith, t.3 0, spread-room c.args.powers.now (length l.yielded) l.a t.1 l.invariant.0)

pub offset_bounds-c-a : goal.offset_bounds-c-a
offset_bounds-c-a c =
    let l = c.loop-root in
    let t = zip_turn c.args.roots.now c.args.powers.now l.yielded c.into_iter-root-iterator.result l.root-iterator c.next.new.self _ (cc) (cc) l.yielded_by _ c.in-Some.is c.next.ensures.steps in
    omega (arith, t.3 0, spread-room c.args.powers.now (length l.yielded) l.a t.1 l.invariant.0)

pub slice_bounds-repeat-end : goal.slice_bounds-repeat-end
slice_bounds-repeat-end c =
    let l = c.loop-root in
    let t = zip_turn c.args.roots.now c.args.powers.now l.yielded c.into_iter-root-iterator.result l.root-iterator c.next.new.self _ (cc) (cc) l.yielded_by _ c.in-Some.is c.next.ensures.steps in
    omega (arith, t.3 0, spread-room c.args.powers.now (length l.yielded) l.a t.1 l.invariant.0)

pub loop-root-preserved : goal.loop-root-preserved
loop-root-preserved c =
    let a = c.args in
    let l = c.loop-root in
    let i = length l.yielded in
    let t = zip_turn a.roots.now a.powers.now l.yielded c.into_iter-root-iterator.result l.root-iterator c.next.new.self _ (cc) (cc) l.yielded_by _ c.in-Some.is c.next.ensures.steps in
    let len : l.a + c.in-Some.power.now - l.a ≡ word a.powers.now i = omega (arith, t.3 0) in
    let x = spread-step a.roots.now a.powers.now l.c _ i l.a _ l.invariant.0 t.1 (l.invariant.1 ∙ c.requires.2) len (rw (t.2 0) at c.repeat.ensures) l.invariant.2 in
    rw (length_push l.yielded (c.in-Some.root, c.in-Some.power)) (omega (arith, t.3 0, sum-next i (word a.powers.now)), x.0 ∙ l.invariant.1, x.1)
