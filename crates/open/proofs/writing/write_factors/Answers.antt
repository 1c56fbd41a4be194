-- `open::writing::write_factors` meets its contract. The loop's invariant: the factors so far are written.
-- Assumes nothing.
use Prim.Native.Nat.{◌*◌}
use native.Mathlib.Omega.{arith}
use lib.ListN.{length}
use Rattle.std.proofs.lemmas.List.{length_push}
use Rattle.std.proofs.lemmas.Slice.Zip.{zip_turn, zip_end}
use Rattle.numbers.specs.Words.{word}
use Rattle.numbers.proofs.RefusalsLaws.{few_words}
use Rattle.rows.proofs.RowsLaws.{length_part}
use Rattle.open.specs.internal.Writing.{degree_of}
use Rattle.open.proofs.WritingLaws.{power_small, block-fits, factors-none, factors-at, factors-all, at_next, factors-more}
use Rattle.open.proofs.writing.write_factors.Goals as goal

pub loop-root-init : goal.loop-root-init
loop-root-init c =
    let a = c.args in
    (factors-at a.p a.n a.roots.now a.powers.now, factors-none a.p a.n a.roots.now a.powers.now _)

pub overflow_add-e : goal.overflow_add-e
overflow_add-e c =
    let a = c.args in
    let l = c.loop-root in
    let t = zip_turn a.roots.now a.powers.now l.yielded c.into_iter-root-iterator.result l.root-iterator c.next.new.self _ (cc) (cc) l.yielded_by _ c.in-Some.is c.next.ensures.steps in
    rw (t.3 0) (omega (arith, block-fits a.n a.powers.now (length l.yielded) t.1, few_words (degree_of a.powers.now) a.n (omega arith) (omega arith)))

pub offset_bounds-out-at : goal.offset_bounds-out-at
offset_bounds-out-at c =
    let a = c.args in
    let l = c.loop-root in
    let t = zip_turn a.roots.now a.powers.now l.yielded c.into_iter-root-iterator.result l.root-iterator c.next.new.self _ (cc) (cc) l.yielded_by _ c.in-Some.is c.next.ensures.steps in
    omega (arith, block-fits a.n a.powers.now (length l.yielded) t.1, few_words (degree_of a.powers.now) a.n (omega arith) (omega arith))

pub slice_bounds-write_factor-end : goal.slice_bounds-write_factor-end
slice_bounds-write_factor-end c =
    let a = c.args in
    let l = c.loop-root in
    let t = zip_turn a.roots.now a.powers.now l.yielded c.into_iter-root-iterator.result l.root-iterator c.next.new.self _ (cc) (cc) l.yielded_by _ c.in-Some.is c.next.ensures.steps in
    rw (t.3 0) (omega (arith, block-fits a.n a.powers.now (length l.yielded) t.1))

pub write_factor-requires : goal.write_factor-requires
write_factor-requires c =
    let a = c.args in
    let l = c.loop-root in
    let i = length l.yielded in
    let t = zip_turn a.roots.now a.powers.now l.yielded c.into_iter-root-iterator.result l.root-iterator c.next.new.self _ (cc) (cc) l.yielded_by _ c.in-Some.is c.next.ensures.steps in
    let f = block-fits a.n a.powers.now i t.1 in
    let s = power_small a.powers.now i t.1 in
    rw (t.2 0, t.3 0) (
      omega arith,
      omega arith,
      c.requires.2 i t.0,
      omega arith,
      omega arith,
      omega arith,
      length_part l.out l.at (word a.powers.now i * a.n) (omega arith),
    )

pub loop-root-preserved : goal.loop-root-preserved
loop-root-preserved c =
    let a = c.args in
    let l = c.loop-root in
    let i = length l.yielded in
    let t = zip_turn a.roots.now a.powers.now l.yielded c.into_iter-root-iterator.result l.root-iterator c.next.new.self _ (cc) (cc) l.yielded_by _ c.in-Some.is c.next.ensures.steps in
    let f = block-fits a.n a.powers.now i t.1 in
    let w = rw (t.2 0, t.3 0) at c.write_factor.ensures in
    rw (length_push l.yielded (c.in-Some.root, c.in-Some.power), t.3 0) (
      at_next a.p a.n a.roots.now a.powers.now i l.at l.invariant.0,
      factors-more a.p a.n a.roots.now a.powers.now i l.at a.out.now l.out _ t.0 l.invariant.0 (omega arith) l.invariant.1 w,
    )

pub returns : goal.returns
returns c =
    let a = c.args in
    let l = c.loop-root in
    let e = zip_end a.roots.now a.powers.now l.yielded c.into_iter-root-iterator.result l.root-iterator c.next.new.self _ (cc) (cc) l.yielded_by c.in-None.is c.next.ensures.steps in
    factors-all a.p a.n a.roots.now a.powers.now (length l.yielded) a.out.now _ (omega arith) l.invariant.1 c.requires.7
