-- `pair::Ordered::is_pair` meets its contract, with few words of its own or many.
-- Assumes nothing.
use mathlib.Core.Path.{sym, subst}
use Prim.Native.Nat.{◌+◌, ◌*◌, ◌≤◌}
use native.Mathlib.Omega.{arith}
use lib.Seq.{length-take-le}
use Rattle.numbers.proofs.RefusalsLaws.{few_words}
use Rattle.tiled.proofs.TiledLaws.{lent-long}
use Rattle.pair.proofs.AnswerLaws.{pair-decided}
use Rattle.pair.proofs.Ordered.is_pair.Goals as goal

pub slice_bounds-is_worked-end : goal.slice_bounds-is_worked-end
slice_bounds-is_worked-end c = let a = c.args in sym (length-take-le ((a.self.degree + 1) * a.self.width) a.s.now c.requires.0)

pub slice_bounds-is_worked-end-then-end-le-FEW_WORDS : goal.slice_bounds-is_worked-end-then-end-le-FEW_WORDS
slice_bounds-is_worked-end-then-end-le-FEW_WORDS c = let a = c.args in sym (lent-long 512 ((a.self.degree + 1) * a.self.width) c.if-end-le-FEW_WORDS.true)

pub is_worked-requires : goal.is_worked-requires
is_worked-requires c =
    let a = c.args in
    let r = c.requires in
    (length-take-le ((a.self.degree + 1) * a.self.width) a.s.now r.0, lent-long 512 ((a.self.degree + 1) * a.self.width) c.if-end-le-FEW_WORDS.true, r.1, r.2)

pub returns-then-end-le-FEW_WORDS : goal.returns-then-end-le-FEW_WORDS
returns-then-end-le-FEW_WORDS c =
    let a = c.args in
    let r = c.requires in
    let g = c.args.self.given in
    pair-decided a.self.p a.self.degree a.self.width a.self.f.now a.h a.s.now g.prime (subst (λ x. x ≤ a.self.degree) g.ordered g.bound) r.1 r.2 r.0 c.is_worked.ensures

pub slice_bounds-is_worked-end-2 : goal.slice_bounds-is_worked-end-2
slice_bounds-is_worked-end-2 c = let a = c.args in sym (length-take-le ((a.self.degree + 1) * a.self.width) a.s.now c.requires.0)

pub slice_bounds-rows-end : goal.slice_bounds-rows-end
slice_bounds-rows-end c = let a = c.args in let g = c.args.self.given in few_words (a.self.degree + 1) a.self.width (omega (arith, g.degree-high)) g.width-high

pub slice_bounds-is_worked-end-3 : goal.slice_bounds-is_worked-end-3
slice_bounds-is_worked-end-3 c = let a = c.args in let g = c.args.self.given in sym (lent-long 8448 ((a.self.degree + 1) * a.self.width) (few_words (a.self.degree + 1) a.self.width (omega (arith, g.degree-high)) g.width-high))

pub is_worked-requires-2 : goal.is_worked-requires-2
is_worked-requires-2 c =
    let a = c.args in
    let r = c.requires in
    let g = c.args.self.given in
    (length-take-le ((a.self.degree + 1) * a.self.width) a.s.now r.0, lent-long 8448 ((a.self.degree + 1) * a.self.width) (few_words (a.self.degree + 1) a.self.width (omega (arith, g.degree-high)) g.width-high), r.1, r.2)

pub returns : goal.returns
returns c =
    let a = c.args in
    let r = c.requires in
    let g = c.args.self.given in
    pair-decided a.self.p a.self.degree a.self.width a.self.f.now a.h a.s.now g.prime (subst (λ x. x ≤ a.self.degree) g.ordered g.bound) r.1 r.2 r.0 c.is_worked-2.ensures
