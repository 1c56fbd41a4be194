-- The proof of the cycle of calls {factor_rows}. The measure is the number of groups.
-- Assumes nothing.
use mathlib.Core.Path.{sym, ◌∙◌}
use native.Mathlib.Omega.{arith}
use lib.Seq.{length-take-le}
use Rattle.numbers.proofs.WordsLaws.{length_from}
use Rattle.numbers.proofs.RefusalsLaws.{few_words}
use Rattle.split.proofs.FactorLaws.{leaf, m-low, m-high, node-apart, seam-ok, ready-left, halved, ready-right-lent, left-size, count_room, power-room, half-sum, half_room, seam-after}
use Prim.Native.Nat.{◌*◌}
use Rattle.split.proofs.factors.+factor_rows.Goals as goal

pub returns-then-powers-lt2 : goal.returns-then-powers-lt2
returns-then-powers-lt2 t c =
    let a = c.args in leaf a.p a.n a.w a.powers.now a.c.now a.rows.now c.if-powers-lt2.true c.requires

pub half-mid-requires : goal.half-mid-requires
half-mid-requires t c =
    let a = c.args in let h = c.requires in
    let room = h.room in
    let n = count_room a.powers.now a.c.now h.roots in
    (omega (arith, c.if-powers-lt2.false), omega arith, λ i l. let z = power-room a.powers.now a.c.now h.roots i l in omega arith)

pub slice_bounds-total-end : goal.slice_bounds-total-end
slice_bounds-total-end t c =
    let hi = c.half-mid.ensures.1 in sym (length-take-le c.half-mid.result c.args.powers.now (omega arith))

pub total-m-requires : goal.total-m-requires
total-m-requires t c =
    let a = c.args in let h = c.requires in
    let hi = c.half-mid.ensures.1 in
    let room = h.room in
    let z = half_room a.powers.now a.c.now h.roots c.half-mid.result (omega arith) in omega arith

pub split_node-requires : goal.split_node-requires
split_node-requires t c =
    let a = c.args in let h = c.requires in
    let mid = c.half-mid.result in
    let lo = c.half-mid.ensures.0 in
    let hi = c.half-mid.ensures.1 in
    let m = c.total-m.result in
    let em = c.total-m.ensures ∙ half-sum a.powers.now mid (omega arith) in (
      record {
        prime = h.prime;
        small = h.small;
        low = m-low a.p a.n a.w a.powers.now a.c.now a.rows.now a.rows.now h mid lo hi m em;
        high = m-high a.p a.n a.w a.powers.now a.c.now a.rows.now a.rows.now h mid lo hi m em;
        room = h.room;
        below = h.c-below;
        apart = node-apart a.p a.n a.w a.powers.now a.c.now a.rows.now a.rows.now h mid lo hi m em;
      },
      record { width = h.width; from_low = omega arith; from-high = h.terms-low; terms-high = h.terms-high; long = h.long; below = h.below },
    )

pub overflow_mul-seam : goal.overflow_mul-seam
overflow_mul-seam t c =
    let a = c.args in let h = c.requires in
    let mid = c.half-mid.result in
    let lo = c.half-mid.ensures.0 in
    let hi = c.half-mid.ensures.1 in
    let m = c.total-m.result in
    let em = c.total-m.ensures ∙ half-sum a.powers.now mid (omega arith) in
    let big = m-high a.p a.n a.w a.powers.now a.c.now a.rows.now a.rows.now h mid lo hi m em in
    let room = h.room in
    let z = few_words m a.n (omega arith) h.width in omega arith

pub slice_bounds-factor_rows-end : goal.slice_bounds-factor_rows-end
slice_bounds-factor_rows-end t c =
    let hi = c.half-mid.ensures.1 in sym (length-take-le c.half-mid.result c.args.powers.now (omega arith))

pub slice_bounds-factor_rows-end-2 : goal.slice_bounds-factor_rows-end-2
slice_bounds-factor_rows-end-2 t c =
    let a = c.args in let h = c.requires in
    let mid = c.half-mid.result in
    let lo = c.half-mid.ensures.0 in
    let hi = c.half-mid.ensures.1 in
    let m = c.total-m.result in
    let em = c.total-m.ensures ∙ half-sum a.powers.now mid (omega arith) in let z = m-high a.p a.n a.w a.powers.now a.c.now a.rows.now a.rows.now h mid lo hi m em in sym (length-take-le m a.c.now (omega arith))

pub slice_bounds-factor_rows-end-3 : goal.slice_bounds-factor_rows-end-3
slice_bounds-factor_rows-end-3 t c =
    let a = c.args in let h = c.requires in
    let mid = c.half-mid.result in
    let lo = c.half-mid.ensures.0 in
    let hi = c.half-mid.ensures.1 in
    let m = c.total-m.result in
    let em = c.total-m.ensures ∙ half-sum a.powers.now mid (omega arith) in
    let s1 = c.split_node.new.rows in
    let sp = c.split_node.ensures in seam-ok a.p a.n a.w a.powers.now a.c.now a.rows.now s1 h mid lo hi m em sp

pub slice_bounds-factor_rows-end-4 : goal.slice_bounds-factor_rows-end-4
slice_bounds-factor_rows-end-4 t c =
    let a = c.args in let h = c.requires in
    let mid = c.half-mid.result in
    let lo = c.half-mid.ensures.0 in
    let hi = c.half-mid.ensures.1 in
    let m = c.total-m.result in
    let em = c.total-m.ensures ∙ half-sum a.powers.now mid (omega arith) in
    let s1 = c.split_node.new.rows in
    let sp = c.split_node.ensures in sym (left-size a.p a.n a.w a.powers.now a.c.now a.rows.now s1 h mid lo hi m em sp)

pub factor_rows-requires : goal.factor_rows-requires
factor_rows-requires t c =
    let pre = c.requires in let a = c.args in let h = pre in
    let mid = c.half-mid.result in
    let lo = c.half-mid.ensures.0 in
    let hi = c.half-mid.ensures.1 in
    let m = c.total-m.result in
    let em = c.total-m.ensures ∙ half-sum a.powers.now mid (omega arith) in
    let s1 = c.split_node.new.rows in
    let sp = c.split_node.ensures in
    let n = length-take-le mid a.powers.now (omega arith) in
    (omega (arith, n), ready-left a.p a.n a.w a.powers.now a.c.now a.rows.now s1 h mid lo hi m em sp)

pub offset_bounds-powers-mid : goal.offset_bounds-powers-mid
offset_bounds-powers-mid t c =
    let a = c.args in let h = c.requires in let hi = c.half-mid.ensures.1 in let n = count_room a.powers.now a.c.now h.roots in let room = h.room in omega arith

pub slice_bounds-factor_rows-count : goal.slice_bounds-factor_rows-count
slice_bounds-factor_rows-count t c =
    let hi = c.half-mid.ensures.1 in omega arith

pub slice_bounds-factor_rows-start : goal.slice_bounds-factor_rows-start
slice_bounds-factor_rows-start t c =
    let hi = c.half-mid.ensures.1 in omega arith

pub slice_bounds-factor_rows-end-5 : goal.slice_bounds-factor_rows-end-5
slice_bounds-factor_rows-end-5 t c =
    let hi = c.half-mid.ensures.1 in omega arith

pub offset_bounds-c-m : goal.offset_bounds-c-m
offset_bounds-c-m t c =
    let a = c.args in let h = c.requires in
    let mid = c.half-mid.result in
    let lo = c.half-mid.ensures.0 in
    let hi = c.half-mid.ensures.1 in
    let m = c.total-m.result in
    let em = c.total-m.ensures ∙ half-sum a.powers.now mid (omega arith) in let z = m-high a.p a.n a.w a.powers.now a.c.now a.rows.now a.rows.now h mid lo hi m em in let room = h.room in omega arith

pub slice_bounds-factor_rows-count-2 : goal.slice_bounds-factor_rows-count-2
slice_bounds-factor_rows-count-2 t c =
    let a = c.args in let h = c.requires in
    let mid = c.half-mid.result in
    let lo = c.half-mid.ensures.0 in
    let hi = c.half-mid.ensures.1 in
    let m = c.total-m.result in
    let em = c.total-m.ensures ∙ half-sum a.powers.now mid (omega arith) in let z = m-high a.p a.n a.w a.powers.now a.c.now a.rows.now a.rows.now h mid lo hi m em in omega arith

pub slice_bounds-factor_rows-start-2 : goal.slice_bounds-factor_rows-start-2
slice_bounds-factor_rows-start-2 t c =
    let a = c.args in let h = c.requires in
    let mid = c.half-mid.result in
    let lo = c.half-mid.ensures.0 in
    let hi = c.half-mid.ensures.1 in
    let m = c.total-m.result in
    let em = c.total-m.ensures ∙ half-sum a.powers.now mid (omega arith) in let z = m-high a.p a.n a.w a.powers.now a.c.now a.rows.now a.rows.now h mid lo hi m em in omega arith

pub slice_bounds-factor_rows-end-6 : goal.slice_bounds-factor_rows-end-6
slice_bounds-factor_rows-end-6 t c =
    let a = c.args in let h = c.requires in
    let mid = c.half-mid.result in
    let lo = c.half-mid.ensures.0 in
    let hi = c.half-mid.ensures.1 in
    let m = c.total-m.result in
    let em = c.total-m.ensures ∙ half-sum a.powers.now mid (omega arith) in let z = m-high a.p a.n a.w a.powers.now a.c.now a.rows.now a.rows.now h mid lo hi m em in omega arith

pub offset_bounds-rows-seam : goal.offset_bounds-rows-seam
offset_bounds-rows-seam t c =
    let a = c.args in let h = c.requires in
    let mid = c.half-mid.result in
    let lo = c.half-mid.ensures.0 in
    let hi = c.half-mid.ensures.1 in
    let m = c.total-m.result in
    let em = c.total-m.ensures ∙ half-sum a.powers.now mid (omega arith) in
    let big = m-high a.p a.n a.w a.powers.now a.c.now a.rows.now a.rows.now h mid lo hi m em in
    let room = h.room in
    let z = few_words m a.n (omega arith) h.width in omega arith

pub slice_bounds-factor_rows-count-3 : goal.slice_bounds-factor_rows-count-3
slice_bounds-factor_rows-count-3 t c =
    let a = c.args in let h = c.requires in
    let mid = c.half-mid.result in
    let lo = c.half-mid.ensures.0 in
    let hi = c.half-mid.ensures.1 in
    let m = c.total-m.result in
    let em = c.total-m.ensures ∙ half-sum a.powers.now mid (omega arith) in
    let s1 = c.split_node.new.rows in
    let sp = c.split_node.ensures in
    let x = c.factor_rows.new.rows in
    let e = seam-after (m * a.n) s1 x (seam-ok a.p a.n a.w a.powers.now a.c.now a.rows.now s1 h mid lo hi m em sp) c.factor_rows.ensures.long in e.0

pub slice_bounds-factor_rows-start-3 : goal.slice_bounds-factor_rows-start-3
slice_bounds-factor_rows-start-3 t c =
    let a = c.args in let h = c.requires in
    let mid = c.half-mid.result in
    let lo = c.half-mid.ensures.0 in
    let hi = c.half-mid.ensures.1 in
    let m = c.total-m.result in
    let em = c.total-m.ensures ∙ half-sum a.powers.now mid (omega arith) in
    let s1 = c.split_node.new.rows in
    let sp = c.split_node.ensures in
    let x = c.factor_rows.new.rows in
    let e = seam-after (m * a.n) s1 x (seam-ok a.p a.n a.w a.powers.now a.c.now a.rows.now s1 h mid lo hi m em sp) c.factor_rows.ensures.long in omega (arith, e.0)

pub slice_bounds-factor_rows-end-7 : goal.slice_bounds-factor_rows-end-7
slice_bounds-factor_rows-end-7 t c =
    let a = c.args in let h = c.requires in
    let mid = c.half-mid.result in
    let lo = c.half-mid.ensures.0 in
    let hi = c.half-mid.ensures.1 in
    let m = c.total-m.result in
    let em = c.total-m.ensures ∙ half-sum a.powers.now mid (omega arith) in
    let s1 = c.split_node.new.rows in
    let sp = c.split_node.ensures in
    let x = c.factor_rows.new.rows in
    let e = seam-after (m * a.n) s1 x (seam-ok a.p a.n a.w a.powers.now a.c.now a.rows.now s1 h mid lo hi m em sp) c.factor_rows.ensures.long in omega (arith, e.0)

pub factor_rows-requires-2 : goal.factor_rows-requires-2
factor_rows-requires-2 t c =
    let pre = c.requires in let a = c.args in let h = pre in
    let mid = c.half-mid.result in
    let lo = c.half-mid.ensures.0 in
    let hi = c.half-mid.ensures.1 in
    let m = c.total-m.result in
    let em = c.total-m.ensures ∙ half-sum a.powers.now mid (omega arith) in
    let s1 = c.split_node.new.rows in
    let sp = c.split_node.ensures in
    let x = c.factor_rows.new.rows in
    let e = seam-after (m * a.n) s1 x (seam-ok a.p a.n a.w a.powers.now a.c.now a.rows.now s1 h mid lo hi m em sp) c.factor_rows.ensures.long in
    (omega (arith, length_from a.powers.now mid), ready-right-lent a.p a.n a.w a.powers.now a.c.now a.rows.now s1 h mid lo hi m em sp x e.1)

pub shape_of-rows : goal.shape_of-rows
shape_of-rows t c =
    let a = c.args in let h = c.requires in
    let mid = c.half-mid.result in
    let lo = c.half-mid.ensures.0 in
    let hi = c.half-mid.ensures.1 in
    let m = c.total-m.result in
    let em = c.total-m.ensures ∙ half-sum a.powers.now mid (omega arith) in
    let s1 = c.split_node.new.rows in
    let sp = c.split_node.ensures in
    (halved a.p a.n a.w a.powers.now a.c.now a.rows.now s1 h mid lo hi m em sp _ _ c.factor_rows.ensures c.factor_rows-2.ensures).long

pub returns : goal.returns
returns t c =
    let a = c.args in let h = c.requires in
    let mid = c.half-mid.result in
    let lo = c.half-mid.ensures.0 in
    let hi = c.half-mid.ensures.1 in
    let m = c.total-m.result in
    let em = c.total-m.ensures ∙ half-sum a.powers.now mid (omega arith) in
    let s1 = c.split_node.new.rows in
    let sp = c.split_node.ensures in
    halved a.p a.n a.w a.powers.now a.c.now a.rows.now s1 h mid lo hi m em sp _ _ c.factor_rows.ensures c.factor_rows-2.ensures
