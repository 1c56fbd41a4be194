-- `series::kernel::divide_from` meets its contract.
-- Assumes nothing.
use native.Mathlib.Omega.{arith}
use Rattle.numbers.proofs.WordsLaws.{length_from, from-below}
use Rattle.series.proofs.DividedLaws.{part-unit, words-written}
use Rattle.series.proofs.kernel.divide_from.Goals as goal

pub divide-requires : goal.divide-requires
divide-requires c =
    let a = c.args in
    let h = c.requires in
    let l = length_from a.g.now a.e in
    (h.0, h.1, omega arith, omega arith, omega arith, from-below a.p a.f.now a.e h.5, from-below a.p a.g.now a.e h.6, part-unit a.p a.f.now a.g.now a.out.now a.e h.7 h.8)

pub returns : goal.returns
returns c =
    let a = c.args in
    let h = c.requires in
    words-written a.p a.f.now a.g.now a.out.now a.e h.7 h.8 _ _ h.4 c.divide.ensures c.repeat.ensures
