-- `rootfinding::finding::certify` meets its contract.
-- Assumes nothing.
use mathlib.Core.Path.{◌≡◌, sym, ◌∙◌, ap, ap₂, subst}
use Prim.Native.Nat.{◌-◌}
use native.Mathlib.Omega.{arith}
use lib.ListN.{length, take}
use Rattle.numbers.specs.Words.{word}
use Rattle.numbers.specs.internal.Facts.{AllBelow, Rising}
use Rattle.numbers.proofs.WordsLaws.{none-large}
use Rattle.numbers.proofs.TestsLaws.{rising-are}
use Rattle.rootfinding.proofs.FoundLaws.{over-take, answer-large, answer-falling, answer-found}
use Rattle.rootfinding.proofs.finding.certify.Goals as goal
use Rattle.rootfinding.proofs.finding.certify.Lts as step
use Rattle.rootfinding.proofs.finding.certify.Reads as reads
use Rattle.rootfinding.proofs.finding.certify.Tie as tie

below : (b : step.Else2 tie.the-claims reads.Pre reads.Post) → AllBelow b.args.p b.args.roots.now
below b = none-large b.args.p b.args.roots.now (omega (arith, b.first_large.ensures))

up : (b : step.Else2 tie.the-claims reads.Pre reads.Post) → Rising b.args.roots.now
up b = rising-are b.args.roots.now (sym b.rises.ensures ∙ b.if-not-rises.false)

copied : (b : step.After-copy tie.the-claims reads.Pre reads.Post) → take (length b.args.e.now) b.copy.new.out ≡ b.args.e.now
copied b = over-take b.args.e.now _ _ b.copy.ensures

pub returns-then-first_large-roots : goal.returns-then-first_large-roots
returns-then-first_large-roots c =
    let a = c.args in
    answer-large a.p a.e.now a.roots.now _ _ c.first_large.ensures c.if-first_large-roots.true

pub returns-then-not-rises : goal.returns-then-not-rises
returns-then-not-rises c =
    let a = c.args in
    answer-falling a.p a.e.now a.roots.now _ (sym c.rises.ensures ∙ c.if-not-rises.true)

pub slice_bounds-find_powers-end : goal.slice_bounds-find_powers-end
slice_bounds-find_powers-end c = sym (ap length (copied c.before.before.before))

pub find_powers-requires : goal.find_powers-requires
find_powers-requires c =
    let m = c.requires.0 in
    let e = copied c.before.before.before.before in
    let n = ap length e in
    let some = m.some in
    let few = m.few in
    let low = subst (AllBelow c.args.p) (sym e) m.below in
    (m.prime, m.small, below c.before.before.before.before.before.before, up c.before.before.before.before.before.before, c.requires.1, omega arith, omega arith, low, ap₂ (λ x k. word x (k - 1)) e n ∙ m.top)

pub returns : goal.returns
returns c =
    let a = c.args in
    answer-found a.p a.e.now a.roots.now _ _ _ (up c.before.before.before.before.before.before.before.before.before.before) (below c.before.before.before.before.before.before.before.before.before.before) (copied c.before.before.before.before.before.before.before.before) c.find_powers.ensures
