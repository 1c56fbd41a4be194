-- `numbers::judge::first_large` meets its contract.
-- Assumes nothing.
use mathlib.Core.Path.{refl, sym, ◌∙◌}
use Prim.Native.Nat.{◌≤◌, ◌<◌}
use borrow.Author.Tests.{le-leb, lt-leb}
use Rattle.std.proofs.Common.{rules, tests, arith}
use Rattle.std.proofs.lemmas.Iterator.{IsFirst-from_position, index_from_first, YieldsList-from_slice}
use Rattle.numbers.specs.Words.{first_large}
use Rattle.numbers.proofs.judge.first_large.Goals as goal

pub returns : goal.returns
unfolding first_large
returns c =
    let p = c.args.p in
    let s = c.args.s.now in
    let first = IsFirst-from_position _ _ _ (λ x. p ≤ x) (λ x. x < p) c.position.ensures.ran (YieldsList-from_slice s cc) (λ x q k. search (rules, tests)) (λ x q k. search (rules, tests)) in
    c.unwrap_or.ensures ∙ sym (index_from_first (first_large p) (λ x. p ≤ x) (λ x. x < p) refl (λ x xs h. rw (le-leb p x h)) (λ x xs h. rw (lt-leb p x h) (omega arith)) s _ first)
