-- `counts::write_counts` meets its contract. The loop's invariant: words 1 to r are written, and what is unsplit and they make p^d.
-- Assumes nothing.
use Prim.Native.Nat.{◌+◌, ◌-◌}
use native.Mathlib.Omega.{arith}
use mathlib.Core.Path.{sym, ◌∙◌, ap}
use Rattle.counts.proofs.SubsetsLaws.{subsets-none}
use Rattle.counts.proofs.CountingLaws.{sets-bound, powers-bound, split-made, taken, total_first, taken-enough, taken_next, taken-all, writes-none, writes-next, writes-all}
use Rattle.counts.proofs.write_counts.Goals as goal

pub loop-r-init : goal.loop-r-init
loop-r-init c =
    let a = c.args in
    let h = c.requires in
    (total_first a.p a.d h.0 _ c.polynomials-unsplit.ensures, sym (subsets-none _), sym (subsets-none _), writes-none a.p a.d _ (omega (arith, h.1)))

pub next_subsets-sets-requires : goal.next_subsets-sets-requires
next_subsets-sets-requires c =
    let l = c.loop-r in
    let e = l.invariant.1 in
    let b = sets-bound c.args.p c.args.d c.requires.0 l.r (omega arith) in
    (c.requires.0.small, e, omega arith)

pub overflow_mul-split : goal.overflow_mul-split
overflow_mul-split c = let z = (split-made c.args.p c.args.d c.requires.0 c.loop-r.r _ _ c.next_subsets-sets.ensures c.loop-r.invariant.2).1 in record { fits = omega arith }

pub next_subsets-powers-requires : goal.next_subsets-powers-requires
next_subsets-powers-requires c =
    let l = c.loop-r in
    let e = l.invariant.2 in
    let b = powers-bound c.args.p c.args.d c.requires.0 l.r in
    let high = c.requires.0.high in
    (omega arith, e, omega arith)

pub overflow_sub-unsplit : goal.overflow_sub-unsplit
overflow_sub-unsplit c =
    let l = c.loop-r in
    omega (arith, (split-made c.args.p c.args.d c.requires.0 c.loop-r.r _ _ c.next_subsets-sets.ensures c.loop-r.invariant.2).0, taken-enough c.args.p c.args.d c.requires.0 l.r l.unsplit (omega arith) l.invariant.0)

pub overflow_cast-out : goal.overflow_cast-out
overflow_cast-out c = let z = (split-made c.args.p c.args.d c.requires.0 c.loop-r.r _ _ c.next_subsets-sets.ensures c.loop-r.invariant.2).1 in record { fits = omega arith }

pub loop-r-preserved : goal.loop-r-preserved
loop-r-preserved c =
    let l = c.loop-r in
    let m = (split-made c.args.p c.args.d c.requires.0 c.loop-r.r _ _ c.next_subsets-sets.ensures c.loop-r.invariant.2).0 in (
      ap (λ x. l.unsplit - x + taken c.args.p c.args.d (l.r + 1)) m ∙ taken_next c.args.p c.args.d c.requires.0 l.r l.unsplit (omega arith) l.invariant.0,
      c.next_subsets-sets.ensures,
      c.next_subsets-powers.ensures,
      writes-next c.args.p c.args.d l.r _ _ _ l.invariant.3 (omega (arith, c.requires.1)) m,
    )

pub returns : goal.returns
returns c = let l = c.loop-r in writes-all c.args.p c.args.d l.r _ _ _ l.invariant.3 (omega arith) (taken-all c.args.p c.args.d c.requires.0 c.loop-r.r c.loop-r.unsplit (omega arith) c.loop-r.invariant.0).0
