-- `modulo::Modulus::may_split` meets its contract.
-- Assumes nothing.
use mathlib.Core.Path.{◌≡◌, refl, sym, ap, subst, ◌∙◌}
use native.Mathlib.Omega.{arith}
use lib.ListN.{length, take}
use lib.Seq.{take_at}
use Rattle.modulo.specs.internal.Modulo.{Remainder, frobenius}
use Rattle.modulo.proofs.ProductLaws.{modulus-at}
use Rattle.modulo.proofs.Modulus.may_split.Goals as goal
use Rattle.modulo.proofs.Modulus.may_split.Lts as step
use Rattle.modulo.proofs.Modulus.may_split.Reads as reads
use Rattle.modulo.proofs.Modulus.may_split.Tie as tie

copied : (b : step.After-v3 tie.the-claims reads.Pre reads.Post) → let w = b.args.w.now in take (length w) b.copy.new.out ≡ w
copied b =
    let w = b.args.w.now in
    ap (take (length w)) b.copy.ensures ∙ take_at w _ (length w) refl

pub copy-requires : goal.copy-requires
copy-requires c = omega (arith, (modulus-at c.args.self.fits c.requires.1).few)

pub slice_bounds-v-end : goal.slice_bounds-v-end
slice_bounds-v-end c = omega (arith, (modulus-at c.args.self.fits c.requires.1).few)

pub slice_bounds-vanishes-end : goal.slice_bounds-vanishes-end
slice_bounds-vanishes-end c = sym (ap length (copied c.before))

pub vanishes-requires : goal.vanishes-requires
vanishes-requires c = (
  c.requires.0,
  omega (arith, c.requires.1, ap length (copied c.before)),
  subst (Remainder c.args.self.p c.args.self.f.now (frobenius c.args.self.p)) (sym (copied c.before)) c.requires.2,
)
