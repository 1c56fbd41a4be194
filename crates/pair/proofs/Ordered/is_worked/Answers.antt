-- `pair::Ordered::is_worked` meets its contract.
-- Assumes nothing.
use mathlib.Core.Path.{sym, ◌∙◌}
use native.Mathlib.Omega.{arith}
use Rattle.pair.proofs.AnswerLaws.{worked-decides}
use Rattle.pair.proofs.Ordered.is_worked.Goals as goal

pub lift-requires : goal.lift-requires
lift-requires c = let r = c.requires in (r.1, λ one. absurd (let z : ⊥ = omega arith in z), omega arith, r.2, r.3)

pub same_words-requires : goal.same_words-requires
same_words-requires c = let r = c.requires in r.0 ∙ sym (c.lift.ensures.long ∙ r.1)

pub returns : goal.returns
returns c =
    let a = c.args in
    let r = c.requires in
    worked-decides a.self.p a.self.degree a.self.width a.self.f.now a.h a.s.now _ c.args.self.given.prime r.2 r.3 (c.lift.ensures.long ∙ r.1) c.lift.ensures.words c.same_words.ensures
