-- `pair::Ordered::is_held` meets its contract.
-- Assumes nothing.
use mathlib.Core.Path.{◌∙◌}
use borrow.Author.Tests.{eq-eqb, lt-leb}
use Rattle.pair.proofs.TestLaws.{held_start, held-beyond, held-tested}
use Rattle.pair.proofs.Ordered.is_held.Goals as goal

pub returns-then-h-eq0 : goal.returns-then-h-eq0
returns-then-h-eq0 c = let a = c.args in eq-eqb a.h 0 c.if-h-eq0.true ∙ held_start a.self.p a.self.degree a.self.width a.self.f.now a.h a.s.now c.if-h-eq0.true

pub returns-then-h-self : goal.returns-then-h-self
returns-then-h-self c = let a = c.args in held-tested a.self.p a.self.degree a.self.width a.self.f.now a.h a.s.now c.if-h-eq0.false c.if-h-self.true c.is_pair.ensures

pub returns-else-h-self : goal.returns-else-h-self
returns-else-h-self c = let a = c.args in lt-leb a.h a.self.width c.if-h-self.false ∙ held-beyond a.self.p a.self.degree a.self.width a.self.f.now a.h a.s.now c.if-h-eq0.false c.if-h-self.false
