-- `formula::kind_of` meets its contract.
-- Assumes nothing.
use mathlib.Core.Path.{sym, ap}
use native.Mathlib.Omega.{arith}
use Rattle.formula.specs.internal.Scan.{kind_of}
use Rattle.formula.proofs.CompleteLaws.{kind-digit}
use Rattle.formula.proofs.SoundLaws.{kind-other}
use Rattle.formula.proofs.kind_of.Goals as goal

pub returns-in-32 : goal.returns-in-32
unfolding kind_of
returns-in-32 c = sym (ap kind_of c.in-32.is)

pub returns-in-88 : goal.returns-in-88
unfolding kind_of
returns-in-88 c = sym (ap kind_of c.in-88.is)

pub returns-in-89 : goal.returns-in-89
unfolding kind_of
returns-in-89 c = sym (ap kind_of c.in-89.is)

pub returns-in-43 : goal.returns-in-43
unfolding kind_of
returns-in-43 c = sym (ap kind_of c.in-43.is)

pub returns-in-45 : goal.returns-in-45
unfolding kind_of
returns-in-45 c = sym (ap kind_of c.in-45.is)

pub returns-in-42 : goal.returns-in-42
unfolding kind_of
returns-in-42 c = sym (ap kind_of c.in-42.is)

pub returns-in-94 : goal.returns-in-94
unfolding kind_of
returns-in-94 c = sym (ap kind_of c.in-94.is)

pub returns-in-40 : goal.returns-in-40
unfolding kind_of
returns-in-40 c = sym (ap kind_of c.in-40.is)

pub returns-in-41 : goal.returns-in-41
unfolding kind_of
returns-in-41 c = sym (ap kind_of c.in-41.is)

pub returns-in-48-to-57 : goal.returns-in-48-to-57
returns-in-48-to-57 c = sym (kind-digit _ (omega arith) (omega arith))

pub returns-in_default : goal.returns-in_default
returns-in_default c = let r = c.in_default.in_default-own.rest in kind-other _ (record { blank = r.0.0.0.0.0.0.0.0.1; x = r.0.0.0.0.0.0.0.1; y = r.0.0.0.0.0.0.1; plus = r.0.0.0.0.0.1; minus = r.0.0.0.0.1; star = r.0.0.0.1; caret = r.0.0.1; opens = r.0.1; closes = r.1; digit = λ z. let y : ⊥ = omega arith in y })

pub returns-in_default-2 : goal.returns-in_default-2
returns-in_default-2 c = let r = c.in_default.in_default-own.rest in kind-other _ (record { blank = r.0.0.0.0.0.0.0.0.1; x = r.0.0.0.0.0.0.0.1; y = r.0.0.0.0.0.0.1; plus = r.0.0.0.0.0.1; minus = r.0.0.0.0.1; star = r.0.0.0.1; caret = r.0.0.1; opens = r.0.1; closes = r.1; digit = λ z. let y : ⊥ = omega arith in y })
