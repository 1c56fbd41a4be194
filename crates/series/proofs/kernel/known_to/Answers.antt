-- `series::kernel::known_to` meets its contract.
-- Assumes nothing.
use mathlib.Core.Path.{◌≡◌}
use mathlib.Core.Logic.{⊎_elim}
use lib.ListN.{length}
use Rattle.std.proofs.Common.{rules, tests, arith}
use Rattle.std.proofs.lemmas.Iterator.{cases_from_all, YieldsList-from_slice}
use Rattle.numbers.specs.Words.{word}
use Rattle.numbers.proofs.WordsLaws.{from}
use Rattle.series.proofs.KnownLaws.{known-not, known_from_all}
use Rattle.series.proofs.kernel.known_to.Goals as goal

pub returns-then-known-s : goal.returns-then-known-s
returns-then-known-s c =
    let a = c.args in
    let h = c.if-known-s.true in
    known_from_all a.s.now a.n _ h.0 h.1
    (cases_from_all _ _ _ (λ x. x ≡ 0) (λ x. x ≡ 0 → ⊥) c.all.ensures.ran (YieldsList-from_slice (from a.s.now a.n) cc) (λ x q k. search (rules, tests)) (λ x q k. search (rules, tests)))

pub returns-else-known-s : goal.returns-else-known-s
returns-else-known-s c =
    let a = c.args in
    let e = known-not (length a.s.now) a.n (word a.s.now)
    (λ k. ⊎_elim (λ l. let z : ⊥ = omega (arith, l.1, k.high) in z) (λ l. let z : ⊥ = omega (arith, l, k.low) in z) c.if-known-s.either) in
    cc
