-- `open::opening::is_unit` meets its contract.
-- Assumes nothing.
use mathlib.Core.Path.{◌≡◌, sym, ap, ◌∙◌}
use mathlib.Core.Bool.{Bool, true, false}
use mathlib.Core.List.{List}
use mathlib.Core.Logic.{◌≢◌}
use Prim.Native.Nat.{ℕ, zero, suc, ◌+◌, ◌≤◌, ◌<◌}
use native.Mathlib.Omega.{arith}
use borrow.Author.Rules.{rules}
use borrow.Author.Tests.{ne_eqb, tests}
use lib.ListN.{length}
use Rattle.std.specs.Bool.{MatchBool}
use Rattle.std.specs.List.{AllWithin, HoldsAt}
use Rattle.std.proofs.lemmas.Iterator.{cases_from_all, YieldsList-from_slice}
use Rattle.numbers.specs.Words.{word}
use Rattle.numbers.proofs.WordsLaws.{from, length_from, word-from}
use Rattle.rows.specs.Rows.{unit}
use Rattle.sheet.proofs.WorkLaws.{unit-later}
use Rattle.open.specs.internal.Opening.{is_unit}
use Rattle.open.proofs.OpenChecksLaws.{unit-fails, unit-passes}
use Rattle.open.proofs.opening.is_unit.Goals as goal

-- what is found of the words past the first
by_rest : (s : List ℕ) (r : Bool) → 1 ≤ length s → word s 0 ≡ 1
    → MatchBool r (AllWithin (λ x. x ≡ 0) (from s 1) 0 (length (from s 1))) ((k : ℕ) × (k < length (from s 1)) × HoldsAt (λ x. x ≢ 0) (from s 1) k) → r ≡ is_unit s
by_rest s true some first h = unit-passes s (length s) (omega arith) later
  where
    later : (k : ℕ) → k < length s → word s k ≡ unit k
    later zero l = first
    later (suc k) l = ap (word s) (let e : suc k ≡ 1 + k = omega arith in e) ∙ sym (word-from s 1 k) ∙ h k 0 (omega arith) (omega (arith, length_from s 1))
by_rest s false some first (k, l, ne) = unit-fails s (1 + k) (omega (arith, length_from s 1)) (λ e. ne 0 (word-from s 1 k ∙ e ∙ unit-later (1 + k) (omega arith)))

pub returns-then-s-eq1 : goal.returns-then-s-eq1
returns-then-s-eq1 c =
    by_rest c.args.s.now _ (omega arith) c.if-s-eq1.true
    (cases_from_all _ _ _ (λ x. x ≡ 0) (λ x. x ≢ 0) c.all.ensures.ran (YieldsList-from_slice (from c.args.s.now 1) c.iter.ensures.rest) (λ x q k. search (rules, tests)) (λ x q k. search (rules, tests)))

pub returns-else-s-eq1 : goal.returns-else-s-eq1
returns-else-s-eq1 c = ne_eqb _ 1 c.if-s-eq1.false ∙ unit-fails c.args.s.now 0 (omega arith) c.if-s-eq1.false
