-- `calls::calls_fit` meets its contract.
-- Assumes nothing.
use mathlib.Core.Path.{◌≡◌, refl, sym, ap, ◌∙◌}
use mathlib.Core.Bool.{Bool, true, false}
use Prim.Native.Nat.{ℕ, ◌<◌}
use native.Mathlib.Omega.{arith}
use borrow.Author.Rules.{rules}
use borrow.Author.Tests.{tests}
use lib.ListN.{length, get_or}
use Rattle.std.specs.Bool.{MatchBool}
use Rattle.std.specs.List.{AllWithin, HoldsAt, range_with_len}
use Rattle.std.proofs.lemmas.Iterator.{cases_from_all, YieldsList-from_range}
use Rattle.std.proofs.lemmas.List.FromFn.{length-range_with_len, get_or-range_with_len}
use Rattle.numbers.specs.Words.{all_to}
use Rattle.numbers.proofs.TestsLaws.{at-all_to, all_to-false}
use Rattle.calls.specs.Replay.{call_count, call_fits}
use Rattle.calls.proofs.calls_fit.Goals as goal

-- what is found of the numbers below n
by_each : (n : ℕ) (test : ℕ → Bool) (r : Bool)
    → MatchBool r (AllWithin (λ i. test i ≡ true) (range_with_len 0 n) 0 (length (range_with_len 0 n))) ((k : ℕ) × (k < length (range_with_len 0 n)) × HoldsAt (λ i. test i ≡ false) (range_with_len 0 n) k)
    → r ≡ all_to n test
by_each n test true h =
    sym (at-all_to n test (λ i l.
    let e : i ≡ get_or (range_with_len 0 n) i 0 = omega (arith, get_or-range_with_len 0 n i 0 l) in
    ap test e ∙ h i 0 (omega arith) (omega (arith, length-range_with_len 0 n))))
by_each n test false (k, l, f) =
    let in_range : k < n = omega (arith, length-range_with_len 0 n) in
    let e : k ≡ get_or (range_with_len 0 n) k 0 = omega (arith, get_or-range_with_len 0 n k 0 in_range) in
    sym (all_to-false n test k in_range (ap test e ∙ f 0))

pub returns : goal.returns
returns c =
    let a = c.args in
    by_each (call_count a.calls.now) (call_fits a.size a.calls.now) _
    (cases_from_all _ _ _ (λ i. call_fits a.size a.calls.now i ≡ true) (λ i. call_fits a.size a.calls.now i ≡ false) c.all.ensures.ran (YieldsList-from_range 0 (call_count a.calls.now) (call_count a.calls.now) refl (omega arith)) (λ x q k. search (rules, tests)) (λ x q k. search (rules, tests)))
