-- `numbers::judge::rises` meets its contract.
-- Assumes nothing.
use mathlib.Core.Path.{◌≡◌, sym, subst}
use mathlib.Core.Bool.{Bool, true, false}
use mathlib.Core.List.{List}
use Prim.Native.Nat.{ℕ, ◌+◌, ◌-◌, ◌≤◌, ◌<◌}
use native.Mathlib.Numerals.{add-one}
use native.Mathlib.Omega.{arith}
use borrow.Author.Tests.{ltb-true, ltb-false}
use lib.Dec.{ltb}
use lib.ListN.{length}
use Rattle.std.specs.List.{IsAllAdjacentAnswer}
use Rattle.std.proofs.Common.{rules, tests}
use Rattle.std.proofs.lemmas.List.Sorted.{answers_always}
use Rattle.numbers.specs.Words.{word, rising}
use Rattle.numbers.proofs.TestsLaws.{rising-fails, rising-passes}
use Rattle.numbers.proofs.judge.rises.Goals as goal

-- what the comparisons of neighbours say
neighbours : (s : List ℕ) (r : Bool) → IsAllAdjacentAnswer (λ x y b. b ≡ ltb x y) s r → r ≡ rising s
neighbours s true h = rising-passes s (length s) (omega arith) (λ k g. subst (λ n. word s k < word s n) (add-one k) (ltb-true _ _ (sym (h k 0 (omega arith)))))
neighbours s false h = rising-fails s (h.0 + 1) (omega arith) h.1 (subst (λ n. word s (h.0 + 1) ≤ word s n) (let z : h.0 ≡ h.0 + 1 - 1 = omega arith in z) (ltb-false _ _ (sym (h.2 0))))

pub returns : goal.returns
returns c = neighbours c.args.s.now _ (c.is_sorted_by.ensures.cases ltb (answers_always _ _ _ (λ f a r g h. search (rules, tests))))
