-- Reading a factor: what the checks leave, and that what is read stands within the sheet.
--   read-pass        checks 13 and 16 pass exactly for a factor of a sound sheet
--   sound-placed     every place of a sound sheet is there
--   passed_on        the answer and the words of an operation on a factor's rows, from those of the operation on the part
-- Assumes nothing.
use Prim.Native.Nat.{ℕ, ◌<◌}
use native.Mathlib.Omega.{arith}
use mathlib.Core.Path.{◌≡◌, sym, ◌∙◌, ap₂}
use mathlib.Core.Bool.{not}
use mathlib.Core.List.{List, [], ◌++◌}
use borrow.Author.Tests.{not-false, leb-false}
use lib.Dec.{leb}
use Rattle.algebra.proofs.SumsLaws.{sum_to-count}
use Rattle.numbers.specs.Words.{over}
use Rattle.numbers.specs.Refusals.{Check, check, judge, Outcome, outcome_after, written, Pass}
use Rattle.numbers.proofs.RefusalsLaws.{pass-check, after-pass}
use Rattle.layout.specs.Layout.{count, power, factor_part}
use Rattle.layout.specs.internal.Places.{Placed}
use Rattle.sheet.specs.Sheet.{Sound}
use Rattle.sheet.specs.Test.{sound_test}
use Rattle.sheet.specs.Reading.{read_checks, read_verdict}
use Rattle.sheet.specs.declared.Shape.{Shape}
use Rattle.sheet.specs.internal.Shape.{factor_shape}
use Rattle.sheet.proofs.SoundTestLaws.{sound-test}

pub read-pass : (s : List ℕ) (i : ℕ) → read_verdict s i ≡ Pass → Sound s × (i < count s)
read-pass s i e =
    let a = pass-check (check 13 (not (sound_test s)) 0) _ e in
    let b = pass-check (check 16 (leb (count s) i) 0) [] a.1 in
    ((sound-test s).0 (not-false (sound_test s) a.0), leb-false (count s) i b.0)

-- every place of a sound sheet is there
pub sound-placed : (s : List ℕ) → Sound s → Placed s
sound-placed s h = record {
  degree-high = h.degree-high;
  width-high = h.width-high;
  count-high = omega (arith, sum_to-count (count s) (power s) h.factors.powers, h.factors.degree, h.degree-high);
  powers-sum = h.factors.degree;
  long = h.long;
}

-- The rows of a factor passed on to an operation, which is given by what it checks, how many words it writes and which, all from the shape of the rows and the
-- rows themselves: what it says of the shape and the part that it was given, it says of the factor's.
pub passed_on : (checks : Shape → List ℕ → List Check) (size : Shape → ℕ) (words : Shape → List ℕ → List ℕ) (s : List ℕ) (i : ℕ) (old new x : List ℕ) (answer : Outcome ℕ) (f : Shape)
    → read_verdict s i ≡ Pass → f ≡ factor_shape s i → x ≡ factor_part s i
    → answer ≡ outcome_after (judge (checks f x)) (size f) → new ≡ written (judge (checks f x)) (over (words f x) old) old
    → let v = judge (read_checks s i ++ checks (factor_shape s i) (factor_part s i)) in
    record {
      answer : answer ≡ outcome_after v (size (factor_shape s i));
      words : new ≡ written v (over (words (factor_shape s i) (factor_part s i)) old) old;
    }
passed_on checks size words s i old new x answer f pass ef ex a w =
    let t : judge (checks f x) ≡ judge (read_checks s i ++ checks (factor_shape s i) (factor_part s i)) = ap₂ (λ f x. judge (checks f x)) ef ex ∙ sym (after-pass (read_checks s i) _ pass) in
    record {
      answer = a ∙ ap₂ (λ v f. outcome_after v (size f)) t ef;
      words = w ∙ ap₂ (λ v r. written v (over r old) old) t (ap₂ words ef ex);
    }
