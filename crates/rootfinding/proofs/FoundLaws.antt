-- What was found, checked.
--   over-take          what was copied over the first words
--   answer-large, answer-falling, answer-found   what the check answers
--   found-checked      a checked list is the list of all roots
--   found-scanned      and where the list of all roots fails, every list does
-- Assumes nothing.
use mathlib.Core.Path.{◌≡◌, sym, ap, subst, ◌∙◌}
use mathlib.Core.Bool.{Bool, true, false}
use mathlib.Core.List.{List}
use Prim.Native.Nat.{ℕ, ◌≤◌, ◌<◌}
use native.Mathlib.Nat.{le_refl}
use native.Mathlib.Omega.{arith}
use lib.ListN.{length, take, drop}
use lib.Seq.{length-take-le, take-append_seam}
use Rattle.algebra.proofs.SumsLaws.{sum_to-some}
use Rattle.numbers.specs.Words.{word, first_large, rising, over}
use Rattle.numbers.specs.internal.Facts.{AllBelow, Rising}
use Rattle.numbers.proofs.WordsLaws.{true-false, large-there}
use Rattle.numbers.proofs.TestsLaws.{rising-passes}
use Rattle.powers.specs.internal.Powers.{GivesPowers, FoundPowers, Unsplit}
use Rattle.rootfinding.specs.Roots.{all_roots}
use Rattle.rootfinding.specs.internal.Finding.{Monic, SplitAnswer, RootsAre}
use Rattle.rootfinding.proofs.RootsLaws.{roots-rise, roots-below, roots-complete, unsplit-all}

pub over-take : (xs s e : List ℕ) → e ≡ over xs s → take (length xs) e ≡ xs
over-take xs s e q = ap (take (length xs)) q ∙ take-append_seam xs (drop (length xs) s)

module _ (p : ℕ) (e roots powers : List ℕ) where
  pub answer-large : (n : ℕ) → n ≡ first_large p roots → n < length roots → SplitAnswer p e roots false powers
  answer-large n q l = record {
    yes = λ z. true-false (sym z);
    no = λ _ up low m G. let z = large-there p roots (omega arith) in let y = low (first_large p roots) (omega arith) in let x : ⊥ = omega arith in x;
  }

  pub answer-falling : rising roots ≡ false → SplitAnswer p e roots false powers
  answer-falling f = record { yes = λ z. true-false (sym z); no = λ _ up low m G. true-false (rising-passes roots (length roots) (le_refl _) up ∙ f) }

  pub answer-found : (rest : List ℕ) (found : Bool) → Rising roots → AllBelow p roots → rest ≡ e → FoundPowers p roots rest found powers
      → SplitAnswer p e roots found powers
  answer-found rest found up low q f = record {
    yes = λ z. (up, low, subst (λ x. GivesPowers p roots x (word powers)) q (f.yes z));
    no = λ z _ _ m G. f.no z m (subst (λ x. GivesPowers p roots x m) (sym q) G);
  }

module _ (p : ℕ) (e : List ℕ) (monic : Monic p e) (n : ℕ) (roots powers : List ℕ) (found : Bool) (a : SplitAnswer p e (take n roots) found powers) where
  pub found-checked : n ≤ length roots → found ≡ true → RootsAre p e n roots powers
  found-checked l t =
      let (up, low, G) = a.yes t in
      let all = roots-complete monic.prime e (take n roots) (word powers) G up low in
      let k = sum_to-some (length (take n roots)) (word powers) (omega (arith, G.sum, monic.some)) in
      record {
        some = let y = length-take-le n roots l in omega arith;
        fits = l;
        all = sym all;
        gives = subst (λ x. GivesPowers p x e (word powers)) (sym all) G;
      }

  pub found-scanned : take n roots ≡ all_roots p e → found ≡ false → Unsplit p e
  found-scanned q t =
      let never = (subst (λ s. SplitAnswer p e s found powers) q a).no t (roots-rise monic.prime e) (roots-below monic.prime e) in
      (unsplit-all monic.prime e).1 never
