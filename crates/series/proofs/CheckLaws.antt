-- What a pass says of two series, one check after others, and the answers that follow.
-- Assumes nothing.
use mathlib.Core.Bool.{Bool, true, false, ◌&&◌}
use mathlib.Core.Path.{◌≡◌, sym, ap, ◌∙◌}
use mathlib.Core.List.{List, [], ◌∷◌, ◌++◌}
use Prim.Native.Nat.{ℕ, zero, suc, ◌*◌, ◌≤◌, ◌<◌, min}
use native.Mathlib.Omega.{arith}
use borrow.Author.Tests.{eq-eqb, ne_eqb, ltb-false}
use lib.Dec.{eqb}
use lib.ListN.{length, take}
use lib.Seq.{length-take-le}
use Rattle.numbers.specs.Words.{word, over}
use Rattle.numbers.specs.internal.Facts.{AllBelow}
use Rattle.numbers.specs.Refusals.{Check, check, judge, refusal, room_check, input_checks, Outcome, accepted, outcome_after, written, Pass, Refuse}
use Rattle.numbers.proofs.WordsLaws.{take_below}
use Rattle.numbers.proofs.RefusalsLaws.{after-pass, pass-check, take-check, skip-check, pass-parts, none-judged, both, Inputs, inputs-pass, operation-pass, answer-done}
use Rattle.numbers.specs.internal.Limits.{modulus_bound}
use Rattle.numbers.specs.Limits.{largest_width}
use Rattle.series.specs.Known.{KnownTo, known_to, unknown_check}
use Rattle.series.specs.Series.{series_checks, known_checks}
use Rattle.series.proofs.KnownLaws.{known-test}

-- what a pass says of two series, as the kernels require it
module _ (p N : ℕ) (g h : List ℕ) (room : ℕ) (e : judge (series_checks p N g h room) ≡ Pass) where
  pub series-ready : (1 ≤ p) × (p < modulus_bound) × (length h ≡ length g) × (length g ≤ room) × AllBelow p g × AllBelow p h
  series-ready =
      let o = operation-pass p N g 1 h 1 1 room e in
      (omega arith, omega arith, omega arith, omega arith, o.inputs.f-below, o.inputs.g-below)

  -- the answer, where a kernel wrote as many words as g has
  pub series-done : (F : ℕ → List ℕ) (old out : List ℕ) → out ≡ over (F (length g)) old
      → record {
        answer : ◌≡◌ {A = Outcome ℕ} (accepted N) (outcome_after (judge (series_checks p N g h room)) N);
        words : out ≡ written (judge (series_checks p N g h room)) (over (F N) old) old;
      }
  series-done F old out w = let o = operation-pass p N g 1 h 1 1 room e in answer-done F (length g) N N old out e w (omega arith)

-- what `known_to` finds of a row with N words
at_width : (N n : ℕ) (s : List ℕ) (x : Bool) → length s ≡ 1 * N → x ≡ known_to (length s) n (word s) → known_to N n (word s) ≡ x
at_width N n s x long q = ap (λ (m : ℕ). known_to m n (word s)) (let l : N ≡ length s = omega arith in l) ∙ sym q

-- refusals 21 and 10 where counts of known terms come with the series, after checks 1 to 6
module _ (p N : ℕ) (g : List ℕ) (a : ℕ) (h : List ℕ) (b room : ℕ) (e : judge (input_checks p N g 1 h 1 1) ≡ Pass) where
  abbrev counts : Check
  counts = unknown_check (known_to N a (word g) && known_to N b (word h))

  pub first-unknown : false ≡ known_to (length g) a (word g) → judge (known_checks p N g a h b room) ≡ Refuse (refusal 21 0)
  first-unknown x =
      let i = inputs-pass p N g 1 h 1 1 e in
      after-pass (input_checks p N g 1 h 1 1) _ e ∙ take-check counts _ (rw (at_width N a g false i.f-long x))

  pub second-unknown : true ≡ known_to (length g) a (word g) → false ≡ known_to (length h) b (word h) → judge (known_checks p N g a h b room) ≡ Refuse (refusal 21 0)
  second-unknown x y =
      let i = inputs-pass p N g 1 h 1 1 e in
      after-pass (input_checks p N g 1 h 1 1) _ e ∙ take-check counts _ (rw (at_width N a g true i.f-long x, at_width N b h false i.g-long y))

  pub both-known : true ≡ known_to (length g) a (word g) → true ≡ known_to (length h) b (word h) → judge (known_checks p N g a h b room) ≡ judge (room_check room N ∷ [])
  both-known x y =
      let i = inputs-pass p N g 1 h 1 1 e in
      after-pass (input_checks p N g 1 h 1 1) _ e ∙ skip-check counts _ (rw (at_width N a g true i.f-long x, at_width N b h true i.g-long y))

-- what a pass of all of these says
pub record Known (p N : ℕ) (g : List ℕ) (a : ℕ) (h : List ℕ) (b room : ℕ) : Type 0 where
  pub inputs : Inputs p N g 1 h 1 1
  pub first : KnownTo N a (word g)
  pub second : KnownTo N b (word h)
  pub roomy : N ≤ room

module _ (p N : ℕ) (g : List ℕ) (a : ℕ) (h : List ℕ) (b room : ℕ) (e : judge (known_checks p N g a h b room) ≡ Pass) where
  pub known-pass : Known p N g a h b room
  known-pass =
      let m = pass-parts (input_checks p N g 1 h 1 1) _ e in
      let c = pass-check (unknown_check (known_to N a (word g) && known_to N b (word h))) _ m.1 in
      let k = both _ _ c.0 in
      record {
        inputs = inputs-pass p N g 1 h 1 1 m.0;
        first = (known-test N a (word g)).0 k.0;
        second = (known-test N b (word h)).0 k.1;
        roomy = ltb-false room N (pass-check (room_check room N) [] c.1).0;
      }

  -- the count that both are known to
  module _ (k : ℕ) (lesser : k ≡ min a b) where
    pub known-within : (k ≤ length g) × (k ≤ length h) × (length g ≡ N) × (N ≤ room)
    known-within = let o = known-pass in let i = o.inputs in (omega (arith, i.f-long, o.first.high), omega (arith, i.g-long, o.second.high), omega (arith, i.f-long), o.roomy)

    -- and as many words of each, as the kernels require them
    pub known-ready : (1 ≤ p) × (p < modulus_bound) × (length (take k g) ≤ largest_width) × (length (take k h) ≡ length (take k g)) × (length (take k g) ≤ room)
        × AllBelow p (take k g) × AllBelow p (take k h)
    known-ready =
        let i = known-pass.inputs in
        let (in_g, in-h, long, roomy) = known-within in
        let long-g = length-take-le k g in_g in
        let long-h = length-take-le k h in-h in
        (omega (arith, i.modulus.two), i.modulus.small, omega (arith, i.width-high), omega arith, omega arith, take_below p k g in_g i.f-below, take_below p k h in-h i.g-below)

-- one check more, after checks that pass
module _ (cs : List Check) (c : Check) (e : judge cs ≡ Pass) where
  pub last-refused : c.applies ≡ true → judge (cs ++ (c ∷ [])) ≡ Refuse (refusal c.number c.detail)
  last-refused z = after-pass cs (c ∷ []) e ∙ take-check c [] z

  pub last-passed : c.applies ≡ false → judge (cs ++ (c ∷ [])) ≡ Pass
  last-passed z = after-pass cs (c ∷ []) e ∙ skip-check c [] z ∙ none-judged

-- refusal 12 of the inverse
module _ (cs : List Check) (g : List ℕ) (e : judge cs ≡ Pass) where
  pub unit-refused : word g 0 ≡ 0 → judge (cs ++ (check 12 (eqb (word g 0) 0) 0 ∷ [])) ≡ Refuse (refusal 12 0)
  unit-refused z = last-refused cs _ e (eq-eqb (word g 0) 0 z)

  pub unit-passed : (word g 0 ≡ 0 → ⊥) → judge (cs ++ (check 12 (eqb (word g 0) 0) 0 ∷ [])) ≡ Pass
  unit-passed z = last-passed cs _ e (ne_eqb (word g 0) 0 z)

-- the series 1 is reduced
pub one_below : (p : ℕ) → 2 ≤ p → AllBelow p (1 ∷ [])
one_below p h zero l = omega arith
one_below p h (suc k) l = omega arith
