-- `simple::kernel::first_multiple` meets its contract.
-- Assumes nothing.
use Rattle.std.proofs.Common.{◌≡◌, ◌∙◌, ℕ, ◌<◌, ◌≤◌, List, Option, Some, None, MatchOption, unwrap_or, arith, rules, tests}
use Rattle.std.proofs.lemmas.Iterator.{first_from_Range, serves_from_Range}
use Rattle.layout.specs.Layout.{count, power}
use Rattle.layout.proofs.PlacesLaws.{placed-entries}
use Rattle.sheet.proofs.ReadingLaws.{sound-placed}
use Rattle.simple.specs.Simple.{first_multiple}
use Rattle.simple.proofs.SimpleLaws.{multiple-is}
use Rattle.simple.proofs.kernel.first_multiple.Goals as goal

pub find-requires : goal.find-requires
find-requires c = record {
  can = tt;
  finite = tt;
  callable = serves_from_Range (λ x q k. search (rules, tests)) (λ x low high y at _ _ _ _ _ _ _ _.
      let h = sound-placed _ c.requires in
      let e = c.read_header-h.ensures.count-is in
      (omega (arith, h.count-high), h.degree-high, omega (arith, placed-entries _ h)));
}

found : (s : List ℕ) (n : ℕ) → n ≡ count s → (o : Option ℕ)
    → MatchOption o ((k : ℕ) → 0 ≤ k → k < n → power s k ≤ 1) (λ i. (0 ≤ i) × (i < n) × (1 < power s i) × ((k : ℕ) → 0 ≤ k → k < i → power s k ≤ 1))
    → unwrap_or o n ≡ first_multiple s
found s n e None h = multiple-is s n (omega arith) (λ k l. h k (omega arith) l) (λ l. absurd (let z : ⊥ = omega arith in z))
found s n e (Some i) h = multiple-is s i (omega (arith, h.1)) (λ k l. h.3 k (omega arith) l) (λ l. h.2)

pub returns : goal.returns
returns c =
    let s = c.args.sheet.now in
    let e = c.read_header-h.ensures.count-is in
    c.unwrap_or.ensures ∙ found s c.read_header-h.result.count e c.find.result (first_from_Range _ _ _ _ (λ i. 1 < power s i) (λ i. power s i ≤ 1) c.find.ensures.ran (λ x q k. grind (arith, tests)) (λ x q k. (search rules, grind (arith, tests))))
