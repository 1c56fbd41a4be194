-- Runs: the products and sums so far, and how they go on.
-- Assumes nothing.
use mathlib.Core.Path.{◌≡◌, refl, sym, ap, ◌∙◌, subst}
use mathlib.Core.Bool.{Bool, true, false, ◌||◌}
use mathlib.Core.List.{List}
use Prim.Native.Nat.{ℕ, ◌+◌, ◌*◌, ◌<◌}
use native.Mathlib.Omega.{arith}
use lib.ListN.{drop}
use Rattle.numbers.specs.Limits.{most_rows}
use Rattle.std.specs.Prelude.{Option, Some, None, option_map}
use Rattle.read.specs.declared.Sign.{Sign as Mark}
use Rattle.numbers.specs.Words.{word, choose}
use Rattle.formula.specs.Formula.{Sign, minus, Lead, none, sign, one, times, Sum, first, more}
use Rattle.read.specs.Value.{Poly, leading, signed, times_of, power_value, term_value, sum_value, high, power_high, term_high, sum_high}
use Rattle.formula.specs.internal.Scan.{kind_of, kind_at, TermSoFar, fresh, up_to, SumSoFar, led, joined, Stack, State, lead, operand, done, sum_done, step, scan}
use Rattle.formula.specs.declared.Kind.TheVariants.{Star}
use Rattle.formula.proofs.PlaceLaws.{is-inside, scan-kind, not-other}
use Rattle.read.specs.declared.Start.{Start}
use Rattle.read.specs.declared.Part.{Part}
use Rattle.read.specs.internal.Places.{has_byte, sign_of, sign_for, is_minus, Started}
use Rattle.read.specs.internal.Values.{Stored}
use Rattle.read.specs.internal.Parts.{AllHigh, Went, ElementPart, PowerRead, TermRead, TermPart, SumRead, SumPart, Opens, past_star, then_at, past_sign}
use Rattle.read.proofs.ByteLaws.{byte-there, no-star, none-some, Signs, signs}
use Rattle.read.proofs.ValueLaws.{both_false, stored_low, stored-copy}
use Rattle.read.proofs.HighLaws.{done-high, or_right}

-- a lead, by its sign
pub record SomeLead (minus : Bool) : Type 0 where
  pub is : Lead
  pub code : minus ≡ is_minus is

pub some-lead : (b : Bool) → SomeLead b
some-lead true = record { is = sign minus; code = refl }
some-lead false = record { is = none; code = refl }

-- the words of a value are had again
module _ (p n : ℕ) (s : List ℕ) (old new : List ℕ) (same : (q : ℕ) → q < most_rows * n → word new q ≡ word old q) where
  element-copied : (at : ℕ) (r : Option Part) → ElementPart p n s at r old → ElementPart p n s at r new
  element-copied at (Some r) h =
      record { tree = h.tree; passes = h.passes; went = h.went; stored = stored-copy p n _ r.rows old new same h.stored; low = h.low }
  element-copied at None h = h

  pub term-copied : (at : ℕ) (r : Part) → TermRead p n s at r old → TermRead p n s at r new
  term-copied at r h =
      record { tree = h.tree; passes = h.passes; went = h.went; solid = h.solid; stored = stored-copy p n _ r.rows old new same h.stored; low = h.low }

  term-part-copied : (at : ℕ) (r : Option Part) → TermPart p n s at r old → TermPart p n s at r new
  term-part-copied at (Some r) h = (term-copied at r h.0, h.1)
  term-part-copied at None h = h

  pub sum-copied : (start : Stack → State) (at : ℕ) (r : Part) → SumRead p n s start at r old → SumRead p n s start at r new
  sum-copied start at r h =
      record { tree = h.tree; passes = h.passes; went = h.went; solid = h.solid; ends = h.ends; stored = stored-copy p n _ r.rows old new same h.stored; low = h.low }

  -- what was held is the part at its place
  pub element-held : (at place : ℕ) (r : Option Part) → at ≡ place → ElementPart p n s place r old → ElementPart p n s at r new
  element-held at place r e h = element-copied at r (subst (λ (i : ℕ). ElementPart p n s i r old) (sym e) h)

  pub term-held : (at place : ℕ) (r : Option Part) → at ≡ place → TermPart p n s place r old → TermPart p n s at r new
  term-held at place r e h = term-part-copied at r (subst (λ (i : ℕ). TermPart p n s i r old) (sym e) h)

-- where the star stands
module _ (s : List ℕ) (next place : ℕ) (e : Some place ≡ past_star s next) where
  star-there : (has_byte s next 42 ≡ true) × (place ≡ next + 1)
  star-there = go (has_byte s next 42) e
    where
      go : (t : Bool) → Some place ≡ choose t (Some (next + 1)) None → (t ≡ true) × (place ≡ next + 1)
      go true e = (refl, cc)
      go false e = none-some (sym e)

  pub star-next : Went s next place
  unfolding kind_of
  star-next =
      let l = is-inside s next (λ o. not-other Star refl (sym (byte-there s next 42 star-there.0) ∙ o)) in
      let q = star-there.1 in
      record { later = omega arith; fits = omega arith }

-- where the sign stands
module _ (s : List ℕ) (next : ℕ) (σ : Mark) (place : ℕ) (e : past_sign s next ≡ Some (σ, place)) where
  sign-there : (sign_of (kind_at s next) ≡ Some σ) × (place ≡ next + 1)
  sign-there = go (sign_of (kind_at s next)) e
    where
      go : (o : Option Mark) → option_map (then_at next) o ≡ Some (σ, place) → (o ≡ Some σ) × (place ≡ next + 1)
      go (Some m) e = let q : then_at next m ≡ (σ, place) = cc in (ap Some (ap (λ (x : Mark × ℕ). x.0) q), sym (ap (λ (x : Mark × ℕ). x.1) q))
      go None e = none-some e

  pub sign-next : Went s next place
  sign-next =
      let l = is-inside s next (signs (kind_at s next) σ sign-there.0).not-other in
      let q = sign-there.1 in
      record { later = omega arith; fits = omega arith }

module _ (p n : ℕ) (s : List ℕ) (at : ℕ) where
  -- products
  pub term-first : (r : Part) (w : List ℕ) → PowerRead p n s at r w → TermRead p n s at r w
  unfolding term_value term_high
  term-first r w h = record { tree = one h.tree; passes = λ c κ. h.passes fresh c κ; went = h.went; solid = h.solid; stored = h.stored; low = h.low }

  module _ (r : Part) (w : List ℕ) (h : TermRead p n s at r w) (place : ℕ) (e : Some place ≡ past_star s r.at) where
    goes_on : (c : SumSoFar) (κ : Stack) → scan (operand fresh c κ) (drop at s) ≡ scan (operand (up_to h.tree) c κ) (drop place s)
    unfolding step kind_of
    goes_on c κ =
        let b = star-there s r.at place e in
        h.passes c κ ∙ scan-kind s r.at (done h.tree c κ) Star (byte-there s r.at 42 b.0) (not-other Star refl) ∙ ap (λ (x : ℕ). scan (operand (up_to h.tree) c κ) (drop x s)) (sym b.1)

    pub times-lost : ((u : TermSoFar) (c : SumSoFar) (κ : Stack) → AllHigh p n (operand u c κ) (drop place s)) → (c : SumSoFar) (κ : Stack) → AllHigh p n (operand fresh c κ) (drop at s)
    times-lost g c κ f q = g (up_to h.tree) c κ f (sym (goes_on c κ) ∙ q)

    module _ (t : Part) (x : List ℕ) (q : PowerRead p n s place t x) where
      pub times-value : (rows : ℕ) (v : List ℕ) → Stored p n (times_of p (term_value p h.tree) (power_value p q.tree)) v rows → TermRead p n s at (record { at = t.at; rows = rows }) v
      unfolding term_value term_high
      times-value rows v k =
          let g = star-next s r.at place e in
          let m = q.went in
          let a = h.went in
          record {
            tree = times h.tree q.tree;
            passes = λ c κ. goes_on c κ ∙ q.passes (up_to h.tree) c κ;
            went = record { later = omega arith; fits = m.fits };
            solid = q.solid;
            stored = k;
            low = both_false _ _ (both_false _ _ h.low q.low) (stored_low k);
          }

      pub times-high : high n (times_of p (term_value p h.tree) (power_value p q.tree)) ≡ true → (c : SumSoFar) (κ : Stack) → AllHigh p n (operand fresh c κ) (drop at s)
      unfolding term_value term_high
      times-high y c κ f u =
          done-high p n (times h.tree q.tree) c κ (drop t.at s) (or_right (term_high p n h.tree || power_high p n q.tree) _ y) f
          (sym (goes_on c κ ∙ q.passes (up_to h.tree) c κ) ∙ u)

  -- sums
  ends-star : (next : ℕ) → past_star s next ≡ None → has_byte s next 42 ≡ false
  ends-star next e = go (has_byte s next 42) e
    where
      go : (t : Bool) → choose t (Some (next + 1)) None ≡ None → t ≡ false
      go true e = none-some (sym e)
      go false e = refl

  pub sum_first : (l : Lead) (r : Part) (w v : List ℕ) → TermPart p n s at (Some r) w → ((f : Poly) (rows : ℕ) → Stored p n f w rows → Stored p n (leading p l f) v rows)
      → SumRead p n s (Opens l) at r v
  unfolding sum_value sum_high
  sum_first l r w v (h, ended) k =
      let y = k _ r.rows h.stored in
      record {
        tree = first l h.tree;
        passes = λ κ. h.passes (led l) κ;
        went = h.went;
        solid = h.solid;
        ends = no-star s r.at (ends-star r.at ended);
        stored = y;
        low = both_false _ _ h.low (stored_low y);
      }

  module _ (start : Stack → State) (r : Part) (w : List ℕ) (h : SumRead p n s start at r w) (m : Mark) (place : ℕ) (e : past_sign s r.at ≡ Some (m, place)) where
    the-sign : Signs (kind_at s r.at) m
    the-sign = signs (kind_at s r.at) m (sign-there s r.at m place e).0

    sum-on : (κ : Stack) → scan (start κ) (drop at s) ≡ scan (operand fresh (joined h.tree the-sign.is) κ) (drop place s)
    sum-on κ = h.passes κ ∙ go h.tree ∙ ap (λ (x : ℕ). scan (operand fresh (joined h.tree the-sign.is) κ) (drop x s)) (sym (sign-there s r.at m place e).1)
      where
        go : (g : Sum) → scan (sum_done g κ) (drop r.at s) ≡ scan (operand fresh (joined g the-sign.is) κ) (drop (r.at + 1) s)
        go (first l t) = scan-kind s r.at (done t (led l) κ) (kind_at s r.at) refl the-sign.not-other ∙ ap (λ (x : State). scan x (drop (r.at + 1) s)) (the-sign.steps t (led l) κ)
        go (more g σ t) = scan-kind s r.at (done t (joined g σ) κ) (kind_at s r.at) refl the-sign.not-other ∙ ap (λ (x : State). scan x (drop (r.at + 1) s)) (the-sign.steps t (joined g σ) κ)

    pub join-lost : ((c : SumSoFar) (κ : Stack) → AllHigh p n (operand fresh c κ) (drop place s)) → (κ : Stack) → AllHigh p n (start κ) (drop at s)
    join-lost g κ f q = g (joined h.tree the-sign.is) κ f (sym (sum-on κ) ∙ q)

    pub join-value : (t : Part) (x : List ℕ) → TermPart p n s place (Some t) x → (rows : ℕ) (v : List ℕ)
        → ((f g : Poly) (a b : ℕ) (σ : Sign) → m ≡ sign_for σ → Stored p n f w a → Stored p n g x b → Stored p n (signed p σ f g) v rows) → SumRead p n s start at (record { at = t.at; rows = rows }) v
    unfolding sum_value sum_high
    join-value t x (q, ended) rows v k =
        let g = sign-next s r.at m place e in
        let a = h.went in
        let b = q.went in
        let σ = the-sign.is in
        let y = k _ _ r.rows t.rows σ the-sign.sign-is h.stored q.stored in
        record {
          tree = more h.tree σ q.tree;
          passes = λ κ. sum-on κ ∙ q.passes (joined h.tree σ) κ;
          went = record { later = omega arith; fits = b.fits };
          solid = q.solid;
          ends = no-star s t.at (ends-star t.at ended);
          stored = y;
          low = both_false _ _ (both_false _ _ h.low q.low) (stored_low y);
        }

-- what stands before a sum
pub sum-started : (p n : ℕ) (s : List ℕ) (at : ℕ) (st : Start) (d : Started s at st) (r : Option Part) (w : List ℕ) → SumPart p n s (Opens d.leads) st.at r w → SumPart p n s lead at r w
sum-started p n s at st d (Some r) w (h, ended) =
    let a = d.later in
    let b = h.went in (
      record {
        tree = h.tree;
        passes = λ κ. d.passes κ ∙ h.passes κ;
        went = record { later = omega arith; fits = b.fits };
        solid = h.solid;
        ends = h.ends;
        stored = h.stored;
        low = h.low;
      },
      ended,
    )
sum-started p n s at st d None w h = λ κ f r. h κ f (sym (d.passes κ) ∙ r)
