-- The powers of the listed roots: `powers_of` finds them exactly where there are some, and there is never more than one list of them.
--   choices-enumerate   `choices r D` lists the lists of r numbers, each 1 or more, whose sum is D, each once
--   some_of, none_of   the first that passes a test, or nothing
--   splits-test, test-splits   the test, and powers that pass it
--   found           what powers_of finds are such numbers, and passes the test
--   powers-are      powers_of finds l exactly when l are powers of the listed roots that give f at X = 0
--   powers-none     it finds none exactly when there are none
--   found-count     it finds as many as there are roots
--   powers-whole    how far the rows are known does not matter to it
--   needed-is       T, as open answers it, is where every sheet that holds what open was given ends
-- Assumes nothing.
use Prim.Native.Nat.{ℕ, zero, suc, ◌+◌, ◌-◌, ◌≤◌, ◌<◌}
use native.Mathlib.Nat.{not-suc-le-zero}
use native.Mathlib.Omega.{arith}
use mathlib.Core.Path.{◌≡◌, refl, sym, ◌∙◌, ap, subst}
use mathlib.Core.Logic.{◌↔◌}
use mathlib.Core.Bool.{Bool, true, false}
use mathlib.Core.Option.{Option, none, some}
use mathlib.Core.List.{List, [], ◌∷◌}
use lib.ListN.{length}
use lib.Seq.{ext_get_or}
use Rattle.algebra.specs.Sums.{sum_to}
use Rattle.algebra.proofs.SumsLaws.{sum_to-zero, sum_to-front}
use Rattle.algebra.specs.Prime.{Prime}
use Rattle.numbers.specs.Words.{word}
use Rattle.numbers.specs.internal.Facts.{AllBelow, Rising}
use Rattle.numbers.proofs.WordsLaws.{true-false}
use Rattle.numbers.proofs.EnumerationLaws.{Every, Enumerates, nothing, alone, by-head, refuted}
use Rattle.numbers.proofs.TestsLaws.{eqs}
use Rattle.hensel.specs.Factors.{split}
use Rattle.layout.specs.Layout.{end}
use Rattle.sheet.specs.Sheet.{Given, whole_of, given-polynomial, Holds}
use Rattle.open.specs.Open.{choices, find, splits_test, powers_of, is_none, needed}
use Rattle.sheet.proofs.SoundTestLaws.{upto, upto-back}
use Rattle.sheet.specs.internal.Content.{Splits}
use Rattle.sheet.proofs.ExistsLaws.{splits-unique}

-- r numbers, each 1 or more, with the sum D
pub record Powers (r D : ℕ) (l : List ℕ) : Type 0 where
  pub count : length l ≡ r
  pub low : (i : ℕ) → i < r → 1 ≤ word l i
  pub sum : sum_to r (word l) ≡ D

pub choices-enumerate : (r D : ℕ) → Enumerates (choices r D) (Powers r D)
unfolding choices
choices-enumerate zero zero = alone (Powers zero zero) (record { count = refl; low = λ i l. absurd (not-suc-le-zero l); sum = sum_to-zero _ }) (λ x h. h.count)
choices-enumerate zero (suc D) = nothing (Powers zero (suc D)) (λ x h. let z = sum_to-zero (word x) in let y = h.sum in let w : ⊥ = omega arith in w)
choices-enumerate (suc r) D = by-head D suc (λ i j e. let z : i ≡ j = omega arith in z) (λ i. choices r (D - suc i)) (Powers (suc r) D) (λ i. Powers r (D - suc i))
    (λ i u. choices-enumerate r (D - suc i)) put parts
  where
    put : (i : ℕ) → i < D → (l : List ℕ) → Powers r (D - suc i) l → Powers (suc r) D (suc i ∷ l)
    put i u l h = record {
      count = ap suc h.count;
      low = elim [ zero ↦ λ g. omega arith | suc k ↦ λ g. h.low k (omega arith) ];
      sum = sum_to-front r (word (suc i ∷ l)) ∙ (let z = h.sum in let y : suc i + sum_to r (word l) ≡ D = omega arith in y);
    }

    parts : (x : List ℕ) → Powers (suc r) D x → (i : ℕ) × (l : List ℕ) × (i < D) × Powers r (D - suc i) l × (suc i ∷ l ≡ x)
    parts [] h = absurd (let z = h.count in let w : ⊥ = omega arith in w)
    parts (zero ∷ x) h = absurd (let z = h.low zero (omega arith) in let w : ⊥ = omega arith in w)
    parts (suc i ∷ x) h =
        let s : suc i + sum_to r (word x) ≡ D = sym (sum_to-front r (word (suc i ∷ x))) ∙ h.sum in
        (i, x, omega arith, record { count = let z = h.count in omega arith; low = λ k g. h.low (suc k) (omega arith); sum = omega arith }, refl)

find-some : (P : List ℕ → Type 0) (test : List ℕ → Bool) (ls : List (List ℕ)) (l : List ℕ) → Every P ls → find test ls ≡ some l → P l × (test l ≡ true)
unfolding find
find-some P test [] l h e = absurd (let z : ◌≡◌ {A = ℕ} 0 1 = cc in let y : ⊥ = omega arith in y)
find-some P test (x ∷ ls) l h e = go (find-some P test ls l h.1) (test x) refl e
  where
    go : (find test ls ≡ some l → P l × (test l ≡ true)) → (b : Bool) → test x ≡ b → (elim b [ true ↦ some x | false ↦ find test ls ]) ≡ some l → P l × (test l ≡ true)
    go rec true q e = let z : x ≡ l = cc in subst (λ y. P y × (test y ≡ true)) z (h.0, q)
    go rec false q e = rec e

find_none : (test : List ℕ → Bool) (ls : List (List ℕ)) → find test ls ≡ none → Every (λ l. test l ≡ false) ls
unfolding find
find_none test [] e = tt
find_none test (x ∷ ls) e = go (find_none test ls) (test x) refl e
  where
    go : (find test ls ≡ none → Every (λ l. test l ≡ false) ls) → (b : Bool) → test x ≡ b → ◌≡◌ {A = Option (List ℕ)} (elim b [ true ↦ some x | false ↦ find test ls ]) none → (test x ≡ false) × Every (λ l. test l ≡ false) ls
    go rec true q e = absurd (let z : ◌≡◌ {A = ℕ} 0 1 = cc in let y : ⊥ = omega arith in y)
    go rec false q e = (q, rec e)

-- what is found, or nothing
pub some_of : (o : Option (List ℕ)) → is_none o ≡ false → (l : List ℕ) × (o ≡ some l)
some_of none e = true-false e
some_of (some l) e = (l, refl)

pub none_of : (o : Option (List ℕ)) → is_none o ≡ true → o ≡ none
none_of none e = refl
none_of (some l) e = true-false (sym e)

-- powers of the listed roots that give f at X = 0
abbrev pub GivenSplits : Given → (ℕ → ℕ) → Type 0
GivenSplits g power = Splits g.p g.D (length g.roots) (given-polynomial g) (word g.roots) power

module _ (g : Given) where
  pub splits-test : (l : List ℕ) → (splits_test g l ≡ true) ↔ ((j : ℕ) → j ≤ g.D → split g.p (length g.roots) (word g.roots) (word l) j ≡ given-polynomial g j zero)
  unfolding splits_test
  splits-test l = (λ e. upto ((eqs (suc g.D) _ _).0 e), λ h. (eqs (suc g.D) _ _).1 (upto-back h))

  pub found : (l : List ℕ) → powers_of g ≡ some l → Powers (length g.roots) g.D l × (splits_test g l ≡ true)
  unfolding powers_of
  found l = find-some (Powers (length g.roots) g.D) (splits_test g) (choices (length g.roots) g.D) l (choices-enumerate (length g.roots) g.D).every

  pub found-count : (l : List ℕ) → powers_of g ≡ some l → length l ≡ length g.roots
  found-count l e = (found l e).0.count

  none_found : powers_of g ≡ none → (l : List ℕ) → length l ≡ length g.roots → GivenSplits g (word l) → ⊥
  unfolding powers_of
  none_found e l n h =
      true-false (sym ((splits-test l).1 h.splits)
      ∙ refuted (choices-enumerate (length g.roots) g.D) (splits_test g) (find_none (splits_test g) (choices (length g.roots) g.D) e) l (record { count = n; low = h.powers; sum = h.degree }))

  -- powers that pass the test
  pub test-splits : Rising g.roots → AllBelow g.p g.roots → (l : List ℕ) → Powers (length g.roots) g.D l → splits_test g l ≡ true → GivenSplits g (word l)
  test-splits up low l h e = record { rising = up; reduced = low; powers = h.low; degree = h.sum; splits = (splits-test l).0 e }

  found-splits : (l : List ℕ) → Rising g.roots → AllBelow g.p g.roots → powers_of g ≡ some l → GivenSplits g (word l)
  found-splits l up low e = let z = found l e in test-splits up low l z.0 z.1

  module _ (prime : Prime g.p) (up : Rising g.roots) (low : AllBelow g.p g.roots) where
    pub powers-are : (l : List ℕ) → (powers_of g ≡ some l) ↔ ((length l ≡ length g.roots) × GivenSplits g (word l))
    powers-are l = (λ e. (found-count l e, found-splits l up low e), λ h. go h (powers_of g) refl)
      where
        go : (length l ≡ length g.roots) × GivenSplits g (word l) → (o : Option (List ℕ)) → powers_of g ≡ o → powers_of g ≡ some l
        go h none q = absurd (none_found q l h.0 h.1)
        go h (some m) q =
            let u = splits-unique prime g.D _ _ (given-polynomial g) (word g.roots) (word g.roots) (word m) (word l) (found-splits m up low q) h.1 in
            let n = found-count m q in
            q ∙ ap (λ (x : List ℕ). some x) (ext_get_or 0 m l (n ∙ sym h.0) (λ i v. (u.1 i (omega arith)).1))

    pub powers-none : (powers_of g ≡ none) ↔ ((l : List ℕ) → length l ≡ length g.roots → GivenSplits g (word l) → ⊥)
    powers-none = (none_found, λ h. go h (powers_of g) refl)
      where
        go : ((l : List ℕ) → length l ≡ length g.roots → GivenSplits g (word l) → ⊥) → (o : Option (List ℕ)) → powers_of g ≡ o → powers_of g ≡ none
        go h none q = q
        go h (some m) q = absurd (h m (found-count m q) (found-splits m up low q))

pub powers-whole : (g : Given) → powers_of (whole_of g.p g.D g.N g.rows g.roots) ≡ powers_of g
unfolding powers_of splits_test
powers-whole g = refl

pub needed-is : (g : Given) (k : ℕ) (s : List ℕ) → Holds g k s → needed g ≡ end s
unfolding needed
needed-is g k s h = cc (h.same-degree, h.same_width, h.same_count)
