-- There is one sound sheet for what open was given and k.
--   good-lists         over one p, where polynomials agree below X^(n + 1) the factor lists of good contents do ..
--   good-polynomials   .. and the other way round
--   good-column        where they agree up to column t the factors' rows agree in it
--   good-unique        good content is determined by p, D, N, k, the known lengths and the polynomial
--   sound-unique       so the words of a sound sheet are
--   columns-kept       words of two sound sheets that stand in columns in which these must agree, or are 0, are the same
--   slice-unique       slices of one length that begin with the same sound sheet and agree past it are equal
--   holds-unique       two sound sheets that hold what open was given, with k terms, have the same first T words
-- Assumes nothing.
use Prim.Native.Nat.{ℕ, suc, ◌+◌, ◌-◌, ◌≤◌, ◌<◌}
use native.Mathlib.Nat.{lt_of_not-le}
use native.Mathlib.Decide.{dec_le}
use native.Mathlib.Omega.{arith}
use mathlib.Core.Path.{◌≡◌, sym, ◌∙◌, ap, ap₂}
use mathlib.Core.Logic.{◌⊎◌, inl, inr, ⊎_elim}
use mathlib.Core.List.{List}
use lib.ListN.{length, take}
use lib.Seq.{ext_get_or}
use Rattle.algebra.proofs.SumsLaws.{sum_to-ext}
use Rattle.numbers.specs.Words.{word, least}
use Rattle.numbers.proofs.WordsLaws.{lt-or-ge, least-ext}
use Rattle.hensel.specs.Factors.{IsFactors, SameFactors, SamePolynomial}
use Rattle.layout.specs.Layout.{modulus, degree, width, terms, count, known, factors_from, end, polynomial, factor_rows, InColumns}
use Rattle.layout.proofs.RegionsLaws.{factor-read, outside-columns}
use Rattle.sheet.specs.Sheet.{Sound, Given, Holds}
use Rattle.hensel.proofs.FactorsLaws.{factors-unique, factors-determine}
use Rattle.hensel.proofs.BlocksLaws.{Block, locate}
use Rattle.sheet.specs.internal.Content.{Content, content_of}
use Rattle.sheet.proofs.ContentLaws.{SameContent, words_same, same_size}
use Rattle.sheet.proofs.SheetsLaws.{factor_of, Good, good-terms, factor-row, sound-good, sound-terms, sound-words, sound-take}

module _ (c c' : Content) (h : Good c) (h' : Good c') (same-modulus : c.p ≡ c'.p) where
  factors' : IsFactors c.p c'.D c'.k c'.r c'.f c'.root c'.power (factor_of c')
  factors' = rw same-modulus h'.factors

  module _ (n : ℕ) (l : suc n ≤ c.k) (l' : suc n ≤ c'.k) where
    pub good-lists : SamePolynomial (suc n) c.D c'.D c.f c'.f → SameFactors (suc n) c.r c'.r c.root c'.root c.power c'.power (factor_of c) (factor_of c')
    good-lists =
        factors-unique h.prime n c.k c'.k c.D c'.D c.r c'.r c.f c'.f c.root c'.root c.power c'.power (factor_of c) (factor_of c') h.factors factors' l l'
        (λ i g q u t v. h.factors-reduced _ (factor-row c h i q g u) t (omega arith))
        (λ i g q u t v. let z = h'.factors-reduced _ (factor-row c' h' i q g u) t (omega arith) in omega arith)

    pub good-polynomials : SameFactors (suc n) c.r c'.r c.root c'.root c.power c'.power (factor_of c) (factor_of c') → SamePolynomial (suc n) c.D c'.D c.f c'.f
    good-polynomials =
        factors-determine h.prime n c.k c'.k c.D c'.D c.r c'.r c.f c'.f c.root c'.root c.power c'.power (factor_of c) (factor_of c') h.factors factors' l l'

  pub good-column : c.D ≡ c'.D → (t : ℕ) → t < c.k → t < c'.k → ((j : ℕ) → j ≤ c.D → (q : ℕ) → q ≤ t → c.f j q ≡ c'.f j q) → (j : ℕ) → j < c.D → c.factors j t ≡ c'.factors j t
  good-column eD t l l' ef j u =
      let same = good-lists t l l' (record { degrees = eD; columns = λ j g q v. ef j g q (omega arith) }) in
      let b : Block c.r c.power j = locate c.r c.power j (let z = h.factors.degree in omega arith) in
      ap (λ x. c.factors x t) b.at ∙ same.columns b.block b.block-low b.row b.row_low t (omega arith)
      ∙ ap (λ x. c'.factors (x + b.row) t) (sym (sum_to-ext b.block (λ i g. same.powers i (let z = b.block-low in omega arith)))) ∙ ap (λ x. c'.factors x t) (sym b.at)

  module _ (eD : c.D ≡ c'.D) (eN : c.N ≡ c'.N) (ek : c.k ≡ c'.k) (el : (j : ℕ) → j < c.D → c.known j ≡ c'.known j)
      (ef : (j t : ℕ) → j ≤ c.D → t < c.N → c.f j t ≡ c'.f j t) where
    suc-n : suc (c.k - 1) ≡ c.k
    suc-n = let z = h.terms-low in omega arith

    lists : SameFactors (suc (c.k - 1)) c.r c'.r c.root c'.root c.power c'.power (factor_of c) (factor_of c')
    lists =
        let z = suc-n in
        let y = good-terms c h in
        good-lists (c.k - 1) (omega arith) (omega arith) (record { degrees = eD; columns = λ j g t v. ef j t g (omega arith) })

    e-factors : (j t : ℕ) → j < c.D → t < c.N → c.factors j t ≡ c'.factors j t
    e-factors j t l v = go (dec_le (suc t) c.k)
      where
        go : Dec (suc t ≤ c.k) → c.factors j t ≡ c'.factors j t
        go (yes y) = good-column eD t y (omega arith) (λ j g q u. ef j q g (omega arith)) j l
        go (no y) =
            let y' = lt_of_not-le y in
            h.factors-rest j l t (omega arith) v ∙ sym (h'.factors-rest j (omega arith) t (omega arith) (omega arith))

    pub good-unique : SameContent c c'
    good-unique = record {
      modulus = same-modulus;
      degree = eD;
      width = eN;
      terms = ek;
      count = lists.counts;
      reach = h.reached ∙ least-ext c.N c.D c.known c'.known el ∙ ap₂ (λ N D. least N D c'.known) eN eD ∙ sym h'.reached;
      lengths = el;
      roots = lists.roots;
      powers = lists.powers;
      polynomial = ef;
      factors = e-factors;
    }

module _ (s u : List ℕ) (h : Sound s) (h' : Sound u) (ep : modulus s ≡ modulus u) (eD : degree s ≡ degree u) (eN : width s ≡ width u) (ek : terms s ≡ terms u)
    (el : (j : ℕ) → j < degree s → known s j ≡ known u j) (ef : (j t : ℕ) → j ≤ degree s → t < width s → polynomial s j t ≡ polynomial u j t) where
  abbrev same : SameContent (content_of s) (content_of u)
  same = good-unique (content_of s) (content_of u) (sound-good s h) (sound-good u h') ep eD eN ek el ef

  pub sound-end : end s ≡ end u
  sound-end = same_size (content_of s) (content_of u) same

  pub sound-unique : (i : ℕ) → i < end s → word s i ≡ word u i
  sound-unique i l =
      let z = sound-end in
      sound-words s h i l ∙ ap (λ x. word x i) (words_same (content_of s) (content_of u) same) ∙ sym (sound-words u h' i (omega arith))

  pub sound-take-unique : take (end s) s ≡ take (end s) u
  sound-take-unique = sound-take s h ∙ words_same (content_of s) (content_of u) same ∙ sym (sound-take u h') ∙ ap (λ n. take n u) (sym sound-end)

-- A column of the factors' rows, where both sheets have it and their polynomials agree up to it, or neither has it.
module _ (s u : List ℕ) (h : Sound s) (h' : Sound u) (ep : modulus s ≡ modulus u) (eD : degree s ≡ degree u) (eN : width s ≡ width u) (er : count s ≡ count u) where
  abbrev Alike : ℕ → Type 0
  Alike t = ((t < terms s) × (t < terms u) × ((j : ℕ) → j ≤ degree s → (q : ℕ) → q ≤ t → polynomial s j q ≡ polynomial u j q)) ⊎ ((terms s ≤ t) × (terms u ≤ t))

  column-same : (j : ℕ) → j < degree s → (t : ℕ) → t < width s → Alike t → factor_rows u j t ≡ factor_rows s j t
  column-same j l t v (inl (a, b, f)) = sym (good-column (content_of s) (content_of u) (sound-good s h) (sound-good u h') ep eD t a b f j l)
  column-same j l t v (inr (a, b)) = h'.factors-rest j (omega arith) t b (omega arith) ∙ sym (h.factors-rest j l t a v)

  pub columns-kept : (a b : ℕ) → ((t : ℕ) → (t < a) ⊎ (b ≤ t) → Alike t) → (i : ℕ) → factors_from (degree s) (width s) (count s) ≤ i → i < end s → ¬ InColumns s a b i → word u i ≡ word s i
  columns-kept a b alike =
      outside-columns s u a b (let z = h.terms-low in let y = sound-terms s h in omega arith)
      (λ j l t v c. sym (factor-read s u (sym eD) (sym eN) (sym er) j t) ∙ column-same j l t v (alike t c))

pub slice-unique : (s u : List ℕ) → Sound s → Sound u → modulus s ≡ modulus u → degree s ≡ degree u → width s ≡ width u → terms s ≡ terms u
    → ((j : ℕ) → j < degree s → known s j ≡ known u j) → ((j t : ℕ) → j ≤ degree s → t < width s → polynomial s j t ≡ polynomial u j t)
    → length s ≡ length u → ((i : ℕ) → end s ≤ i → word s i ≡ word u i) → s ≡ u
slice-unique s u h h' ep eD eN ek el ef long past = ext_get_or 0 s u long (λ i _. ⊎_elim (λ l. sound-unique s u h h' ep eD eN ek el ef i l) (past i) (lt-or-ge i (end s)))

pub holds-unique : (g : Given) (k : ℕ) (s u : List ℕ) → Holds g k s → Holds g k u → take (end s) s ≡ take (end s) u
holds-unique g k s u h h' =
    let eD = h.same-degree in let eD' = h'.same-degree in let eN = h.same_width in let eN' = h'.same_width in
    sound-take-unique s u h.sound h'.sound (h.same-modulus ∙ sym h'.same-modulus) (eD ∙ sym eD') (eN ∙ sym eN') (h.same-terms ∙ sym h'.same-terms)
    (λ j l. h.same-lengths j l ∙ sym (h'.same-lengths j (omega arith)))
    (λ j t l v. h.same-polynomial j l t v ∙ sym (h'.same-polynomial j (omega arith) t (omega arith)))
