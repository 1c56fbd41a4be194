-- The first line, place by place: what one more byte does.
--   blanks-off, blanks-past                 past blanks
--   figures-go, figures-low, figures-high, figures-full, figures-end, number-told   along digits, nine at most
--   ten-step, ten-small                     how large a number of so many digits is
--   begins-here, begins-past                the byte at a place
--   number-after                            a number after blanks
--   rest-none, rest-asked, rest-other, from-none, from-rest, from-other   the order, by what stands at the places
--   unended-one, unended-none, unended-nothing   the end of the text
-- Assumes nothing.
use Prim.Native.Nat.{ℕ, suc, ◌+◌, ◌-◌, ◌*◌, ◌^◌, ◌≤◌, ◌<◌}
use native.Mathlib.Nat.{pow-succ', pow-le-pow_right}
use native.Mathlib.Numerals.{add-one}
use native.Mathlib.Omega.{arith}
use mathlib.Core.Path.{◌≡◌, refl, sym, ap, ◌∙◌, subst}
use mathlib.Core.Bool.{Bool, true, false, not, cond, ◌||◌}
use mathlib.Core.List.{List, [], ◌∷◌}
use borrow.Author.Tests.{eq-eqb, ne_eqb, lt-ltb, le-ltb, le-leb, lt-leb, ltb-true, ltb-false}
use lib.Dec.{eqb, leb, ltb}
use Rattle.std.specs.Prelude.{Option, Some, None}
use Rattle.std.specs.Char.{IsNotAsciiDigit}
use Rattle.std.specs.List.{position, position_or_len}
use Rattle.std.specs.Option.{unwrap_or}
use Rattle.std.proofs.lemmas.List.Sums.{prefix_len-le-length}
use lib.ListN.{length, get_or, take, drop, length-drop, drop_of_length-le}
use lib.Seq.{drop-cons, take_all, take-nil, get_or-drop, drop-drop}
use mathlib.Core.Logic.{⊎_elim}
use Rattle.numbers.specs.Words.{word, choose, outside}
use Rattle.numbers.proofs.WordsLaws.{lt-or-ge, true-false}
use Rattle.read.proofs.ByteLaws.{position-or}
use Rattle.typed.specs.declared.line.Number.{Number}
use Rattle.typed.specs.Order.{asks, none, unended}
use Rattle.typed.specs.internal.Line.{after_blanks, Figures, figures_of, figures, number_in, begins, order_end, order_rest, order_from, told, BlanksAt, NumberIs, NumberAt}

pub at-cons : (s : List ℕ) (q : ℕ) → q < length s → drop q s ≡ get_or s q 0 ∷ drop (q + 1) s
at-cons s q l = drop-cons s q 0 l ∙ ap (λ (i : ℕ). get_or s q 0 ∷ drop i s) (sym (add-one q))

pub at-end : (s : List ℕ) (q : ℕ) → length s ≤ q → drop q s ≡ []
at-end s q l = drop_of_length-le s l

-- the blanks that a text begins with are those before its first byte that is none
blanks-off : (s : List ℕ) → drop (position_or_len (λ b. not (eqb b 32)) s) s ≡ after_blanks s
unfolding after_blanks
blanks-off [] = refl
blanks-off (b ∷ s) = go (blanks-off s) (eqb b 32)
  where
    go : drop (position_or_len (λ b. not (eqb b 32)) s) s ≡ after_blanks s → (t : Bool)
        → drop (cond (not (not t)) (1 + position_or_len (λ b. not (eqb b 32)) s) 0) (b ∷ s) ≡ choose t (after_blanks s) (b ∷ s)
    go rest true =
        ap (λ (n : ℕ). drop n (b ∷ s)) (let z : 1 + position_or_len (λ b. not (eqb b 32)) s ≡ suc (position_or_len (λ b. not (eqb b 32)) s) = omega arith in z)
        ∙ rest
    go rest false = refl

pub blanks-past : (s : List ℕ) (from k : ℕ) (r : Option ℕ) → from ≤ length s
    → r ≡ position (λ b. not (eqb b 32)) (take (length s - from) (drop from s)) → k ≡ unwrap_or r (length (take (length s - from) (drop from s))) → BlanksAt s from (from + k)
blanks-past s from k r l e u =
    let first = position_or_len (λ b. not (eqb b 32)) (drop from s) in
    let whole : take (length s - from) (drop from s) ≡ drop from s = take_all _ _ (let d = length-drop from s in omega arith) in
    let found : k ≡ first =
    u ∙ ap (λ (x : Option ℕ). unwrap_or x (length (take (length s - from) (drop from s)))) e
    ∙ position-or (λ b. not (eqb b 32)) (take (length s - from) (drop from s)) ∙ ap (position_or_len (λ b. not (eqb b 32))) whole in
    record {
      fits = let z = prefix_len-le-length (λ b. not (not (eqb b 32))) (drop from s) in let d = length-drop from s in omega arith;
      rest-is = ap (λ (q : ℕ). drop (from + q) s) found ∙ sym (drop-drop first from s) ∙ blanks-off (drop from s);
    }

module _ (s : List ℕ) (q : ℕ) where
  pub begins-here : (b : ℕ) → q < length s → eqb (word s q) b ≡ begins b (drop q s)
  begins-here b l = sym (ap (begins b) (at-cons s q l))

  pub begins-past : (b : ℕ) → length s ≤ q → false ≡ begins b (drop q s)
  begins-past b l = sym (ap (begins b) (at-end s q l))

  module _ (v k : ℕ) where
    figures-test : (t : Bool) → q < length s → (outside 48 57 (word s q) || leb 9 k) ≡ t
        → figures v k (drop q s) ≡ choose t (figures_of v k (drop q s)) (figures (v * 10 + (word s q - 48)) (suc k) (drop (q + 1) s))
    unfolding figures
    figures-test t l e =
        ap (figures v k) (at-cons s q l)
        ∙ ap (λ (b : Bool). choose b (figures_of v k (word s q ∷ drop (q + 1) s)) (figures (v * 10 + (word s q - 48)) (suc k) (drop (q + 1) s))) e
        ∙ ap (λ (x : List ℕ). choose t (figures_of v k x) (figures (v * 10 + (word s q - 48)) (suc k) (drop (q + 1) s))) (sym (at-cons s q l))

    pub figures-go : q < length s → 48 ≤ word s q → word s q ≤ 57 → k < 9 → figures v k (drop q s) ≡ figures (v * 10 + (word s q - 48)) (k + 1) (drop (q + 1) s)
    figures-go l low high few =
        figures-test false l (rw (le-ltb (word s q) 48 low, le-ltb 57 (word s q) high, lt-leb 9 k few))
        ∙ ap (λ (i : ℕ). figures (v * 10 + (word s q - 48)) i (drop (q + 1) s)) (sym (add-one k))

    pub figures-low : q < length s → word s q < 48 → figures v k (drop q s) ≡ figures_of v k (drop q s)
    figures-low l low = figures-test true l (rw (lt-ltb (word s q) 48 low))

    pub figures-high : q < length s → 57 < word s q → figures v k (drop q s) ≡ figures_of v k (drop q s)
    figures-high l high = figures-test true l (rw (le-ltb (word s q) 48 (omega arith), lt-ltb 57 (word s q) high))

    pub figures-none : q < length s → IsNotAsciiDigit (word s q) → figures v k (drop q s) ≡ figures_of v k (drop q s)
    figures-none l n = ⊎_elim (figures-low l) (figures-high l) n

    pub figures-full : q < length s → 48 ≤ word s q → word s q ≤ 57 → 9 ≤ k → figures v k (drop q s) ≡ figures_of v k (drop q s)
    figures-full l low high many = figures-test true l (rw (le-ltb (word s q) 48 low, le-ltb 57 (word s q) high, le-leb 9 k many))

    pub figures-end : length s ≤ q → figures v k (drop q s) ≡ figures_of v k (drop q s)
    unfolding figures
    figures-end l = ap (figures v k) (at-end s q l) ∙ ap (figures_of v k) (sym (at-end s q l))

    pub number-told : (from : ℕ) (f : Figures) → f ≡ figures v k (drop q s) → figures v k (drop q s) ≡ figures_of v k (drop q s) → q ≤ length s → k ≡ q - from
        → NumberAt f s (told from v q)
    number-told from f e stop l n = go (ltb from q) refl
      where
        go : (t : Bool) → ltb from q ≡ t → NumberAt f s (choose t (Some (record { value = v; at = q })) None)
        go true x = record {
          some = λ z. (let c = ap (λ (x : Figures). x.count) (e ∙ stop) in let y = ltb-true from q x in let w : ⊥ = omega arith in w);
          value-is = sym (ap (λ (x : Figures). x.value) (e ∙ stop));
          rest-is = sym (ap (λ (x : Figures). x.rest) (e ∙ stop));
          fits = l;
        }
        go false x = let c = ap (λ (x : Figures). x.count) (e ∙ stop) in let y = ltb-false from q x in omega arith

pub ten-step : (k : ℕ) → 10 ^ (k + 1) ≡ 10 * 10 ^ k
ten-step k = ap (λ (x : ℕ). 10 ^ x) (add-one k) ∙ pow-succ' 10 k

pub ten-small : (k : ℕ) → k ≤ 8 → 10 ^ k ≤ 100000000
ten-small k h = pow-le-pow_right {n = 10} (omega arith) h

-- the end of the text, where the rest stands from a place on
module _ (s : List ℕ) (from : ℕ) where
  last-there : from < length s → word (drop from s) (length (drop from s) - 1) ≡ word s (length s - 1)
  last-there l =
      get_or-drop from s (length (drop from s) - 1) 0
      ∙ ap (λ (i : ℕ). word s i) (let z = length-drop from s in let y : from + (length (drop from s) - 1) ≡ length s - 1 = omega arith in y)

  unended-test : (t : Bool) → eqb (word (drop from s) (length (drop from s) - 1)) 10 ≡ t
      → unended (drop from s) ≡ choose t (take (length (drop from s) - 1) (drop from s)) (drop from s)
  unended-test t e = ap (λ (b : Bool). choose b (take (length (drop from s) - 1) (drop from s)) (drop from s)) e

  pub unended-one : from < length s → word s (length s - 1) ≡ 10 → take (length s - 1 - from) (drop from s) ≡ unended (drop from s)
  unended-one l e =
      ap (λ (n : ℕ). take n (drop from s)) (let z = length-drop from s in let y : length s - 1 - from ≡ length (drop from s) - 1 = omega arith in y)
      ∙ sym (unended-test true (eq-eqb _ 10 (last-there l ∙ e)))

  all_of : take (length s - from) (drop from s) ≡ drop from s
  all_of = take_all (length s - from) (drop from s) (let z = length-drop from s in omega arith)

  pub unended-none : from < length s → (word s (length s - 1) ≡ 10 → ⊥) → take (length s - from) (drop from s) ≡ unended (drop from s)
  unended-none l e = all_of ∙ sym (unended-test false (ne_eqb _ 10 (λ z. e (sym (last-there l) ∙ z))))

  pub unended-nothing : length s ≤ from → take (length s - from) (drop from s) ≡ unended (drop from s)
  unended-nothing l = subst (λ (x : List ℕ). take (length s - from) x ≡ unended x) (sym (at-end s from l)) (take-nil (length s - from))

pub number-after : (s : List ℕ) (from at : ℕ) (r : Option Number) → BlanksAt s from at → NumberAt (figures 0 0 (drop at s)) s r → NumberAt (number_in (drop from s)) s r
number-after s from at r b n = subst (λ (x : List ℕ). NumberAt (figures 0 0 x) s r) b.rest-is n

begins-inside : (b : ℕ) (s : List ℕ) (q : ℕ) → q ≤ length s → begins b (drop q s) ≡ true → q < length s
begins-inside b s q l e = ⊎_elim (λ (h : q < length s). h) (λ (h : length s ≤ q). true-false (sym e ∙ sym (begins-past s q b h))) (lt-or-ge q (length s))

-- the order, by what stands at the places
pub rest-none : (f : Figures) (p : ℕ) → f.count ≡ 0 → order_rest p f ≡ none
rest-none f p z = ap (λ (b : Bool). choose b none (order_end p f.value (after_blanks f.rest))) (eq-eqb f.count 0 z)

pub from-none : (f : Figures) → f.count ≡ 0 → order_from f ≡ none
from-none f z =
    ap (λ (b : Bool). choose b none (choose (begins 32 f.rest) (order_rest f.value (number_in (drop 1 f.rest))) none)) (eq-eqb f.count 0 z)

module _ (f : Figures) (s : List ℕ) (r : Number) (n : NumberIs f s r) where
  counts-not : eqb f.count 0 ≡ false
  counts-not = ne_eqb f.count 0 n.some

  module _ (p end : ℕ) (b : BlanksAt s r.at end) where
    rest_end : order_rest p f ≡ order_end p r.value (drop end s)
    rest_end =
        ap (λ (b : Bool). choose b none (order_end p f.value (after_blanks f.rest))) counts-not
        ∙ ap (λ (x : List ℕ). order_end p f.value (after_blanks x)) (sym n.rest-is)
        ∙ ap (λ (x : List ℕ). order_end p f.value x) (sym b.rest-is)
        ∙ ap (λ (v : ℕ). order_end p v (drop end s)) (sym n.value-is)

    pub rest-asked : begins 10 (drop end s) ≡ true → (end + 1 ≤ length s) × (order_rest p f ≡ asks p r.value (unended (drop (end + 1) s)))
    rest-asked e =
        let l = begins-inside 10 s end b.fits e in (
          omega arith,
          rest_end ∙ ap (λ (t : Bool). choose t (asks p r.value (unended (drop 1 (drop end s)))) none) e
              ∙ ap (λ (x : List ℕ). asks p r.value (unended x)) (drop-drop 1 end s),
        )

    pub rest-other : begins 10 (drop end s) ≡ false → order_rest p f ≡ none
    rest-other e = rest_end ∙ ap (λ (t : Bool). choose t (asks p r.value (unended (drop 1 (drop end s)))) none) e

  from-test : (t : Bool) → begins 32 (drop r.at s) ≡ t → order_from f ≡ choose t (order_rest r.value (number_in (drop (r.at + 1) s))) none
  from-test t e =
      ap (λ (b : Bool). choose b none (choose (begins 32 f.rest) (order_rest f.value (number_in (drop 1 f.rest))) none)) counts-not
      ∙ ap (λ (x : List ℕ). choose (begins 32 x) (order_rest f.value (number_in (drop 1 x))) none) (sym n.rest-is)
      ∙ ap (λ (b : Bool). choose b (order_rest f.value (number_in (drop 1 (drop r.at s)))) none) e
      ∙ ap (λ (x : List ℕ). choose t (order_rest f.value (number_in x)) none) (drop-drop 1 r.at s)
      ∙ ap (λ (v : ℕ). choose t (order_rest v (number_in (drop (r.at + 1) s))) none) (sym n.value-is)

  pub from-rest : begins 32 (drop r.at s) ≡ true → order_rest r.value (number_in (drop (r.at + 1) s)) ≡ order_from f
  from-rest e = sym (from-test true e)

  pub from-other : begins 32 (drop r.at s) ≡ false → order_from f ≡ none
  from-other e = from-test false e
