-- The order found is the one that an input asks for, and there is exactly one.
--   blanks-first, figures-first    what was passed along blanks and digits
--   order-sound                    an order found is asked for
--   blanks-whole, number-whole     blanks and digits are passed to their end
--   order-complete                 an order asked for is found
--   order_is, long-none            what an input asks for, and that one which is too long asks for nothing
--   one-order                      every input asks for exactly one order
-- Assumes nothing.
use Prim.Native.Nat.{ℕ, suc, ◌+◌, ◌-◌, ◌*◌, ◌≤◌, ◌<◌}
use native.Mathlib.Omega.{arith}
use mathlib.Core.Path.{◌≡◌, refl, sym, ap, ◌∙◌, subst}
use mathlib.Core.Bool.{Bool, true, false, ◌||◌}
use mathlib.Core.List.{List, [], ◌∷◌, ◌++◌, append_assoc}
use mathlib.Core.Logic.{⊎_elim}
use borrow.Author.Tests.{eqb-true, eqb-false, ne_eqb, le-ltb, lt-leb, leb-false}
use lib.Dec.{eqb, leb}
use lib.ListN.{length, drop}
use Rattle.numbers.specs.Words.{choose, outside}
use Rattle.numbers.specs.One.{One}
use Rattle.numbers.proofs.WordsLaws.{lt-or-ge, true-false}
use Rattle.numbers.proofs.RefusalsLaws.{neither, inside}
use Rattle.formula.specs.Grammar.{Blanks, no-blank, blank, Digits, no_digit, digit, decimal_from, Numeral}
use Rattle.typed.specs.Limits.{longest_input}
use Rattle.typed.specs.Order.{Order, asks, none, unended, Asks, Orders}
use Rattle.typed.specs.internal.Line.{after_blanks, Figures, figures_of, figures, number_in, begins, order_end, order_rest, order_from, order_of}

-- blanks, and what follows them
record BlanksFirst (s rest : List ℕ) : Type 0 where
  front : List ℕ
  are : Blanks front
  whole : s ≡ front ++ rest

blanks-first : (s : List ℕ) → BlanksFirst s (after_blanks s)
unfolding after_blanks
blanks-first [] = record { front = []; are = no-blank; whole = refl }
blanks-first (b ∷ s) = go (eqb b 32) refl (blanks-first s)
  where
    go : (t : Bool) → eqb b 32 ≡ t → BlanksFirst s (after_blanks s) → BlanksFirst (b ∷ s) (choose t (after_blanks s) (b ∷ s))
    go true e h = record { front = 32 ∷ h.front; are = blank h.are; whole = ap (λ (x : ℕ). x ∷ s) (eqb-true b 32 e) ∙ ap (λ (x : List ℕ). 32 ∷ x) h.whole }
    go false e h = record { front = []; are = no-blank; whole = refl }

-- digits, and what follows them
record FiguresFirst (v k : ℕ) (s : List ℕ) (f : Figures) : Type 0 where
  front : List ℕ
  are : Digits front
  whole : s ≡ front ++ f.rest
  count-is : f.count ≡ k + length front
  value-is : f.value ≡ decimal_from v front
  few : k ≤ 9 → f.count ≤ 9

figures-first : (v k : ℕ) (s : List ℕ) → FiguresFirst v k s (figures v k s)
unfolding figures decimal_from
figures-first v k [] = record { front = []; are = no_digit; whole = refl; count-is = omega arith; value-is = refl; few = λ l. l }
figures-first v k (b ∷ s) = go (outside 48 57 b || leb 9 k) refl (figures-first (v * 10 + (b - 48)) (suc k) s)
  where
    go : (t : Bool) → (outside 48 57 b || leb 9 k) ≡ t → FiguresFirst (v * 10 + (b - 48)) (suc k) s (figures (v * 10 + (b - 48)) (suc k) s)
        → FiguresFirst v k (b ∷ s) (choose t (figures_of v k (b ∷ s)) (figures (v * 10 + (b - 48)) (suc k) s))
    go true e h = record { front = []; are = no_digit; whole = refl; count-is = omega arith; value-is = refl; few = λ l. l }
    go false e h =
        let t = neither (outside 48 57 b) (leb 9 k) e in
        let i = inside 48 57 b t.0 in
        let l = leb-false 9 k t.1 in
        let c = h.count-is in
        record {
          front = b ∷ h.front;
          are = digit i.0 i.1 h.are;
          whole = ap (λ (x : List ℕ). b ∷ x) h.whole;
          count-is = omega arith;
          value-is = h.value-is;
          few = λ m. h.few (omega arith);
        }

begins-cons : (b : ℕ) (s : List ℕ) → begins b s ≡ true → s ≡ b ∷ drop 1 s
begins-cons b [] e = true-false (sym e)
begins-cons b (x ∷ s) e = ap (λ (y : ℕ). y ∷ s) (eqb-true x b e)

unlike : {A : Type 0} (p N : ℕ) (text : List ℕ) → none ≡ asks p N text → A
unlike p N text e = absurd (let z : ◌≡◌ {A = ℕ} 0 1 = cc in omega arith)

-- a number that was read after blanks
numeral : (s : List ℕ) (h : FiguresFirst 0 0 s (figures 0 0 s)) → eqb (figures 0 0 s).count 0 ≡ false → Numeral (figures 0 0 s).value h.front
numeral s h e =
    let c = h.count-is in
    let z = eqb-false (figures 0 0 s).count 0 e in
    let f = h.few (omega arith) in
    record { digits = h.are; some = ⊎_elim (λ (l : 0 < length h.front). l) (λ (l : length h.front ≤ 0). absurd (z (omega arith))) (lt-or-ge 0 (length h.front)); few = omega arith; value = h.value-is }

-- the line, put together from its parts
line-parts : (b1 d1 b2 d2 b3 rest : List ℕ) → b1 ++ (d1 ++ (32 ∷ (b2 ++ (d2 ++ (b3 ++ (10 ∷ rest)))))) ≡ (b1 ++ (d1 ++ ((32 ∷ []) ++ (b2 ++ (d2 ++ b3))))) ++ (10 ∷ rest)
line-parts b1 d1 b2 d2 b3 rest = simp append_assoc

module _ (s : List ℕ) (short : length s ≤ longest_input) where
  order-sound : (p N : ℕ) (text : List ℕ) → order_of s ≡ asks p N text → Asks s p N text
  unfolding order_of
  order-sound p N text found =
      one (eqb F1.count 0) refl (begins 32 F1.rest) refl (eqb F2.count 0) refl (begins 10 X) refl found
    where
      F1 : Figures
      F1 = number_in s

      R : List ℕ
      R = drop 1 F1.rest

      F2 : Figures
      F2 = number_in R

      X : List ℕ
      X = after_blanks F2.rest

      one : (t : Bool) → eqb F1.count 0 ≡ t → (u : Bool) → begins 32 F1.rest ≡ u → (v : Bool) → eqb F2.count 0 ≡ v → (w : Bool) → begins 10 X ≡ w
          → choose t none (choose u (choose v none (choose w (asks F1.value F2.value (unended (drop 1 X))) none)) none) ≡ asks p N text → Asks s p N text
      one true et u eu v ev w ew e = unlike p N text e
      one false et false eu v ev w ew e = unlike p N text e
      one false et true eu true ev w ew e = unlike p N text e
      one false et true eu false ev false ew e = unlike p N text e
      one false et true eu false ev true ew e =
          let b1 = blanks-first s in
          let d1 = figures-first 0 0 (after_blanks s) in
          let b2 = blanks-first R in
          let d2 = figures-first 0 0 (after_blanks R) in
          let b3 = blanks-first F2.rest in
          let ep : F1.value ≡ p = cc in
          let en : F2.value ≡ N = cc in
          let ex : unended (drop 1 X) ≡ text = cc in
          record {
            few = short;
            line = b1.front ++ (d1.front ++ ((32 ∷ []) ++ (b2.front ++ (d2.front ++ b3.front))));
            rest = drop 1 X;
            lines =
                b1.whole
                ∙ ap (λ (x : List ℕ). b1.front ++ x) d1.whole
                ∙ ap (λ (x : List ℕ). b1.front ++ (d1.front ++ x)) (begins-cons 32 F1.rest eu)
                ∙ ap (λ (x : List ℕ). b1.front ++ (d1.front ++ (32 ∷ x))) b2.whole
                ∙ ap (λ (x : List ℕ). b1.front ++ (d1.front ++ (32 ∷ (b2.front ++ x)))) d2.whole
                ∙ ap (λ (x : List ℕ). b1.front ++ (d1.front ++ (32 ∷ (b2.front ++ (d2.front ++ x))))) b3.whole
                ∙ ap (λ (x : List ℕ). b1.front ++ (d1.front ++ (32 ∷ (b2.front ++ (d2.front ++ (b3.front ++ x)))))) (begins-cons 10 X ew)
                ∙ line-parts b1.front d1.front b2.front d2.front b3.front (drop 1 X);
            first = record {
              left = b1.front;
              right = d1.front ++ ((32 ∷ []) ++ (b2.front ++ (d2.front ++ b3.front)));
              before = b1.are;
              whole = refl;
              after = record {
                left = d1.front;
                right = (32 ∷ []) ++ (b2.front ++ (d2.front ++ b3.front));
                whole = refl;
                before = subst (λ (x : ℕ). Numeral x d1.front) ep (numeral (after_blanks s) d1 et);
                after = record {
                  left = 32 ∷ [];
                  right = b2.front ++ (d2.front ++ b3.front);
                  before = refl;
                  whole = refl;
                  after = record {
                    left = b2.front;
                    right = d2.front ++ b3.front;
                    before = b2.are;
                    whole = refl;
                    after = record {
                      left = d2.front;
                      right = b3.front;
                      whole = refl;
                      after = b3.are;
                      before = subst (λ (x : ℕ). Numeral x d2.front) en (numeral (after_blanks R) d2 ev);
                    };
                  };
                };
              };
            };
            second = sym ex;
          }

-- blanks and digits are passed to their end
blanks-whole : {b : List ℕ} → Blanks b → (u : List ℕ) → after_blanks u ≡ u → after_blanks (b ++ u) ≡ u
unfolding after_blanks
blanks-whole no-blank u h = h
blanks-whole (blank y) u h = blanks-whole y u h

Stops : List ℕ → Type 0
Stops u = (v k : ℕ) → figures v k u ≡ figures_of v k u

figures-whole : {d : List ℕ} → Digits d → (u : List ℕ) → Stops u → (v k : ℕ) → k + length d ≤ 9 → figures v k (d ++ u) ≡ figures_of (decimal_from v d) (k + length d) u
unfolding figures decimal_from Stops
figures-whole no_digit u stops v k l = stops v k ∙ ap (λ (x : ℕ). figures_of v x u) (let z : k ≡ k + 0 = omega arith in z)
figures-whole (digit {b = b} {s = d} low high t) u stops v k l =
    ap (λ (x : Bool). choose x (figures_of v k (b ∷ (d ++ u))) (figures (v * 10 + (b - 48)) (suc k) (d ++ u)))
    (let z : (outside 48 57 b || leb 9 k) ≡ false = rw (le-ltb b 48 low, le-ltb 57 b high, lt-leb 9 k (omega arith)) in z)
    ∙ figures-whole t u stops (v * 10 + (b - 48)) (suc k) (omega arith)
    ∙ ap (λ (x : ℕ). figures_of (decimal_from (v * 10 + (b - 48)) d) x u) (let z : suc k + length d ≡ k + suc (length d) = omega arith in z)

digits-solid : {d : List ℕ} → Digits d → 1 ≤ length d → (u : List ℕ) → after_blanks (d ++ u) ≡ d ++ u
unfolding after_blanks
digits-solid no_digit some u = absurd (let z : ⊥ = omega arith in z)
digits-solid (digit {b = b} {s = d} low high t) some u = ap (λ (x : Bool). choose x (after_blanks (d ++ u)) (b ∷ (d ++ u))) (ne_eqb b 32 (λ e. let z : ⊥ = omega arith in z))

number-whole : {b d : List ℕ} {v : ℕ} → Blanks b → Numeral v d → (u : List ℕ) → Stops u → number_in (b ++ (d ++ u)) ≡ figures_of v (length d) u
number-whole {b} {d} {v} y n u stops =
    ap (figures 0 0) (blanks-whole y (d ++ u) (digits-solid n.digits n.some u))
    ∙ figures-whole n.digits u stops 0 0 (let l = n.few in omega arith)
    ∙ ap (λ (x : ℕ). figures_of (decimal_from 0 d) x u) (let z : 0 + length d ≡ length d = omega arith in z)
    ∙ ap (λ (x : ℕ). figures_of x (length d) u) (sym n.value)

blank-stops : (u : List ℕ) → Stops (32 ∷ u)
unfolding figures Stops
blank-stops u v k = refl

end-stops : {b : List ℕ} → Blanks b → (u : List ℕ) → Stops (b ++ (10 ∷ u))
unfolding figures Stops
end-stops no-blank u v k = refl
end-stops (blank y) u v k = refl

end-solid : (u : List ℕ) → after_blanks (10 ∷ u) ≡ 10 ∷ u
unfolding after_blanks
end-solid u = refl

some-count : {v : ℕ} {d : List ℕ} → Numeral v d → eqb (length d) 0 ≡ false
some-count {v} {d} n = ne_eqb (length d) 0 (λ e. let z = n.some in let y : ⊥ = omega arith in y)

order-line : {b1 d1 b2 d2 b3 : List ℕ} {p N : ℕ} → Blanks b1 → Numeral p d1 → Blanks b2 → Numeral N d2 → Blanks b3 → (rest : List ℕ)
    → order_of (b1 ++ (d1 ++ (32 ∷ (b2 ++ (d2 ++ (b3 ++ (10 ∷ rest))))))) ≡ asks p N (unended rest)
unfolding order_of
order-line {b1} {d1} {b2} {d2} {b3} {p} {N} y1 n1 y2 n2 y3 rest =
    let W = b3 ++ (10 ∷ rest) in
    let Q = b2 ++ (d2 ++ W) in
    ap order_from (number-whole y1 n1 (32 ∷ Q) (blank-stops Q))
    ∙ ap (λ (t : Bool). choose t none (order_rest p (number_in Q))) (some-count n1)
    ∙ ap (order_rest p) (number-whole y2 n2 W (end-stops y3 rest))
    ∙ ap (λ (t : Bool). choose t none (order_end p N (after_blanks W))) (some-count n2)
    ∙ ap (order_end p N) (blanks-whole y3 (10 ∷ rest) (end-solid rest))

order-complete : (s : List ℕ) (p N : ℕ) (text : List ℕ) → Asks s p N text → order_of s ≡ asks p N text
order-complete s p N text a =
    let y1 = a.first in
    let y2 = y1.after in
    let y3 = y2.after in
    let y4 = y3.after in
    let y5 = y4.after in
    ap order_of
    (a.lines
    ∙ ap (λ (x : List ℕ). x ++ (10 ∷ a.rest))
    (y1.whole
    ∙ ap (λ (x : List ℕ). y1.left ++ x) y2.whole
    ∙ ap (λ (x : List ℕ). y1.left ++ (y2.left ++ x)) y3.whole
    ∙ ap (λ (x : List ℕ). y1.left ++ (y2.left ++ (x ++ y3.right))) y3.before
    ∙ ap (λ (x : List ℕ). y1.left ++ (y2.left ++ ((32 ∷ []) ++ x))) y4.whole
    ∙ ap (λ (x : List ℕ). y1.left ++ (y2.left ++ ((32 ∷ []) ++ (y4.left ++ x)))) y5.whole)
    ∙ sym (line-parts y1.left y2.left y4.left y5.left y5.right a.rest))
    ∙ order-line y1.before y2.before y4.before y5.before y5.after a.rest
    ∙ ap (asks p N) (sym a.second)

-- what an input asks for
pub order_is : (s : List ℕ) → length s ≤ longest_input → Orders s (order_of s)
order_is s short = go (order_of s) refl
  where
    go : (o : Order) → order_of s ≡ o → Orders s o
    go (asks p N text) e = order-sound s short p N text e
    go none e = λ p N text a. unlike p N text (sym e ∙ order-complete s p N text a)

pub long-none : (s : List ℕ) → longest_input < length s → Orders s none
long-none s long = λ p N text a. (let f = a.few in let z : ⊥ = omega arith in z)

pub same-order : (s : List ℕ) (o q : Order) → Orders s o → Orders s q → q ≡ o
same-order s (asks p N text) (asks p' N' text') x y = sym (order-complete s p' N' text' y) ∙ order-complete s p N text x
same-order s (asks p N text) none x y = absurd (y p N text x)
same-order s none (asks p N text) x y = absurd (x p N text y)
same-order s none none x y = refl

pub one-order : (s : List ℕ) → One (Orders s)
one-order s =
    ⊎_elim (λ (l : longest_input < length s). the none (long-none s l)) (λ (l : length s ≤ longest_input). the (order_of s) (order_is s l)) (lt-or-ge longest_input (length s))
  where
    the : (o : Order) → Orders s o → One (Orders s)
    the o x = (o, record { is = x; only = λ q y. same-order s o q x y })
