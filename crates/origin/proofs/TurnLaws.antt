-- The roots less c modulo p, put in rising order: those from c up come first, then those below c, so the list is turned.
--   turn r n i             place i of a list of r that is turned so that place n comes first
--   turn-lt, turn-onto     it is a place of the list, and every place is one of these
--   sum-turn, prod-turn    a sum and a product over the turned list
--   moved_list p c roots    the list
--   moved-rising, moved-is, moved-one   it rises, it is the one in question, and there is no other
-- Assumes nothing.
use Prim.Native.Nat.{ℕ, suc, ◌+◌, ◌-◌, ◌≤◌, ◌<◌, ◌%◌}
use native.Mathlib.Nat.{add-mod_right, mod-eq_of_lt, eq-or-lt_of_le}
use native.Mathlib.Omega.{arith}
use mathlib.Core.Path.{◌≡◌, sym, ◌∙◌, ap, ap₂}
use mathlib.Core.Logic.{⊎_elim}
use mathlib.Core.List.{List}
use borrow.Author.Tests.{lt-ltb, le-ltb}
use lib.Dec.{ltb}
use lib.ListN.{length}
use Rattle.algebra.specs.Sums.{sum_to}
use Rattle.algebra.proofs.SumsLaws.{sum_to-ext, sum_to-append}
use Rattle.algebra.specs.internal.Ring.{CommRing, prod, mul_comm}
use Rattle.algebra.proofs.RingLaws.{prod-ext, prod-append}
use Rattle.algebra.proofs.Chain.{rising-all}
use Rattle.numbers.specs.Words.{word, choose, first_large, tabulate}
use Rattle.numbers.specs.One.{One}
use Rattle.numbers.specs.internal.Facts.{AllBelow, Rising}
use Rattle.numbers.proofs.WordsLaws.{lt-or-ge, large-le, large-before, large-there, length-tabulate, word-tabulate}
use Rattle.numbers.proofs.TestsLaws.{rising-passes, rising-are}
use Rattle.numbers.proofs.ListedLaws.{rising-same}
use Rattle.origin.specs.Origin.{moved, IsMoved}

abbrev pub turn : (r n i : ℕ) → ℕ
turn r n i = choose (ltb (n + i) r) (n + i) (n + i - r)

turn_low : (r n i : ℕ) → n + i < r → turn r n i ≡ n + i
turn_low r n i l = rw (lt-ltb (n + i) r l)

turn-high : (r n i : ℕ) → r ≤ n + i → turn r n i ≡ n + i - r
turn-high r n i l = rw (le-ltb (n + i) r l)

module _ (r n : ℕ) (inside : n ≤ r) where
  pub turn-lt : (i : ℕ) → i < r → turn r n i < r
  turn-lt i l = ⊎_elim (λ (g : n + i < r). omega (arith, turn_low r n i g)) (λ (g : r ≤ n + i). omega (arith, turn-high r n i g)) (lt-or-ge (n + i) r)

  -- the first places of the turned list, and its last n
  front : (i : ℕ) → i < r - n → turn r n i ≡ n + i
  front i l = turn_low r n i (omega arith)

  back : (i : ℕ) → turn r n (r - n + i) ≡ i
  back i = turn-high r n (r - n + i) (omega arith) ∙ omega arith

  pub turn-onto : (i : ℕ) → i < r → (l : ℕ) × (l < r) × (turn r n l ≡ i)
  turn-onto i l =
      ⊎_elim (λ (g : i < n). (r - n + i, omega arith, back i)) (λ (g : n ≤ i). (i - n, omega arith, front (i - n) (omega arith) ∙ omega arith)) (lt-or-ge i n)

  parts : r - n + n ≡ r
  parts = omega arith

  parts' : n + (r - n) ≡ r
  parts' = omega arith

  pub sum-turn : (f : ℕ → ℕ) → sum_to r (λ i. f (turn r n i)) ≡ sum_to r f
  sum-turn f =
      let a = sum_to-append (r - n) n (λ i. f (turn r n i)) in
      let b = sum_to-append n (r - n) f in
      let c = sum_to-ext (r - n) (λ i l. ap f (front i l)) in
      let d = sum_to-ext n (λ i l. ap f (back i)) in
      ap (λ x. sum_to x (λ i. f (turn r n i))) (sym parts)
      ∙ (let z : sum_to (r - n + n) (λ i. f (turn r n i)) ≡ sum_to (n + (r - n)) f = omega arith in z) ∙ ap (λ x. sum_to x f) parts'

  pub prod-turn : {R : Type 0} (𝓡 : CommRing R) (F : ℕ → R) → prod 𝓡 r (λ i. F (turn r n i)) ≡ prod 𝓡 r F
  prod-turn 𝓡 F =
      ap (λ x. prod 𝓡 x (λ i. F (turn r n i))) (sym parts) ∙ prod-append 𝓡 (r - n) n (λ i. F (turn r n i))
      ∙ ap₂ 𝓡.mul (prod-ext 𝓡 (r - n) (λ i l. ap F (front i l))) (prod-ext 𝓡 n (λ i l. ap F (back i)))
      ∙ mul_comm 𝓡 (prod 𝓡 (r - n) (λ i. F (n + i))) (prod 𝓡 n F) ∙ sym (prod-append 𝓡 n (r - n) F) ∙ ap (λ x. prod 𝓡 x F) parts'

-- x − c modulo p
moved-high : (p c x : ℕ) → c ≤ x → x < p → moved p c x ≡ x - c
moved-high p c x h l =
    ap (λ (y : ℕ). y % p) (let z : x + (p - c) ≡ x - c + p = omega arith in z) ∙ add-mod_right (x - c) p ∙ mod-eq_of_lt (omega arith)

moved-low : (p c x : ℕ) → x < c → c < p → moved p c x ≡ x + (p - c)
moved-low p c x h l = mod-eq_of_lt (omega arith)

-- the place among the roots of word i of the list
abbrev pub source : ℕ → List ℕ → ℕ → ℕ
source c roots i = turn (length roots) (first_large c roots) i

abbrev pub moved_list : (p c : ℕ) → List ℕ → List ℕ
moved_list p c roots = tabulate (length roots) (λ i. moved p c (word roots (source c roots i)))

module _ (p c : ℕ) (cp : c < p) (s : List ℕ) (up : Rising s) (low : AllBelow p s) where
  abbrev r : ℕ
  r = length s

  abbrev n : ℕ
  n = first_large c s

  abbrev at : ℕ → ℕ
  at i = moved p c (word s (source c s i))

  -- from the first that is c or more all are
  large-after : (i : ℕ) → n ≤ i → i < r → c ≤ word s i
  large-after i h l =
      let a = large-there c s (omega arith) in
      ⊎_elim (λ (e : n ≡ i). omega (arith, ap (word s) e)) (λ (g : n < i). omega (arith, rising-all (λ x. x) r (word s) up n i g l)) (eq-or-lt_of_le h)

  at_front : (i : ℕ) → n + i < r → at i ≡ word s (n + i) - c
  at_front i l = ap (λ x. moved p c (word s x)) (turn_low r n i l) ∙ moved-high p c (word s (n + i)) (large-after (n + i) (omega arith) l) (low (n + i) l)

  at_back : (i : ℕ) → r ≤ n + i → i < r → at i ≡ word s (n + i - r) + (p - c)
  at_back i l g =
      ap (λ x. moved p c (word s x)) (turn-high r n i l)
      ∙ moved-low p c (word s (n + i - r)) (large-before c s (n + i - r) (omega (arith, large-le c s))) cp

  pub moved-rising : (i : ℕ) → suc i < r → at i < at (suc i)
  moved-rising i l =
      ⊎_elim
      (λ (g : n + suc i < r).
      let u = rising-all (λ x. x) r (word s) up (n + i) (n + suc i) (omega arith) g in
      omega (arith, at_front i (omega arith), at_front (suc i) g, large-after (n + i) (omega arith) (omega arith)))
      (λ (g : r ≤ n + suc i).
      ⊎_elim
      (λ (g'' : n + i < r). omega (arith, at_front i g'', at_back (suc i) g l, low (n + i) g''))
      (λ (g'' : r ≤ n + i).
      let z = large-le c s in
      let u = rising-all (λ x. x) r (word s) up (n + i - r) (n + suc i - r) (omega arith) (omega arith) in
      omega (arith, at_back i g'' (omega arith), at_back (suc i) g l))
      (lt-or-ge (n + i) r))
      (lt-or-ge (n + suc i) r)

  list-long : length (moved_list p c s) ≡ r
  list-long = length-tabulate r at

  list_at : (i : ℕ) → i < r → word (moved_list p c s) i ≡ at i
  list_at = word-tabulate r at

  list-rises : Rising (moved_list p c s)
  list-rises i l = let z = list-long in omega (arith, list_at i (omega arith), list_at (suc i) (omega arith), moved-rising i (omega arith))

  pub moved-is : (l : List ℕ) → IsMoved p c s l → moved_list p c s ≡ l
  moved-is l h = rising-same (moved_list p c s) l list-rises (rising-are l h.rises) (h.long ∙ sym list-long)
      (λ i g.
      let u : i < r = omega (arith, list-long) in
      let (x, v, e) = h.each (source c s i) (turn-lt r n (large-le c s) i u) in
      (x, v, e ∙ sym (list_at i u)))

  moved-list : IsMoved p c s (moved_list p c s)
  moved-list = record {
    rises = sym (rising-passes (moved_list p c s) (length (moved_list p c s)) (omega arith) list-rises);
    long = list-long;
    each = λ i l.
        let (x, u, e) = turn-onto r n (large-le c s) i l in
        (x, omega (arith, list-long), list_at x u ∙ ap (λ y. moved p c (word s y)) e);
  }

  pub moved-one : One (IsMoved p c s)
  moved-one = (moved_list p c s, record { is = moved-list; only = λ l h. sym (moved-is l h) })
