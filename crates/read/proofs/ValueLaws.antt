-- Values in slices: loops that go over the words, the rows that count, and what is stored.
-- Assumes nothing.
use mathlib.Core.Path.{◌≡◌, refl, sym, ap, ◌∙◌, subst}
use mathlib.Core.Bool.{Bool, true, false, ◌||◌, ◌&&◌}
use mathlib.Core.List.{List, [], ◌∷◌, ◌++◌}
use mathlib.Core.Logic.{⊎_elim, ◌⊎◌, inl, inr}
use Prim.Native.Nat.{ℕ, zero, suc, ◌+◌, ◌-◌, ◌*◌, ◌%◌, ◌≤◌, ◌<◌, max}
use native.Mathlib.Nat.{eq-or-lt_of_le, mod-lt, mod-eq_of_lt, mul-le-mul, mod_self}
use native.Mathlib.Numerals.{add-one}
use native.Mathlib.Omega.{arith}
use borrow.Author.Tests.{lt-ltb, le-ltb, eq-eqb, ne_eqb, eqb-true}
use lib.Dec.{eqb}
use lib.ListN.{length, take, drop, set, length-append, length-drop, get_or-append, get_or-eq_default, replicate, get_or-replicate, length-replicate}
use lib.Seq.{get_or-set_same, get_or-set_other, get_or-take, get_or-drop, length-take-le, take-suc}
use Rattle.std.specs.List.{list_all}
use Rattle.std.specs.Prelude.{Some}
use Rattle.numbers.specs.Words.{word, choose, over, tabulate, all_to}
use Rattle.numbers.proofs.WordsLaws.{lt-or-ge, true-false, over-past, length-tabulate}
use Rattle.numbers.proofs.TestsLaws.{all_to-at, at-all_to, all_to-false, all_to-front}
use Rattle.rows.specs.Rows.{rows_of, table, mul}
use Rattle.rows.proofs.RowsLaws.{row_fits, rows-below, rows-past, word-table, length-table}
use Rattle.rows.proofs.MulLaws.{mul-lt, mul-ext, mul-past}
use Rattle.formula.specs.Formula.{Sign, plus, minus, Lead, none, sign}
use Rattle.read.specs.Value.{Poly, single, constant, the_x, the_y, plus_of, minus_of, times_of, power_of, signed, leading, zero_row, top_row, degree, high, powers_high}
use Rattle.read.specs.declared.Sign.{Sign as Mark}
use Rattle.read.specs.declared.Sign.TheVariants.{Plus as plus-mark, Minus as minus-mark}
use Rattle.read.specs.internal.Places.{is_minus, sign_for}
use Rattle.read.specs.internal.Values.{Stored, Raised, TopRows}

pub both_false : (a b : Bool) → a ≡ false → b ≡ false → a || b ≡ false
both_false a b e f = rw e f

-- what is stored is not too high
pub stored_low : {p n : ℕ} {f : Poly} {w : List ℕ} {r : ℕ} → Stored p n f w r → high n f ≡ false
stored_low {n = n} {f} h = let a = h.rows_are in let b = h.low in le-ltb 32 (degree n f) (omega arith)

pub stored_some : {p n : ℕ} {f : Poly} {w : List ℕ} {r : ℕ} → Stored p n f w r → 1 ≤ r
stored_some h = let a = h.rows_are in omega arith

-- the first q words are those of g, the others as they were
pub record Mapped (g : ℕ → ℕ) (q : ℕ) (old new : List ℕ) : Type 0 where
  pub done : (k : ℕ) → k < q → word new k ≡ g k
  pub rest : (k : ℕ) → q ≤ k → word new k ≡ word old k
  pub long : length new ≡ length old

-- the first `size` words are filled with 0
pub mapped_fill : (size : ℕ) (old zeros : List ℕ) → zeros ≡ replicate (length (take size old)) 0 → size ≤ length old → Mapped (λ q. 0) size old (zeros ++ drop size old)
mapped_fill size old zeros e l =
    let n : length zeros ≡ size = ap length e ∙ length-replicate _ 0 ∙ length-take-le size old l in
    let z : zeros ≡ replicate size 0 = e ∙ ap (λ (k : ℕ). replicate k 0) (length-take-le size old l) in
    record {
      done = λ k h. get_or-append zeros (drop size old) 0 k (omega arith) ∙ ap (λ (x : List ℕ). word x k) z ∙ get_or-replicate size k 0 0 h;
      rest = λ k h. ap (λ (i : ℕ). word (zeros ++ drop i old) k) (sym n) ∙ over-past zeros old k (omega arith);
      long = length-append zeros (drop size old) ∙ (let d = length-drop size old in omega arith);
    }

-- the first n words are those that a copy takes
pub words-taken : (n : ℕ) (s : List ℕ) → n ≤ length s → take n s ≡ tabulate n (word s)
unfolding tabulate
words-taken zero s h = refl
words-taken (suc n) s h = take-suc s n 0 h ∙ ap (λ (x : List ℕ). x ++ (word s n ∷ [])) (words-taken n s (omega arith))

pub over-taken : (n : ℕ) (s old new : List ℕ) → new ≡ take n s → n ≤ length s → new ++ drop n old ≡ over (tabulate n (word s)) old
over-taken n s old new e l =
    ap (λ (x : List ℕ). x ++ drop n old) (e ∙ words-taken n s l) ∙ ap (λ (k : ℕ). tabulate n (word s) ++ drop k old) (sym (length-tabulate n (word s)))

-- words that all are 0
all_words : (test : ℕ → Bool) (s : List ℕ) → list_all test s ≡ all_to (length s) (λ i. test (word s i))
unfolding all_to
all_words test [] = refl
all_words test (x ∷ s) = both (test x) (list_all test s) ∙ ap (λ (b : Bool). choose (test x) b false) (all_words test s) ∙ sym (all_to-front (length s) (λ i. test (word (x ∷ s) i)))
  where
    both : (a b : Bool) → a && b ≡ choose a b false
    both true b = refl
    both false b = refl

-- places of a row
pub place-fits : (j n t : ℕ) → j < 33 → t < n → j * n + t < 33 * n
place-fits j n t h l = let z = row_fits j 33 n h in omega arith

place-apart : (n j t i k : ℕ) → t < n → k < n → j * n + t ≡ i * n + k → (j ≡ i) × (t ≡ k)
place-apart n j t i k h l e =
    ⊎_elim
    (λ (x : j < i). absurd (let y = row_fits j i n x in let z : ⊥ = omega arith in z))
    (λ (x : i ≤ j). ⊎_elim
    (λ (y : i ≡ j). let q : j * n ≡ i * n = ap (λ (a : ℕ). a * n) (sym y) in (sym y, omega arith))
    (λ (y : i < j). absurd (let w = row_fits i j n y in let z : ⊥ = omega arith in z))
    (eq-or-lt_of_le x))
    (lt-or-ge j i)

single-there : (i k v : ℕ) → single i k v i k ≡ v
single-there i k v = simp (eq-eqb i i refl, eq-eqb k k refl)

single-off : (i k v j t : ℕ) → ((j ≡ i) × (t ≡ k) → ⊥) → single i k v j t ≡ 0
single-off i k v j t h = go (eqb j i) refl (eqb t k) refl
  where
    go : (a : Bool) → eqb j i ≡ a → (b : Bool) → eqb t k ≡ b → choose a (choose b v 0) 0 ≡ 0
    go true e true f = absurd (h (eqb-true j i e, eqb-true t k f))
    go true e false f = refl
    go false e b f = refl

module _ (n i k v : ℕ) (old new : List ℕ) (m : Mapped (λ q. 0) (33 * n) old new) where
  pub single-set : 33 * n ≤ length old → i < 33 → k < n → (j t : ℕ) → j < 33 → t < n → word (set new (i * n + k) v) (j * n + t) ≡ single i k v j t
  single-set long hi hk j t hj ht =
      ⊎_elim
      (λ (x : j * n + t ≡ i * n + k).
      let y = place-apart n j t i k ht hk x in
      ap (λ (q : ℕ). word (set new (i * n + k) v) q) x ∙ get_or-set_same new (i * n + k) v 0 (let z = place-fits i n k hi hk in let w = m.long in omega arith)
      ∙ sym (ap (λ (a : ℕ). single i k v a t) y.0 ∙ ap (λ (a : ℕ). single i k v i a) y.1 ∙ single-there i k v))
      (λ (x : j * n + t ≡ i * n + k → ⊥).
      get_or-set_other new (i * n + k) (j * n + t) v 0 x ∙ m.done (j * n + t) (place-fits j n t hj ht)
      ∙ sym (single-off i k v j t (λ y. x (ap (λ (a : ℕ). a * n + t) y.0 ∙ ap (λ (a : ℕ). i * n + a) y.1))))
      (same_or_not (j * n + t) (i * n + k))
    where
      same_or_not : (a b : ℕ) → (a ≡ b) ⊎ (a ≡ b → ⊥)
      same_or_not a b = ⊎_elim (λ (l : a < b). inr (λ e. let z : ⊥ = omega arith in z)) (λ (l : b ≤ a). ⊎_elim (λ (e : b ≡ a). inl (sym e)) (λ (g : b < a). inr (λ e. let z : ⊥ = omega arith in z)) (eq-or-lt_of_le l)) (lt-or-ge a b)

  pub single-none : n ≤ k → (j t : ℕ) → j < 33 → t < n → word new (j * n + t) ≡ single i k v j t
  single-none h j t hj ht = m.done (j * n + t) (place-fits j n t hj ht) ∙ sym (single-off i k v j t (λ y. let z = y.1 in let w : ⊥ = omega arith in w))

single-below : (p i k v : ℕ) → v < p → (j t : ℕ) → single i k v j t < p
single-below p i k v h j t = go (eqb j i) (eqb t k)
  where
    go : (a b : Bool) → choose a (choose b v 0) 0 < p
    go true true = h
    go true false = omega arith
    go false b = omega arith

-- numbers and letters
pub stored-constant : (p n v : ℕ) (w : List ℕ) → 2 ≤ p → ((j t : ℕ) → j < 33 → t < n → word w (j * n + t) ≡ single 0 0 (v % p) j t) → Stored p n (constant p v) w 1
unfolding top_row
stored-constant p n v w two h = record {
  words = h;
  rows_are = refl;
  low = omega arith;
  below = single-below p 0 0 (v % p) (mod-lt v (omega arith));
  empty = λ j t l. single-off 0 0 (v % p) j t (λ y. let z = y.0 in let x : ⊥ = omega arith in x);
}

pub stored-x : (p n : ℕ) (w : List ℕ) → 2 ≤ p → ((j t : ℕ) → j < 33 → t < n → word w (j * n + t) ≡ single 0 1 (1 % p) j t) → Stored p n (the_x p) w 1
unfolding top_row
stored-x p n w two h = record {
  words = h;
  rows_are = refl;
  low = omega arith;
  below = single-below p 0 1 (1 % p) (mod-lt 1 (omega arith));
  empty = λ j t l. single-off 0 1 (1 % p) j t (λ y. let z = y.0 in let x : ⊥ = omega arith in x);
}

one-mod : (p : ℕ) → 2 ≤ p → 1 % p ≡ 1
one-mod p h = mod-eq_of_lt (omega arith)

pub stored-y : (p n : ℕ) (w : List ℕ) → 2 ≤ p → 1 ≤ n → ((j t : ℕ) → j < 33 → t < n → word w (j * n + t) ≡ single 1 0 (1 % p) j t) → Stored p n (the_y p) w 2
unfolding top_row
stored-y p n w two some h =
    let e : eqb (1 % p) 0 ≡ false = ne_eqb (1 % p) 0 (λ z. let o = one-mod p two in let y : ⊥ = omega arith in y) in
    let z : zero_row n (single 1 0 (1 % p) 1) ≡ false = all_to-false n (λ t. eqb (single 1 0 (1 % p) 1 t) 0) 0 some e in
    record {
      words = h;
      rows_are = rw z;
      low = omega arith;
      below = single-below p 1 0 (1 % p) (mod-lt 1 (omega arith));
      empty = λ j t l. single-off 1 0 (1 % p) j t (λ y. let z = y.0 in let x : ⊥ = omega arith in x);
    }

-- rows that count
pub top-less : (n total r : ℕ) (w : List ℕ) → 1 < r → r ≤ total → zero_row n (λ t. word w ((r - 1) * n + t)) ≡ true
    → ((j t : ℕ) → r ≤ j → j < total → t < n → word w (j * n + t) ≡ 0) → (j t : ℕ) → r - 1 ≤ j → j < total → t < n → word w (j * n + t) ≡ 0
top-less n total r w h l z rest j t a b d =
    ⊎_elim
    (λ (e : r - 1 ≡ j). subst (λ (i : ℕ). word w (i * n + t) ≡ 0) e (eqb-true _ 0 (all_to-at n (λ i. eqb (word w ((r - 1) * n + i)) 0) z t d)))
    (λ (g : r - 1 < j). rest j t (omega arith) b d)
    (eq-or-lt_of_le a)

zero_row_lem : (n : ℕ) (a : ℕ → ℕ) → ((t : ℕ) → t < n → a t ≡ 0) → zero_row n a ≡ true
zero_row_lem n a h = at-all_to n (λ t. eqb (a t) 0) (λ t l. eq-eqb (a t) 0 (h t l))

row_zero : (n : ℕ) (a : ℕ → ℕ) → zero_row n a ≡ true → (t : ℕ) → t < n → a t ≡ 0
row_zero n a z t l = eqb-true (a t) 0 (all_to-at n (λ t. eqb (a t) 0) z t l)

-- two rows that are 0 at the same columns
row_same : (n : ℕ) (a b : ℕ → ℕ) → ((t : ℕ) → t < n → a t ≡ 0 → b t ≡ 0) → ((t : ℕ) → t < n → b t ≡ 0 → a t ≡ 0) → zero_row n a ≡ zero_row n b
row_same n a b h g = go (zero_row n a) refl (zero_row n b) refl
  where
    go : (x : Bool) → zero_row n a ≡ x → (y : Bool) → zero_row n b ≡ y → zero_row n a ≡ zero_row n b
    go true e true f = e ∙ sym f
    go true e false f = true-false (sym (zero_row_lem n b (λ t l. h t l (row_zero n a e t l))) ∙ f)
    go false e true f = true-false (sym (zero_row_lem n a (λ t l. g t l (row_zero n b f t l))) ∙ e)
    go false e false f = e ∙ sym f

pub row-all : (s : List ℕ) (from n : ℕ) (b : Bool) → b ≡ list_all (λ x. eqb x 0) (take (from + n - from) (drop from s)) → from + n ≤ length s → b ≡ zero_row n (λ t. word s (from + t))
row-all s from n b e l =
    let xs = take (from + n - from) (drop from s) in
    let m : length xs ≡ n = length-take-le _ _ (let d = length-drop from s in omega arith) ∙ (let q : from + n - from ≡ n = omega arith in q) in
    e ∙ all_words (λ x. eqb x 0) xs ∙ ap (λ (k : ℕ). zero_row k (word xs)) m
    ∙ row_same n (word xs) (λ t. word s (from + t)) (λ t h z. sym (at t h) ∙ z) (λ t h z. at t h ∙ z)
  where
    at : (t : ℕ) → t < n → word (take (from + n - from) (drop from s)) t ≡ word s (from + t)
    at t h = get_or-take (from + n - from) (drop from s) t 0 (omega arith) ∙ get_or-drop from s t 0

top-is : (n : ℕ) (a : ℕ → ℕ → ℕ) (b d : ℕ) → ((j : ℕ) → d < j → j ≤ b → zero_row n (a j) ≡ true) → (1 ≤ d → zero_row n (a d) ≡ false) → (1 ≤ d → d ≤ b) → top_row n a b ≡ d
unfolding top_row
top-is n a zero d h g l = ⊎_elim (λ (x : d < 1). (let z : 0 ≡ d = omega arith in z)) (λ (x : 1 ≤ d). absurd (let y = l x in let z : ⊥ = omega arith in z)) (lt-or-ge d 1)
top-is n a (suc b) d h g l =
    ⊎_elim
    (λ (x : d < suc b). ap (λ (t : Bool). choose t (top_row n a b) (suc b)) (h (suc b) x (omega arith)) ∙ top-is n a b d (λ j u v. h j u (omega arith)) g (λ u. omega arith))
    (λ (x : suc b ≤ d).
    let e : suc b ≡ d = (let y = l (omega arith) in omega arith) in
    ap (λ (t : Bool). choose t (top_row n a b) (suc b)) (ap (λ (i : ℕ). zero_row n (a i)) e ∙ g (omega arith)) ∙ e)
    (lt-or-ge d (suc b))

top-le : (n : ℕ) (a : ℕ → ℕ → ℕ) (b : ℕ) → top_row n a b ≤ b
unfolding top_row
top-le n a zero = omega arith
top-le n a (suc b) = go (zero_row n (a (suc b))) (top-le n a b)
  where
    go : (t : Bool) → top_row n a b ≤ b → choose t (top_row n a b) (suc b) ≤ suc b
    go true h = omega arith
    go false h = omega arith

top-zero : (n : ℕ) (a : ℕ → ℕ → ℕ) (b j : ℕ) → top_row n a b < j → j ≤ b → zero_row n (a j) ≡ true
unfolding top_row
top-zero n a zero j h l = absurd (let z : ⊥ = omega arith in z)
top-zero n a (suc b) j h l = go (zero_row n (a (suc b))) refl h (top-zero n a b j)
  where
    go : (t : Bool) → zero_row n (a (suc b)) ≡ t → choose t (top_row n a b) (suc b) < j → (top_row n a b < j → j ≤ b → zero_row n (a j) ≡ true) → zero_row n (a j) ≡ true
    go true e h ih = ⊎_elim (λ (x : j ≡ suc b). ap (λ (i : ℕ). zero_row n (a i)) x ∙ e) (λ (x : j < suc b). ih h (omega arith)) (eq-or-lt_of_le l)
    go false e h ih = absurd (let z : ⊥ = omega arith in z)

-- rows from r on are 0
pub stored-zero : {p n : ℕ} {f : Poly} {w : List ℕ} {r : ℕ} → Stored p n f w r → (j t : ℕ) → r ≤ j → t < n → f.row j t ≡ 0
stored-zero {n = n} {f} {w} {r} s j t h l =
    let e = s.rows_are in
    ⊎_elim
    (λ (x : f.bound < j). s.empty j t x)
    (λ (x : j ≤ f.bound). row_zero n (f.row j) (top-zero n f.row f.bound j (omega arith) x) t l)
    (lt-or-ge f.bound j)

-- the degree, from the rows that count
module _ (n : ℕ) (f : Poly) (w : List ℕ) (total r : ℕ)
    (words : (j t : ℕ) → j < total → t < n → word w (j * n + t) ≡ f.row j t)
    (empty : (j t : ℕ) → f.bound < j → f.row j t ≡ 0)
    (past : (j t : ℕ) → total ≤ j → t < n → f.row j t ≡ 0)
    (top : TopRows n w total r) where
  zeros-above : (j : ℕ) → r - 1 < j → zero_row n (f.row j) ≡ true
  zeros-above j h =
      let s = top.some in
      zero_row_lem n (f.row j) (λ t l. ⊎_elim
      (λ (x : j < total). sym (words j t x l) ∙ top.zeros j t (omega arith) x l)
      (λ (x : total ≤ j). past j t x l)
      (lt-or-ge j total))

  last_row : 1 ≤ r - 1 → zero_row n (f.row (r - 1)) ≡ false
  last_row h =
      let i = top.within in
      sym (row_same n (λ t. word w ((r - 1) * n + t)) (f.row (r - 1)) (λ t l e. sym (words (r - 1) t (omega arith) l) ∙ e) (λ t l e. words (r - 1) t (omega arith) l ∙ e))
      ∙ top.last (omega arith)

  last-in : 1 ≤ r - 1 → r - 1 ≤ f.bound
  last-in h =
      ⊎_elim
      (λ (x : f.bound < r - 1). true-false (sym (zero_row_lem n (f.row (r - 1)) (λ t l. empty (r - 1) t x)) ∙ last_row h))
      (λ (x : r - 1 ≤ f.bound). x)
      (lt-or-ge f.bound (r - 1))

  pub degree-top : r ≡ degree n f + 1
  degree-top = let s = top.some in let e = top-is n f.row f.bound (r - 1) (λ j h l. zeros-above j h) last_row last-in in omega arith

top-ext : (n : ℕ) (a b : ℕ → ℕ → ℕ) → ((j : ℕ) → zero_row n (a j) ≡ zero_row n (b j)) → (k : ℕ) → top_row n a k ≡ top_row n b k
unfolding top_row
top-ext n a b h zero = refl
top-ext n a b h (suc k) = ap (λ (t : Bool). choose t (top_row n a k) (suc k)) (h (suc k)) ∙ ap (λ (x : ℕ). choose (zero_row n (b (suc k))) x (suc k)) (top-ext n a b h k)

mod_same : (p x : ℕ) → x < p → x % p ≡ x
mod_same p x h = mod-eq_of_lt h

-- the sign before a sum
zero-mod : (p : ℕ) → 2 ≤ p → 0 % p ≡ 0
zero-mod p h = mod-eq_of_lt (omega arith)

single-zero : (p : ℕ) → 2 ≤ p → (j t : ℕ) → single 0 0 (0 % p) j t ≡ 0
single-zero p h j t = go (eqb j 0) (eqb t 0)
  where
    go : (a b : Bool) → choose a (choose b (0 % p) 0) 0 ≡ 0
    go true true = zero-mod p h
    go true false = refl
    go false b = refl

-- p − x modulo p is 0 for x = 0 alone
minus-zero : (p : ℕ) → 2 ≤ p → (p - 0) % p ≡ 0
minus-zero p h = let e : p - 0 ≡ p = omega arith in ap (λ (x : ℕ). x % p) e ∙ mod_self p

zero_minus : (p x : ℕ) → 2 ≤ p → x < p → (p - x) % p ≡ 0 → x ≡ 0
zero_minus p x h l e =
    ⊎_elim
    (λ (y : x < 1). (let z : x ≡ 0 = omega arith in z))
    (λ (y : 1 ≤ x). absurd (let m : (p - x) % p ≡ p - x = mod-eq_of_lt (omega arith) in let z : ⊥ = omega arith in z))
    (lt-or-ge x 1)

module _ (p n : ℕ) (f : Poly) (rows : ℕ) (old new : List ℕ) (two : 2 ≤ p)
    (words : (q : ℕ) → q < 33 * n → word new q ≡ (p - word old q % p) % p) (s : Stored p n f old rows) where
  negated : (j t : ℕ) → (minus_of p (constant p 0) f).row j t ≡ (p - f.row j t) % p
  negated j t = let e = single-zero p two j t in ap (λ (x : ℕ). x % p) (let z : single 0 0 (0 % p) j t + (p - f.row j t) ≡ p - f.row j t = omega arith in z)

  pub stored-negated : Stored p n (minus_of p (constant p 0) f) new rows
  stored-negated =
      let g = minus_of p (constant p 0) f in
      let b : max 0 f.bound ≡ f.bound = omega arith in
      record {
        words = λ j t h l. words (j * n + t) (place-fits j n t h l) ∙ ap (λ (x : ℕ). (p - x) % p) (ap (λ (x : ℕ). x % p) (s.words j t h l) ∙ mod_same p (f.row j t) (s.below j t)) ∙ sym (negated j t);
        rows_are = s.rows_are ∙ ap (λ (x : ℕ). x + 1) (sym (ap (top_row n g.row) b ∙ same-top f.bound));
        low = s.low;
        below = λ j t. mod-lt _ (omega arith);
        empty = λ j t h. negated j t ∙ ap (λ (x : ℕ). (p - x) % p) (s.empty j t (omega arith)) ∙ minus-zero p two;
      }
    where
      same_row : (j : ℕ) → zero_row n ((minus_of p (constant p 0) f).row j) ≡ zero_row n (f.row j)
      same_row j = row_same n ((minus_of p (constant p 0) f).row j) (f.row j)
          (λ t l e. zero_minus p (f.row j t) two (s.below j t) (sym (negated j t) ∙ e))
          (λ t l e. negated j t ∙ ap (λ (x : ℕ). (p - x) % p) e ∙ minus-zero p two)

      same-top : (b : ℕ) → top_row n (minus_of p (constant p 0) f).row b ≡ top_row n f.row b
      same-top b = top-ext n (minus_of p (constant p 0) f).row f.row same_row b

-- sums
module _ (p n : ℕ) (f h : Poly) (a b : ℕ) (old g new : List ℕ) (two : 2 ≤ p) (sf : Stored p n f old a) (sh : Stored p n h g b) (r : ℕ) (top : TopRows n new 33 r) where
  pub stored-plus : ((q : ℕ) → q < 33 * n → word new q ≡ (word old q % p + word g q % p) % p) → Stored p n (plus_of p f h) new r
  stored-plus e =
      let words : ((j t : ℕ) → j < 33 → t < n → word new (j * n + t) ≡ (plus_of p f h).row j t) = λ j t u l.
      e (j * n + t) (place-fits j n t u l)
      ∙ ap (λ (x : ℕ). (x + word g (j * n + t) % p) % p) (ap (λ (x : ℕ). x % p) (sf.words j t u l) ∙ mod_same p (f.row j t) (sf.below j t))
      ∙ ap (λ (x : ℕ). (f.row j t + x) % p) (ap (λ (x : ℕ). x % p) (sh.words j t u l) ∙ mod_same p (h.row j t) (sh.below j t)) in
      let zero : ((j t : ℕ) → f.row j t ≡ 0 → h.row j t ≡ 0 → (plus_of p f h).row j t ≡ 0) = λ j t x y. rw (x, y) (zero-mod p two) in
      let fl = sf.low in
      let hl = sh.low in
      let empty : ((j t : ℕ) → (plus_of p f h).bound < j → (plus_of p f h).row j t ≡ 0) = λ j t l. zero j t (sf.empty j t (omega arith)) (sh.empty j t (omega arith)) in
      record {
        words = words;
        rows_are = degree-top n (plus_of p f h) new 33 r words empty (λ j t u l. zero j t (stored-zero sf j t (omega arith) l) (stored-zero sh j t (omega arith) l)) top;
        low = top.within;
        below = λ j t. mod-lt _ (omega arith);
        empty = empty;
      }

  pub stored-minus : ((q : ℕ) → q < 33 * n → word new q ≡ (word old q % p + (p - word g q % p)) % p) → Stored p n (minus_of p f h) new r
  stored-minus e =
      let words : ((j t : ℕ) → j < 33 → t < n → word new (j * n + t) ≡ (minus_of p f h).row j t) = λ j t u l.
      e (j * n + t) (place-fits j n t u l)
      ∙ ap (λ (x : ℕ). (x + (p - word g (j * n + t) % p)) % p) (ap (λ (x : ℕ). x % p) (sf.words j t u l) ∙ mod_same p (f.row j t) (sf.below j t))
      ∙ ap (λ (x : ℕ). (f.row j t + (p - x)) % p) (ap (λ (x : ℕ). x % p) (sh.words j t u l) ∙ mod_same p (h.row j t) (sh.below j t)) in
      let zero : ((j t : ℕ) → f.row j t ≡ 0 → h.row j t ≡ 0 → (minus_of p f h).row j t ≡ 0) = λ j t x y.
      ap (λ (z : ℕ). (z + (p - h.row j t)) % p) x ∙ ap (λ (z : ℕ). (0 + (p - z)) % p) y ∙ ap (λ (z : ℕ). z % p) (let q : 0 + (p - 0) ≡ p - 0 = omega arith in q) ∙ minus-zero p two in
      let fl = sf.low in
      let hl = sh.low in
      let empty : ((j t : ℕ) → (minus_of p f h).bound < j → (minus_of p f h).row j t ≡ 0) = λ j t l. zero j t (sf.empty j t (omega arith)) (sh.empty j t (omega arith)) in
      record {
        words = words;
        rows_are = degree-top n (minus_of p f h) new 33 r words empty (λ j t u l. zero j t (stored-zero sf j t (omega arith) l) (stored-zero sh j t (omega arith) l)) top;
        low = top.within;
        below = λ j t. mod-lt _ (omega arith);
        empty = empty;
      }

-- a sign by its code
pub signed-minus : (p n : ℕ) (f h : Poly) (w : List ℕ) (r : ℕ) (m : Mark) (σ : Sign) → m ≡ sign_for σ → m ≡ minus-mark → Stored p n (minus_of p f h) w r → Stored p n (signed p σ f h) w r
signed-minus p n f h w r m plus e z k = absurd (let y : ⊥ = cc in y)
signed-minus p n f h w r m minus e z k = k

pub signed-plus : (p n : ℕ) (f h : Poly) (w : List ℕ) (r : ℕ) (m : Mark) (σ : Sign) → m ≡ sign_for σ → m ≡ plus-mark → Stored p n (plus_of p f h) w r → Stored p n (signed p σ f h) w r
signed-plus p n f h w r m plus e z k = k
signed-plus p n f h w r m minus e z k = absurd (let y : ⊥ = cc in y)

pub leading-minus : (p n : ℕ) (f : Poly) (w : List ℕ) (r : ℕ) (l : Lead) (m : Bool) → m ≡ is_minus l → m ≡ true → Stored p n (minus_of p (constant p 0) f) w r → Stored p n (leading p l f) w r
leading-minus p n f w r none m e z k = true-false (sym z ∙ e)
leading-minus p n f w r (sign plus) m e z k = true-false (sym z ∙ e)
leading-minus p n f w r (sign minus) m e z k = k

-- products
module _ (p n rows grows : ℕ) (f h : Poly) (old g A B P₀ P : List ℕ) (two : 2 ≤ p) (some : 1 ≤ n) (fs : 1 ≤ rows) (gs : 1 ≤ grows)
    (eA : (q : ℕ) → q < rows * n → word A q ≡ word old q % p) (eB : (q : ℕ) → q < grows * n → word B q ≡ word g q % p)
    (sf : Stored p n f old rows) (sh : Stored p n h g grows)
    (eP : P ≡ over (table (rows + grows - 1) n (mul p (rows_of (take (rows * n) A) n rows) (rows_of (take (grows * n) B) n grows))) P₀)
    (zeros : (k : ℕ) → word P₀ k ≡ 0) where
  rows_agree : (C w : List ℕ) (r : ℕ) (k : Poly) → ((q : ℕ) → q < r * n → word C q ≡ word w q % p) → Stored p n k w r → (i s : ℕ) → s < n → rows_of (take (r * n) C) n r i s ≡ k.row i s
  rows_agree C w r k e st i s l =
      let q = st.low in
      ⊎_elim
      (λ (x : i < r).
      let z = row_fits i r n x in
      rows-below (take (r * n) C) n r i s x ∙ get_or-take (r * n) C (i * n + s) 0 (omega arith) ∙ e (i * n + s) (omega arith)
      ∙ ap (λ (y : ℕ). y % p) (st.words i s (omega arith) l) ∙ mod_same p (k.row i s) (st.below i s))
      (λ (x : r ≤ i). rows-past (take (r * n) C) n r i s x ∙ sym (stored-zero st i s x l))
      (lt-or-ge i r)

  column : (j t : ℕ) → t < n → mul p (rows_of (take (rows * n) A) n rows) (rows_of (take (grows * n) B) n grows) j t ≡ (times_of p f h).row j t
  column j t l = mul-ext p _ _ _ _ j t (λ i s u v. rows_agree A old rows f eA sf i s (omega arith)) (λ i s u v. rows_agree B g grows h eB sh i s (omega arith))

  words_product : (j t : ℕ) → j < rows + grows - 1 → t < n → word P (j * n + t) ≡ (times_of p f h).row j t
  words_product j t u l =
      let T = table (rows + grows - 1) n (mul p (rows_of (take (rows * n) A) n rows) (rows_of (take (grows * n) B) n grows)) in
      let z = row_fits j (rows + grows - 1) n u in
      let k = length-table (rows + grows - 1) n (mul p (rows_of (take (rows * n) A) n rows) (rows_of (take (grows * n) B) n grows)) in
      ap (λ (x : List ℕ). word x (j * n + t)) eP ∙ get_or-append T (drop (length T) P₀) 0 (j * n + t) (omega arith)
      ∙ word-table (rows + grows - 1) n (mul p (rows_of (take (rows * n) A) n rows) (rows_of (take (grows * n) B) n grows)) j t u l ∙ column j t l

  past-product : (j t : ℕ) → rows + grows - 1 ≤ j → t < n → (times_of p f h).row j t ≡ 0
  past-product j t u l =
      sym (column j t l) ∙ mul-past p _ _ rows grows (λ i s v. rows-past (take (rows * n) A) n rows i s v) (λ i s v. rows-past (take (grows * n) B) n grows i s v) j t (omega arith)

  empty-product : (j t : ℕ) → (times_of p f h).bound < j → (times_of p f h).row j t ≡ 0
  empty-product j t u = mul-past p f.row h.row (f.bound + 1) (h.bound + 1) (λ i s v. sf.empty i s (omega arith)) (λ i s v. sh.empty i s (omega arith)) j t (omega arith)

  words-all : (j t : ℕ) → j < 33 → t < n → word P (j * n + t) ≡ (times_of p f h).row j t
  words-all j t u l =
      ⊎_elim
      (λ (x : j < rows + grows - 1). words_product j t x l)
      (λ (x : rows + grows - 1 ≤ j).
      let T = table (rows + grows - 1) n (mul p (rows_of (take (rows * n) A) n rows) (rows_of (take (grows * n) B) n grows)) in
      let k = length-table (rows + grows - 1) n (mul p (rows_of (take (rows * n) A) n rows) (rows_of (take (grows * n) B) n grows)) in
      let z : (rows + grows - 1) * n ≤ j * n = mul-le-mul {n₂ = j} {m₂ = n} x (omega arith) in
      ap (λ (y : List ℕ). word y (j * n + t)) eP ∙ over-past T P₀ (j * n + t) (omega arith) ∙ zeros (j * n + t) ∙ sym (past-product j t x l))
      (lt-or-ge j (rows + grows - 1))

  module _ (count : ℕ) (top : TopRows n P (rows + grows - 1) count) where
    count-is : count ≡ degree n (times_of p f h) + 1
    count-is = degree-top n (times_of p f h) P (rows + grows - 1) count words_product empty-product past-product top

    pub product_high : 33 < count → high n (times_of p f h) ≡ true
    product_high l = let z = count-is in lt-ltb 32 (degree n (times_of p f h)) (omega arith)

    pub product-kept : (w : List ℕ) → count ≤ 33 → ((q : ℕ) → q < 33 * n → word w q ≡ word P q) → Stored p n (times_of p f h) w count
    product-kept w l e = record {
      words = λ j t u v. e (j * n + t) (place-fits j n t u v) ∙ words-all j t u v;
      rows_are = count-is;
      low = l;
      below = λ j t. mul-lt p f.row h.row j t (omega arith);
      empty = empty-product;
    }

-- an array of zeros
pub zero-array : (m k : ℕ) → word (replicate m 0) k ≡ 0
zero-array m k = ⊎_elim (λ (l : k < m). get_or-replicate m k 0 0 l) (λ (l : m ≤ k). get_or-eq_default (replicate m 0) 0 (let z : length (replicate {A = ℕ} m 0) ≡ m = length-replicate m 0 in omega arith)) (lt-or-ge k m)

-- powers
pub stored-copy : (p n : ℕ) (f : Poly) (rows : ℕ) (old new : List ℕ) → ((q : ℕ) → q < 33 * n → word new q ≡ word old q) → Stored p n f old rows → Stored p n f new rows
stored-copy p n f rows old new e s = record {
  words = λ j t h l. e (j * n + t) (place-fits j n t h l) ∙ s.words j t h l;
  rows_are = s.rows_are;
  low = s.low;
  below = s.below;
  empty = s.empty;
}

-- the powers so far: `out` holds the i-th, and none is too high
pub record PowerRun (p n : ℕ) (f : Poly) (i : ℕ) (w : List ℕ) (count : ℕ) : Type 0 where
  pub stored : Stored p n (power_of p f i) w count
  pub low : powers_high p n f i ≡ false

pub power-none : (p n : ℕ) (f : Poly) (w : List ℕ) → Stored p n (constant p 1) w 1 → PowerRun p n f 0 w 1
unfolding power_of powers_high
power-none p n f w s = record { stored = s; low = refl }

powers-later : (p n : ℕ) (f : Poly) (i d : ℕ) → powers_high p n f i ≡ true → powers_high p n f (i + d) ≡ true
unfolding powers_high
powers-later p n f i zero h = subst (λ (x : ℕ). powers_high p n f x ≡ true) (let e : i ≡ i + 0 = omega arith in e) h
powers-later p n f i (suc d) h =
    subst (λ (x : ℕ). powers_high p n f x ≡ true) (let e : suc (i + d) ≡ i + suc d = omega arith in e)
    (ap (λ (b : Bool). b || high n (power_of p f (suc (i + d)))) (powers-later p n f i d h))

module _ (p n : ℕ) (f : Poly) (i : ℕ) (w : List ℕ) (count : ℕ) (r : PowerRun p n f i w count) where
  pub power-next : (c : ℕ) (v : List ℕ) → Stored p n (times_of p (power_of p f i) f) v c → PowerRun p n f (i + 1) v c
  unfolding power_of powers_high
  power-next c v k = subst (λ (x : ℕ). PowerRun p n f x v c) (sym (add-one i)) (record { stored = k; low = both_false _ _ r.low (stored_low k) })

  pub power-high : (m : ℕ) → i < m → high n (times_of p (power_of p f i) f) ≡ true → powers_high p n f m ≡ true
  unfolding power_of powers_high
  power-high m l k = subst (λ (x : ℕ). powers_high p n f x ≡ true) (let q : suc i + (m - suc i) ≡ m = omega arith in q)
      (powers-later p n f (suc i) (m - suc i) (ap (λ (b : Bool). b || high n (times_of p (power_of p f i) f)) r.low ∙ k))

pub power-all : (p n : ℕ) (f : Poly) (i m : ℕ) (w : List ℕ) (count : ℕ) → i ≡ m → PowerRun p n f i w count → Raised p n f m w (Some count)
power-all p n f i m w count e r = subst (λ (x : ℕ). Raised p n f x w (Some count)) e (r.stored, r.low)
