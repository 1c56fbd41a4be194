-- Laws of the definitions of `specs/Series`: bounds of sums of products, what a pass along two rows gives, sums and products of which all words are known, and the
-- columns of the quotient; and zeros written after words.
-- Assumes nothing.
use mathlib.Core.Path.{◌≡◌, refl, sym, ap, subst, ◌∙◌, ap₂}
use mathlib.Core.Logic.{⊎_elim}
use mathlib.Core.List.{List, [], ◌∷◌, ◌++◌}
use Prim.Native.Nat.{ℕ, zero, suc, ◌+◌, ◌-◌, ◌*◌, ◌%◌, ◌≤◌, ◌<◌, min}
use native.Mathlib.Nat.{eq-or-lt_of_le, mod-lt, mul-le-mul}
use native.Mathlib.Numerals.{add-one}
use native.Mathlib.Omega.{arith}
use lib.ListN.{length, take, drop, set, length-append, length-drop, get_or-append, get_or-eq_default}
use lib.Seq.{get_or_at, get_or-drop, length-take-le}
use Rattle.algebra.specs.Sums.{sum_to}
use Rattle.algebra.proofs.SumsLaws.{sum_to-suc, sum_to-ext, sum_to-bound}
use Rattle.numbers.specs.Words.{word, tabulate, over, part}
use Rattle.numbers.specs.internal.Facts.{AllBelow}
use Rattle.numbers.specs.Divisor.{inverse_of}
use Rattle.numbers.proofs.WordsLaws.{lt-or-ge, length-tabulate, tabulate-whole, length_over, Writing, writing-store, writing-part, writing-take, from, from_is}
use Rattle.numbers.specs.internal.Limits.{modulus_bound}
use Rattle.series.specs.Series.{sums, product_column, product, quotient_column, quotient}
use Rattle.series.specs.internal.Dot.{dot_sum}

-- what a sum gains with one summand more
pub sum-next : (n : ℕ) (f : ℕ → ℕ) → sum_to (n + 1) f ≡ sum_to n f + f n
sum-next n f = ap (λ (k : ℕ). sum_to k f) (add-one n) ∙ sum_to-suc n f

-- past the end a word is 0, so all words of such a list are below p
pub word_below : (p : ℕ) (s : List ℕ) → 1 ≤ p → AllBelow p s → (k : ℕ) → word s k < p
word_below p s pos b k = ⊎_elim (b k) (λ (h : length s ≤ k). rw (get_or-eq_default s 0 h) pos) (lt-or-ge k (length s))

-- summand i of dot_sum g h k, as the loop reads it
abbrev pub dot_term : (g h : List ℕ) (k i : ℕ) → ℕ
dot_term g h k i = word g i * word h (k - 1 - i)

module _ (g h : List ℕ) (k : ℕ) (gb : AllBelow modulus_bound g) (hb : AllBelow modulus_bound h) where
  pub term-bound : (i : ℕ) → dot_term g h k i ≤ 16777215 * 16777215
  term-bound i =
      mul-le-mul {n₂ = 16777215} {m₂ = 16777215} (omega (arith, word_below modulus_bound g (omega arith) gb i))
      (omega (arith, word_below modulus_bound h (omega arith) hb (k - 1 - i)))

  pub dot-bound : (i : ℕ) → sum_to i (dot_term g h k) ≤ i * (16777215 * 16777215)
  dot-bound i = sum_to-bound i (16777215 * 16777215) (dot_term g h k) (λ j _. term-bound j)

pub dot-is : (g h : List ℕ) (k : ℕ) → sum_to k (dot_term g h k) ≡ dot_sum g h k
unfolding dot_sum
dot-is g h k = sum_to-ext k (λ i l. ap (λ (j : ℕ). word g i * word h j) (let e : k - 1 - i ≡ k - (i + 1) = omega arith in e))

-- a pass along t + 1 words is column t of the product
pub dot-column : (p : ℕ) (g h : List ℕ) (t : ℕ) → dot_sum g h (t + 1) % p ≡ product_column p g h t
unfolding dot_sum product_column
dot-column p g h t =
    ap (λ (x : ℕ). x % p) (sum_to-ext (t + 1) (λ i l. ap (λ (j : ℕ). word g i * word h j) (let e : t + 1 - (i + 1) ≡ t - i = omega arith in e)))

-- where all words are known these are the sums and the columns of all of them
pub sums-whole : (p n : ℕ) (g h : List ℕ) → sums p n g n h n ≡ tabulate n (λ t. (word g t + word h t) % p)
unfolding sums
sums-whole p n g h = tabulate-whole n (min n n) _ (omega arith)

pub product_whole : (p n : ℕ) (g h : List ℕ) → product p n g n h n ≡ tabulate n (product_column p g h)
unfolding product
product_whole p n g h = tabulate-whole n (min n n) _ (omega arith)

-- a column of a product looks at the words up to it
pub product-ext : (p : ℕ) (g g'' h h' : List ℕ) (t : ℕ) → ((i : ℕ) → i ≤ t → word g i ≡ word g'' i) → ((i : ℕ) → i ≤ t → word h i ≡ word h' i)
    → product_column p g h t ≡ product_column p g'' h' t
unfolding product_column
product-ext p g g'' h h' t e k = ap (λ (x : ℕ). x % p) (sum_to-ext (t + 1) (λ i l. ap₂ ◌*◌ (e i (omega arith)) (k (t - i) (omega arith))))

-- a pass along g from word 1 on is the sum of the quotient's column
pub dot-rest : (g h : List ℕ) (t : ℕ) → dot_sum (from g 1) h t ≡ sum_to t (λ i. word g (i + 1) * word h (t - (i + 1)))
unfolding dot_sum
dot-rest g h t =
    ap (λ (s : List ℕ). sum_to t (λ i. word s i * word h (t - (i + 1)))) (from_is g 1)
    ∙ sum_to-ext t (λ i _. ap (λ (x : ℕ). x * word h (t - (i + 1))) (get_or-drop 1 g i 0 ∙ ap (word g) (let e : 1 + i ≡ i + 1 = omega arith in e)))

pub column-below : (p : ℕ) → 1 ≤ p → (f g h : List ℕ) (t : ℕ) → quotient_column p f g h t < p
unfolding quotient_column
column-below p pos f g h t = mod-lt _ pos

pub quotient-suc : (p t : ℕ) (f g : List ℕ) → quotient p (suc t) f g ≡ quotient p t f g ++ (quotient_column p f g (quotient p t f g) t ∷ [])
unfolding quotient
quotient-suc p t f g = refl

-- the same as a loop counts
pub quotient-next : (p t : ℕ) (f g : List ℕ) → quotient p (t + 1) f g ≡ quotient p t f g ++ (quotient_column p f g (quotient p t f g) t ∷ [])
quotient-next p t f g = ap (λ (k : ℕ). quotient p k f g) (add-one t) ∙ quotient-suc p t f g

pub length-quotient : (p n : ℕ) (f g : List ℕ) → length (quotient p n f g) ≡ n
unfolding quotient
length-quotient p zero f g = refl
length-quotient p (suc n) f g = simp (length-append, length-quotient p n f g) (omega arith)

-- a column stays as it is when more are made
pub word-quotient-before : (p n : ℕ) (f g : List ℕ) (k : ℕ) → k < n → word (quotient p (suc n) f g) k ≡ word (quotient p n f g) k
word-quotient-before p n f g k h =
    ap (λ (s : List ℕ). word s k) (quotient-suc p n f g)
    ∙ get_or-append (quotient p n f g) _ 0 k (omega (arith, length-quotient p n f g))

pub word-quotient-last : (p n : ℕ) (f g : List ℕ) → word (quotient p (suc n) f g) n ≡ quotient_column p f g (quotient p n f g) n
word-quotient-last p n f g =
    ap (λ (s : List ℕ). word s n) (quotient-suc p n f g)
    ∙ get_or_at (quotient p n f g) (quotient_column p f g (quotient p n f g) n) [] 0 n (length-quotient p n f g)

pub quotient-below : (p : ℕ) → 1 ≤ p → (n : ℕ) (f g : List ℕ) → AllBelow p (quotient p n f g)
quotient-below p pos zero f g k h = omega (arith, length-quotient p zero f g)
quotient-below p pos (suc n) f g k h =
    ⊎_elim
    (λ (e : k ≡ n). rw (e, word-quotient-last p n f g) (column-below p pos f g (quotient p n f g) n))
    (λ (l : k < n). rw (word-quotient-before p n f g k l) (quotient-below p pos n f g k (omega (arith, length-quotient p n f g))))
    (eq-or-lt_of_le {n = k} {m = n} (omega (arith, length-quotient p (suc n) f g)))

-- a column looks only at those before it
pub column-ext : (p : ℕ) (f g h h' : List ℕ) (t : ℕ) → ((i : ℕ) → i < t → word h i ≡ word h' i) → quotient_column p f g h t ≡ quotient_column p f g h' t
unfolding quotient_column
column-ext p f g h h' t e =
    ap (λ (x : ℕ). (word f t + (p - x % p)) * inverse_of p (word g 0) % p)
    (sum_to-ext t (λ i l. ap₂ ◌*◌ refl (e (t - (i + 1)) (omega arith))))

-- so every word of the quotient is the column over the whole quotient
pub word-quotient : (p n : ℕ) (f g : List ℕ) (t : ℕ) → t < n → word (quotient p n f g) t ≡ quotient_column p f g (quotient p n f g) t
word-quotient p zero f g t h = omega arith
word-quotient p (suc n) f g t h =
    ⊎_elim
    (λ (e : t ≡ n). rw e (word-quotient-last p n f g ∙ column-ext p f g (quotient p n f g) (quotient p (suc n) f g) n (λ i l. sym (word-quotient-before p n f g i l))))
    (λ (l : t < n). word-quotient-before p n f g t l ∙ word-quotient p n f g t l
    ∙ column-ext p f g (quotient p n f g) (quotient p (suc n) f g) t (λ i u. sym (word-quotient-before p n f g i (omega arith))))
    (eq-or-lt_of_le {n = t} {m = n} (omega arith))

-- and no other list has this property
pub columns-agree : (p : ℕ) (f g h h' : List ℕ) (n : ℕ) → ((t : ℕ) → t < n → word h t ≡ quotient_column p f g h t)
    → ((t : ℕ) → t < n → word h' t ≡ quotient_column p f g h' t) → (t : ℕ) → t < n → word h t ≡ word h' t
columns-agree p f g h h' zero c c' t l = omega arith
columns-agree p f g h h' (suc n) c c' t l =
    let before = columns-agree p f g h h' n (λ i u. c i (omega arith)) (λ i u. c' i (omega arith)) in
    c t l ∙ column-ext p f g h h' t (λ i u. before i (omega arith)) ∙ sym (c' t l)

-- the columns that a loop has written
pub written-columns : (p t : ℕ) (f g s e : List ℕ) → Writing (quotient p t f g) s e → take t e ≡ quotient p t f g
written-columns p t f g s e w = writing-take (quotient p t f g) s e t w (length-quotient p t f g)

-- what a turn computes from them is the next
pub turn-column : (p t : ℕ) (f g h : List ℕ) (d a i : ℕ) → h ≡ quotient p t f g → d ≡ dot_sum (from g 1) h t → a ≡ word f t → i ≡ inverse_of p (word g 0)
    → (a + (p - d % p)) * i % p ≡ quotient_column p f g (quotient p t f g) t
unfolding quotient_column
turn-column p t f g h d a i e u v w = rw (u, v, w, e, dot-rest g (quotient p t f g) t)

pub column-store : (p t : ℕ) (f g s e : List ℕ) (v : ℕ) → Writing (quotient p t f g) s e → v ≡ quotient_column p f g (quotient p t f g) t → t < length s
    → Writing (quotient p (t + 1) f g) s (set e t v)
column-store p t f g s e v w q h =
    subst (λ (xs : List ℕ). Writing xs s (set e t v))
    (ap (λ (x : ℕ). quotient p t f g ++ (x ∷ [])) q ∙ sym (quotient-next p t f g))
    (writing-store (quotient p t f g) s e t v w (length-quotient p t f g) h)

-- words over old ones, and then zeros up to word n, written by a call that was lent the part from word k on
pub zeros-after : (xs old out ys : List ℕ) (k n : ℕ) → length xs ≡ k → k ≤ n → n ≤ length old → out ≡ over xs old → ys ≡ tabulate (length (part out k (n - k))) (λ _. 0)
    → take k out ++ (ys ++ drop (n - k) (drop k out)) ≡ over (xs ++ tabulate (n - k) (λ _. 0)) old
zeros-after xs old out ys k n q h room is zeros =
    let long : length out ≡ length old = ap length is ∙ length_over xs old (omega arith) in
    let m : length (part out k (n - k)) ≡ n - k = length-take-le (n - k) (drop k out) (omega (arith, length-drop k out)) in
    let z : ys ≡ tabulate (n - k) (λ _. 0) = zeros ∙ ap (λ (j : ℕ). tabulate j (λ _. 0)) m in
    (writing-part xs ys old out k (n - k) (record { is = is; long = long }) q (ap length z ∙ length-tabulate (n - k) _) (omega arith)).is
    ∙ ap (λ (s : List ℕ). over (xs ++ s) old) z
