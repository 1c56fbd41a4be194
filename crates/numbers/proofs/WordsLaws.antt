-- Laws of the definitions of `specs/Words`: what a search finds, and lists that a loop fills word by word.
-- Assumes nothing.
use mathlib.Core.Path.{◌≡◌, refl, sym, ap, ap₂, subst, ◌∙◌}
use mathlib.Core.Bool.{Bool, true, false, not}
use mathlib.Core.Logic.{⊎_elim, ◌⊎◌, inl, inr}
use mathlib.Core.List.{List, [], ◌∷◌, ◌++◌, append_assoc, append-nil}
use Prim.Native.Nat.{ℕ, zero, suc, ◌+◌, ◌-◌, ◌≤◌, ◌<◌, zero-le, min}
use native.Mathlib.Nat.{le_of_suc-le-suc, eq-or-lt_of_le, le_refl, add-zero, add-suc}
use native.Mathlib.Decide.{dec_lt}
use native.Mathlib.Numerals.{add-one}
use native.Mathlib.Omega.{arith}
use borrow.Author.Tests.{le-leb, lt-leb, leb-false, leb-true, lt-ltb, le-ltb, ne_eqb, eqb-false, eqb-true, not-true, not-false}
use lib.Dec.{leb, eqb}
use lib.ListN.{length, take, drop, set, get_or-append, length-set, length-append, length-drop}
use lib.Seq.{set_at, drop-cons, take_at, drop_at, drop-drop, drop-length, take_all, get_or_at, get_or-take, get_or-drop, get_or-append-add, length-take-le}
use Rattle.numbers.specs.Words.{word, choose, first_where, first_nonzero, first_large, tabulate, over, part, up_to, least}
use Rattle.numbers.specs.internal.Facts.{AllBelow}

pub lt-or-ge : (a b : ℕ) → (a < b) ⊎ (b ≤ a)
lt-or-ge a b = elim (dec_lt a b) [ yes l ↦ inl l | no n ↦ inr (omega arith) ]

pub true-false : {A : Type 0} → true ≡ false → A
true-false e = absurd (let z : ◌≡◌ {A = ℕ} 0 1 = cc in omega arith)

is_false : (b : Bool) → (b ≡ true → ⊥) → b ≡ false
is_false true h = absurd (h refl)
is_false false h = refl

-- the number that passes, and below which none does
pub first-is : (f : ℕ → Bool) (d n r : ℕ) → d ≤ r → r ≤ d + n → (r < d + n → f r ≡ true)
    → ((k : ℕ) → d ≤ k → k < r → f k ≡ true → ⊥) → first_where f d n ≡ r
unfolding first_where
first-is f d zero r lo hi at none = omega arith
first-is f d (suc n) r lo hi at none =
    ⊎_elim
    (λ (q : d ≡ r). let e : f d ≡ true = subst (λ (j : ℕ). f j ≡ true) (sym q) (at (omega arith)) in rw e q)
    (λ (l : d < r). rw (is_false (f d) (none d (le_refl d) l))
    (first-is f (suc d) n r (omega arith) (omega arith) (λ h. at (omega arith)) (λ k lo' hi' e. none k (omega arith) hi' e)))
    (eq-or-lt_of_le lo)

later : (f : ℕ → Bool) (d k t : ℕ) (b : Bool) → d ≤ k → f k ≡ true → f d ≡ b → (d < k → t ≤ k) → choose b d t ≤ k
later f d k t true lo e q more = lo
later f d k t false lo e q more =
    ⊎_elim (λ (x : d ≡ k). true-false (sym (subst (λ (j : ℕ). f j ≡ true) (sym x) e) ∙ q)) more (eq-or-lt_of_le lo)

-- it is no later than any that passes
pub first-le : (f : ℕ → Bool) (d n k : ℕ) → d ≤ k → k < d + n → f k ≡ true → first_where f d n ≤ k
unfolding first_where
first-le f d zero k lo hi e = omega arith
first-le f d (suc n) k lo hi e = later f d k _ (f d) lo e refl (λ (x : d < k). first-le f (suc d) n k (omega arith) (omega arith) e)

-- it is one of those searched, or the end
between : (b : Bool) (d n t : ℕ) → suc d ≤ t → t ≤ suc d + n → (d ≤ choose b d t) × (choose b d t ≤ d + suc n)
between true d n t lo hi = (le_refl d, omega arith)
between false d n t lo hi = (omega arith, omega arith)

pub first_range : (f : ℕ → Bool) (d n : ℕ) → (d ≤ first_where f d n) × (first_where f d n ≤ d + n)
unfolding first_where
first_range f d zero = (le_refl d, omega arith)
first_range f d (suc n) = let (lo, hi) = first_range f (suc d) n in between (f d) d n _ lo hi

-- none before it passes, and it does, unless it is the end
pub first-before : (f : ℕ → Bool) (d n k : ℕ) → d ≤ k → k < first_where f d n → k < d + n → f k ≡ false
first-before f d n k lo hi l = is_false (f k) (λ e. let z = first-le f d n k lo l e in let y : ⊥ = omega arith in y)

found : (f : ℕ → Bool) (d n t : ℕ) (b : Bool) → f d ≡ b → (t < suc d + n → f t ≡ true) → choose b d t < d + suc n → f (choose b d t) ≡ true
found f d n t true e more l = e
found f d n t false e more l = more (omega arith)

pub first_found : (f : ℕ → Bool) (d n : ℕ) → first_where f d n < d + n → f (first_where f d n) ≡ true
unfolding first_where
first_found f d zero l = absurd (let z : ⊥ = omega arith in z)
first_found f d (suc n) l = found f d n (first_where f (suc d) n) (f d) refl (first_found f (suc d) n) l

-- the same of the first place that is not 0
module _ (n : ℕ) (f : ℕ → ℕ) where
  pub nonzero-is : (r : ℕ) → r ≤ n → ((k : ℕ) → k < r → f k ≡ 0) → (r < n → f r ≡ 0 → ⊥) → r ≡ first_nonzero n f
  unfolding first_nonzero
  nonzero-is r h zeros there =
      sym (first-is (λ i. not (eqb (f i) 0)) 0 n r zero-le (omega arith) (λ l. ap not (ne_eqb (f r) 0 (there (omega arith))))
      (λ k _ l e. eqb-false (f k) 0 (not-true _ e) (zeros k l)))

  pub nonzero-le : first_nonzero n f ≤ n
  unfolding first_nonzero
  nonzero-le = let r = first_range (λ i. not (eqb (f i) 0)) 0 n in omega arith

  pub nonzero-there : first_nonzero n f < n → f (first_nonzero n f) ≡ 0 → ⊥
  unfolding first_nonzero
  nonzero-there l = eqb-false _ 0 (not-true _ (first_found (λ i. not (eqb (f i) 0)) 0 n (omega arith)))

  pub nonzero-before : (k : ℕ) → k < first_nonzero n f → f k ≡ 0
  unfolding first_nonzero
  nonzero-before k l = eqb-true _ 0 (not-false _ (first-before (λ i. not (eqb (f i) 0)) 0 n k zero-le l (omega (arith, nonzero-le))))

  pub zeros-nonzero : (m : ℕ) → m ≤ n → ((k : ℕ) → k < m → f k ≡ 0) → m ≤ first_nonzero n f
  zeros-nonzero m h zeros =
      ⊎_elim (λ (l : first_nonzero n f < m). absurd (nonzero-there (omega arith) (zeros _ l))) (λ (l : m ≤ first_nonzero n f). l) (lt-or-ge (first_nonzero n f) m)

pub nonzero-ext : (n : ℕ) {f g : ℕ → ℕ} → ((k : ℕ) → k < n → f k ≡ g k) → first_nonzero n f ≡ first_nonzero n g
nonzero-ext n {f} {g} e =
    let r = nonzero-le n f in
    nonzero-is n g (first_nonzero n f) r (λ k l. sym (e k (omega arith)) ∙ nonzero-before n f k l) (λ l z. nonzero-there n f l (e _ l ∙ z))

pub below-append : (p : ℕ) (s t : List ℕ) → AllBelow p (s ++ t) → AllBelow p s × AllBelow p t
below-append p s t h = (
  λ k l. subst (λ x. x < p) (get_or-append s t 0 k l) (h k (omega (arith, length-append s t))),
  λ k l. subst (λ x. x < p) (get_or-append-add s t k 0) (h (length s + k) (omega (arith, length-append s t))),
)

pub append-below : (p : ℕ) (s t : List ℕ) → AllBelow p s → AllBelow p t → AllBelow p (s ++ t)
append-below p s t hs ht k l =
    ⊎_elim
    (λ (x : k < length s). rw (get_or-append s t 0 k x) (hs k x))
    (λ (x : length s ≤ k).
    let q : length s + (k - length s) ≡ k = omega arith in
    subst (λ (i : ℕ). word (s ++ t) i < p) q (rw (get_or-append-add s t (k - length s) 0) (ht (k - length s) (omega (arith, length-append s t)))))
    (lt-or-ge k (length s))

-- the first large word: none before it is, and it is, unless it is the end
pub first-large-is : (p : ℕ) (s : List ℕ) (r : ℕ) → r ≤ length s → ((k : ℕ) → k < r → word s k < p)
    → (r < length s → p ≤ word s r) → first_large p s ≡ r
unfolding first_large
first-large-is p [] r hi below at = omega arith
first-large-is p (x ∷ xs) zero hi below at = rw (le-leb p x (at (omega arith)))
first-large-is p (x ∷ xs) (suc r) hi below at =
    rw (lt-leb p x (below 0 (omega arith)))
    (ap suc (first-large-is p xs r (le_of_suc-le-suc hi) (λ k h. below (suc k) (omega arith)) (λ h. at (omega arith))))

head-below : (p x n t : ℕ) (b : Bool) → leb p x ≡ b → suc n ≤ choose b 0 (suc t) → (x < p) × (n ≤ t)
head-below p x n t true e h = omega arith
head-below p x n t false e h = (leb-false p x e, le_of_suc-le-suc h)

-- those before it are below
pub large-before : (p : ℕ) (s : List ℕ) (k : ℕ) → k < first_large p s → word s k < p
unfolding first_large
large-before p [] k h = absurd (let z : ⊥ = omega arith in z)
large-before p (x ∷ xs) zero h = (head-below p x zero (first_large p xs) (leb p x) refl h).0
large-before p (x ∷ xs) (suc k) h = large-before p xs k (head-below p x (suc k) (first_large p xs) (leb p x) refl h).1

-- where there is none, all are
pub none-large : (p : ℕ) (s : List ℕ) → length s ≤ first_large p s → AllBelow p s
none-large p s h k l = large-before p s k (omega arith)

choose-le : (b : Bool) (n t : ℕ) → t ≤ n → choose b 0 (suc t) ≤ suc n
choose-le true n t h = omega arith
choose-le false n t h = omega arith

pub large-le : (p : ℕ) (s : List ℕ) → first_large p s ≤ length s
unfolding first_large
large-le p [] = omega arith
large-le p (x ∷ xs) = choose-le (leb p x) (length xs) (first_large p xs) (large-le p xs)

choose-suc : (b : Bool) (n t u : ℕ) → (t < n → u ≡ t) → choose b 0 (suc t) < suc n → choose b 0 (suc u) ≡ choose b 0 (suc t)
choose-suc true n t u h l = refl
choose-suc false n t u h l = ap suc (h (omega arith))

-- in two lists, one after the other: in the first where it has one
pub large-first : (p : ℕ) (s t : List ℕ) → first_large p s < length s → first_large p (s ++ t) ≡ first_large p s
unfolding first_large
large-first p [] t h = omega arith
large-first p (x ∷ xs) t h = choose-suc (leb p x) (length xs) (first_large p xs) (first_large p (xs ++ t)) (large-first p xs t) h

-- and else in the second, counted on
pub large-second : (p : ℕ) (s t : List ℕ) → length s ≤ first_large p s → first_large p (s ++ t) ≡ length s + first_large p t
unfolding first_large
large-second p [] t h = omega arith
large-second p (x ∷ xs) t h =
    let (b, l) = head-below p x (length xs) (first_large p xs) (leb p x) refl h in
    rw (lt-leb p x b) (let e = large-second p xs t l in omega arith)

pub length-tabulate : (n : ℕ) (f : ℕ → ℕ) → length (tabulate n f) ≡ n
unfolding tabulate
length-tabulate zero f = refl
length-tabulate (suc n) f = simp (length-append, length-tabulate n f) (omega arith)

pub word-tabulate : (n : ℕ) (f : ℕ → ℕ) (k : ℕ) → k < n → word (tabulate n f) k ≡ f k
unfolding tabulate
word-tabulate zero f k h = omega arith
word-tabulate (suc n) f k h =
    ⊎_elim
    (λ (e : k ≡ n). get_or_at (tabulate n f) (f n) [] 0 k (length-tabulate n f ∙ sym e) ∙ ap f (sym e))
    (λ (l : k < n). get_or-append (tabulate n f) (f n ∷ []) 0 k (omega (arith, length-tabulate n f)) ∙ word-tabulate n f k l)
    (eq-or-lt_of_le {n = k} {m = n} (omega arith))

pub tabulate-ext : (n : ℕ) (f g : ℕ → ℕ) → ((k : ℕ) → k < n → f k ≡ g k) → tabulate n f ≡ tabulate n g
unfolding tabulate
tabulate-ext zero f g h = refl
tabulate-ext (suc n) f g h = rw (tabulate-ext n f g (λ k l. h k (omega arith)), h n (omega arith))

pub tabulate-below : (p n : ℕ) (f : ℕ → ℕ) → ((k : ℕ) → k < n → f k < p) → AllBelow p (tabulate n f)
tabulate-below p n f b k h =
    let l : k < n = omega (arith, length-tabulate n f) in
    rw (word-tabulate n f k l) (b k l)

pub tabulate-suc : (n : ℕ) (f : ℕ → ℕ) → tabulate (n + 1) f ≡ tabulate n f ++ (f n ∷ [])
unfolding tabulate
tabulate-suc n f = rw add-one

pub tabulate-append : (k m : ℕ) (f : ℕ → ℕ) → tabulate (k + m) f ≡ tabulate k f ++ tabulate m (λ t. f (k + t))
unfolding tabulate
tabulate-append k zero f = ap (λ (n : ℕ). tabulate n f) (add-zero k) ∙ sym (append-nil (tabulate k f))
tabulate-append k (suc m) f =
    ap (λ (n : ℕ). tabulate n f) (add-suc k m) ∙ ap (λ s. s ++ (f (k + m) ∷ [])) (tabulate-append k m f) ∙ append_assoc (tabulate k f) (tabulate m (λ t. f (k + t))) (f (k + m) ∷ [])

pub tabulate-front : (n : ℕ) (f : ℕ → ℕ) → tabulate (suc n) f ≡ f zero ∷ tabulate n (λ i. f (suc i))
unfolding tabulate
tabulate-front zero f = refl
tabulate-front (suc n) f = ap (λ (l : List ℕ). l ++ (f (suc n) ∷ [])) (tabulate-front n f)

pub length_over : (xs s : List ℕ) → length xs ≤ length s → length (over xs s) ≡ length s
length_over xs s h = simp (length-append, length-drop) (omega arith)

-- A list that a loop writes: xs stands over the first words of s, and the length is kept, which `omega` then finds.
pub record Writing (xs s e : List ℕ) : Type 0 where
  pub is : e ≡ over xs s
  pub long : length e ≡ length s

pub writing-none : (s : List ℕ) → Writing [] s s
writing-none s = record { is = refl; long = refl }

-- one word more
pub writing-store : (xs s e : List ℕ) (n v : ℕ) → Writing xs s e → length xs ≡ n → n < length s → Writing (xs ++ (v ∷ [])) s (set e n v)
writing-store xs s e n v w q h = record {
  is = rw (w.is, q, length-append xs (v ∷ []), q, add-one, drop-cons s n 0)
      (set_at xs (word s n) (drop (suc n) s) v n q ∙ sym (append_assoc xs (v ∷ []) (drop (suc n) s)));
  long = length-set e n v ∙ w.long;
}

pub writing-next : (n : ℕ) (f : ℕ → ℕ) (s e : List ℕ) (v : ℕ) → Writing (tabulate n f) s e → v ≡ f n → n < length s → Writing (tabulate (n + 1) f) s (set e n v)
writing-next n f s e v w q h =
    subst (λ (xs : List ℕ). Writing xs s (set e n v)) (ap (λ (x : ℕ). tabulate n f ++ (x ∷ [])) q ∙ sym (tabulate-suc n f)) (writing-store (tabulate n f) s e n v w (length-tabulate n f) h)

-- the first word left as it is, and set at last
pub writing-later : (s : List ℕ) → 0 < length s → Writing (word s 0 ∷ []) s s
writing-later s l = record { is = drop-cons s 0 0 l; long = refl }

pub writing-first : (x y : ℕ) (xs s e : List ℕ) → Writing (x ∷ xs) s e → Writing (y ∷ xs) s (set e 0 y)
writing-first x y xs s e w = record { is = ap (λ (l : List ℕ). set l 0 y) w.is; long = length-set e 0 y ∙ w.long }

-- n words more, written by a call that was lent the part of n words from a on
pub writing-part : (xs ys s e : List ℕ) (a n : ℕ) → Writing xs s e → length xs ≡ a → length ys ≡ n → a + n ≤ length s
    → Writing (xs ++ ys) s (take a e ++ (ys ++ drop n (drop a e)))
writing-part xs ys s e a n w q r h =
    let e₁ : take a e ≡ xs = ap (take a) w.is ∙ take_at xs (drop (length xs) s) a q in
    let k : length xs + n ≡ length (xs ++ ys) = omega (arith, length-append xs ys) in
    let e₂ : drop n (drop a e) ≡ drop (length (xs ++ ys)) s =
    ap (λ (l : List ℕ). drop n (drop a l)) w.is ∙ ap (drop n) (drop_at xs (drop (length xs) s) a q)
    ∙ drop-drop n (length xs) s ∙ ap (λ (k : ℕ). drop k s) k in
    record {
      is = rw (e₁, e₂) (sym (append_assoc xs ys (drop (length (xs ++ ys)) s)));
      long = rw (e₁, e₂) (simp (length-append, length-drop) (omega (arith, w.long)));
    }

-- the loop is at its end
pub writing-all : (n m : ℕ) (f : ℕ → ℕ) (s e : List ℕ) → Writing (tabulate n f) s e → n ≡ m → e ≡ over (tabulate m f) s
writing-all n m f s e w q = w.is ∙ ap (λ (k : ℕ). over (tabulate k f) s) q

-- what is written so far
pub writing-take : (xs s e : List ℕ) (n : ℕ) → Writing xs s e → length xs ≡ n → take n e ≡ xs
writing-take xs s e n w q = ap (take n) w.is ∙ take_at xs (drop (length xs) s) n q

-- past what is written the words are the old ones
pub over-past : (xs s : List ℕ) (k : ℕ) → length xs ≤ k → word (over xs s) k ≡ word s k
over-past xs s k h =
    let n = length xs in
    let q : n + (k - n) ≡ k = omega arith in
    ap (word (over xs s)) (sym q) ∙ get_or-append-add xs (drop n s) (k - n) 0 ∙ get_or-drop n s (k - n) 0 ∙ ap (word s) q

pub writing-past : (xs s e : List ℕ) (k : ℕ) → Writing xs s e → length xs ≤ k → word e k ≡ word s k
writing-past xs s e k w h = ap (λ (l : List ℕ). word l k) w.is ∙ over-past xs s k h

-- a list as long as what is written over it
pub over-whole : (xs s : List ℕ) → length xs ≡ length s → over xs s ≡ xs
over-whole xs s q = ap (λ (l : List ℕ). xs ++ l) (ap (λ (k : ℕ). drop k s) q ∙ drop-length s) ∙ append-nil xs

-- the words from a on, as `&s[a..]` lends them
abbrev pub from : List ℕ → ℕ → List ℕ
from s a = take (length s - a) (drop a s)

pub from_is : (s : List ℕ) (a : ℕ) → from s a ≡ drop a s
from_is s a = take_all (length s - a) (drop a s) (simp length-drop (omega arith))

-- a word of a part
pub word-part : (s : List ℕ) (a n i : ℕ) → i < n → word (part s a n) i ≡ word s (a + i)
word-part s a n i h = get_or-take n (drop a s) i 0 h ∙ get_or-drop a s i 0

pub length_from : (s : List ℕ) (a : ℕ) → length (from s a) ≡ length s - a
length_from s a = ap length (from_is s a) ∙ length-drop a s

pub word-from : (s : List ℕ) (a k : ℕ) → word (from s a) k ≡ word s (a + k)
word-from s a k = ap (λ (l : List ℕ). word l k) (from_is s a) ∙ get_or-drop a s k 0

pub drop-below : (p n : ℕ) (s : List ℕ) → AllBelow p s → AllBelow p (drop n s)
drop-below p n s b k l = rw (get_or-drop n s k 0) (b (n + k) (omega (arith, length-drop n s)))

pub take_below : (p n : ℕ) (s : List ℕ) → n ≤ length s → AllBelow p s → AllBelow p (take n s)
take_below p n s g h k l = let e = length-take-le n s g in rw (get_or-take n s k 0 (omega arith)) (h k (omega arith))

pub from-below : (p : ℕ) (s : List ℕ) (a : ℕ) → AllBelow p s → AllBelow p (from s a)
from-below p s a b = subst (AllBelow p) (sym (from_is s a)) (drop-below p a s b)

-- the first large word is large
head-large : (p x n t : ℕ) (s : List ℕ) (b : Bool) → leb p x ≡ b → (t < n → p ≤ word s t) → choose b 0 (suc t) < suc n → p ≤ word (x ∷ s) (choose b 0 (suc t))
head-large p x n t s true e h l = leb-true p x e
head-large p x n t s false e h l = h (le_of_suc-le-suc l)

pub large-there : (p : ℕ) (s : List ℕ) → first_large p s < length s → p ≤ word s (first_large p s)
unfolding first_large
large-there p [] h = absurd (let z : ⊥ = omega arith in z)
large-there p (x ∷ xs) h = head-large p x (length xs) (first_large p xs) xs (leb p x) refl (large-there p xs) h

-- below k a function is itself, and from there on 0
pub up-low : (k : ℕ) (f : ℕ → ℕ) (t : ℕ) → t < k → up_to k f t ≡ f t
up-low k f t l = rw (lt-ltb t k l)

pub up-high : (k : ℕ) (f : ℕ → ℕ) (t : ℕ) → k ≤ t → up_to k f t ≡ 0
up-high k f t l = rw (le-ltb t k l)

pub up-ext : (k : ℕ) (f g : ℕ → ℕ) → ((t : ℕ) → t < k → f t ≡ g t) → (t : ℕ) → up_to k f t ≡ up_to k g t
up-ext k f g h t =
    ⊎_elim (λ (l : t < k). up-low k f t l ∙ h t l ∙ sym (up-low k g t l)) (λ (l : k ≤ t). up-high k f t l ∙ sym (up-high k g t l)) (lt-or-ge t k)

-- so its first n words are its own where n ≤ k, and k of them and zeros where k ≤ n
pub tabulate-whole : (n k : ℕ) (f : ℕ → ℕ) → n ≤ k → tabulate n (up_to k f) ≡ tabulate n f
tabulate-whole n k f h = tabulate-ext n (up_to k f) f (λ t l. up-low k f t (omega arith))

pub tabulate-cut : (n k : ℕ) (f : ℕ → ℕ) → k ≤ n → tabulate n (up_to k f) ≡ tabulate k f ++ tabulate (n - k) (λ _. 0)
tabulate-cut n k f h =
    ap (λ (m : ℕ). tabulate m (up_to k f)) (let e : n ≡ k + (n - k) = omega arith in e) ∙ tabulate-append k (n - k) (up_to k f)
    ∙ ap₂ ◌++◌ (tabulate-whole k k f (le_refl k)) (tabulate-ext (n - k) (λ t. up_to k f (k + t)) (λ _. 0) (λ t l. up-high k f (k + t) (omega arith)))

-- the least of N and n numbers: it is below all, and is N or one of them
module _ (N : ℕ) (f : ℕ → ℕ) where
  pub least-le : (n : ℕ) → least N n f ≤ N
  unfolding least
  least-le zero = omega arith
  least-le (suc n) = let z = least-le n in omega arith

  pub least_at : (n i : ℕ) → i < n → least N n f ≤ f i
  unfolding least
  least_at zero i l = omega arith
  least_at (suc n) i l =
      ⊎_elim (λ (e : i ≡ n). rw e (omega arith)) (λ (u : i < n). let z = least_at n i u in omega arith) (eq-or-lt_of_le (le_of_suc-le-suc l))

  pub least-from : (m n : ℕ) → m ≤ N → ((i : ℕ) → i < n → m ≤ f i) → m ≤ least N n f
  unfolding least
  least-from m zero u h = u
  least-from m (suc n) u h = let z = least-from m n u (λ i l. h i (omega arith)) in let y = h n (omega arith) in omega arith

  pub least-there : (n : ℕ) → least N n f < N → (i : ℕ) × (i < n) × (f i ≡ least N n f)
  unfolding least
  least-there zero l = absurd (let z : ⊥ = omega arith in z)
  least-there (suc n) l =
      ⊎_elim
      (λ (u : least N n f < f n). let z = least-there n (omega arith) in (z.0, omega (arith, z.1), z.2 ∙ (let e : least N n f ≡ min (least N n f) (f n) = omega arith in e)))
      (λ (u : f n ≤ least N n f). (n, omega arith, omega arith))
      (lt-or-ge (least N n f) (f n))

pub least-next : (N n : ℕ) (f : ℕ → ℕ) → least N (n + 1) f ≡ min (least N n f) (f n)
unfolding least
least-next N n f = rw add-one

pub least-ext : (N n : ℕ) (f g : ℕ → ℕ) → ((i : ℕ) → i < n → f i ≡ g i) → least N n f ≡ least N n g
unfolding least
least-ext N zero f g h = refl
least-ext N (suc n) f g h = rw (least-ext N n f g (λ i l. h i (omega arith)), h n (omega arith))
