-- Laws of decimals: reading digits back gives the number, and a number below 10ᵏ has at most k of them, so that a word has at most ten.
-- Assumes nothing.
use Prim.Native.Nat.{ℕ, zero, suc, ◌+◌, ◌-◌, ◌*◌, ◌/◌, ◌%◌, ◌≤◌, ◌<◌}
use native.Mathlib.Omega.{arith}
use mathlib.Core.Path.{◌≡◌, refl, sym, ap, subst, ◌∙◌}
use mathlib.Core.Bool.{Bool, true, false}
use mathlib.Core.List.{List, [], ◌∷◌, ◌++◌, append_assoc, append-nil}
use lib.Dec.{ltb}
use lib.ListN.{length, take, drop, set, length-append, length-set, length-drop}
use lib.Seq.{take_all, drop-cons, drop-length, drop-set-lt, get_or-set_same}
use borrow.Author.Tests.{lt-ltb, le-ltb, ltb-false}
use Rattle.numbers.specs.Words.{choose}
use Rattle.text.specs.Decimal.{digit, digits, digits_within}

-- room enough is room enough
within : (a b n : ℕ) → n ≤ a → n ≤ b → digits_within a n ≡ digits_within b n
unfolding digits_within
within zero zero n h g = refl
within zero (suc b) n h g = rw (lt-ltb n 10 (omega arith))
within (suc a) zero n h g = rw (lt-ltb n 10 (omega arith))
within (suc a) (suc b) n h g = go (ltb n 10) refl (λ l. within a b (n / 10) (omega arith) (omega arith))
  where
    go : (t : Bool) → ltb n 10 ≡ t → (10 ≤ n → digits_within a (n / 10) ≡ digits_within b (n / 10)) → choose t (digit n ∷ []) (digits_within a (n / 10) ++ (digit (n % 10) ∷ [])) ≡ choose t (digit n ∷ []) (digits_within b (n / 10) ++ (digit (n % 10) ∷ []))
    go true e more = refl
    go false e more = ap (λ (s : List ℕ). s ++ (digit (n % 10) ∷ [])) (more (ltb-false n 10 e))

pub digits-one : (n : ℕ) → n < 10 → digits n ≡ digit n ∷ []
unfolding digits digits_within
digits-one zero h = refl
digits-one (suc n) h = rw (lt-ltb (suc n) 10 h)

pub digits_more : (n : ℕ) → 10 ≤ n → digits n ≡ digits (n / 10) ++ (digit (n % 10) ∷ [])
unfolding digits digits_within
digits_more zero h = absurd (let z : ⊥ = omega arith in z)
digits_more (suc n) h =
    rw (le-ltb (suc n) 10 h)
    (ap (λ (s : List ℕ). s ++ (digit (suc n % 10) ∷ [])) (within n (suc n / 10) (suc n / 10) (omega arith) (omega arith)))

-- powers of ten
unfoldable pub tens : ℕ → ℕ
tens zero = 1
tens (suc k) = 10 * tens k

short-within : (room k n : ℕ) → n < tens (suc k) → length (digits_within room n) ≤ suc k
unfolding digits_within tens
short-within zero k n h = omega arith
short-within (suc room) zero n h = rw (lt-ltb n 10 (omega arith)) (omega arith)
short-within (suc room) (suc k) n h = go (ltb n 10) (short-within room k (n / 10) (omega arith))
  where
    go : (t : Bool) → length (digits_within room (n / 10)) ≤ suc k → length (choose t (digit n ∷ []) (digits_within room (n / 10) ++ (digit (n % 10) ∷ []))) ≤ suc (suc k)
    go true l = omega arith
    go false l = simp length-append (omega arith)

-- there are at most 1 + k digits below 10¹⁺ᵏ
pub digits-few : (k n : ℕ) → n < tens (suc k) → length (digits n) ≤ suc k
unfolding digits
digits-few k n h = short-within n k n h

pub digits-short : (n : ℕ) → n < 4294967296 → length (digits n) ≤ 10
unfolding tens
digits-short n h = digits-few 9 n (omega arith)

within-some : (room n : ℕ) → 1 ≤ length (digits_within room n)
unfolding digits_within
within-some zero n = omega arith
within-some (suc room) n = go (ltb n 10)
  where
    go : (t : Bool) → 1 ≤ length (choose t (digit n ∷ []) (digits_within room (n / 10) ++ (digit (n % 10) ∷ [])))
    go true = omega arith
    go false = simp length-append (omega arith)

-- the number that digits stand for
unfoldable pub read_on : ℕ → List ℕ → ℕ
read_on high [] = high
read_on high (b ∷ s) = read_on (high * 10 + (b - 48)) s

abbrev pub read_decimal : List ℕ → ℕ
read_decimal = read_on 0

-- reading goes on from what was read
read-append : (high : ℕ) (s t : List ℕ) → read_on high (s ++ t) ≡ read_on (read_on high s) t
unfolding read_on
read-append high [] t = refl
read-append high (b ∷ s) t = read-append (high * 10 + (b - 48)) s t

read-within : (room n : ℕ) → n ≤ room → read_on 0 (digits_within room n) ≡ n
unfolding digits_within read_on
read-within zero n h = omega arith
read-within (suc room) n h = go (ltb n 10) refl (λ l. read-within room (n / 10) (omega arith))
  where
    go : (t : Bool) → ltb n 10 ≡ t → (10 ≤ n → read_on 0 (digits_within room (n / 10)) ≡ n / 10) → read_on 0 (choose t (digit n ∷ []) (digits_within room (n / 10) ++ (digit (n % 10) ∷ []))) ≡ n
    go true e more = omega arith
    go false e more = read-append 0 (digits_within room (n / 10)) (digit (n % 10) ∷ []) ∙ rw (more (ltb-false n 10 e)) (omega arith)

-- reading the digits of n gives n
pub read-digits : (n : ℕ) → read_decimal (digits n) ≡ n
unfolding digits
read-digits n = read-within n n (omega arith)

-- Finding the digits of v from the last one on, into ten bytes: those from `first` on are there, and stand after the digits of `rest`.
pub record Finding (v : ℕ) (found : List ℕ) (first rest : ℕ) : Type 0 where
  pub long : length found ≡ 10
  pub low : 1 ≤ first
  pub high : first ≤ 10
  pub left : rest < tens first
  pub is : digits v ≡ digits rest ++ drop first found

pub finding-start : (v : ℕ) (found : List ℕ) → v < 4294967296 → length found ≡ 10 → Finding v found 10 v
unfolding tens
finding-start v found h l = record {
  long = l;
  low = omega arith;
  high = omega arith;
  left = omega arith;
  is = sym (ap (λ (k : ℕ). digits v ++ drop k found) (sym l) ∙ ap (λ (s : List ℕ). digits v ++ s) (drop-length found) ∙ append-nil (digits v));
}

-- a byte stored before the others
store-first : (found : List ℕ) (k b : ℕ) → k < length found → drop k (set found k b) ≡ b ∷ drop (suc k) found
store-first found k b h =
    drop-cons (set found k b) k 0 (omega (arith, length-set found k b))
    ∙ rw (get_or-set_same found k b 0 h, drop-set-lt (suc k) found k b (omega arith))

tens-less : (rest k : ℕ) → rest < tens (suc k) → rest / 10 < tens k
unfolding tens
tens-less rest k h = omega arith

tens-more : (rest k : ℕ) → 10 ≤ rest → rest < tens (suc k) → 1 ≤ k
unfolding tens
tens-more rest zero g h = omega arith
tens-more rest (suc k) g h = omega arith

finding-on : (v : ℕ) (found : List ℕ) (k rest : ℕ) → Finding v found (suc k) rest → 10 ≤ rest → Finding v (set found k (digit (rest % 10))) k (rest / 10)
finding-on v found k rest f h = record {
  long = length-set found k (digit (rest % 10)) ∙ f.long;
  low = tens-more rest k h f.left;
  high = omega (arith, f.high);
  left = tens-less rest k f.left;
  is = f.is ∙ ap (λ (s : List ℕ). s ++ drop (suc k) found) (digits_more rest h)
      ∙ append_assoc (digits (rest / 10)) (digit (rest % 10) ∷ []) (drop (suc k) found)
      ∙ ap (λ (s : List ℕ). digits (rest / 10) ++ s) (sym (store-first found k (digit (rest % 10)) (omega (arith, f.high, f.long))));
}

pub finding-next : (v : ℕ) (found : List ℕ) (first rest : ℕ) → Finding v found first rest → 10 ≤ rest
    → Finding v (set found (first - 1) (digit (rest % 10))) (first - 1) (rest / 10)
finding-next v found first rest f h =
    finding-on v found (first - 1) rest (subst (λ (k : ℕ). Finding v found k rest) (omega (arith, f.low)) f) h

-- the last digit found is the first one; the ten bytes from there on are lent
pub finding-last : (v : ℕ) (found : List ℕ) (first rest : ℕ) → Finding v found first rest → rest < 10
    → take (10 - (first - 1)) (drop (first - 1) (set found (first - 1) (digit rest))) ≡ digits v
finding-last v found first rest f h =
    let q : first ≡ suc (first - 1) = omega (arith, f.low) in
    let l = length-set found (first - 1) (digit rest) ∙ f.long in
    take_all (10 - (first - 1)) (drop (first - 1) (set found (first - 1) (digit rest))) (simp length-drop (omega arith))
    ∙ store-first found (first - 1) (digit rest) (omega (arith, f.high, f.long))
    ∙ sym (f.is ∙ ap (λ (s : List ℕ). s ++ drop first found) (digits-one rest h) ∙ ap (λ (k : ℕ). digit rest ∷ drop k found) q)
