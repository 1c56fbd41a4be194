-- Lists of words, as slices hold them, and numbers found by a test.
--   word s i             word i of s
--   choose b x y         x where the test b holds, else y
--   first_where test d n  the first of d, d + 1, .., d + n − 1 that passes the test, or d + n
--   keep b x s           x before s where the test b holds, else s
--   all_where test d n    all of d, d + 1, .., d + n − 1 that pass the test, rising
--   first_nonzero n f     the first of 0, 1, .., n − 1 at which f is not 0, or n
--   all_to n test         the test holds of 0, 1, .., n − 1
--   all tests            all of these hold
--   first_large p s       the position of the first word of s that is p or more, or the length of s
--   rising s             each word of s is larger than the one before it
--   outside low high n   n is below low or above high
--   low_word n            what 32 bits keep of n
--   tabulate n f         the words f 0, f 1, .., f (n − 1)
--   each n f             the lists f 0, f 1, .., f (n − 1), one after the other
--   over xs s            s with the words xs in place of its first ones
--   part s a n           the n words of s from word a on
--   up_to k f t           f t, and 0 from k on
--   least N n f          the least of N and f 0, f 1, .., f (n − 1)
-- Assumes nothing.
use Rattle.std.specs.Prelude.{ℕ, zero, suc, ◌-◌, ◌%◌, min, Bool, true, false, not, ◌||◌, List, [], ◌∷◌, ◌++◌, leb, ltb, eqb, length, get_or, take, drop}

abbrev pub word : List ℕ → ℕ → ℕ
word s i = get_or s i 0

abbrev pub choose : {A : Type 0} → Bool → A → A → A
choose true x y = x
choose false x y = y

unfoldable pub first_where : (ℕ → Bool) → ℕ → ℕ → ℕ
first_where test d zero = d
first_where test d (suc n) = choose (test d) d (first_where test (suc d) n)

abbrev pub keep : Bool → ℕ → List ℕ → List ℕ
keep true x s = x ∷ s
keep false x s = s

unfoldable pub all_where : (ℕ → Bool) → ℕ → ℕ → List ℕ
all_where test d zero = []
all_where test d (suc n) = keep (test d) d (all_where test (suc d) n)

unfoldable pub first_nonzero : ℕ → (ℕ → ℕ) → ℕ
first_nonzero n f = first_where (λ i. not (eqb (f i) 0)) 0 n

unfoldable pub all_to : ℕ → (ℕ → Bool) → Bool
all_to zero test = true
all_to (suc n) test = choose (test n) (all_to n test) false

unfoldable pub all : List Bool → Bool
all [] = true
all (b ∷ bs) = choose b (all bs) false

unfoldable pub first_large : ℕ → List ℕ → ℕ
first_large p [] = 0
first_large p (x ∷ s) = choose (leb p x) 0 (suc (first_large p s))

abbrev pub rising : List ℕ → Bool
rising s = all_to (length s - 1) (λ i. ltb (word s i) (word s (suc i)))

abbrev pub outside : ℕ → ℕ → ℕ → Bool
outside low high n = ltb n low || ltb high n

abbrev pub low_word : ℕ → ℕ
low_word n = n % 4294967296

unfoldable pub tabulate : ℕ → (ℕ → ℕ) → List ℕ
tabulate zero f = []
tabulate (suc n) f = tabulate n f ++ (f n ∷ [])

unfoldable pub each : ℕ → (ℕ → List (List ℕ)) → List (List ℕ)
each zero f = []
each (suc n) f = each n f ++ f n

abbrev pub over : List ℕ → List ℕ → List ℕ
over xs s = xs ++ drop (length xs) s

abbrev pub part : List ℕ → ℕ → ℕ → List ℕ
part s a n = take n (drop a s)

abbrev pub up_to : ℕ → (ℕ → ℕ) → ℕ → ℕ
up_to k f t = choose (ltb t k) (f t) 0

unfoldable pub least : ℕ → ℕ → (ℕ → ℕ) → ℕ
least N zero f = N
least N (suc n) f = min (least N n f) (f n)
