-- Tests that compute (`all_to`, `all`) and the facts that they stand for.
-- Assumes nothing.
use Prim.Native.Nat.{ℕ, zero, suc, ◌+◌, ◌-◌, ◌≤◌, ◌<◌}
use native.Mathlib.Nat.{eq-or-lt_of_le, le_of_suc-le-suc, add-sub_of_le}
use native.Mathlib.Omega.{arith}
use mathlib.Core.Path.{◌≡◌, refl, sym, ◌∙◌, ap, subst}
use mathlib.Core.Logic.{◌↔◌, ⊎_elim}
use mathlib.Core.Bool.{Bool, true, false}
use mathlib.Core.List.{List, [], ◌∷◌}
use lib.Dec.{eqb, leb, ltb}
use lib.ListN.{length, get_or}
use borrow.Author.Tests.{eq-eqb, eqb-true, eqb-false, leb-true, leb-false, lt-ltb, ltb-true, le-ltb}
use Rattle.numbers.specs.Words.{word, choose, all_to, all, rising}
use Rattle.numbers.specs.internal.Facts.{Rising, Decides}
use Rattle.numbers.proofs.WordsLaws.{true-false}

-- where a test is true, and where it is false
pub both_true : (b c : Bool) → choose b c false ≡ true → (b ≡ true) × (c ≡ true)
both_true true c e = (refl, e)
both_true false c e = true-false (sym e)

pub true-both : (b c : Bool) → b ≡ true → c ≡ true → choose b c false ≡ true
true-both b c e g = rw e g

pub not-both : (b c : Bool) → c ≡ false → choose b c false ≡ false
not-both true c e = e
not-both false c e = refl

pub all_to-at : (n : ℕ) (test : ℕ → Bool) → all_to n test ≡ true → (i : ℕ) → i < n → test i ≡ true
unfolding all_to
all_to-at zero test e i l = absurd (let z : ⊥ = omega arith in z)
all_to-at (suc n) test e i l =
    let h = both_true (test n) (all_to n test) e in
    ⊎_elim (λ (q : i ≡ n). ap test q ∙ h.0) (λ g. all_to-at n test h.1 i g) (eq-or-lt_of_le (le_of_suc-le-suc l))

pub at-all_to : (n : ℕ) (test : ℕ → Bool) → ((i : ℕ) → i < n → test i ≡ true) → all_to n test ≡ true
unfolding all_to
at-all_to zero test h = refl
at-all_to (suc n) test h = true-both (test n) (all_to n test) (h n (omega arith)) (at-all_to n test (λ i l. h i (omega arith)))

pub all_to-false : (n : ℕ) (test : ℕ → Bool) (i : ℕ) → i < n → test i ≡ false → all_to n test ≡ false
unfolding all_to
all_to-false zero test i l e = absurd (let z : ⊥ = omega arith in z)
all_to-false (suc n) test i l e =
    ⊎_elim (λ (q : i ≡ n). rw (sym (ap test q) ∙ e)) (λ g. not-both (test n) (all_to n test) (all_to-false n test i g e)) (eq-or-lt_of_le (le_of_suc-le-suc l))

-- the first test taken off
pub all_to-front : (n : ℕ) (test : ℕ → Bool) → all_to (suc n) test ≡ choose (test zero) (all_to n (λ i. test (suc i))) false
unfolding all_to
all_to-front zero test = refl
all_to-front (suc n) test = ap (λ b. choose (test (suc n)) b false) (all_to-front n test) ∙ swap (test (suc n)) (test zero) (all_to n (λ i. test (suc i)))
  where
    swap : (a b c : Bool) → choose a (choose b c false) false ≡ choose b (choose a c false) false
    swap true b c = refl
    swap false true c = refl
    swap false false c = refl

pub all-at : (bs : List Bool) → all bs ≡ true → (i : ℕ) → get_or bs i true ≡ true
unfolding all
all-at [] e i = refl
all-at (b ∷ bs) e zero = (both_true b (all bs) e).0
all-at (b ∷ bs) e (suc i) = all-at bs (both_true b (all bs) e).1 i

infixr 60 ◌&◌
pub data All : List Bool → Type 0 where
  none_left : All []
  ◌&◌ : {b : Bool} {bs : List Bool} → b ≡ true → All bs → All (b ∷ bs)

pub all_of : {bs : List Bool} → All bs → all bs ≡ true
unfolding all
all_of none_left = refl
all_of (◌&◌ {b} {bs} t u) = true-both b (all bs) t (all_of u)

-- families: all are equal, all are below, in a square of rows and columns, and in the columns from k on
pub eqs : (n : ℕ) (f g : ℕ → ℕ) → (all_to n (λ i. eqb (f i) (g i)) ≡ true) ↔ ((i : ℕ) → i < n → f i ≡ g i)
eqs n f g = (λ e i l. eqb-true _ _ (all_to-at n _ e i l), λ h. at-all_to n _ (λ i l. eq-eqb _ _ (h i l)))

pub square : (n k : ℕ) (f g : ℕ → ℕ → ℕ) → (all_to n (λ j. all_to k (λ t. eqb (f j t) (g j t))) ≡ true) ↔ ((j : ℕ) → j < n → (t : ℕ) → t < k → f j t ≡ g j t)
square n k f g = (λ e j l. (eqs k (f j) (g j)).0 (all_to-at n _ e j l), λ h. at-all_to n _ (λ j l. (eqs k (f j) (g j)).1 (h j l)))

pub lower : (n k p : ℕ) (f : ℕ → ℕ → ℕ) → (all_to n (λ j. all_to k (λ t. ltb (f j t) p)) ≡ true) ↔ ((j : ℕ) → j < n → (t : ℕ) → t < k → f j t < p)
lower n k p f = (
  λ e j l t g. ltb-true _ _ (all_to-at k _ (all_to-at n _ e j l) t g),
  λ h. at-all_to n _ (λ j l. at-all_to k _ (λ t g. lt-ltb _ _ (h j l t g))),
)

-- one row
pub past_row : (k m : ℕ) (f : ℕ → ℕ) → (all_to (m - k) (λ t. eqb (f (k + t)) 0) ≡ true) ↔ ((t : ℕ) → k ≤ t → t < m → f t ≡ 0)
past_row k m f = (
  λ e t h g. subst (λ x. f x ≡ 0) (add-sub_of_le h) ((eqs (m - k) (λ t. f (k + t)) (λ t. 0)).0 e (t - k) (omega arith)),
  λ h. (eqs (m - k) (λ t. f (k + t)) (λ t. 0)).1 (λ t g. h (k + t) (omega arith) (omega arith)),
)

pub past : (n k m : ℕ) (f : ℕ → ℕ → ℕ) → (all_to n (λ j. all_to (m - k) (λ t. eqb (f j (k + t)) 0)) ≡ true) ↔ ((j : ℕ) → j < n → (t : ℕ) → k ≤ t → t < m → f j t ≡ 0)
past n k m f = (λ e j l. (past_row k m (f j)).0 (all_to-at n _ e j l), λ h. at-all_to n _ (λ j l. (past_row k m (f j)).1 (h j l)))

pub all_to-ext : (n : ℕ) (f g : ℕ → Bool) → ((i : ℕ) → i < n → f i ≡ g i) → all_to n f ≡ all_to n g
unfolding all_to
all_to-ext zero f g h = refl
all_to-ext (suc n) f g h = rw (h n (omega arith), all_to-ext n f g (λ i l. h i (omega arith)))

pub decides-yes : {A : Type 0} → A → Decides true A
decides-yes a = record { yes = λ _. a; no = λ e. true-false e }

pub decides-no : {A : Type 0} → (A → ⊥) → Decides false A
decides-no n = record { yes = λ e. true-false (sym e); no = λ _. n }

-- what decides a statement is the test that stands for it
pub decided-test : {A : Type 0} (b c : Bool) → (c ≡ true) ↔ A → Decides b A → b ≡ c
decided-test true c e d = sym (e.1 (d.yes refl))
decided-test false true e d = absurd (d.no refl (e.0 refl))
decided-test false false e d = refl

-- a comparison that is an answer
pub decides-le : {A : Type 0} (m n : ℕ) → (m ≤ n → A) → (A → m ≤ n) → Decides (leb m n) A
decides-le m n into out = record { yes = λ e. into (leb-true m n e); no = λ e a. let l = leb-false m n e in let u = out a in let z : ⊥ = omega arith in z }

pub decides_eq : {A : Type 0} (m n : ℕ) → (m ≡ n → A) → (A → m ≡ n) → Decides (eqb m n) A
decides_eq m n into out = record { yes = λ e. into (eqb-true m n e); no = λ e a. eqb-false m n e (out a) }

-- words that rise
pub rising-fails : (s : List ℕ) (i : ℕ) → 1 ≤ i → i < length s → word s i ≤ word s (i - 1) → false ≡ rising s
rising-fails s zero l g h = absurd (let z : ⊥ = omega arith in z)
rising-fails s (suc i) l g h =
    sym (all_to-false (length s - 1) (λ i. ltb (word s i) (word s (suc i))) i (omega arith) (le-ltb (word s i) (word s (suc i)) (subst (λ n. word s (suc i) ≤ word s n) (let z : suc i - 1 ≡ i = omega arith in z) h)))

pub rising-passes : (s : List ℕ) (i : ℕ) → length s ≤ i → ((k : ℕ) → suc k < i → word s k < word s (suc k)) → true ≡ rising s
rising-passes s i l h = sym (at-all_to (length s - 1) (λ i. ltb (word s i) (word s (suc i))) (λ k g. lt-ltb (word s k) (word s (suc k)) (h k (omega arith))))

pub rising-are : (s : List ℕ) → rising s ≡ true → Rising s
rising-are s e i l = ltb-true _ _ (all_to-at (length s - 1) (λ i. ltb (word s i) (word s (suc i))) e i (omega arith))
