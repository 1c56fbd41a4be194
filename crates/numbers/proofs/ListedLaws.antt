-- Laws of `all_where`: the numbers that pass a test, listed.
--   where-step, where-last   the first number, and the last one, is listed or not, as it passes or not
--   where-ext                tests that agree list the same
--   At s c, Absent s c       c stands in the list, or does not; at-or-not: one of both holds
--   rising-same              lists that rise, of one length, are equal where the words of one stand in the other
--   Listed ..                what makes a list this one: it rises, and its words are all the numbers that pass
--   where-listed, listed-is  `all_where` is such a list, and no other is
-- Assumes nothing.
use mathlib.Core.Path.{◌≡◌, refl, sym, ap, subst, ◌∙◌}
use mathlib.Core.Bool.{Bool, true, false}
use mathlib.Core.Logic.{◌≢◌, ◌⊎◌, inl, inr, ⊎_elim}
use mathlib.Core.List.{List, [], ◌∷◌, ◌++◌}
use Prim.Native.Nat.{ℕ, zero, suc, ◌+◌, ◌-◌, ◌≤◌, ◌<◌}
use native.Mathlib.Nat.{eq-or-lt_of_le, le_of_suc-le-suc, le_refl, add-zero}
use native.Mathlib.Omega.{arith}
use lib.ListN.{length}
use lib.Seq.{ext_get_or}
use Rattle.algebra.proofs.Chain.{rising-all}
use Rattle.numbers.specs.Words.{word, keep, all_where}
use Rattle.numbers.specs.internal.Facts.{Rising}
use Rattle.numbers.proofs.WordsLaws.{lt-or-ge, true-false}

pub where-step : (f : ℕ → Bool) (d n : ℕ) (Q : List ℕ → Type 0) → (f d ≡ true → Q (d ∷ all_where f (suc d) n)) → (f d ≡ false → Q (all_where f (suc d) n))
    → Q (all_where f d (suc n))
unfolding all_where
where-step f d n Q passes fails = at (f d) refl
  where
    at : (b : Bool) → f d ≡ b → Q (keep b d (all_where f (suc d) n))
    at true e = passes e
    at false e = fails e

keep_append : (b : Bool) (x : ℕ) (s t : List ℕ) → keep b x (s ++ t) ≡ keep b x s ++ t
keep_append true x s t = refl
keep_append false x s t = refl

pub where-last : (f : ℕ → Bool) (d n : ℕ) → all_where f d (suc n) ≡ all_where f d n ++ keep (f (d + n)) (d + n) []
unfolding all_where
where-last f d zero = ap (λ k. keep (f k) k []) (sym (add-zero d))
where-last f d (suc n) =
    ap (keep (f d) d) (where-last f (suc d) n ∙ ap (λ k. all_where f (suc d) n ++ keep (f k) k []) (let e : suc d + n ≡ d + suc n = omega arith in e))
    ∙ keep_append (f d) d (all_where f (suc d) n) (keep (f (d + suc n)) (d + suc n) [])

pub where-ext : (f g : ℕ → Bool) (d n : ℕ) → ((k : ℕ) → d ≤ k → k < d + n → f k ≡ g k) → all_where f d n ≡ all_where g d n
unfolding all_where
where-ext f g d zero h = refl
where-ext f g d (suc n) h = rw (h d (le_refl d) (omega arith), where-ext f g (suc d) n (λ k lo hi. h k (omega arith) (omega arith)))

abbrev pub At : List ℕ → ℕ → Type 0
At s c = (i : ℕ) × (i < length s) × (word s i ≡ c)

abbrev pub Absent : List ℕ → ℕ → Type 0
Absent s c = (i : ℕ) → i < length s → word s i ≢ c

-- of each word: of the first, and of the others
by_place : (s : List ℕ) (x : ℕ) (P : ℕ → Type 0) → P x → ((i : ℕ) → i < length s → P (word s i)) → (i : ℕ) → i < length (x ∷ s) → P (word (x ∷ s) i)
by_place s x P here there zero l = here
by_place s x P here there (suc i) l = there i (le_of_suc-le-suc l)

pub at-or-not : (s : List ℕ) (c : ℕ) → At s c ⊎ Absent s c
at-or-not [] c = inr (λ i l. absurd (let z : ⊥ = omega arith in z))
at-or-not (x ∷ s) c = by (lt-or-ge x c) (lt-or-ge c x)
    (λ ne. ⊎_elim (λ (a : At s c). inl (suc a.0, (let z = a.1 in omega arith), a.2)) (λ (w : Absent s c). inr (by_place s x (λ y. y ≢ c) ne w)) (at-or-not s c))
  where
    by : (x < c) ⊎ (c ≤ x) → (c < x) ⊎ (x ≤ c) → (x ≢ c → At (x ∷ s) c ⊎ Absent (x ∷ s) c) → At (x ∷ s) c ⊎ Absent (x ∷ s) c
    by (inl l) g other = other (λ e. let z : ⊥ = omega arith in z)
    by (inr l) (inl g) other = other (λ e. let z : ⊥ = omega arith in z)
    by (inr l) (inr g) other = inl (zero, omega arith, omega arith)

-- where the words of one list stand in another they stand in the same order, so that none is moved
module _ (a b : List ℕ) (up : Rising a) (up' : Rising b) (long : length b ≡ length a) (stands : (i : ℕ) → i < length a → At b (word a i)) where
  ordered : (i : ℕ) (l : suc i < length a) (u : i < length a) → (stands i u).0 < (stands (suc i) l).0
  ordered i l u =
      let (x, xl, ex) = stands i u in
      let (y, yl, ey) = stands (suc i) l in
      let h = up i l in
      ⊎_elim (λ (v : x < y). v)
      (λ (v : y ≤ x). ⊎_elim (λ (e : y ≡ x). absurd (let q = ap (word b) e in let z : ⊥ = omega arith in z))
      (λ (w : y < x). absurd (let q = rising-all (λ k. k) (length b) (word b) up' y x w xl in let z : ⊥ = omega arith in z)) (eq-or-lt_of_le v)) (lt-or-ge x y)

  not-before : (i : ℕ) (l : i < length a) → i ≤ (stands i l).0
  not-before zero l = omega arith
  not-before (suc i) l = let u : i < length a = omega arith in let x = not-before i u in let y = ordered i l u in omega arith

  not_after : (d i : ℕ) (l : i < length a) → i + suc d ≡ length a → (stands i l).0 + suc d ≤ length a
  not_after zero i l e = let x = (stands i l).1 in omega arith
  not_after (suc d) i l e = let u : suc i < length a = omega arith in let x = not_after d (suc i) u (omega arith) in let y = ordered i u l in omega arith

  pub rising-same : a ≡ b
  rising-same = ext_get_or 0 a b (sym long) (λ i l.
      let x = not-before i l in
      let y = not_after (length a - suc i) i l (omega arith) in
      sym (stands i l).2 ∙ ap (word b) (let e : (stands i l).0 ≡ i = omega arith in e))

module _ (test : ℕ → Bool) where
  -- the numbers d, d + 1, .., d + n − 1 that pass
  pub record Listed (d n : ℕ) (s : List ℕ) : Type 0 where
    pub rising : Rising s
    pub low : (i : ℕ) → i < length s → d ≤ word s i
    pub high : (i : ℕ) → i < length s → word s i < d + n
    pub holds : (i : ℕ) → i < length s → test (word s i) ≡ true
    pub all : (c : ℕ) → d ≤ c → c < d + n → test c ≡ true → At s c

  none-listed : (d : ℕ) → Listed d zero []
  none-listed d = record {
    rising = λ i l. absurd (let z : ⊥ = omega arith in z);
    low = λ i l. absurd (let z : ⊥ = omega arith in z);
    high = λ i l. absurd (let z : ⊥ = omega arith in z);
    holds = λ i l. absurd (let z : ⊥ = omega arith in z);
    all = λ c l g. absurd (let z : ⊥ = omega arith in z);
  }

  more-listed : (d n : ℕ) (s : List ℕ) → Listed (suc d) n s → test d ≡ true → Listed d (suc n) (d ∷ s)
  more-listed d n s h e = record {
    rising = rises;
    low = by_place s d (λ x. d ≤ x) (le_refl d) (λ i l. let z = h.low i l in omega arith);
    high = by_place s d (λ x. x < d + suc n) (omega arith) (λ i l. let z = h.high i l in omega arith);
    holds = by_place s d (λ x. test x ≡ true) e h.holds;
    all = λ c l g t. ⊎_elim (λ (q : d ≡ c). (zero, omega arith, q))
        (λ (u : d < c). let (i, v, q) = h.all c u (omega arith) t in (suc i, omega arith, q)) (eq-or-lt_of_le l);
  }
    where
      rises : Rising (d ∷ s)
      rises zero l = h.low zero (le_of_suc-le-suc l)
      rises (suc i) l = h.rising i (le_of_suc-le-suc l)

  same-listed : (d n : ℕ) (s : List ℕ) → Listed (suc d) n s → test d ≡ false → Listed d (suc n) s
  same-listed d n s h e = record {
    rising = h.rising;
    low = λ i l. let z = h.low i l in omega arith;
    high = λ i l. let z = h.high i l in omega arith;
    holds = h.holds;
    all = λ c l g t. ⊎_elim (λ (q : d ≡ c). true-false (sym t ∙ ap test (sym q) ∙ e)) (λ (u : d < c). h.all c u (omega arith) t) (eq-or-lt_of_le l);
  }

  pub where-listed : (d n : ℕ) → Listed d n (all_where test d n)
  unfolding all_where
  where-listed d zero = none-listed d
  where-listed d (suc n) = where-step test d n (Listed d (suc n)) (more-listed d n _ (where-listed (suc d) n)) (same-listed d n _ (where-listed (suc d) n))

  -- a list less its first word, where this is d; and a list without d
  rest-listed : (d n : ℕ) (s : List ℕ) → Listed d (suc n) (d ∷ s) → Listed (suc d) n s
  rest-listed d n s h =
      let after : (i : ℕ) → i < length s → d < word s i =
      λ i l. rising-all (λ k. k) (length (d ∷ s)) (word (d ∷ s)) h.rising zero (suc i) (omega arith) (omega arith) in
      record {
        rising = λ i l. h.rising (suc i) (omega arith);
        low = after;
        high = λ i l. let z = h.high (suc i) (omega arith) in omega arith;
        holds = λ i l. h.holds (suc i) (omega arith);
        all = λ c l g t. there c l (h.all c (omega arith) (omega arith) t);
      }
    where
      there : (c : ℕ) → d < c → At (d ∷ s) c → At s c
      there c l (zero, u, q) = absurd (let z : ⊥ = omega arith in z)
      there c l (suc i, u, q) = (i, le_of_suc-le-suc u, q)

  less-listed : (d n : ℕ) (s : List ℕ) → Listed d (suc n) s → test d ≡ false → Listed (suc d) n s
  less-listed d n s h e = record {
    rising = h.rising;
    low = λ i l. ⊎_elim (λ (q : d ≡ word s i). true-false (sym (h.holds i l) ∙ ap test (sym q) ∙ e)) (λ (u : d < word s i). u) (eq-or-lt_of_le (h.low i l));
    high = λ i l. let z = h.high i l in omega arith;
    holds = h.holds;
    all = λ c l g t. h.all c (omega arith) (omega arith) t;
  }

  -- where d passes, it is the first word
  first-listed : (d n : ℕ) (s r : List ℕ) → ((t : List ℕ) → Listed (suc d) n t → r ≡ t) → Listed d (suc n) s → At s d → d ∷ r ≡ s
  first-listed d n [] r same h (i, l, q) = absurd (let z : ⊥ = omega arith in z)
  first-listed d n (x ∷ s) r same h (zero, l, q) = ap (λ t. d ∷ t) (same s (rest-listed d n s (subst (λ y. Listed d (suc n) (y ∷ s)) q h))) ∙ ap (λ y. y ∷ s) (sym q)
  first-listed d n (x ∷ s) r same h (suc i, l, q) =
      let a = h.low zero (omega arith) in
      let b = rising-all (λ k. k) (length (x ∷ s)) (word (x ∷ s)) h.rising zero (suc i) (omega arith) l in
      absurd (let z : ⊥ = omega arith in z)

  pub listed-is : (d n : ℕ) (s : List ℕ) → Listed d n s → all_where test d n ≡ s
  unfolding all_where
  listed-is d zero [] h = refl
  listed-is d zero (x ∷ s) h = absurd (let a = h.low zero (omega arith) in let b = h.high zero (omega arith) in let z : ⊥ = omega arith in z)
  listed-is d (suc n) s h = where-step test d n (λ t. t ≡ s)
      (λ e. first-listed d n s (all_where test (suc d) n) (listed-is (suc d) n) h (h.all d (le_refl d) (omega arith) e))
      (λ e. listed-is (suc d) n s (less-listed d n s h e))
