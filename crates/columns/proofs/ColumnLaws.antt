-- Laws of the definitions of `specs/Column`: lists that a loop changes in place, what one turn of each loop computes, lengths and bounds.
-- Assumes nothing.
use mathlib.Core.Path.{◌≡◌, refl, sym, ap, ap₂, subst, ◌∙◌}
use mathlib.Core.Logic.{⊎_elim}
use mathlib.Core.List.{List, [], ◌∷◌, ◌++◌, append-nil}
use Prim.Native.Nat.{ℕ, zero, suc, ◌+◌, ◌-◌, ◌*◌, ◌%◌, ◌≤◌, ◌<◌}
use native.Mathlib.Nat.{eq-or-lt_of_le, mod-lt, mod-eq_of_lt, mod-mod, add-mod_right, sub-zero, mul-le-mul}
use native.Mathlib.Numerals.{add-one}
use native.Mathlib.Omega.{arith}
use lib.ListN.{length, take, drop, set, length-append, length-drop, length-set, drop_of_length-le, get_or-append, get_or-eq_default}
use lib.Seq.{ext_get_or, get_or-append-add, get_or-drop, get_or-take, get_or-set_same, get_or-set_other, set-get_or, length-take-le, take-length, take-suc-set, drop-set-lt}
use Rattle.numbers.specs.Words.{word, tabulate, over, up_to}
use Rattle.numbers.specs.internal.Facts.{AllBelow}
use Rattle.rows.specs.Rows.{rows_of}
use Rattle.numbers.proofs.WordsLaws.{lt-or-ge, length-tabulate, word-tabulate, tabulate-ext, up-low, up-high, tabulate-below, length_over, over-whole, Writing, writing-next, over-past, writing-past, from, from_is, drop-below, append-below}
use Rattle.numbers.specs.internal.Limits.{modulus_bound}
use Rattle.rows.proofs.RowsLaws.{row_fits, length_part}
use Rattle.columns.specs.internal.Column.{horner_word, horner_words, less_multiple, digit_of, digit_words, line_times, ColumnStored, middle_sum, first_only}

-- a number below 2^24 times a word
pub product-fits : (a b : ℕ) → a < modulus_bound → b < 4294967296 → a * b ≤ 16777215 * 4294967295
product-fits a b h g = mul-le-mul {n₂ = 16777215} {m₂ = 4294967295} (omega arith) (omega arith)

-- A list that a loop writes from its end down to word j: from there on the words are those of f, before it the old ones.
pub record Sinking (f : ℕ → ℕ) (s e : List ℕ) (j : ℕ) : Type 0 where
  pub long : length e ≡ length s
  pub kept : (k : ℕ) → k < j → word e k ≡ word s k
  pub done : (k : ℕ) → j ≤ k → k < length s → word e k ≡ f k

pub sinking-store : (f : ℕ → ℕ) (s e : List ℕ) (j v : ℕ) → Sinking f s e j → 0 < j → j ≤ length s → v ≡ f (j - 1) → Sinking f s (set e (j - 1) v) (j - 1)
sinking-store f s e j v w pos h q = record {
  long = length-set e (j - 1) v ∙ w.long;
  kept = λ k l. get_or-set_other e (j - 1) k v 0 (λ (x : k ≡ j - 1). omega arith) ∙ w.kept k (omega arith);
  done = λ k l g.
      ⊎_elim
      (λ (x : j - 1 ≡ k). ap (word (set e (j - 1) v)) (sym x) ∙ get_or-set_same e (j - 1) v 0 (omega (arith, w.long)) ∙ q ∙ ap f x)
      (λ (x : j - 1 < k). get_or-set_other e (j - 1) k v 0 (λ (y : k ≡ j - 1). omega arith) ∙ w.done k (omega arith) g)
      (eq-or-lt_of_le l);
}

pub sinking-all : (f : ℕ → ℕ) (s e : List ℕ) (j : ℕ) → Sinking f s e j → j ≡ 0 → e ≡ tabulate (length s) f
sinking-all f s e j w z =
    ext_get_or 0 e (tabulate (length s) f) (w.long ∙ sym (length-tabulate (length s) f))
    (λ k l. let g : k < length s = omega (arith, w.long) in w.done k (omega arith) g ∙ sym (word-tabulate (length s) f k g))

module _ (p c : ℕ) where
  -- word t of Horner's scheme over s
  abbrev pub horner_at : List ℕ → ℕ → ℕ
  horner_at s t = horner_word p c (length s - t) (word s) t

  pub horner-word-suc : (n : ℕ) (b : ℕ → ℕ) (t : ℕ) → horner_word p c (suc n) b t ≡ (b t + c * horner_word p c n b (suc t)) % p
  unfolding horner_word
  horner-word-suc n b t = refl

  pub horner-word-none : (b : ℕ → ℕ) (t : ℕ) → horner_word p c zero b t ≡ 0
  unfolding horner_word
  horner-word-none b t = refl

  pub horner-at-step : (s : List ℕ) (t : ℕ) → t < length s → horner_at s t ≡ (word s t + c * horner_at s (t + 1)) % p
  horner-at-step s t h =
      let q : length s - t ≡ suc (length s - (t + 1)) = omega arith in
      ap (λ (n : ℕ). horner_word p c n (word s) t) q ∙ horner-word-suc (length s - (t + 1)) (word s) t
      ∙ ap (λ (u : ℕ). (word s t + c * horner_word p c (length s - (t + 1)) (word s) u) % p) (sym (add-one t))

  -- the last word stays, and there the scheme begins
  pub horner-starts : (s : List ℕ) → 1 ≤ length s → AllBelow p s → Sinking (horner_at s) s s (length s - 1)
  horner-starts s h b = record {
    long = refl;
    kept = λ k l. refl;
    done = λ k l g.
        let z : length s - (k + 1) ≡ 0 = omega arith in
        let e : horner_at s (k + 1) ≡ 0 = ap (λ (n : ℕ). horner_word p c n (word s) (k + 1)) z ∙ horner-word-none (word s) (k + 1) in
        sym (horner-at-step s k g ∙ ap (λ (x : ℕ). (word s k + c * x) % p) e
        ∙ ap (λ (x : ℕ). x % p) (let y : word s k + c * 0 ≡ word s k = omega arith in y) ∙ mod-eq_of_lt (b k g));
  }

  -- one turn
  pub horner-turn : (s e : List ℕ) (j : ℕ) → Sinking (horner_at s) s e j → 0 < j → j < length s
      → (word e (j - 1) + c * word e (j - 1 + 1)) % p ≡ horner_at s (j - 1)
  horner-turn s e j w pos h =
      rw (w.kept (j - 1) (omega arith), w.done (j - 1 + 1) (omega arith) (omega arith)) (sym (horner-at-step s (j - 1) (omega arith)))

  -- word j of q + (Y − c) · r
  abbrev pub line_at : List ℕ → ℕ → ℕ
  line_at s j = (word s j + (p - c) * word s (j + 1)) % p

  -- one turn
  pub line-turn : (s e : List ℕ) (j : ℕ) → Writing (tabulate j (line_at s)) s e → (word e j + (p - c) * word e (j + 1)) % p ≡ line_at s j
  line-turn s e j w =
      rw (writing-past _ s e j w (omega (arith, length-tabulate j (line_at s))), writing-past _ s e (j + 1) w (omega (arith, length-tabulate j (line_at s))))

  -- the last word stays
  pub line-all : (s e : List ℕ) (j : ℕ) → j + 1 ≡ length s → AllBelow p s → Writing (tabulate j (line_at s)) s e → e ≡ line_times p c s
  unfolding line_times
  line-all s e j h b w =
      let past : word s (j + 1) ≡ 0 = get_or-eq_default s 0 (omega arith) in
      let last : word e j ≡ line_at s j =
      writing-past _ s e j w (omega (arith, length-tabulate j (line_at s))) ∙ sym (mod-eq_of_lt (b j (omega arith)))
      ∙ ap (λ (x : ℕ). x % p) (let y : word s j ≡ word s j + (p - c) * 0 = omega arith in y) ∙ ap (λ (x : ℕ). (word s j + (p - c) * x) % p) (sym past) in
      let v : Writing (tabulate (j + 1) (line_at s)) s e =
      subst (λ (l : List ℕ). Writing (tabulate (j + 1) (line_at s)) s l) (set-get_or e j 0) (writing-next j (line_at s) s e (word e j) w last (omega arith)) in
      v.is ∙ ap (λ (k : ℕ). over (tabulate k (line_at s)) s) h ∙ over-whole (tabulate (length s) (line_at s)) s (length-tabulate (length s) (line_at s))

-- word j of e − q · a
abbrev pub less_at : (p q : ℕ) (a s : List ℕ) → ℕ → ℕ
less_at p q a s j = (word s j + (p - q * word a j % p)) % p

-- one turn
pub less-turn : (p q : ℕ) (a s e : List ℕ) (j : ℕ) → Writing (tabulate j (less_at p q a s)) s e → (word e j + (p - q * word a j % p)) % p ≡ less_at p q a s j
less-turn p q a s e j w = rw (writing-past _ s e j w (omega (arith, length-tabulate j (less_at p q a s))))

-- no column is stored yet, and one word of it more
pub stored-none : (N t : ℕ) (s : List ℕ) → ColumnStored N t [] s s
stored-none N t s = record { long = refl; here = λ j l. omega arith; others = λ j l. omega arith; rest = λ i l. refl }

pub stored_next : (N t : ℕ) (e old new : List ℕ) (j : ℕ) → t < N → j < length e → length e * N ≤ length old
    → ColumnStored N t (take j e) old new → ColumnStored N t (take (j + 1) e) old (set new (j * N + t) (word e j))
stored_next N t e old new j g h room w =
    let v = word e j in
    let n₀ : length (take j e) ≡ j = length-take-le j e (omega arith) in
    let n₁ : length (take (j + 1) e) ≡ j + 1 = length-take-le (j + 1) e (omega arith) in
    let fits : j * N + N ≤ length old = omega (arith, row_fits j (length e) N h) in
    let lo : length (take j e) * N ≡ j * N = ap (λ (x : ℕ). x * N) n₀ in
    record {
      long = length-set new (j * N + t) v ∙ w.long;
      here = λ i l.
          ⊎_elim
          (λ (x : i ≡ j). rw x (get_or-set_same new (j * N + t) v 0 (omega (arith, w.long)) ∙ sym (get_or-take (j + 1) e j 0 (omega arith))))
          (λ (x : i < j).
          get_or-set_other new (j * N + t) (i * N + t) v 0 (λ (y : i * N + t ≡ j * N + t). omega (arith, row_fits i j N x))
          ∙ w.here i (omega arith) ∙ get_or-take j e i 0 x ∙ sym (get_or-take (j + 1) e i 0 (omega arith)))
          (eq-or-lt_of_le {n = i} {m = j} (omega arith));
      others = λ i l s k ne.
          ⊎_elim
          (λ (x : i ≡ j). rw x (get_or-set_other new (j * N + t) (j * N + s) v 0 (λ (y : j * N + s ≡ j * N + t). ne (omega arith)) ∙ w.rest (j * N + s) (omega arith)))
          (λ (x : i < j).
          get_or-set_other new (j * N + t) (i * N + s) v 0 (λ (y : i * N + s ≡ j * N + t). omega (arith, row_fits i j N x))
          ∙ w.others i (omega arith) s k ne)
          (eq-or-lt_of_le {n = i} {m = j} (omega arith));
      rest = λ i l.
          let hi : length (take (j + 1) e) * N ≡ j * N + N = ap (λ (x : ℕ). x * N) n₁ ∙ omega arith in
          get_or-set_other new (j * N + t) i v 0 (λ (y : i ≡ j * N + t). omega arith) ∙ w.rest i (omega arith);
    }

pub stored-all : (N t : ℕ) (e old new : List ℕ) (j : ℕ) → ColumnStored N t (take j e) old new → j ≡ length e → ColumnStored N t e old new
stored-all N t e old new j w q = subst (λ (l : List ℕ). ColumnStored N t l old new) (ap (λ (k : ℕ). take k e) q ∙ take-length e) w

abbrev pub put_from : ℕ → List ℕ → List ℕ → List ℕ
put_from i e y = take i e ++ (y ++ drop (length e - i) (drop i e))

pub put-from : (i : ℕ) (e y : List ℕ) → put_from i e y ≡ take i e ++ y
put-from i e y =
    ap (λ (l : List ℕ). take i e ++ l)
    (ap (λ (l : List ℕ). y ++ l) (drop_of_length-le (drop i e) {i = length e - i} (simp length-drop (omega arith))) ∙ append-nil y)

-- the part that a call is lent, and the list in which the call wrote it anew
pub length-lent : (a len : ℕ) (s : List ℕ) → a + len ≤ length s → length (take len (drop a s)) ≡ len
length-lent a len s h = length-take-le len (drop a s) (omega (arith, length-drop a s))

abbrev pub put : (a len : ℕ) (s y : List ℕ) → List ℕ
put a len s y = take a s ++ (y ++ drop len (drop a s))

module _ (a len : ℕ) (s y : List ℕ) (fits : a + len ≤ length s) (ny : length y ≡ len) where
  front : length (take a s) ≡ a
  front = length-take-le a s (omega arith)

  pub put-long : length (put a len s y) ≡ length s
  put-long = length-append (take a s) _ ∙ omega (arith, front, length-append y (drop len (drop a s)), length-drop len (drop a s), length-drop a s)

  pub put-before : (z : ℕ) → z < a → word (put a len s y) z ≡ word s z
  put-before z l = get_or-append (take a s) (y ++ drop len (drop a s)) 0 z (omega (arith, front)) ∙ get_or-take a s z 0 l

  inner : (i : ℕ) → word (put a len s y) (a + i) ≡ word (y ++ drop len (drop a s)) i
  inner i = ap (λ v. word (put a len s y) (v + i)) (sym front) ∙ get_or-append-add (take a s) (y ++ drop len (drop a s)) i 0

  pub put_in : (i : ℕ) → i < len → word (put a len s y) (a + i) ≡ word y i
  put_in i l = inner i ∙ get_or-append y (drop len (drop a s)) 0 i (omega arith)

  pub put-past : (z : ℕ) → a + len ≤ z → word (put a len s y) z ≡ word s z
  put-past z l =
      let i = z - (a + len) in
      let e : a + (len + i) ≡ z = omega arith in
      ap (word (put a len s y)) (sym e) ∙ inner (len + i) ∙ ap (λ v. word (y ++ drop len (drop a s)) (v + i)) (sym ny)
      ∙ get_or-append-add y (drop len (drop a s)) i 0 ∙ get_or-drop len (drop a s) i 0 ∙ get_or-drop a s (len + i) 0 ∙ ap (word s) e

-- bounds of parts
cons-below : (p q : ℕ) (s : List ℕ) → q < p → AllBelow p s → AllBelow p (q ∷ s)
cons-below p q s h b zero l = h
cons-below p q s h b (suc k) l = b k (omega arith)

over_below : (p : ℕ) (xs s : List ℕ) → AllBelow p xs → AllBelow p s → AllBelow p (over xs s)
over_below p xs s h g = append-below p xs (drop (length xs) s) h (drop-below p (length xs) s g)

-- lengths, and bounds by p
pub length-horner : (p c : ℕ) (e : List ℕ) → length (horner_words p c e) ≡ length e
unfolding horner_words
length-horner p c e = length-tabulate (length e) _

-- the quotient by Y − c
pub length_rest : (p c : ℕ) (e : List ℕ) → length (drop 1 (horner_words p c e)) ≡ length e - 1
length_rest p c e = length-drop 1 (horner_words p c e) ∙ ap (λ (k : ℕ). k - 1) (length-horner p c e)

pub length-less : (p q : ℕ) (a e : List ℕ) → length a ≤ length e → length (less_multiple p q a e) ≡ length e
unfolding less_multiple
length-less p q a e h = length_over (tabulate (length a) (less_at p q a e)) e (omega (arith, length-tabulate (length a) (less_at p q a e)))

pub length-line : (p c : ℕ) (e : List ℕ) → length (line_times p c e) ≡ length e
unfolding line_times
length-line p c e = length-tabulate (length e) _

module _ (p : ℕ) (pos : 1 ≤ p) where
  pub horner-word-below : (c n : ℕ) (b : ℕ → ℕ) (t : ℕ) → horner_word p c n b t < p
  horner-word-below c zero b t = rw (horner-word-none p c b t) pos
  horner-word-below c (suc n) b t = rw (horner-word-suc p c n b t) (mod-lt _ pos)

  pub horner-below : (c : ℕ) (e : List ℕ) → AllBelow p (horner_words p c e)
  unfolding horner_words
  horner-below c e = tabulate-below p (length e) _ (λ t _. horner-word-below c (length e - t) (word e) t)

  pub less-below : (q : ℕ) (a e : List ℕ) → AllBelow p e → AllBelow p (less_multiple p q a e)
  unfolding less_multiple
  less-below q a e h = over_below p (tabulate (length a) (less_at p q a e)) e (tabulate-below p (length a) (less_at p q a e) (λ j _. mod-lt _ pos)) h

  pub line-below : (c : ℕ) (e : List ℕ) → AllBelow p (line_times p c e)
  unfolding line_times
  line-below c e = tabulate-below p (length e) _ (λ j _. mod-lt _ pos)

-- what a call of `less_multiple` is lent once the digit q is stored
pub digit-rest : (h : List ℕ) (q : ℕ) → from (set h 0 q) 1 ≡ drop 1 h
digit-rest h q = from_is (set h 0 q) 1 ∙ drop-set-lt 1 h 0 q (omega arith)

module _ (p c w : ℕ) (a : List ℕ) where
  -- the digit's words, and what is left after it
  pub digit-words : (e : List ℕ) → digit_words p c w a e ≡ digit_of p c w e ∷ less_multiple p (digit_of p c w e) a (drop 1 (horner_words p c e))
  unfolding digit_words
  digit-words e = refl

  pub length-digit : (e : List ℕ) → length a < length e → length (digit_words p c w a e) ≡ length e
  length-digit e h =
      let n = length_rest p c e in
      ap length (digit-words e) ∙ ap suc (length-less p (digit_of p c w e) a (drop 1 (horner_words p c e)) (omega arith)) ∙ omega arith

  pub digit-below : 1 ≤ p → (e : List ℕ) → AllBelow p (digit_words p c w a e)
  digit-below pos e =
      let r = drop 1 (horner_words p c e) in
      rw (digit-words e) (cons-below p (digit_of p c w e) (less_multiple p (digit_of p c w e) a r) (mod-lt _ pos)
      (less-below p pos (digit_of p c w e) a r (drop-below p 1 (horner_words p c e) (horner-below p pos c e))))

  -- what that call leaves
  pub digit-is : (e h y : List ℕ) → h ≡ horner_words p c e → 1 ≤ length e
      → y ≡ less_multiple p (word h 0 * w % p) a (from (set h 0 (word h 0 * w % p)) 1)
      → put_from 1 (set h 0 (word h 0 * w % p)) y ≡ digit_words p c w a e
  digit-is e h y q pos z =
      let d = word h 0 * w % p in
      put-from 1 (set h 0 d) y
      ∙ ap (λ (l : List ℕ). l ++ y) (take-suc-set h 0 d (omega (arith, ap length q, length-horner p c e)))
      ∙ ap (λ (l : List ℕ). d ∷ l) (z ∙ ap (less_multiple p d a) (digit-rest h d))
      ∙ ap (λ (l : List ℕ). word l 0 * w % p ∷ less_multiple p (word l 0 * w % p) a (drop 1 l)) q
      ∙ sym (digit-words e)

-- words at every index, past the end too
module _ (p c : ℕ) (pos : zero < p) where
  -- one coefficient more, which is 0, changes nothing
  horner-word-more : (n : ℕ) (b : ℕ → ℕ) (t : ℕ) → ((j : ℕ) → t + n ≤ j → b j ≡ 0) → horner_word p c (suc n) b t ≡ horner_word p c n b t
  horner-word-more zero b t h =
      horner-word-suc p c zero b t ∙ ap₂ (λ x y. (x + c * y) % p) (h t (omega arith)) (horner-word-none p c b (suc t))
      ∙ ap (λ x. x % p) (let e : 0 + c * 0 ≡ 0 = omega arith in e) ∙ mod-eq_of_lt pos ∙ sym (horner-word-none p c b t)
  horner-word-more (suc n) b t h =
      horner-word-suc p c (suc n) b t ∙ ap (λ x. (b t + c * x) % p) (horner-word-more n b (suc t) (λ j l. h j (omega arith))) ∙ sym (horner-word-suc p c n b t)

  horner-word-longer : (d n : ℕ) (b : ℕ → ℕ) (t : ℕ) → ((j : ℕ) → t + n ≤ j → b j ≡ 0) → horner_word p c (d + n) b t ≡ horner_word p c n b t
  horner-word-longer zero n b t h = ap (λ k. horner_word p c k b t) (let e : 0 + n ≡ n = omega arith in e)
  horner-word-longer (suc d) n b t h =
      ap (λ k. horner_word p c k b t) (let e : suc d + n ≡ suc (d + n) = omega arith in e)
      ∙ horner-word-more (d + n) b t (λ j l. h j (omega arith)) ∙ horner-word-longer d n b t h

  -- the coefficients from t on are all that count
  horner-word-rest : (n : ℕ) (b : ℕ → ℕ) (t : ℕ) → ((j : ℕ) → n ≤ j → b j ≡ 0) → horner_word p c (n - t) b t ≡ horner_word p c n b t
  horner-word-rest n b t h =
      sym (horner-word-longer (n - (n - t)) (n - t) b t (λ j l. h j (omega arith)))
      ∙ ap (λ k. horner_word p c k b t) (let e : n - (n - t) + (n - t) ≡ n = omega arith in e)

  pub horner-words-at : (e : List ℕ) (t : ℕ) → word (horner_words p c e) t ≡ horner_word p c (length e) (word e) t
  unfolding horner_words
  horner-words-at e t =
      let f = horner_at p c e in
      ⊎_elim
      (λ (l : t < length e). word-tabulate (length e) f t l)
      (λ (l : length e ≤ t).
      get_or-eq_default (tabulate (length e) f) 0 (omega (arith, length-tabulate (length e) f)) ∙ sym (horner-word-none p c (word e) t)
      ∙ ap (λ k. horner_word p c k (word e) t) (let z : 0 ≡ length e - t = omega arith in z))
      (lt-or-ge t (length e))
      ∙ horner-word-rest (length e) (word e) t (λ j l. get_or-eq_default e 0 l)

  pub line-words-at : (s : List ℕ) (j : ℕ) → word (line_times p c s) j ≡ line_at p c s j
  unfolding line_times
  line-words-at s j =
      ⊎_elim
      (λ (l : j < length s). word-tabulate (length s) (line_at p c s) j l)
      (λ (l : length s ≤ j).
      get_or-eq_default (tabulate (length s) (line_at p c s)) 0 (omega (arith, length-tabulate (length s) (line_at p c s)))
      ∙ sym (mod-eq_of_lt pos) ∙ ap (λ x. x % p) (let z : 0 ≡ 0 + (p - c) * 0 = omega arith in z)
      ∙ ap₂ (λ x y. (x + (p - c) * y) % p) (sym (get_or-eq_default s 0 l)) (sym (get_or-eq_default s 0 (let g : length s ≤ j + 1 = omega arith in g))))
      (lt-or-ge j (length s))

-- up to multiples of p
pub less-words-at : (p : ℕ) → zero < p → (d : ℕ) (a e : List ℕ) → length a ≤ length e → (j : ℕ) → word (less_multiple p d a e) j % p ≡ less_at p d a e j % p
unfolding less_multiple
less-words-at p pos d a e h j =
    let s = tabulate (length a) (less_at p d a e) in
    let n = length-tabulate (length a) (less_at p d a e) in
    ⊎_elim
    (λ (l : j < length a). ap (λ x. x % p) (get_or-append s (drop (length s) e) 0 j (omega arith) ∙ word-tabulate (length a) (less_at p d a e) j l))
    (λ (l : length a ≤ j).
    let z : d * word a j ≡ 0 = ap (λ x. d * x) (get_or-eq_default a 0 l) ∙ omega arith in
    ap (λ x. x % p) (over-past s e j (omega arith)) ∙ sym (add-mod_right (word e j) p) ∙ ap (λ x. (word e j + x) % p) (sym (sub-zero p))
    ∙ ap (λ x. (word e j + (p - x)) % p) (sym (ap (λ x. x % p) z ∙ mod-eq_of_lt pos)) ∙ sym (mod-mod _ p))
    (lt-or-ge j (length a))

-- row j of what `gather` writes
abbrev pub gather_at : (p : ℕ) (f low : List ℕ) (m : ℕ) (high : List ℕ) (k n t : ℕ) → ℕ → ℕ
gather_at p f low m high k n t j = (word f (j * n + t) + (p - middle_sum (rows_of low n m) (rows_of high n k) j t % p)) % p

-- zeros, and then the first word
pub first-only-set : (x n : ℕ) → 1 ≤ n → set (tabulate n (λ _. 0)) 0 x ≡ tabulate n (first_only x)
first-only-set x n h =
    let long : length (set zeros 0 x) ≡ n = length-set zeros 0 x ∙ length-tabulate n _ in
    ext_get_or 0 _ _ (long ∙ sym (length-tabulate n _)) (λ k l. at k (omega arith) ∙ sym (word-tabulate n (first_only x) k (omega arith)))
  where
    zeros : List ℕ
    zeros = tabulate n (λ _. 0)

    at : (k : ℕ) → k < n → word (set zeros 0 x) k ≡ first_only x k
    at zero l = get_or-set_same zeros 0 x 0 (omega (arith, length-tabulate n (λ _. 0)))
    at (suc k) l = get_or-set_other zeros 0 (suc k) x 0 (λ (e : suc k ≡ 0). omega arith) ∙ word-tabulate n (λ _. 0) (suc k) l

-- the words of a list, tabulated
pub tabulate-words : (s : List ℕ) → tabulate (length s) (word s) ≡ s
tabulate-words s =
    ext_get_or 0 (tabulate (length s) (word s)) s (length-tabulate (length s) (word s))
    (λ i l. word-tabulate (length s) (word s) i (omega (arith, length-tabulate (length s) (word s))))

-- a row of n words among others, and 0 past it
pub fitted-row : (f : List ℕ) (j n w : ℕ) → j * n + n ≤ length f → tabulate w (word (take (j * n + n - j * n) (drop (j * n) f))) ≡ tabulate w (up_to n (λ t. word f (j * n + t)))
fitted-row f j n w fits =
    let row = take (j * n + n - j * n) (drop (j * n) f) in
    tabulate-ext w (word row) _ (λ t _.
    ⊎_elim
    (λ (l : t < n). get_or-take (j * n + n - j * n) (drop (j * n) f) t 0 (omega arith) ∙ get_or-drop (j * n) f t 0 ∙ sym (up-low n (λ t. word f (j * n + t)) t l))
    (λ (g : n ≤ t). get_or-eq_default row 0 (omega (arith, length_part f (j * n) n fits)) ∙ sym (up-high n (λ t. word f (j * n + t)) t g))
    (lt-or-ge t n))
