-- Lists of lists that name each thing of a kind once, and sums over them.
--   Every P ls         P holds of every list in ls
--   bit b              1 where the test b holds, else 0
--   sum_over ls h       the sum of h over the lists in ls
--   sum_over-add, sum_over-scale, sum_over-zeros, sum_over-swap, sum_over-sum_to, sum_over-every, sum_over-heads
--   Enumerates ls P    the lists in ls are P, whatever is P stands there, and stands there once
--   nothing, alone, by-head   no list at all, the empty list alone, and all lists by their first words and what may follow each of these
--   none, refuted      a sum of zeros; a test that no list in ls passes
-- Assumes nothing.
use Prim.Native.Nat.{ℕ, zero, suc, ◌+◌, ◌*◌, ◌≤◌, ◌<◌}
use native.Mathlib.Nat.{mul-zero, mul-add, add_assoc}
use native.Mathlib.Omega.{arith}
use mathlib.Core.Path.{◌≡◌, refl, sym, ◌∙◌, ap, ap₂, fun_ext}
use mathlib.Core.Logic.{◌≢◌}
use mathlib.Core.Bool.{Bool, true, false}
use mathlib.Core.List.{List, [], ◌∷◌, ◌++◌, map}
use lib.ListN.{length}
use Rattle.algebra.specs.Sums.{sum_to}
use Rattle.algebra.proofs.SumsLaws.{sum_to-zero, sum_to-suc, sum_to-ext, sum_to-at, sum_to-single}
use Rattle.numbers.specs.Words.{word, choose, each}

abbrev pub Every : (List ℕ → Type 0) → List (List ℕ) → Type 0
Every P [] = Unit {0}
Every P (l ∷ ls) = P l × Every P ls

every_append : (P : List ℕ → Type 0) (ls ms : List (List ℕ)) → Every P ls → Every P ms → Every P (ls ++ ms)
every_append P [] ms h k = k
every_append P (l ∷ ls) ms h k = (h.0, every_append P ls ms h.1 k)

every_map : (P Q : List ℕ → Type 0) (f : List ℕ → List ℕ) (ls : List (List ℕ)) → ((l : List ℕ) → Q l → P (f l)) → Every Q ls → Every P (map f ls)
every_map P Q f [] k h = tt
every_map P Q f (l ∷ ls) k h = (k l h.0, every_map P Q f ls k h.1)

every-each : (P : List ℕ → Type 0) (n : ℕ) (f : ℕ → List (List ℕ)) → ((i : ℕ) → i < n → Every P (f i)) → Every P (each n f)
unfolding each
every-each P zero f h = tt
every-each P (suc n) f h = every_append P (each n f) (f n) (every-each P n f (λ i l. h i (omega arith))) (h n (omega arith))

abbrev pub bit : Bool → ℕ
bit b = choose b 1 0

unfoldable pub sum_over : List (List ℕ) → (List ℕ → ℕ) → ℕ
sum_over [] h = 0
sum_over (l ∷ ls) h = h l + sum_over ls h

sum_over-append : (ls ms : List (List ℕ)) (h : List ℕ → ℕ) → sum_over (ls ++ ms) h ≡ sum_over ls h + sum_over ms h
unfolding sum_over
sum_over-append [] ms h = omega arith
sum_over-append (l ∷ ls) ms h = ap (λ x. h l + x) (sum_over-append ls ms h) ∙ sym (add_assoc (h l) (sum_over ls h) (sum_over ms h))

sum_over-map : (f : List ℕ → List ℕ) (ls : List (List ℕ)) (h : List ℕ → ℕ) → sum_over (map f ls) h ≡ sum_over ls (λ l. h (f l))
unfolding sum_over
sum_over-map f [] h = refl
sum_over-map f (l ∷ ls) h = ap (λ x. h (f l) + x) (sum_over-map f ls h)

sum_over-each : (n : ℕ) (f : ℕ → List (List ℕ)) (h : List ℕ → ℕ) → sum_over (each n f) h ≡ sum_to n (λ i. sum_over (f i) h)
unfolding each sum_to sum_over
sum_over-each zero f h = refl
sum_over-each (suc n) f h = sum_over-append (each n f) (f n) h ∙ ap (λ x. x + sum_over (f n) h) (sum_over-each n f h)

pub sum_over-add : (ls : List (List ℕ)) (g h : List ℕ → ℕ) → sum_over ls (λ l. g l + h l) ≡ sum_over ls g + sum_over ls h
unfolding sum_over
sum_over-add [] g h = refl
sum_over-add (l ∷ ls) g h = let z = sum_over-add ls g h in omega arith

pub sum_over-scale : (k : ℕ) (ls : List (List ℕ)) (h : List ℕ → ℕ) → sum_over ls (λ l. k * h l) ≡ k * sum_over ls h
unfolding sum_over
sum_over-scale k [] h = sym (mul-zero k)
sum_over-scale k (l ∷ ls) h = ap (λ x. k * h l + x) (sum_over-scale k ls h) ∙ sym (mul-add k (h l) (sum_over ls h))

pub sum_over-zeros : (ls : List (List ℕ)) → sum_over ls (λ _. 0) ≡ 0
unfolding sum_over
sum_over-zeros [] = refl
sum_over-zeros (l ∷ ls) = let z = sum_over-zeros ls in omega arith

pub sum_over-swap : (ls ms : List (List ℕ)) (h : List ℕ → List ℕ → ℕ) → sum_over ls (λ l. sum_over ms (h l)) ≡ sum_over ms (λ m. sum_over ls (λ l. h l m))
unfolding sum_over
sum_over-swap [] ms h = sym (sum_over-zeros ms)
sum_over-swap (l ∷ ls) ms h = ap (λ x. sum_over ms (h l) + x) (sum_over-swap ls ms h) ∙ sym (sum_over-add ms (h l) (λ m. sum_over ls (λ l. h l m)))

-- a sum over lists, and one over numbers, exchanged
pub sum_over-sum_to : (n : ℕ) (ls : List (List ℕ)) (h : ℕ → List ℕ → ℕ) → sum_to n (λ i. sum_over ls (h i)) ≡ sum_over ls (λ l. sum_to n (λ i. h i l))
sum_over-sum_to zero ls h = sum_to-zero _ ∙ sym (ap (sum_over ls) (fun_ext (λ l. sum_to-zero (λ i. h i l))) ∙ sum_over-zeros ls)
sum_over-sum_to (suc n) ls h =
    sum_to-suc n (λ i. sum_over ls (h i)) ∙ ap (λ x. x + sum_over ls (h n)) (sum_over-sum_to n ls h)
    ∙ sym (ap (sum_over ls) (fun_ext (λ l. sum_to-suc n (λ i. h i l))) ∙ sum_over-add ls (λ l. sum_to n (λ i. h i l)) (h n))

-- a sum looks only at what its lists are
pub sum_over-every : (P : List ℕ → Type 0) (ls : List (List ℕ)) (g h : List ℕ → ℕ) → Every P ls → ((l : List ℕ) → P l → g l ≡ h l) → sum_over ls g ≡ sum_over ls h
unfolding sum_over
sum_over-every P [] g h e s = refl
sum_over-every P (l ∷ ls) g h e s = ap₂ ◌+◌ (s l e.0) (sum_over-every P ls g h e.1 s)

pub record Enumerates (ls : List (List ℕ)) (P : List ℕ → Type 0) : Type 0 where
  pub every : Every P ls
  pub least : (h : List ℕ → ℕ) (x : List ℕ) → P x → h x ≤ sum_over ls h
  pub single : (h : List ℕ → ℕ) (x : List ℕ) → P x → ((y : List ℕ) → P y → y ≢ x → h y ≡ 0) → sum_over ls h ≡ h x

pub nothing : (P : List ℕ → Type 0) → ((x : List ℕ) → P x → ⊥) → Enumerates [] P
nothing P n = record { every = tt; least = λ h x px. absurd (n x px); single = λ h x px z. absurd (n x px) }

pub alone : (P : List ℕ → Type 0) → P [] → ((x : List ℕ) → P x → length x ≡ 0) → Enumerates ([] ∷ []) P
unfolding sum_over
alone P p none = record {
  every = (p, tt);
  least = λ h x px. let e = ap h (empty x (none x px)) in omega arith;
  single = λ h x px z. let e = ap h (empty x (none x px)) in omega arith;
}
  where
    empty : (x : List ℕ) → length x ≡ 0 → x ≡ []
    empty [] e = refl
    empty (y ∷ x) e = absurd (let z : ⊥ = omega arith in z)

module _ {ls : List (List ℕ)} {P : List ℕ → Type 0} (E : Enumerates ls P) where
  pub none : (h : List ℕ → ℕ) → ((l : List ℕ) → P l → h l ≡ 0) → sum_over ls h ≡ 0
  none h z = sum_over-every P ls h (λ _. 0) E.every z ∙ sum_over-zeros ls

  pub refuted : (test : List ℕ → Bool) → Every (λ l. test l ≡ false) ls → (x : List ℕ) → P x → test x ≡ false
  refuted test h x px =
      let z = sum_over-every (λ l. test l ≡ false) ls (λ l. bit (test l)) (λ _. 0) h (λ l e. ap bit e) ∙ sum_over-zeros ls in
      let y = E.least (λ l. bit (test l)) x px in
      at (test x) (omega arith)
    where
      at : (b : Bool) → bit b ≤ 0 → b ≡ false
      at true l = absurd (let z : ⊥ = omega arith in z)
      at false l = refl

-- sums by the first words
pub sum_over-heads : (n : ℕ) (a : ℕ → ℕ) (rest : ℕ → List (List ℕ)) (h : List ℕ → ℕ)
    → sum_over (each n (λ i. map (λ l. a i ∷ l) (rest i))) h ≡ sum_to n (λ i. sum_over (rest i) (λ l. h (a i ∷ l)))
sum_over-heads n a rest h = sum_over-each n (λ i. map (λ l. a i ∷ l) (rest i)) h ∙ sum_to-ext n (λ i _. sum_over-map (λ l. a i ∷ l) (rest i) h)

-- the lists by their first words, which are the a i, and what may follow each
module _ (n : ℕ) (a : ℕ → ℕ) (apart : (i j : ℕ) → a i ≡ a j → i ≡ j) (rest : ℕ → List (List ℕ)) (P : List ℕ → Type 0) (Q : ℕ → List ℕ → Type 0)
    (E : (i : ℕ) → i < n → Enumerates (rest i) (Q i)) (put : (i : ℕ) → i < n → (l : List ℕ) → Q i l → P (a i ∷ l))
    (parts : (x : List ℕ) → P x → (i : ℕ) × (l : List ℕ) × (i < n) × Q i l × (a i ∷ l ≡ x)) where
  abbrev after : (List ℕ → ℕ) → ℕ → ℕ
  after h i = sum_over (rest i) (λ l. h (a i ∷ l))

  pub by-head : Enumerates (each n (λ i. map (λ l. a i ∷ l) (rest i))) P
  by-head = record {
    every = every-each P n (λ i. map (λ l. a i ∷ l) (rest i)) (λ i u. every_map P (Q i) (λ l. a i ∷ l) (rest i) (put i u) (E i u).every);
    least = λ h x px.
        let (i, l, u, q, e) = parts x px in
        let y = (E i u).least (λ l. h (a i ∷ l)) l q in
        let z = sum_to-at n i (after h) u in
        omega (arith, sum_over-heads n a rest h, ap h e);
    single = λ h x px other.
        let (i, l, u, q, e) = parts x px in
        sum_over-heads n a rest h
        ∙ sum_to-single n i (after h) u
        (λ j v ne. none (E j v) (λ m. h (a j ∷ m)) (λ m qm. other (a j ∷ m) (put j v m qm) (λ z. ne (apart j i (ap (λ s. word s 0) (z ∙ sym e))))))
        ∙ (E i u).single (λ m. h (a i ∷ m)) l q (λ m qm ne. other (a i ∷ m) (put i u m qm) (λ z. ne (let w : a i ∷ m ≡ a i ∷ l = z ∙ sym e in cc)))
        ∙ ap h e;
  }
