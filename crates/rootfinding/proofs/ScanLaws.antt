-- Trying every number.
--   root-yes, root-no   a value that is 0, and one that is not
--   keep-yes, keep-no   what `keep` answers and leaves
--   Scanning ..         the loop's invariant: the roots below c are the first n words
--   scanning-none, scanning-room, scanning-next
-- Assumes nothing.
use mathlib.Core.Path.{◌≡◌, refl, sym, ap, subst, ◌∙◌}
use mathlib.Core.Bool.{Bool, true, false}
use mathlib.Core.List.{List, [], ◌∷◌, ◌++◌, append-nil}
use Prim.Native.Nat.{ℕ, ◌+◌, ◌≤◌, ◌<◌}
use native.Mathlib.Numerals.{add-one}
use native.Mathlib.Omega.{arith}
use borrow.Author.Tests.{eq-eqb, ne_eqb}
use lib.ListN.{length, set, length-append}
use Rattle.numbers.specs.Words.{word, choose, keep, all_where}
use Rattle.numbers.specs.Limits.{largest_degree}
use Rattle.numbers.proofs.WordsLaws.{Writing, writing-none, writing-store}
use Rattle.numbers.proofs.ListedLaws.{where-last}
use Rattle.columns.specs.internal.Column.{horner_word}
use Rattle.rootfinding.specs.Roots.{is_root}
use Rattle.rootfinding.specs.internal.Finding.{Monic, Kept}
use Rattle.rootfinding.proofs.RootsLaws.{roots_below, value-horner, roots_few}

module _ (p : ℕ) (e : List ℕ) (c v : ℕ) (is : v ≡ horner_word p c (length e) (word e) 0) where
  pub root-yes : v ≡ 0 → is_root p e c ≡ true
  root-yes z = eq-eqb _ 0 (value-horner p c e ∙ sym is ∙ z)

  pub root-no : (v ≡ 0 → ⊥) → is_root p e c ≡ false
  root-no n = ne_eqb _ 0 (λ z. n (is ∙ sym (value-horner p c e) ∙ z))

module _ (test : Bool) (c n : ℕ) (s : List ℕ) where
  pub keep-yes : test ≡ true → Kept test c n s (n + 1) (set s n c)
  keep-yes t = rw t (refl, refl)

  pub keep-no : test ≡ false → Kept test c n s n s
  keep-no t = rw t (omega arith, refl)

  writing-keep : (xs s₀ : List ℕ) → Writing xs s₀ s → length xs ≡ n → (test ≡ true → n < length s₀)
      → Writing (xs ++ keep test c []) s₀ (choose test (set s n c) s)
  writing-keep xs s₀ w q room = at test refl
    where
      at : (b : Bool) → test ≡ b → Writing (xs ++ keep b c []) s₀ (choose b (set s n c) s)
      at true e = writing-store xs s₀ s n c w q (room e)
      at false e = subst (λ l. Writing l s₀ s) (sym (append-nil xs)) w

pub record Scanning (p : ℕ) (e s : List ℕ) (c n : ℕ) (roots : List ℕ) : Type 0 where
  pub count : length (roots_below p e c) ≡ n
  pub writing : Writing (roots_below p e c) s roots

pub scanning-none : (p : ℕ) (e s : List ℕ) → Scanning p e s 0 0 s
unfolding all_where
scanning-none p e s = record { count = refl; writing = writing-none s }

module _ (p : ℕ) (e s : List ℕ) (monic : Monic p e) (long : length s ≡ largest_degree) (c n : ℕ) (roots : List ℕ) (h : Scanning p e s c n roots) where
  few : (k : ℕ) → k ≤ p → length (roots_below p e k) < length e
  few = roots_few monic.prime e (let z = monic.some in omega arith) monic.top

  next : roots_below p e (c + 1) ≡ roots_below p e c ++ keep (is_root p e c) c []
  next =
      ap (roots_below p e) (add-one c) ∙ where-last (is_root p e) 0 c
      ∙ ap (λ k. roots_below p e c ++ keep (is_root p e k) k []) (let z : 0 + c ≡ c = omega arith in z)

  pub scanning-room : c < p → is_root p e c ≡ true → n < length roots
  scanning-room l t =
      let z = few (c + 1) (omega arith) in
      let y = ap length (next ∙ ap (λ b. roots_below p e c ++ keep b c []) t) ∙ length-append (roots_below p e c) (c ∷ []) in
      omega (arith, h.count, monic.few, h.writing.long)

  pub scanning-next : c < p → (n' : ℕ) (roots' : List ℕ) → Kept (is_root p e c) c n roots n' roots' → Scanning p e s (c + 1) n' roots'
  scanning-next l n' roots' (a, b) = record {
    count = ap length next ∙ length-append (roots_below p e c) (keep (is_root p e c) c []) ∙ ap (λ k. k + length (keep (is_root p e c) c [])) h.count ∙ sym a;
    writing = rw (next, b)
        (writing-keep (is_root p e c) c n roots (roots_below p e c) s h.writing h.count (λ t. let z = scanning-room l t in omega (arith, h.writing.long)));
  }
