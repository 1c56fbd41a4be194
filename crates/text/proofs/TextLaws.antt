-- Laws of putting text into a buffer: nothing, one text after another; and of texts that a loop puts piece by piece.
-- Assumes nothing.
use Prim.Native.Nat.{ℕ, ◌+◌, ◌*◌, ◌≤◌, ◌<◌}
use native.Mathlib.Nat.{add-zero}
use native.Mathlib.Numerals.{add-one}
use native.Mathlib.Omega.{arith}
use mathlib.Core.Path.{◌≡◌, refl, sym, ap, subst, ◌∙◌}
use mathlib.Core.List.{List, [], ◌∷◌, ◌++◌, append_assoc, append-nil}
use lib.ListN.{length, take, drop, length-append, take-append-drop}
use lib.Seq.{take_at, drop_at, drop-drop, take-suc, length-take-le}
use Rattle.numbers.specs.Words.{word}
use Rattle.text.specs.declared.Profile.{Profile}
use Rattle.text.specs.internal.Putting.{Puts}
use Rattle.text.specs.Text.{bytes, number_text, more_numbers, join_to}

-- nothing yet
pub puts_none : (at : ℕ) (old : List ℕ) → at ≤ length old → Puts 0 [] at old at old
puts_none at old h = record {
  answers = omega arith;
  leaves = sym (rw add-zero (take-append-drop at old));
  long = refl;
  fits = omega arith;
  within = omega arith;
}

-- one text, and another after it
pub puts_then : {m n at a b : ℕ} {x y old mid new : List ℕ} → Puts m x at old a mid → Puts n y a mid b new → Puts (m + n) (x ++ y) at old b new
puts_then {m} {n} {at} {a} {b} {x} {y} {old} {mid} {new} f g =
    let l : length (take at old) ≡ at = length-take-le at old (omega (arith, f.fits)) in
    let k : length (take at old ++ x) ≡ a = length-append (take at old) x ∙ omega (arith, f.answers) in
    let e : mid ≡ (take at old ++ x) ++ drop (at + length x) old = f.leaves ∙ sym (append_assoc (take at old) x _) in
    let t : take a mid ≡ take at old ++ x = ap (take a) e ∙ take_at (take at old ++ x) (drop (at + length x) old) a k in
    let q : at + length x + length y ≡ at + length (x ++ y) = simp length-append (omega arith) in
    let d : drop (a + length y) mid ≡ drop (at + length (x ++ y)) old =
    sym (drop-drop (length y) a mid) ∙ ap (λ (s : List ℕ). drop (length y) (drop a s)) e
    ∙ ap (drop (length y)) (drop_at (take at old ++ x) (drop (at + length x) old) a k)
    ∙ drop-drop (length y) (at + length x) old ∙ ap (λ (i : ℕ). drop i old) q in
    record {
      answers = g.answers ∙ simp length-append (omega (arith, f.answers));
      leaves = g.leaves ∙ rw (t, d) (append_assoc (take at old) x _ ∙ ap (λ (s : List ℕ). take at old ++ s) (sym (append_assoc x y _)));
      long = g.long ∙ f.long;
      fits = simp length-append (omega (arith, f.answers, g.fits, f.long));
      within = simp length-append (omega (arith, f.within, g.within));
    }

-- the same text, and room enough for it
pub puts-within : {m at a : ℕ} {x old new : List ℕ} (n : ℕ) (y : List ℕ) → Puts m x at old a new → x ≡ y → length y ≤ n → Puts n y at old a new
puts-within {m} {at} {a} {x} {old} {new} n y f e h =
    let g : Puts m y at old a new = subst (λ (s : List ℕ). Puts m s at old a new) e f in
    record { answers = g.answers; leaves = g.leaves; long = g.long; fits = g.fits; within = h }

pub puts-as : {m at a : ℕ} {x old new : List ℕ} (n : ℕ) (y : List ℕ) → Puts m x at old a new → x ≡ y → m ≤ n → Puts n y at old a new
puts-as n y f e h = puts-within n y f e (omega (arith, f.within, ap length e))

-- a loop that puts entries: at its start, one entry further, and at its end
module _ (profile : Profile) (p : ℕ) where
  -- the entries up to the next one
  more-next : (s : List ℕ) (y : ℕ) → more_numbers profile p (s ++ (y ∷ [])) ≡ more_numbers profile p s ++ (bytes " " ++ number_text profile p y)
  unfolding more_numbers
  more-next [] y = ap (λ (t : List ℕ). bytes " " ++ t) (append-nil (number_text profile p y))
  more-next (x ∷ s) y =
      ap (λ (t : List ℕ). bytes " " ++ t)
      (ap (λ t. number_text profile p x ++ t) (more-next s y) ∙ sym (append_assoc (number_text profile p x) (more_numbers profile p s) _))

  pub more-start : (s : List ℕ) (at : ℕ) (old : List ℕ) → at ≤ length old → Puts (11 * 0) (more_numbers profile p (take 0 s)) at old at old
  unfolding more_numbers
  more-start s at old h = puts_none at old h

  pub more-on : (s : List ℕ) (i at : ℕ) {place mid next : ℕ} {old out half new : List ℕ} → i < length s → Puts (11 * i) (more_numbers profile p (take i s)) at old place out
      → Puts 1 (bytes " ") place out mid half → Puts 10 (number_text profile p (word s i)) mid half next new
      → Puts (11 * (i + 1)) (more_numbers profile p (take (i + 1) s)) at old next new
  more-on s i at l f b g =
      puts-as (11 * (i + 1)) (more_numbers profile p (take (i + 1) s)) (puts_then f (puts_then b g))
      (sym (rw add-one (ap (more_numbers profile p) (take-suc s i 0 l) ∙ more-next (take i s) (word s i)))) (omega arith)

pub join-next : (n : ℕ) (f : ℕ → List ℕ) → join_to (n + 1) f ≡ join_to n f ++ f n
unfolding join_to
join-next n f = rw add-one
