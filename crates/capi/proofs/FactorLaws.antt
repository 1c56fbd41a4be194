-- Reading a factor: what its checks leave, and four words written one by one.
--   room-first    an example where 10 and 13 both apply: reading is refused by 10
--   factor-pass   checks 10, 13 and 16 pass exactly for a factor of a sound sheet and an output of 4 words or more
--   factor-put    four stores are the factor's words in place of the first four
-- Assumes nothing.
use Prim.Native.Nat.{ℕ, ◌≤◌, ◌<◌}
use native.Mathlib.Omega.{arith}
use mathlib.Core.Path.{◌≡◌, refl, ◌∙◌}
use mathlib.Core.List.{List, [], ◌∷◌}
use borrow.Author.Tests.{ltb-false}
use lib.ListN.{length, set}
use Rattle.numbers.specs.Words.{over, all}
use Rattle.numbers.specs.Refusals.{judge, refusal, room_check, Pass, Refuse}
use Rattle.numbers.proofs.RefusalsLaws.{pass-check}
use Rattle.layout.specs.Layout.{count, root, power, factor_from, factor_size}
use Rattle.sheet.specs.Sheet.{Sound}
use Rattle.sheet.specs.Test.{prime_test, header_test, sound_test}
use Rattle.sheet.proofs.ReadingLaws.{read-pass}
use Rattle.capi.specs.Factor.{factor_checks, factor_words}

room-first : judge (factor_checks [] 0 0) ≡ Refuse (refusal 10 4)
unfolding judge sound_test header_test prime_test all
room-first = refl

pub factor-pass : (s : List ℕ) (i room : ℕ) → judge (factor_checks s i room) ≡ Pass → Sound s × (i < count s) × (4 ≤ room)
factor-pass s i room e =
    let a = pass-check (room_check room 4) _ e in
    let (sound, there) = read-pass s i a.1 in
    (sound, there, ltb-false room 4 a.0)

put_four : (a b c d : ℕ) (s : List ℕ) → 4 ≤ length s → set (set (set (set s 0 a) 1 b) 2 c) 3 d ≡ over (a ∷ b ∷ c ∷ d ∷ []) s
put_four a b c d [] l = absurd (let z : ⊥ = omega arith in z)
put_four a b c d (x ∷ []) l = absurd (let z : ⊥ = omega arith in z)
put_four a b c d (x ∷ y ∷ []) l = absurd (let z : ⊥ = omega arith in z)
put_four a b c d (x ∷ y ∷ z ∷ []) l = absurd (let z : ⊥ = omega arith in z)
put_four a b c d (x ∷ y ∷ z ∷ w ∷ s) l = refl

-- and they are the factor's, by what was read
pub factor-put : (s : List ℕ) (i a b c d : ℕ) (old : List ℕ) → 4 ≤ length old → a ≡ root s i → b ≡ power s i → c ≡ factor_from s i → d ≡ factor_size s i
    → set (set (set (set old 0 a) 1 b) 2 c) 3 d ≡ over (factor_words s i) old
factor-put s i a b c d old l e f g h = put_four a b c d old l ∙ rw (e, f, g, h)
