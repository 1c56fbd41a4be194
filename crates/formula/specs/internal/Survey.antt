-- Readable, and how deep: what one pass along the text finds without building the formula.
--   by_mode m ..      one thing for each state
--   at, failed        a state of the scan without its formulas: which state, digits, value (256 stands for all above 255), open brackets; and the last state
--   capped v          v, or 256
--   height κ          the brackets that are open
--   glance st         the state st so
--   whole g           a number or a power may end here
--   begins g          a sum begins here
--   glance_next g k    the next state
--   blank_next, digit_next, letter_next, sign_next, star_next, caret_next, open_next, close_next   the same after a byte of one kind
--   is_read r          it is a formula
--   deepest d m s     the most brackets that are open at once along s, or m, where d are open before it
--   Deeper b d m r    the same, one byte on
--   not_read, too_deep   refusals 17 and 18
--   survey_of s        whether the text s can be read, and is not too deep
--   survey_at s at     the same from a place on
-- Assumes nothing.
use Rattle.std.specs.Prelude.{◌≡◌, Bool, true, false, ◌||◌, List, [], ◌∷◌, ℕ, suc, ◌+◌, ◌-◌, ◌*◌, ◌≤◌, max, ltb, leb, length, drop}
use Rattle.numbers.specs.Words.{choose}
use Rattle.formula.specs.Formula.{Reading, reads, unreadable}
use Rattle.formula.specs.internal.Scan.{kind_of, by_kind, Stack, bottom, within, State, lead, operand, in_number, after, caret, in_power, done, dead, scan}
use Rattle.formula.specs.Limits.{longest_text, deepest_brackets}
use Rattle.formula.specs.declared.Kind.{Kind}
use Rattle.formula.specs.declared.survey.Mode.{Mode}
use Rattle.formula.specs.declared.survey.Mode.TheVariants.{Begin, Want, Number, After, Caret, Power, Done, Stuck}
use Rattle.formula.specs.declared.survey.Glance.{Glance}
use Rattle.formula.specs.declared.survey.Depth.{Depth}
use Rattle.numbers.specs.Refusals.{Verdict, Pass, Refuse, refusal}

abbrev pub by_mode : {A : Type 0} → Mode → (b w n a c p d s : A) → A
by_mode Begin b w n a c p d s = b
by_mode Want b w n a c p d s = w
by_mode Number b w n a c p d s = n
by_mode After b w n a c p d s = a
by_mode Caret b w n a c p d s = c
by_mode Power b w n a c p d s = p
by_mode Done b w n a c p d s = d
by_mode Stuck b w n a c p d s = s

abbrev pub at : Mode → (digits value depth : ℕ) → Glance
at m d v h = record { mode = m; digits = d; value = v; depth = h }

abbrev pub failed : Glance
failed = at Stuck 0 0 0

abbrev pub capped : ℕ → ℕ
capped v = choose (leb v 255) v 256

unfoldable pub height : Stack → ℕ
height bottom = 0
height (within u c κ) = suc (height κ)

unfoldable pub glance : State → Glance
glance (lead κ) = at Begin 0 0 (height κ)
glance (operand u c κ) = at Want 0 0 (height κ)
glance (in_number j v u c κ) = at Number j 0 (height κ)
glance (after e u c κ) = at After 0 0 (height κ)
glance (caret e u c κ) = at Caret 0 0 (height κ)
glance (in_power j v e u c κ) = at Power j (capped v) (height κ)
glance (done t c κ) = at Done 0 0 (height κ)
glance dead = failed

-- a power or a number may end here
abbrev pub whole : Glance → Bool
whole g = by_mode g.mode false false true true false (leb g.value 255) true false

-- a sum begins
abbrev pub begins : Glance → Bool
begins g = by_mode g.mode true false false false false false false false

abbrev pub blank_next : Glance → Glance
blank_next g = by_mode g.mode g g (at After 0 0 g.depth) g g (choose (leb g.value 255) (at Done 0 0 g.depth) failed) g g

abbrev pub digit_next : Glance → ℕ → Glance
digit_next g d =
    by_mode g.mode (at Number 1 0 g.depth) (at Number 1 0 g.depth)
    (choose (ltb g.digits 9) (at Number (g.digits + 1) 0 g.depth) failed) failed (at Power 1 (capped d) g.depth)
    (choose (ltb g.digits 9) (at Power (g.digits + 1) (capped (g.value * 10 + d)) g.depth) failed) failed failed

abbrev pub letter_next : Glance → Glance
letter_next g = by_mode g.mode (at After 0 0 g.depth) (at After 0 0 g.depth) failed failed failed failed failed failed

abbrev pub sign_next : Glance → Glance
sign_next g = choose (begins g || whole g) (at Want 0 0 g.depth) failed

abbrev pub star_next : Glance → Glance
star_next g = choose (whole g) (at Want 0 0 g.depth) failed

abbrev pub caret_next : Glance → Glance
caret_next g = by_mode g.mode failed failed (at Caret 0 0 g.depth) (at Caret 0 0 g.depth) failed failed failed failed

abbrev pub open_next : Glance → Glance
open_next g = by_mode g.mode (at Begin 0 0 (g.depth + 1)) (at Begin 0 0 (g.depth + 1)) failed failed failed failed failed failed

abbrev pub close_next : Glance → Glance
close_next g = choose (whole g) (choose (ltb 0 g.depth) (at After 0 0 (g.depth - 1)) failed) failed

abbrev pub glance_next : Glance → Kind → Glance
glance_next g k =
    by_kind k (blank_next g) (digit_next g) (letter_next g) (letter_next g) (sign_next g) (sign_next g) (star_next g) (caret_next g) (open_next g) (close_next g) failed

abbrev pub is_read : Reading → Bool
is_read (reads f) = true
is_read unreadable = false

unfoldable pub deepest : (d m : ℕ) → List ℕ → ℕ
deepest d m [] = m
deepest d m (b ∷ s) =
    by_kind (kind_of b) (deepest d m s) (λ v. deepest d m s) (deepest d m s) (deepest d m s) (deepest d m s) (deepest d m s) (deepest d m s) (deepest d m s)
    (deepest (suc d) (max m (suc d)) s) (deepest (d - 1) m s) (deepest d m s)

-- one byte more
pub record Deeper (b d m : ℕ) (r : Depth) : Type 0 where
  pub goes : (s : List ℕ) → deepest d m (b ∷ s) ≡ deepest r.level r.most s
  pub near : r.level ≤ d + 1

-- refusals 17 and 18
abbrev pub not_read : Verdict
not_read = Refuse (refusal 17 0)

abbrev pub too_deep : Verdict
too_deep = Refuse (refusal 18 0)

unfoldable pub survey_of : List ℕ → Verdict
survey_of s =
    choose (ltb longest_text (length s)) not_read (
    choose (is_read (scan (lead bottom) s)) (choose (ltb deepest_brackets (deepest 0 0 s)) too_deep Pass) not_read)

unfoldable pub survey_at : List ℕ → ℕ → Verdict
survey_at s at = choose (ltb (length s) at) not_read (survey_of (drop at s))
