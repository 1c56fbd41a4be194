-- One pass along the text: a glance goes with its state, and decides whether the text is read.
-- Assumes nothing.
use mathlib.Core.Path.{◌≡◌, refl, sym, ap, ◌∙◌, subst}
use mathlib.Core.Bool.{Bool, true, false, ◌||◌}
use mathlib.Core.List.{List}
use mathlib.Core.Logic.{⊎_elim}
use Prim.Native.Nat.{ℕ, suc, ◌+◌, ◌-◌, ◌*◌, ◌≤◌, ◌<◌}
use native.Mathlib.Numerals.{add-one}
use native.Mathlib.Omega.{arith}
use borrow.Author.Tests.{lt-ltb, le-leb, lt-leb, ne_eqb}
use lib.Dec.{ltb, leb, eqb}
use lib.ListN.{length, get_or, drop}
use Rattle.numbers.specs.Words.{choose}
use Rattle.numbers.proofs.WordsLaws.{lt-or-ge}
use Rattle.formula.specs.Formula.{plus, minus, number, plain, raised, Sum, Reading, unreadable}
use Rattle.formula.specs.internal.Scan.{kind_at, fresh, up_to, joined, Stack, bottom, within, close_term, close_sum, State, lead, operand, in_number, after, caret, in_power, done, dead, closed, ended, step, finish, scan}
use Rattle.formula.specs.internal.Survey.{by_mode, at, failed, capped, height, glance, whole, begins, glance_next, is_read}
use Rattle.formula.specs.declared.Kind.{Kind}
use Rattle.formula.specs.declared.Kind.TheVariants.{Blank, Digit, LetterX, LetterY, Plus, Minus, Star, Caret, Open, Close, Other}
use Rattle.formula.specs.declared.survey.Mode.{Mode}
use Rattle.formula.specs.declared.survey.Mode.TheVariants as mode
use Rattle.formula.specs.declared.survey.Mode.TheVariants.{Begin, Want, Number, After, Power, Done, Stuck}
use Rattle.formula.specs.declared.survey.Glance.{Glance}
use Rattle.formula.proofs.PlaceLaws.{scan-byte, scan-end, is-inside, kind-inside}
use Rattle.formula.proofs.SoundLaws.{Is, kind-is}

pub chosen : {A : Type 0} (b : Bool) (x y : A) → b ≡ true → choose b x y ≡ x
chosen b x y e = rw e

pub passed_over : {A : Type 0} (b : Bool) (x y : A) → b ≡ false → choose b x y ≡ y
passed_over b x y e = rw e

-- 256 stands for all above 255
capped-next : (v d : ℕ) → capped (v * 10 + d) ≡ capped (capped v * 10 + d)
capped-next v d =
    ⊎_elim
    (λ (l : v < 256). ap (λ (x : ℕ). capped (x * 10 + d)) (sym (chosen (leb v 255) v 256 (le-leb v 255 (omega arith)))))
    (λ (l : 256 ≤ v).
    let e : capped v ≡ 256 = passed_over (leb v 255) v 256 (lt-leb v 255 (omega arith)) in
    passed_over (leb (v * 10 + d) 255) (v * 10 + d) 256 (lt-leb (v * 10 + d) 255 (omega arith))
    ∙ sym (ap (λ (x : ℕ). capped (x * 10 + d)) e ∙ passed_over (leb (256 * 10 + d) 255) (256 * 10 + d) 256 (lt-leb (256 * 10 + d) 255 (omega arith))))
    (lt-or-ge v 256)

capped_small : (v : ℕ) → leb (capped v) 255 ≡ leb v 255
capped_small v =
    ⊎_elim
    (λ (l : v < 256). ap (λ (x : ℕ). leb x 255) (chosen (leb v 255) v 256 (le-leb v 255 (omega arith))))
    (λ (l : 256 ≤ v). let f = lt-leb v 255 (omega arith) in ap (λ (x : ℕ). leb x 255) (passed_over (leb v 255) v 256 f) ∙ sym f)
    (lt-or-ge v 256)

-- a bracket closes
close-glance : (s : Sum) (κ : Stack) → glance (closed s κ) ≡ choose (ltb 0 (height κ)) (at After 0 0 (height κ - 1)) failed
unfolding glance height
close-glance s bottom = refl
close-glance s (within u c κ) =
    sym (chosen (ltb 0 (suc (height κ))) (at After 0 0 (suc (height κ) - 1)) failed (lt-ltb 0 (suc (height κ)) (omega arith)) ∙ ap (λ (x : ℕ). at After 0 0 x) (let e : suc (height κ) - 1 ≡ height κ = omega arith in e))

digits-glance : (b : Bool) (st : State) → glance (choose b st dead) ≡ choose b (glance st) failed
unfolding glance
digits-glance true st = refl
digits-glance false st = refl

both-failed : (b : Bool) → choose b failed failed ≡ failed
both-failed true = refl
both-failed false = refl

-- the glance goes with its state
pub glance-step : (st : State) (k : Kind) → glance (step st k) ≡ glance_next (glance st) k
unfolding glance step height
glance-step (lead κ) Blank = refl
glance-step (lead κ) (Digit d) = refl
glance-step (lead κ) LetterX = refl
glance-step (lead κ) LetterY = refl
glance-step (lead κ) Plus = refl
glance-step (lead κ) Minus = refl
glance-step (lead κ) Star = refl
glance-step (lead κ) Caret = refl
glance-step (lead κ) Open = ap (λ (x : ℕ). at Begin 0 0 x) (sym (add-one (height κ)))
glance-step (lead κ) Close = refl
glance-step (lead κ) Other = refl
glance-step (operand u c κ) Blank = refl
glance-step (operand u c κ) (Digit d) = refl
glance-step (operand u c κ) LetterX = refl
glance-step (operand u c κ) LetterY = refl
glance-step (operand u c κ) Plus = refl
glance-step (operand u c κ) Minus = refl
glance-step (operand u c κ) Star = refl
glance-step (operand u c κ) Caret = refl
glance-step (operand u c κ) Open = ap (λ (x : ℕ). at Begin 0 0 x) (sym (add-one (height κ)))
glance-step (operand u c κ) Close = refl
glance-step (operand u c κ) Other = refl
glance-step (in_number j v u c κ) Blank = refl
glance-step (in_number j v u c κ) (Digit d) = digits-glance (ltb j 9) (in_number (suc j) (v * 10 + d) u c κ) ∙ ap (λ (x : ℕ). choose (ltb j 9) (at Number x 0 (height κ)) failed) (sym (add-one j))
glance-step (in_number j v u c κ) LetterX = refl
glance-step (in_number j v u c κ) LetterY = refl
glance-step (in_number j v u c κ) Plus = refl
glance-step (in_number j v u c κ) Minus = refl
glance-step (in_number j v u c κ) Star = refl
glance-step (in_number j v u c κ) Caret = refl
glance-step (in_number j v u c κ) Open = refl
glance-step (in_number j v u c κ) Close = close-glance (close_sum c (close_term u (plain (number v)))) κ
glance-step (in_number j v u c κ) Other = refl
glance-step (after e u c κ) Blank = refl
glance-step (after e u c κ) (Digit d) = refl
glance-step (after e u c κ) LetterX = refl
glance-step (after e u c κ) LetterY = refl
glance-step (after e u c κ) Plus = refl
glance-step (after e u c κ) Minus = refl
glance-step (after e u c κ) Star = refl
glance-step (after e u c κ) Caret = refl
glance-step (after e u c κ) Open = refl
glance-step (after e u c κ) Close = close-glance (close_sum c (close_term u (plain e))) κ
glance-step (after e u c κ) Other = refl
glance-step (caret e u c κ) Blank = refl
glance-step (caret e u c κ) (Digit d) = refl
glance-step (caret e u c κ) LetterX = refl
glance-step (caret e u c κ) LetterY = refl
glance-step (caret e u c κ) Plus = refl
glance-step (caret e u c κ) Minus = refl
glance-step (caret e u c κ) Star = refl
glance-step (caret e u c κ) Caret = refl
glance-step (caret e u c κ) Open = refl
glance-step (caret e u c κ) Close = refl
glance-step (caret e u c κ) Other = refl
glance-step (in_power j v e u c κ) Blank = digits-glance (leb v 255) (done (close_term u (raised e v)) c κ) ∙ ap (λ (b : Bool). choose b (at Done 0 0 (height κ)) failed) (sym (capped_small v))
glance-step (in_power j v e u c κ) (Digit d) = digits-glance (ltb j 9) (in_power (suc j) (v * 10 + d) e u c κ) ∙ ap (λ (x : ℕ). choose (ltb j 9) (at Power x (capped (v * 10 + d)) (height κ)) failed) (sym (add-one j)) ∙ ap (λ (x : ℕ). choose (ltb j 9) (at Power (j + 1) x (height κ)) failed) (capped-next v d)
glance-step (in_power j v e u c κ) LetterX = digits-glance (leb v 255) dead ∙ both-failed (leb v 255)
glance-step (in_power j v e u c κ) LetterY = digits-glance (leb v 255) dead ∙ both-failed (leb v 255)
glance-step (in_power j v e u c κ) Plus = digits-glance (leb v 255) (operand fresh (joined (close_sum c (close_term u (raised e v))) plus) κ) ∙ ap (λ (b : Bool). choose b (at Want 0 0 (height κ)) failed) (sym (capped_small v))
glance-step (in_power j v e u c κ) Minus = digits-glance (leb v 255) (operand fresh (joined (close_sum c (close_term u (raised e v))) minus) κ) ∙ ap (λ (b : Bool). choose b (at Want 0 0 (height κ)) failed) (sym (capped_small v))
glance-step (in_power j v e u c κ) Star = digits-glance (leb v 255) (operand (up_to (close_term u (raised e v))) c κ) ∙ ap (λ (b : Bool). choose b (at Want 0 0 (height κ)) failed) (sym (capped_small v))
glance-step (in_power j v e u c κ) Caret = digits-glance (leb v 255) dead ∙ both-failed (leb v 255)
glance-step (in_power j v e u c κ) Open = digits-glance (leb v 255) dead ∙ both-failed (leb v 255)
glance-step (in_power j v e u c κ) Close = digits-glance (leb v 255) (closed (close_sum c (close_term u (raised e v))) κ) ∙ ap (λ (x : Glance). choose (leb v 255) x failed) (close-glance (close_sum c (close_term u (raised e v))) κ) ∙ ap (λ (b : Bool). choose b (choose (ltb 0 (height κ)) (at After 0 0 (height κ - 1)) failed) failed) (sym (capped_small v))
glance-step (in_power j v e u c κ) Other = digits-glance (leb v 255) dead ∙ both-failed (leb v 255)
glance-step (done t c κ) Blank = refl
glance-step (done t c κ) (Digit d) = refl
glance-step (done t c κ) LetterX = refl
glance-step (done t c κ) LetterY = refl
glance-step (done t c κ) Plus = refl
glance-step (done t c κ) Minus = refl
glance-step (done t c κ) Star = refl
glance-step (done t c κ) Caret = refl
glance-step (done t c κ) Open = refl
glance-step (done t c κ) Close = close-glance (close_sum c (t)) κ
glance-step (done t c κ) Other = refl
glance-step dead Blank = refl
glance-step dead (Digit d) = refl
glance-step dead LetterX = refl
glance-step dead LetterY = refl
glance-step dead Plus = refl
glance-step dead Minus = refl
glance-step dead Star = refl
glance-step dead Caret = refl
glance-step dead Open = refl
glance-step dead Close = refl
glance-step dead Other = refl

-- how far a glance can go in one step
pick-depth : (b : Bool) (x y : Glance) (m : ℕ) → x.depth ≤ m → y.depth ≤ m → (choose b x y).depth ≤ m
pick-depth true x y m h l = h
pick-depth false x y m h l = l

pick-mode : (q : Mode) (b w n a c p d s : Glance) (m : ℕ) → b.depth ≤ m → w.depth ≤ m → n.depth ≤ m → a.depth ≤ m → c.depth ≤ m → p.depth ≤ m → d.depth ≤ m → s.depth ≤ m
    → (by_mode q b w n a c p d s).depth ≤ m
pick-mode Begin b w n a c p d s m hb hw hn ha hc hp hd hs = hb
pick-mode Want b w n a c p d s m hb hw hn ha hc hp hd hs = hw
pick-mode Number b w n a c p d s m hb hw hn ha hc hp hd hs = hn
pick-mode After b w n a c p d s m hb hw hn ha hc hp hd hs = ha
pick-mode mode.Caret b w n a c p d s m hb hw hn ha hc hp hd hs = hc
pick-mode Power b w n a c p d s m hb hw hn ha hc hp hd hs = hp
pick-mode Done b w n a c p d s m hb hw hn ha hc hp hd hs = hd
pick-mode Stuck b w n a c p d s m hb hw hn ha hc hp hd hs = hs

pub next-depth : (g : Glance) (k : Kind) → (glance_next g k).depth ≤ g.depth + 1
next-depth g Blank =
    pick-mode g.mode _ _ _ _ _ _ _ _ _ (omega arith) (omega arith) (omega arith) (omega arith) (omega arith)
    (pick-depth (leb g.value 255) _ _ _ (omega arith) (omega arith)) (omega arith) (omega arith)
next-depth g (Digit d) =
    pick-mode g.mode _ _ _ _ _ _ _ _ _ (omega arith) (omega arith) (pick-depth (ltb g.digits 9) _ _ _ (omega arith) (omega arith)) (omega arith) (omega arith)
    (pick-depth (ltb g.digits 9) _ _ _ (omega arith) (omega arith)) (omega arith) (omega arith)
next-depth g LetterX = pick-mode g.mode _ _ _ _ _ _ _ _ _ (omega arith) (omega arith) (omega arith) (omega arith) (omega arith) (omega arith) (omega arith) (omega arith)
next-depth g LetterY = pick-mode g.mode _ _ _ _ _ _ _ _ _ (omega arith) (omega arith) (omega arith) (omega arith) (omega arith) (omega arith) (omega arith) (omega arith)
next-depth g Plus = pick-depth (begins g || whole g) _ _ _ (omega arith) (omega arith)
next-depth g Minus = pick-depth (begins g || whole g) _ _ _ (omega arith) (omega arith)
next-depth g Star = pick-depth (whole g) _ _ _ (omega arith) (omega arith)
next-depth g Caret = pick-mode g.mode _ _ _ _ _ _ _ _ _ (omega arith) (omega arith) (omega arith) (omega arith) (omega arith) (omega arith) (omega arith) (omega arith)
next-depth g Open = pick-mode g.mode _ _ _ _ _ _ _ _ _ (omega arith) (omega arith) (omega arith) (omega arith) (omega arith) (omega arith) (omega arith) (omega arith)
next-depth g Close = pick-depth (whole g) _ _ _ (pick-depth (ltb 0 g.depth) _ _ _ (omega arith) (omega arith)) (omega arith)
next-depth g Other = omega arith

capped_le : (v : ℕ) → capped v ≤ 256
capped_le v = ⊎_elim (λ (l : v < 256). (let e = chosen (leb v 255) v 256 (le-leb v 255 (omega arith)) in omega arith)) (λ (l : 256 ≤ v). (let e = passed_over (leb v 255) v 256 (lt-leb v 255 (omega arith)) in omega arith)) (lt-or-ge v 256)

pub glance-value : (st : State) → (glance st).value ≤ 256
unfolding glance
glance-value (lead κ) = omega arith
glance-value (operand u c κ) = omega arith
glance-value (in_number j v u c κ) = omega arith
glance-value (after e u c κ) = omega arith
glance-value (caret e u c κ) = omega arith
glance-value (in_power j v e u c κ) = capped_le v
glance-value (done t c κ) = omega arith
glance-value dead = omega arith

-- the end of the text
ended-read : (s : Sum) (κ : Stack) → is_read (ended s κ) ≡ eqb (height κ) 0
unfolding height
ended-read s bottom = refl
ended-read s (within u c κ) = sym (ne_eqb (suc (height κ)) 0 (λ e. let z : ⊥ = omega arith in z))

powers-read : (b : Bool) (r : Reading) → is_read (choose b r unreadable) ≡ choose b (is_read r) false
powers-read true r = refl
powers-read false r = refl

pub finish-read : (st : State) → is_read (finish st) ≡ choose (whole (glance st)) (eqb (glance st).depth 0) false
unfolding finish glance
finish-read (lead κ) = refl
finish-read (operand u c κ) = refl
finish-read (in_number j v u c κ) = ended-read _ κ
finish-read (after e u c κ) = ended-read _ κ
finish-read (caret e u c κ) = refl
finish-read (in_power j v e u c κ) =
    powers-read (leb v 255) _ ∙ ap (λ (x : Bool). choose (leb v 255) x false) (ended-read _ κ) ∙ ap (λ (b : Bool). choose b (eqb (height κ) 0) false) (sym (capped_small v))
finish-read (done t c κ) = ended-read _ κ
finish-read dead = refl

-- the pass so far
pub record Surveyed (text : List ℕ) (i : ℕ) (g : Glance) : Type 0 where
  pub st : State
  pub is : g ≡ glance st
  pub goes : scan (lead bottom) text ≡ scan st (drop i text)
  pub shallow : g.depth ≤ i

pub survey-none : (text : List ℕ) (g : Glance) → g ≡ at Begin 0 0 0 → Surveyed text 0 g
unfolding glance height
survey-none text g e = record { st = lead bottom; is = e; goes = refl; shallow = (let z = ap (λ (x : Glance). x.depth) e in omega arith) }

pub survey-next : (text : List ℕ) (i : ℕ) (g r : Glance) → Surveyed text i g → i < length text → r ≡ glance_next g (kind_at text i) → Surveyed text (i + 1) r
survey-next text i g r s l e = record {
  st = step s.st (kind_at text i);
  is = e ∙ ap (λ (x : Glance). glance_next x (kind_at text i)) s.is ∙ sym (glance-step s.st (kind_at text i));
  goes = s.goes ∙ scan-byte text i s.st l;
  shallow = (let z = next-depth g (kind_at text i) in let y = s.shallow in let x = ap (λ (x : Glance). x.depth) e in omega arith);
}

pub survey-value : (text : List ℕ) (i : ℕ) (g : Glance) → Surveyed text i g → g.value ≤ 256
survey-value text i g s = let z = glance-value s.st in let y = ap (λ (x : Glance). x.value) s.is in omega arith

pub survey-all : (text : List ℕ) (i : ℕ) (g : Glance) → Surveyed text i g → length text ≤ i → choose (whole g) (eqb g.depth 0) false ≡ is_read (scan (lead bottom) text)
survey-all text i g s l =
    sym (ap is_read (s.goes ∙ scan-end text i s.st l) ∙ finish-read s.st ∙ ap (λ (x : Glance). choose (whole x) (eqb x.depth 0) false) (sym s.is))

pub kind-nine : (s : List ℕ) (q d : ℕ) → kind_at s q ≡ Digit d → d ≤ 9
kind-nine s q d k =
    let l = is-inside s q (λ z. (let o : Digit d ≡ Other = sym k ∙ z in let y : ◌≡◌ {A = ℕ} 0 1 = cc in omega arith)) in
    let i = subst (λ (z : Kind). Is z (get_or s q 0)) (sym (kind-inside s q l) ∙ k) (kind-is (get_or s q 0)) in
    omega (arith, i.1, i.2)
