-- Laws of judging: what follows a pass, and what a pass says of the input.
-- Assumes nothing.
use mathlib.Core.Path.{◌≡◌, refl, sym, ap, ◌∙◌, subst}
use mathlib.Core.Bool.{Bool, true, false, not, ◌&&◌, ◌||◌}
use mathlib.Core.List.{List, [], ◌∷◌, ◌++◌}
use Prim.Native.Nat.{ℕ, ◌*◌, ◌≤◌, ◌<◌}
use native.Mathlib.Nat.{mul-le-mul}
use native.Mathlib.Omega.{arith}
use borrow.Author.Tests.{ltb-false, not-false, eqb-true, eq-eqb, le-ltb, lt-ltb}
use lib.Dec.{ltb, eqb}
use lib.ListN.{length}
use mathlib.Core.Logic.{⊎_elim}
use Rattle.algebra.specs.Prime.{Prime}
use Rattle.numbers.specs.Words.{choose, first_large, over, outside}
use Rattle.numbers.specs.internal.Facts.{AllBelow}
use Rattle.numbers.specs.Divisor.{least_divisor}
use Rattle.numbers.specs.Refusals.{Check, check, judge, refusal, Outcome, accepted, refused, outcome_after, written, modulus_checks, unreduced, rows_check, width_check, lengths_check, reduced_check, room_check, shape_checks, input_checks, operation_checks, Leaves, verdict, row_of, Row, Verdict, Pass, Refuse, number, detail}
use Rattle.numbers.specs.declared.refusal.Refusal.{Refusal}
use Rattle.numbers.specs.declared.refusal.Refusal.TheVariants.{ModulusRange, Composite, Degree, Terms, Rows, Unreduced, NotMonic, RootList, Unsplit, Short, Flat, NoUnit, Spoiled, Beyond, Behind, NoFactor, Unreadable, Deep, High, Entry, KnownTerms, MultipleRoot, Many}
use Rattle.std.specs.Prelude.{Result, Ok, Err, IsErrAnd}
use Rattle.std.specs.Result.{is_err}
use Rattle.std.proofs.lemmas.Result.{err_from_is_err_and}
use Rattle.numbers.proofs.WordsLaws.{none-large, below-append, append-below, large-there, lt-or-ge, true-false}
use Rattle.numbers.proofs.DivisorLaws.{least-prime, prime-least}
use Rattle.numbers.specs.Limits.{largest_modulus, most_rows, largest_width}
use Rattle.numbers.specs.internal.Limits.{modulus_bound}

pub not-pass : {A : Type 0} (r : Row) → Refuse r ≡ Pass → A
not-pass r e = absurd (let z : ◌≡◌ {A = ℕ} 0 1 = cc in omega arith)

pub none-judged : judge [] ≡ Pass
unfolding judge
none-judged = refl

-- the checks that follow those that pass, and those that don't
pub after-pass : (cs ds : List Check) → judge cs ≡ Pass → judge (cs ++ ds) ≡ judge ds
unfolding judge
after-pass [] ds e = refl
after-pass (c ∷ cs) ds e = go c.applies e (after-pass cs ds)
  where
    go : (b : Bool) → choose b (Refuse (refusal c.number c.detail)) (judge cs) ≡ Pass → (judge cs ≡ Pass → judge (cs ++ ds) ≡ judge ds)
        → choose b (Refuse (refusal c.number c.detail)) (judge (cs ++ ds)) ≡ judge ds
    go true e more = not-pass _ e
    go false e more = more e

pub after-refuse : (cs ds : List Check) (r : Row) → judge cs ≡ Refuse r → judge (cs ++ ds) ≡ Refuse r
unfolding judge
after-refuse [] ds r e = not-pass r (sym e)
after-refuse (c ∷ cs) ds r e = go c.applies e (after-refuse cs ds r)
  where
    go : (b : Bool) → choose b (Refuse (refusal c.number c.detail)) (judge cs) ≡ Refuse r → (judge cs ≡ Refuse r → judge (cs ++ ds) ≡ Refuse r)
        → choose b (Refuse (refusal c.number c.detail)) (judge (cs ++ ds)) ≡ Refuse r
    go true e more = e
    go false e more = more e

-- a refusal is told by its number and its detail
abbrev named : (n d : ℕ) → Refusal
named n d = choose (eqb n 1) ModulusRange (choose (eqb n 2) (Composite d) (choose (eqb n 3) Degree (choose (eqb n 4) Terms (choose (eqb n 5) Rows (choose (eqb n 6) (Unreduced d) (choose (eqb n 7) NotMonic (choose (eqb n 8) RootList (choose (eqb n 9) Unsplit (choose (eqb n 10) (Short d) (choose (eqb n 11) Flat (choose (eqb n 12) NoUnit (choose (eqb n 13) Spoiled (choose (eqb n 14) Beyond (choose (eqb n 15) Behind (choose (eqb n 16) NoFactor (choose (eqb n 17) Unreadable (choose (eqb n 18) Deep (choose (eqb n 19) High (choose (eqb n 20) Entry (choose (eqb n 21) KnownTerms (choose (eqb n 22) (MultipleRoot d) (Many))))))))))))))))))))))

named-row : (r : Refusal) → named (number r) (detail r) ≡ r
named-row ModulusRange = refl
named-row (Composite d) = refl
named-row Degree = refl
named-row Terms = refl
named-row Rows = refl
named-row (Unreduced d) = refl
named-row NotMonic = refl
named-row RootList = refl
named-row Unsplit = refl
named-row (Short d) = refl
named-row Flat = refl
named-row NoUnit = refl
named-row Spoiled = refl
named-row Beyond = refl
named-row Behind = refl
named-row NoFactor = refl
named-row Unreadable = refl
named-row Deep = refl
named-row High = refl
named-row Entry = refl
named-row KnownTerms = refl
named-row (MultipleRoot d) = refl
named-row Many = refl

pub row-one : (r s : Refusal) → row_of r ≡ row_of s → r ≡ s
row-one r s e = sym (named-row r) ∙ ap (λ (x : Row). named x.number x.detail) e ∙ named-row s

-- what a call says of the verdict that it tells
pub told-pass : {r : Result Unit Refusal} {v : Verdict} {x : Unit} → verdict r ≡ v → r ≡ Ok x → v ≡ Pass
told-pass e q = sym e ∙ ap verdict q

pub told-refuse : {r : Result Unit Refusal} {v : Verdict} {x : Refusal} → verdict r ≡ v → r ≡ Err x → v ≡ Refuse (row_of x)
told-refuse e q = sym e ∙ ap verdict q

pub told-fine : (r : Result Unit Refusal) {v : Verdict} → verdict r ≡ v → is_err r ≡ false → v ≡ Pass
told-fine (Ok x) e q = sym e
told-fine (Err x) e q = true-false q

pub told-failed : (r : Result Unit Refusal) {v : Verdict} → verdict r ≡ v → is_err r ≡ true → (x : Row) × (v ≡ Refuse x)
told-failed (Ok x) e q = true-false (sym q)
told-failed (Err x) e q = (row_of x, sym e)

-- what `?` hands up is the refusal that it met
pub handed-up : {A : Type 0} {x : Refusal} {r : Result A Refusal} → IsErrAnd r (λ y. y ≡ x) → r ≡ Err x
handed-up {A} {x} {r} h = let p = err_from_is_err_and r h in p.1 ∙ ap Err p.2

-- where a call told the verdict
pub after-told : (cs ds : List Check) (v : Verdict) (r : Row) → v ≡ judge cs → v ≡ Refuse r → judge (cs ++ ds) ≡ Refuse r
after-told cs ds v r e q = after-refuse cs ds r (sym e ∙ q)

-- what comes after a list of checks counts by its verdict alone
pub after_same : (cs xs ys : List Check) → judge xs ≡ judge ys → judge (cs ++ xs) ≡ judge (cs ++ ys)
unfolding judge
after_same [] xs ys e = e
after_same (c ∷ cs) xs ys e = ap (λ (v : Verdict). choose c.applies (Refuse (refusal c.number c.detail)) v) (after_same cs xs ys e)

pub pass-check : (c : Check) (cs : List Check) → judge (c ∷ cs) ≡ Pass → (c.applies ≡ false) × (judge cs ≡ Pass)
unfolding judge
pass-check c cs e = go c.applies e
  where
    go : (b : Bool) → choose b (Refuse (refusal c.number c.detail)) (judge cs) ≡ Pass → (b ≡ false) × (judge cs ≡ Pass)
    go true e = not-pass _ e
    go false e = (refl, e)

pub take-check : (c : Check) (cs : List Check) → c.applies ≡ true → judge (c ∷ cs) ≡ Refuse (refusal c.number c.detail)
unfolding judge
take-check c cs e = rw e

pub skip-check : (c : Check) (cs : List Check) → c.applies ≡ false → judge (c ∷ cs) ≡ judge cs
unfolding judge
skip-check c cs e = rw e

-- where all pass, each part does
pub pass-parts : (cs ds : List Check) → judge (cs ++ ds) ≡ Pass → (judge cs ≡ Pass) × (judge ds ≡ Pass)
pass-parts [] ds e = (none-judged, e)
pass-parts (c ∷ cs) ds e =
    let (skipped, rest) = pass-check c (cs ++ ds) e in
    let (a, b) = pass-parts cs ds rest in
    (skip-check c cs skipped ∙ a, b)

pub neither : (a b : Bool) → a || b ≡ false → (a ≡ false) × (b ≡ false)
neither true b e = true-false e
neither false b e = (refl, e)

pub both : (a b : Bool) → not (a && b) ≡ false → (a ≡ true) × (b ≡ true)
both true true e = (refl, refl)
both true false e = true-false e
both false b e = true-false e

-- n is from low to high
pub inside : (low high n : ℕ) → outside low high n ≡ false → (low ≤ n) × (n ≤ high)
inside low high n e = let (a, b) = neither (ltb n low) (ltb high n) e in (ltb-false n low a, ltb-false high n b)

pub within : (low high n : ℕ) → low ≤ n → n ≤ high → outside low high n ≡ false
within low high n l g = rw (le-ltb n low l, le-ltb high n g)

-- a polynomial has no more rows than its degree bound lets it have
pub few-rows : (f g rows : ℕ) → ltb most_rows f || (ltb most_rows g || ltb most_rows rows) ≡ false → (f ≤ most_rows) × (g ≤ most_rows) × (rows ≤ most_rows)
few-rows f g rows e =
    let (a, b) = neither (ltb most_rows f) (ltb most_rows g || ltb most_rows rows) e in
    let (c, d) = neither (ltb most_rows g) (ltb most_rows rows) b in
    (ltb-false most_rows f a, ltb-false most_rows g c, ltb-false most_rows rows d)

pub right-lengths : (a m b n : ℕ) → not (eqb a m) || not (eqb b n) ≡ false → (a ≡ m) × (b ≡ n)
right-lengths a m b n e =
    let (x, y) = neither (not (eqb a m)) (not (eqb b n)) e in
    (eqb-true a m (not-false _ x), eqb-true b n (not-false _ y))

-- the most words that a polynomial has
pub few_words : (rows N : ℕ) → rows ≤ most_rows → N ≤ largest_width → rows * N ≤ 8448
few_words rows N h w = mul-le-mul {n₂ = most_rows} {m₂ = largest_width} h w

-- p is a modulus: what checks 1 and 2 let pass. (The kernels are proved for every p below 2^24.)
pub record Modulus (p : ℕ) : Type 0 where
  pub prime : Prime p
  pub two : 2 ≤ p
  pub small : p < modulus_bound

pub modulus-pass : (p : ℕ) → judge (modulus_checks p) ≡ Pass → Modulus p
modulus-pass p e =
    let a = pass-check (check 1 (outside 2 largest_modulus p) 0) _ e in
    let b = pass-check (check 2 (ltb (least_divisor p) p) (least_divisor p)) _ a.1 in
    let (low, high) = neither (ltb p 2) (ltb largest_modulus p) a.0 in
    let two : 2 ≤ p = ltb-false p 2 low in
    record { prime = least-prime p two (ltb-false (least_divisor p) p b.0); two = two; small = omega (arith, ltb-false largest_modulus p high) }

-- every prime up to the largest modulus passes
pub modulus-fine : (p : ℕ) → Prime p → p ≤ largest_modulus → judge (modulus_checks p) ≡ Pass
unfolding judge
modulus-fine p prime h =
    let two = prime.two-le in
    simp (le-ltb p 2 (omega arith), le-ltb largest_modulus p h, le-ltb (least_divisor p) p (omega (arith, prime-least prime)))

-- and every other number in range is refused by its least divisor
pub modulus-composite : (p d : ℕ) → 2 ≤ p → p ≤ largest_modulus → least_divisor p ≡ d → d < p → judge (modulus_checks p) ≡ Refuse (refusal 2 d)
modulus-composite p d low high e less =
    skip-check _ _ (rw (le-ltb p 2 low, le-ltb largest_modulus p high))
    ∙ take-check _ _ (ap (λ (x : ℕ). ltb x p) e ∙ lt-ltb d p less) ∙ ap (λ (x : ℕ). Refuse (refusal 2 x)) e

-- what is known of an operation's input where checks 1 to 6 pass
pub record Inputs (p N : ℕ) (f : List ℕ) (f_rows : ℕ) (g : List ℕ) (g_rows rows : ℕ) : Type 0 where
  pub modulus : Modulus p
  pub f-high : f_rows ≤ most_rows
  pub g-high : g_rows ≤ most_rows
  pub high : rows ≤ most_rows
  pub width_low : 1 ≤ N
  pub width-high : N ≤ largest_width
  pub f-long : length f ≡ f_rows * N
  pub g-long : length g ≡ g_rows * N
  pub f-below : AllBelow p f
  pub g-below : AllBelow p g

pub reduced : (p : ℕ) (s : List ℕ) → unreduced p s ≡ false → AllBelow p s
reduced p s e = none-large p s (ltb-false (first_large p s) (length s) e)

pub below-reduced : (p : ℕ) (s : List ℕ) → AllBelow p s → unreduced p s ≡ false
below-reduced p s b = le-ltb (first_large p s) (length s) (⊎_elim
    (λ (l : first_large p s < length s). absurd (let z : ⊥ = omega (arith, large-there p s l, b (first_large p s) l) in z))
    (λ (l : length s ≤ first_large p s). l) (lt-or-ge (first_large p s) (length s)))

-- where 3 and 4 both apply, 3 is given
degree-first : judge (shape_checks 2 0 [] 34 [] 0 0) ≡ Refuse (refusal 3 0)
unfolding judge
degree-first = refl

pub inputs-pass : (p N : ℕ) (f : List ℕ) (f_rows : ℕ) (g : List ℕ) (g_rows rows : ℕ)
    → judge (input_checks p N f f_rows g g_rows rows) ≡ Pass → Inputs p N f f_rows g g_rows rows
inputs-pass p N f f_rows g g_rows rows e =
    let m = pass-parts (modulus_checks p) _ e in
    let a = pass-check (rows_check f_rows g_rows rows) _ m.1 in
    let b = pass-check (width_check N) _ a.1 in
    let c = pass-check (lengths_check N f f_rows g g_rows) _ b.1 in
    let d = pass-check (reduced_check p (f ++ g)) _ c.1 in
    let (f-few, g-few, few) = few-rows f_rows g_rows rows a.0 in
    let (low, high) = inside 1 largest_width N b.0 in
    let (f-long, g-long) = right-lengths (length f) (f_rows * N) (length g) (g_rows * N) c.0 in
    let (f-below, g-below) = below-append p f g (reduced p (f ++ g) d.0) in
    record {
      modulus = modulus-pass p m.0;
      f-high = f-few;
      g-high = g-few;
      high = few;
      width_low = low;
      width-high = high;
      f-long = f-long;
      g-long = g-long;
      f-below = f-below;
      g-below = g-below;
    }

-- and checks 1 to 6 pass where this is so
pub inputs-fine : (p N : ℕ) (f : List ℕ) (f_rows : ℕ) (g : List ℕ) (g_rows rows : ℕ)
    → Inputs p N f f_rows g g_rows rows → judge (input_checks p N f f_rows g g_rows rows) ≡ Pass
inputs-fine p N f f_rows g g_rows rows h =
    after-pass (modulus_checks p) (shape_checks p N f f_rows g g_rows rows) (modulus-fine p h.modulus.prime (omega (arith, h.modulus.small)))
    ∙ skip-check (rows_check f_rows g_rows rows) _ (rw (le-ltb most_rows f_rows h.f-high, le-ltb most_rows g_rows h.g-high, le-ltb most_rows rows h.high) refl)
    ∙ skip-check (width_check N) _ (within 1 largest_width N h.width_low h.width-high)
    ∙ skip-check (lengths_check N f f_rows g g_rows) _ (rw (eq-eqb (length f) (f_rows * N) h.f-long, eq-eqb (length g) (g_rows * N) h.g-long) refl)
    ∙ skip-check (reduced_check p (f ++ g)) [] (below-reduced p (f ++ g) (append-below p f g h.f-below h.g-below))
    ∙ none-judged

-- and where check 10 passes too
pub record Operation (p N : ℕ) (f : List ℕ) (f_rows : ℕ) (g : List ℕ) (g_rows rows room : ℕ) : Type 0 where
  pub inputs : Inputs p N f f_rows g g_rows rows
  pub roomy : rows * N ≤ room

pub operation-pass : (p N : ℕ) (f : List ℕ) (f_rows : ℕ) (g : List ℕ) (g_rows rows room : ℕ)
    → judge (operation_checks p N f f_rows g g_rows rows room) ≡ Pass → Operation p N f f_rows g g_rows rows room
operation-pass p N f f_rows g g_rows rows room e =
    let m = pass-parts (input_checks p N f f_rows g g_rows rows) _ e in
    record {
      inputs = inputs-pass p N f f_rows g g_rows rows m.0;
      roomy = ltb-false room (rows * N) (pass-check (room_check room (rows * N)) [] m.1).0;
    }

-- no refusal is an acceptance
pub unlike : {A : Type 0} (T n d : ℕ) → ◌≡◌ {A = Outcome ℕ} (refused n d) (accepted T) → A
unlike T n d e = absurd (let z : ◌≡◌ {A = ℕ} 0 1 = cc in let y : ⊥ = omega arith in y)

-- a call that was accepted has passed its checks, and answers what it is to answer
pub accepted-pass : (v : Verdict) (x T : ℕ) → ◌≡◌ {A = Outcome ℕ} (accepted T) (outcome_after v x) → (v ≡ Pass) × (T ≡ x)
accepted-pass Pass x T e = (refl, let z : T ≡ x = cc in z)
accepted-pass (Refuse r) x T e = unlike T r.number r.detail (sym e)

-- after a refusal the answer is that refusal, and the words are as they were
pub answer-refused : {v : Verdict} (r : Row) (n : ℕ) (new old : List ℕ) → v ≡ Refuse r
    → record { answer : ◌≡◌ {A = Outcome ℕ} (refused r.number r.detail) (outcome_after v n); words : old ≡ written v new old }
answer-refused r n new old e = rw e (record { answer = refl; words = refl })

-- after a pass the answer is n, and the words are those that a kernel wrote, whose count k it may name in its own way, m
pub answer-done : {v : Verdict} (F : ℕ → List ℕ) (m k n : ℕ) (old out : List ℕ) → v ≡ Pass → out ≡ over (F m) old → m ≡ k
    → record { answer : ◌≡◌ {A = Outcome ℕ} (accepted n) (outcome_after v n); words : out ≡ written v (over (F k) old) old }
answer-done F m k n old out e w q = rw e (record { answer = refl; words = w ∙ ap (λ (x : ℕ). over (F x) old) q })

-- an answer and what it leaves, after a verdict
pub leave-refused : {v : Verdict} (r : Row) (x : ℕ) (Done : Type 0) (s : List ℕ) → v ≡ Refuse r
    → (◌≡◌ {A = Outcome ℕ} (refused r.number r.detail) (outcome_after v x)) × Leaves v Done s s
leave-refused r x Done s e = (subst (λ v. ◌≡◌ {A = Outcome ℕ} (refused r.number r.detail) (outcome_after v x)) (sym e) refl, subst (λ v. Leaves v Done s s) (sym e) refl)

pub leave-done : {v : Verdict} (o x : ℕ) (Done : Type 0) (old new : List ℕ) → v ≡ Pass → o ≡ x → Done → (◌≡◌ {A = Outcome ℕ} (accepted o) (outcome_after v x)) × Leaves v Done old new
leave-done o x Done old new e q h = (subst (λ v. ◌≡◌ {A = Outcome ℕ} (accepted o) (outcome_after v x)) (sym e) (ap accepted q), subst (λ v. Leaves v Done old new) (sym e) h)
