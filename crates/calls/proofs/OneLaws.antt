-- Lists of calls, and `replay`, have exactly one outcome; and the number at which the plain count ends.
--   does-one                  a call has exactly one outcome
--   run-lends                 a run lends no call more words than there are ..
--   run-one                   .. and where none is lent more, there is exactly one run: answers and words, to the last
--   accepted-up               what the plain count accepts is not below K
--   count-largest             the plain count ends at the largest number accepted, or where it began
--   worked-largest            so does a history: its K is the largest number that its calls answered, or 1
--   replayed-one              `Replayed` has exactly one solution
-- Assumes nothing.
use Prim.Native.Nat.{ℕ, zero, suc, ◌≤◌, max}
use native.Mathlib.Numerals.{add-one}
use native.Mathlib.Omega.{arith}
use mathlib.Core.Path.{◌≡◌, refl, sym, ◌∙◌, ap, ap₂, subst}
use mathlib.Core.Bool.{Bool, true, false}
use mathlib.Core.List.{List, [], ◌∷◌, ◌++◌}
use borrow.Author.Tests.{ltb-false}
use lib.Dec.{ltb}
use lib.ListN.{length, take, drop}
use Rattle.numbers.specs.Words.{low_word, choose, over}
use Rattle.numbers.specs.Refusals.{judge, beyond_check, behind_check, Outcome, accepted, refused, outcome_after, Verdict, Pass, Refuse}
use Rattle.numbers.specs.One.{One, OneOutcome}
use Rattle.numbers.proofs.OneLaws.{one_same}
use Rattle.numbers.proofs.RefusalsLaws.{unlike, accepted-pass, pass-check}
use Rattle.sheet.specs.Sheet.{given-reach}
use Rattle.extend.proofs.ExtendTotalLaws.{extended-one}
use Rattle.correct.proofs.CorrectTotalLaws.{corrected-one}
use Rattle.calls.specs.Calls.{Asked, extend, correct, Call, Does, Run, done, call, Lendable, Count, counting, count_checks, count_value, count_answer, count_next, count_answers, count_end, largest_accepted, History, worked}
use Rattle.calls.specs.Replay.{call_count, call_at, calls_to, answer_count, answer_words, replay_verdict, ReplayLeaves, Replayed}
use Rattle.calls.specs.internal.Making.{put_answer, CallsMade}
use Rattle.calls.proofs.Demand3Laws.{demand3-kept}
use Rattle.calls.proofs.ReplayLaws.{call_long, CallsFit, calls-lent, made_none, made_more, replay-refused, replay-done}

pub does-one : (asked : Asked) (old : List ℕ) → OneOutcome (Does asked old)
does-one (extend w) old = extended-one old w
does-one (correct j t entry) old = corrected-one old j t entry

pub run-lends : {s last : List ℕ} {cs : List Call} {answers : List (Outcome ℕ)} → Run s cs answers last → Lendable (length s) cs
run-lends done = tt
run-lends (call {s} {c = c} {cs} {a} part l x r) = (l, subst (λ n. Lendable n cs) (call_long s part c a l x) (run-lends r))

run-exists : (s : List ℕ) (cs : List Call) → Lendable (length s) cs → (answers : List (Outcome ℕ)) × (last : List ℕ) × Run s cs answers last
run-exists s [] h = ([], s, done)
run-exists s (c ∷ cs) h =
    let o = does-one c.asked (take c.lent s) in
    let a = o.0.0 in
    let part = o.0.1 in
    let x = o.1.is in
    let (answers, last, r) = run-exists (part ++ drop c.lent s) cs (subst (λ n. Lendable n cs) (sym (call_long s part c a h.0 x)) h.1) in
    (a ∷ answers, last, call part h.0 x r)

run_only : {s last last' : List ℕ} {cs : List Call} {answers answers' : List (Outcome ℕ)} → Run s cs answers last → Run s cs answers' last' → (answers ≡ answers') × (last ≡ last')
run_only done done = (refl, refl)
run_only (call {s} {c = c} {cs} {a} part l x r) (call {last = last'} {a = a'} {answers = answers'} part' l' x' r') =
    let same = one_same (λ (y : Outcome ℕ × List ℕ). Does c.asked (take c.lent s) y.0 y.1) (does-one c.asked (take c.lent s)) (a, part) (a', part') x x' in
    let e : (a ≡ a') × (part ≡ part') = (ap (λ y. y.0) same, ap (λ y. y.1) same) in
    let z = run_only r (subst (λ y. Run (y ++ drop c.lent s) cs answers' last') (sym e.1) r') in
    (ap₂ (λ (o : Outcome ℕ) (os : List (Outcome ℕ)). o ∷ os) e.0 z.0, z.1)

pub run-one : (s : List ℕ) (cs : List Call) → Lendable (length s) cs → One (λ (x : List (Outcome ℕ) × List ℕ). Run s cs x.0 x.1)
run-one s cs h =
    let (answers, last, r) = run-exists s cs h in
    ((answers, last), record { is = r; only = λ y k. let z = run_only k r in ap₂ (λ a s. (a, s)) z.0 z.1 })

-- to begin higher is to take the larger of both
larger-start : (K w : ℕ) → K ≤ w → (l : List (Outcome ℕ)) → largest_accepted w l ≡ max w (largest_accepted K l)
unfolding largest_accepted
larger-start K w h [] = omega arith
larger-start K w h (accepted v ∷ l) = let e = larger-start K w h l in omega arith
larger-start K w h (refused n d ∷ l) = larger-start K w h l

value-up : (n : Count) (asked : Asked) → judge (count_checks n asked) ≡ Pass → n.terms ≤ count_value n asked
value-up n (extend w) e =
    let b = pass-check (beyond_check (given-reach n.given) w) _ e in
    ltb-false w n.terms (pass-check (behind_check n.terms w) [] b.1).0
value-up n (correct j t entry) e = omega arith

pub accepted-up : (T : ℕ) (n : Count) (c : Call) (w : ℕ) → count_answer T n c ≡ accepted w → n.terms ≤ w
unfolding count_answer
accepted-up T n c w e = go (ltb c.lent T) e
  where
    go : (b : Bool) → choose b (refused 13 0) (outcome_after (judge (count_checks n c.asked)) (count_value n c.asked)) ≡ accepted w → n.terms ≤ w
    go true e = unlike w 13 0 e
    go false e =
        let (v, q) = accepted-pass (judge (count_checks n c.asked)) (count_value n c.asked) w (sym e) in
        let z = value-up n c.asked v in omega arith

pub count-largest : (T : ℕ) (n : Count) (cs : List Call) → (count_end T n cs).terms ≡ largest_accepted n.terms (count_answers T n cs)
unfolding count_end count_answers largest_accepted
count-largest T n [] = refl
count-largest T n (c ∷ cs) = go (count_answer T n c) refl (λ n'. count-largest T n' cs)
  where
    go : (a : Outcome ℕ) → count_answer T n c ≡ a → ((n' : Count) → (count_end T n' cs).terms ≡ largest_accepted n'.terms (count_answers T n' cs))
        → (count_end T (count_next n c.asked a) cs).terms ≡ largest_accepted n.terms (a ∷ count_answers T (count_next n c.asked a) cs)
    go (accepted w) e more = more (count_next n c.asked (accepted w)) ∙ larger-start n.terms w (accepted-up T n c w e) (count_answers T (count_next n c.asked (accepted w)) cs)
    go (refused number detail) e more = more n

pub worked-largest : (x : History) → worked x ≡ largest_accepted 1 x.answers
worked-largest x = count-largest x.T (counting x.given) x.calls ∙ ap (largest_accepted 1) (sym (demand3-kept x).answers)

module _ (calls start old : List ℕ) where
  abbrev verdict : Verdict
  verdict = replay_verdict (length start) calls (length old)

  -- the first n calls can be made
  calls-exist : CallsFit (length start) calls (length old) → (n : ℕ) → n ≤ call_count calls → (last : List ℕ) × (new : List ℕ) × CallsMade n calls start last old new
  calls-exist h zero l = (start, old, made_none calls start old)
  calls-exist h (suc n) l =
      let (last, new, made) = calls-exist h n (omega arith) in
      let c = call_at calls n in
      let o = does-one c.asked (take c.lent last) in
      let a = o.0.0 in
      let part = o.0.1 in
      let x = o.1.is in
      let r = h.roomy in (
        part ++ drop c.lent last,
        put_answer a n new,
        subst (λ m. CallsMade m calls start (part ++ drop c.lent last) old (put_answer a n new)) (add-one n)
            (made_more n calls start last old new made a part (put_answer a n new) (h.lends n (omega arith)) (omega arith) x refl),
      )

  replayed-exists : (answer : Outcome ℕ) × (last : List ℕ) × (new : List ℕ) × Replayed calls start old answer last new
  replayed-exists = go verdict refl
    where
      go : (v : Verdict) → verdict ≡ v → (answer : Outcome ℕ) × (last : List ℕ) × (new : List ℕ) × Replayed calls start old answer last new
      go Pass e =
          let (last, new, made) = calls-exist (calls-lent (length start) calls (length old) e) (call_count calls) (omega arith) in
          (accepted (low_word (answer_count calls)), last, new, replay-done calls start last old new (low_word (answer_count calls)) e refl made)
      go (Refuse r) e = (refused r.number r.detail, start, old, replay-refused calls start old r e)

  replayed-only : (a a' : Outcome ℕ) (last last' new new' : List ℕ) → Replayed calls start old a last new → Replayed calls start old a' last' new'
      → (a ≡ a') × (last ≡ last') × (new ≡ new')
  replayed-only a a' last last' new new' x x' = let z = go verdict x.leaves x'.leaves in (x.answers ∙ sym x'.answers, z.0, z.1)
    where
      go : (v : Verdict) → ReplayLeaves v (calls_to (call_count calls) calls) start last old new → ReplayLeaves v (calls_to (call_count calls) calls) start last' old new'
          → (last ≡ last') × (new ≡ new')
      go Pass d d' = let z = run_only d.run d'.run in (z.1, d.words ∙ ap (λ l. over (answer_words l) old) z.0 ∙ sym d'.words)
      go (Refuse r) d d' = (d.0 ∙ sym d'.0, d.1 ∙ sym d'.1)

  pub replayed-one : One (λ (x : Outcome ℕ × List ℕ × List ℕ). Replayed calls start old x.0 x.1 x.2)
  replayed-one =
      let (a, last, new, r) = replayed-exists in (
        (a, last, new),
        record {
          is = r;
          only = λ y k.
              let z = replayed-only y.0 a y.1 last y.2 new k r in
              ap₂ (λ a (w : List ℕ × List ℕ). (a, w.0, w.1)) z.0 (ap₂ (λ l n. (l, n)) z.1 z.2);
        },
      )
