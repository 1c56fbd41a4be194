-- What `replay` checks, and the calls that it makes one after the other.
--   call-lends         a call that fits lends no more words than there are
--   lends-beyond, fits-correct, kind-other, fourth-not, by-fifth   whether a call fits, case by case
--   does-extend, does-correct   what a call does, by its kind
--   calls-broken, calls-unfit, calls-short, calls-pass   its verdict, case by case
--   calls-lent         what the checks say of the calls where they pass
--   call_long          a call leaves as many words as it found
--   made_none, made_more   no call, and one more
--   made-done          with all calls made: what demand 3 says
--   replay-refused, replay-done   what replay answers and leaves
-- Assumes nothing.
use Prim.Native.Nat.{ℕ, zero, suc, ◌+◌, ◌-◌, ◌*◌, ◌%◌, ◌≤◌, ◌<◌}
use native.Mathlib.Numerals.{add-one}
use native.Mathlib.Omega.{arith}
use mathlib.Core.Path.{◌≡◌, refl, sym, ◌∙◌, ap, ap₂, subst}
use mathlib.Core.Logic.{◌≢◌}
use mathlib.Core.Bool.{Bool, true, false, not}
use mathlib.Core.List.{List, [], ◌∷◌, ◌++◌, append-nil, append_assoc}
use borrow.Author.Tests.{eq-eqb, ne_eqb, lt-ltb, le-ltb, ltb-false, lt-leb, le-leb, leb-true, not-false}
use lib.Dec.{ltb, eqb}
use lib.ListN.{length, take, drop, set, length-append, length-drop}
use lib.Seq.{length-take-le}
use Rattle.numbers.specs.Words.{low_word, choose, all, all_to, over}
use Rattle.numbers.specs.Refusals.{check, judge, refusal, Outcome, accepted, refused, outcome_after, Leaves, Row, Verdict, Pass, Refuse}
use Rattle.numbers.proofs.WordsLaws.{Writing, writing-store}
use Rattle.numbers.proofs.TestsLaws.{all-at, all_to-at}
use Rattle.numbers.proofs.RefusalsLaws.{take-check, skip-check, none-judged, pass-check}
use Rattle.extend.specs.Extend.{extend_verdict, Extended}
use Rattle.correct.specs.Correct.{correct_verdict, Corrected}
use Rattle.calls.specs.Calls.{Asked, extend, correct, Call, Does, Run, done, call}
use Rattle.calls.specs.Replay.{call_words, call_count, call_word, asked_by, call_at, calls_to, call_fits, answer_pair, answer_words, answer_count, replay_verdict, ReplayDone, ReplayLeaves, Replayed}
use Rattle.calls.specs.internal.Making.{put_answer, CallsMade}
use Rattle.calls.proofs.Demand3Laws.{demand3-kept}

-- the test of a call, test by test
module _ (size : ℕ) (calls : List ℕ) (i : ℕ) where
  abbrev kind : ℕ
  kind = call_word calls i 1

  pub call-lends : call_fits size calls i ≡ true → (call_at calls i).lent ≤ size
  unfolding call_fits
  call-lends e = leb-true (call_at calls i).lent size (all-at _ e 0)

  pub lends-beyond : size < (call_at calls i).lent → call_fits size calls i ≡ false
  unfolding call_fits all
  lends-beyond l = rw (lt-leb (call_at calls i).lent size l) refl

  module _ (lends : (call_at calls i).lent ≤ size) where
    pub fits-correct : kind ≡ 1 → call_fits size calls i ≡ true
    unfolding call_fits all
    fits-correct e = rw (le-leb (call_at calls i).lent size lends, e) refl

    module _ (other : kind ≢ 1) where
      pub kind-other : kind ≢ 0 → call_fits size calls i ≡ false
      unfolding call_fits all
      kind-other ne = rw (le-leb (call_at calls i).lent size lends, ne_eqb kind 1 other, ne_eqb kind 0 ne) refl

      module _ (is : kind ≡ 0) where
        pub fourth-not : call_word calls i 3 ≢ 0 → call_fits size calls i ≡ false
        unfolding call_fits all
        fourth-not ne = rw (le-leb (call_at calls i).lent size lends, is, ne_eqb (call_word calls i 3) 0 ne) refl

        pub by-fifth : call_word calls i 3 ≡ 0 → call_fits size calls i ≡ eqb (call_word calls i 4) 0
        unfolding call_fits all
        by-fifth e = rw (le-leb (call_at calls i).lent size lends, is, e) (go (eqb (call_word calls i 4) 0))
          where
            go : (b : Bool) → choose (choose b true false) true false ≡ b
            go true = refl
            go false = refl

-- kind 0 is an extend, and any other a correction
module _ (kind a b c : ℕ) (old : List ℕ) (o : Outcome ℕ) (new : List ℕ) where
  pub does-extend : kind ≡ 0 → Extended old a o new → Does (asked_by kind a b c) old o new
  does-extend e x = subst (λ k. Does (asked_by k a b c) old o new) (sym e) x

  pub does-correct : kind ≢ 0 → Corrected old a b c o new → Does (asked_by kind a b c) old o new
  does-correct ne x = go kind ne
    where
      go : (k : ℕ) → k ≢ 0 → Does (asked_by k a b c) old o new
      go zero ne = absurd (ne refl)
      go (suc k) ne = x

module _ (size : ℕ) (calls : List ℕ) (room : ℕ) where
  pub calls-broken : length calls % call_words ≢ 0 → replay_verdict size calls room ≡ Refuse (refusal 5 0)
  unfolding replay_verdict
  calls-broken h = take-check (check 5 (not (eqb (length calls % call_words) 0)) 0) _ (ap not (ne_eqb (length calls % call_words) 0 h))

  module _ (whole : length calls % call_words ≡ 0) where
    past-whole : replay_verdict size calls room
        ≡ judge (check 5 (not (all_to (call_count calls) (call_fits size calls))) 0 ∷ check 10 (ltb room (answer_count calls)) (low_word (answer_count calls)) ∷ [])
    unfolding replay_verdict
    past-whole = skip-check (check 5 (not (eqb (length calls % call_words) 0)) 0) _ (ap not (eq-eqb (length calls % call_words) 0 whole))

    pub calls-unfit : all_to (call_count calls) (call_fits size calls) ≡ false → replay_verdict size calls room ≡ Refuse (refusal 5 0)
    calls-unfit h = past-whole ∙ take-check (check 5 (not (all_to (call_count calls) (call_fits size calls))) 0) _ (ap not h)

    module _ (fits : all_to (call_count calls) (call_fits size calls) ≡ true) where
      past_fits : replay_verdict size calls room ≡ judge (check 10 (ltb room (answer_count calls)) (low_word (answer_count calls)) ∷ [])
      past_fits = past-whole ∙ skip-check (check 5 (not (all_to (call_count calls) (call_fits size calls))) 0) _ (ap not fits)

      pub calls-short : room < answer_count calls → replay_verdict size calls room ≡ Refuse (refusal 10 (low_word (answer_count calls)))
      calls-short h = past_fits ∙ take-check (check 10 (ltb room (answer_count calls)) (low_word (answer_count calls))) [] (lt-ltb room (answer_count calls) h)

      pub calls-pass : answer_count calls ≤ room → replay_verdict size calls room ≡ Pass
      calls-pass h = past_fits ∙ skip-check (check 10 (ltb room (answer_count calls)) (low_word (answer_count calls))) [] (le-ltb room (answer_count calls) h) ∙ none-judged

  -- what the checks say of the calls where they pass
  pub record CallsFit : Type 0 where
    pub lends : (i : ℕ) → i < call_count calls → (call_at calls i).lent ≤ size
    pub roomy : answer_count calls ≤ room

  pub calls-lent : replay_verdict size calls room ≡ Pass → CallsFit
  unfolding replay_verdict
  calls-lent e =
      let a = pass-check (check 5 (not (eqb (length calls % call_words) 0)) 0) _ e in
      let b = pass-check (check 5 (not (all_to (call_count calls) (call_fits size calls))) 0) _ a.1 in
      let d = pass-check (check 10 (ltb room (answer_count calls)) (low_word (answer_count calls))) [] b.1 in
      record {
        lends = λ i l. call-lends size calls i (all_to-at (call_count calls) (call_fits size calls) (not-false _ b.0) i l);
        roomy = ltb-false room (answer_count calls) d.0;
      }

-- one more call at the end
run_more : {s mid : List ℕ} {cs : List Call} {answers : List (Outcome ℕ)} → Run s cs answers mid → (c : Call) (a : Outcome ℕ) (part : List ℕ)
    → c.lent ≤ length mid → Does c.asked (take c.lent mid) a part → Run s (cs ++ (c ∷ [])) (answers ++ (a ∷ [])) (part ++ drop c.lent mid)
run_more done c a part l e = call part l e done
run_more (call first l e r) c a part l' e' = call first l e (run_more r c a part l' e')

-- the words of the answers, one answer more
words_more : (l : List (Outcome ℕ)) (a : Outcome ℕ) → answer_words (l ++ (a ∷ [])) ≡ answer_words l ++ answer_pair a
unfolding answer_words
words_more [] a = append-nil (answer_pair a)
words_more (b ∷ l) a = ap (λ x. answer_pair b ++ x) (words_more l a) ∙ sym (append_assoc (answer_pair b) (answer_words l) (answer_pair a))

pair-two : (a : Outcome ℕ) → length (answer_pair a) ≡ 2
pair-two (accepted w) = refl
pair-two (refused n d) = refl

-- a call whose verdict is v keeps the length
leaves-long : (v : Verdict) (Done : Type 0) (old new : List ℕ) → Leaves v Done old new → (Done → length new ≡ length old) → length new ≡ length old
leaves-long Pass Done old new x h = h x
leaves-long (Refuse r) Done old new x h = ap length x

does-long : (asked : Asked) (old : List ℕ) (a : Outcome ℕ) (new : List ℕ) → Does asked old a new → length new ≡ length old
does-long (extend w) old a new x = leaves-long (extend_verdict old w) _ old new x.leaves (λ d. d.same_length)
does-long (correct j t e) old a new x = leaves-long (correct_verdict old j t e) _ old new x.leaves (λ d. d.same_length)

-- a call leaves as many words as it found
pub call_long : (s part : List ℕ) (c : Call) (a : Outcome ℕ) → c.lent ≤ length s → Does c.asked (take c.lent s) a part → length (part ++ drop c.lent s) ≡ length s
call_long s part c a l x =
    let n = c.lent in
    let long : length part ≡ n = does-long c.asked (take n s) a part x ∙ length-take-le n s l in
    length-append part (drop n s) ∙ ap₂ ◌+◌ long (length-drop n s) ∙ (let z : n + (length s - n) ≡ length s = omega arith in z)

-- storing an answer is writing two words more
put-writing : (xs s e : List ℕ) (a : Outcome ℕ) (i : ℕ) → Writing xs s e → length xs ≡ 2 * i → 2 * i + 2 ≤ length s → Writing (xs ++ answer_pair a) s (put_answer a i e)
put-writing xs s e a i h n fits = go a
  where
    two : (x y : ℕ) → Writing (xs ++ (x ∷ y ∷ [])) s (set (set e (2 * i) x) (2 * i + 1) y)
    two x y =
        subst (λ l. Writing l s (set (set e (2 * i) x) (2 * i + 1) y)) (append_assoc xs (x ∷ []) (y ∷ []))
        (writing-store (xs ++ (x ∷ [])) s (set e (2 * i) x) (2 * i + 1) y (writing-store xs s e (2 * i) x h n (omega arith))
        (length-append xs (x ∷ []) ∙ (let z : length xs + 1 ≡ 2 * i + 1 = omega arith in z)) (omega arith))

    go : (a : Outcome ℕ) → Writing (xs ++ answer_pair a) s (put_answer a i e)
    go (accepted w) = two 0 w
    go (refused x y) = two x y

pub made_none : (calls start old : List ℕ) → CallsMade 0 calls start start old old
unfolding calls_to answer_words
made_none calls start old = record { answers = []; run = done; words = refl; size = refl; long = refl; sheet = refl }

pub made_more : (n : ℕ) (calls start last old new : List ℕ) → CallsMade n calls start last old new
    → (a : Outcome ℕ) (part new' : List ℕ) → (call_at calls n).lent ≤ length start → 2 * n + 2 ≤ length old → Does (call_at calls n).asked (take (call_at calls n).lent last) a part
    → new' ≡ put_answer a n new → CallsMade (n + 1) calls start (part ++ drop (call_at calls n).lent last) old new'
unfolding calls_to
made_more n calls start last old new h a part new' fits roomy x put =
    let c = call_at calls n in
    let s = h.sheet in
    let w : Writing (answer_words h.answers ++ answer_pair a) old new' = subst (Writing (answer_words h.answers ++ answer_pair a) old) (sym put) (put-writing (answer_words h.answers) old new a n (record { is = h.words; long = h.long }) h.size roomy) in
    record {
      answers = h.answers ++ (a ∷ []);
      run = subst (λ m. Run start (calls_to m calls) (h.answers ++ (a ∷ [])) (part ++ drop c.lent last)) (sym (add-one n)) (run_more h.run c a part (omega arith) x);
      words = w.is ∙ ap (λ l. over l old) (sym (words_more h.answers a));
      size = ap length (words_more h.answers a) ∙ length-append (answer_words h.answers) (answer_pair a) ∙ ap₂ ◌+◌ h.size (pair-two a) ∙ (let z : 2 * n + 2 ≡ 2 * (n + 1) = omega arith in z);
      long = w.long;
      sheet = call_long last part c a (omega arith) x ∙ s;
    }

pub made-done : (calls start last old new : List ℕ) → CallsMade (call_count calls) calls start last old new → ReplayDone (calls_to (call_count calls) calls) start last old new
made-done calls start last old new h = record {
  answers = h.answers;
  run = h.run;
  words = h.words;
  kept = λ g before T o. demand3-kept (record { given = g; before = before; T = T; start = start; opened = o; calls = calls_to (call_count calls) calls; answers = h.answers; last = last; run = h.run });
}

-- what replay answers and leaves, after its verdict
pub replay-refused : (calls start old : List ℕ) (r : Row) → replay_verdict (length start) calls (length old) ≡ Refuse r
    → Replayed calls start old (refused r.number r.detail) start old
replay-refused calls start old r e = record {
  answers = subst (λ v. ◌≡◌ {A = Outcome ℕ} (refused r.number r.detail) (outcome_after v (low_word (answer_count calls)))) (sym e) refl;
  leaves = subst (λ v. ReplayLeaves v (calls_to (call_count calls) calls) start start old old) (sym e) (refl, refl);
}

pub replay-done : (calls start last old new : List ℕ) (n : ℕ) → replay_verdict (length start) calls (length old) ≡ Pass → n ≡ low_word (answer_count calls)
    → CallsMade (call_count calls) calls start last old new → Replayed calls start old (accepted n) last new
replay-done calls start last old new n e q h = record {
  answers = subst (λ v. ◌≡◌ {A = Outcome ℕ} (accepted n) (outcome_after v (low_word (answer_count calls)))) (sym e) (ap accepted q);
  leaves = subst (λ v. ReplayLeaves v (calls_to (call_count calls) calls) start last old new) (sym e) (made-done calls start last old new h);
}
