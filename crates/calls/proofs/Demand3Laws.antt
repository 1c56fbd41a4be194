-- Demand 3: whole lists of calls, extends and corrections, on what an accepted open wrote.
--   opened-done     an accepted open left what its conditions say
--   demand3-kept    every answer is the plain count's; then the first T words are the one sound sheet's, and the others are untouched
--   holds_agree     sheets agree below X^j exactly where the polynomials that they hold do
--   demand3-agree   factor lists agree below X^j exactly where the polynomials now held do
--   demand3         both: the whole of demand 3
--   calls_same      lists of calls on one opened sheet that end at the same count and the same polynomial leave the same words, to the last
-- Assumes nothing.
use Prim.Native.Nat.{ℕ, zero, suc, ◌+◌, ◌-◌, ◌*◌, ◌≤◌, ◌<◌}
use native.Mathlib.Nat.{not-suc-le-zero}
use native.Mathlib.Omega.{arith}
use mathlib.Core.Path.{◌≡◌, refl, sym, ◌∙◌, ap, ap₂, subst}
use mathlib.Core.Logic.{◌↔◌, ⊎_elim}
use mathlib.Core.Bool.{not}
use mathlib.Core.List.{List, [], ◌∷◌, ◌++◌}
use borrow.Author.Tests.{lt-ltb, le-ltb}
use lib.ListN.{length, take, drop, length-append, length-drop, length-set, take-append-drop, get_or-append}
use lib.Seq.{ext_get_or, get_or-take, get_or-drop, length-take-le, get_or-append-add}
use Rattle.numbers.proofs.RefusalsLaws.{accepted-pass}
use Rattle.numbers.specs.Words.{word}
use Rattle.numbers.specs.Refusals.{judge, beyond_check, behind_check, check, refusal, Outcome, accepted, refused, outcome_after, Leaves, Row, Verdict, Pass, Refuse}
use Rattle.numbers.proofs.WordsLaws.{lt-or-ge}
use Rattle.layout.specs.Layout.{modulus, degree, terms, known, end}
use Rattle.sheet.specs.Sheet.{Sound, Given, Holds}
use Rattle.open.specs.Open.{needed, open_verdict, OpenDone, Opened}
use Rattle.open.proofs.OpeningLaws.{open-passed}
use Rattle.extend.specs.Extend.{extend_verdict, ExtendDone}
use Rattle.correct.specs.Correct.{number_check, correct_verdict, CorrectDone, corrected}
use Rattle.calls.specs.Calls.{Asked, extend, correct, Call, Does, Run, done, call, Count, counting, count_checks, count_value, count_answer, count_next, count_answers, count_end, SameLists, SameGiven, History, worked, held, Kept, Agree, Demand3}
use Rattle.sheet.specs.internal.Content.{content_of}
use Rattle.sheet.proofs.SheetsLaws.{sound-good, sound-terms, end-ext}
use Rattle.sheet.proofs.UniqueLaws.{good-lists, good-polynomials, holds-unique}
use Rattle.sheet.proofs.HoldsLaws.{holds-reach, holds-ext}
use Rattle.extend.proofs.ExtendingLaws.{extend-end, extend-past, extend-holds}
use Rattle.extend.proofs.ExtendTotalLaws.{extend-spoiled, extend-judged}
use Rattle.correct.proofs.CorrectingLaws.{correct-end, correct-past, correct-holds}
use Rattle.correct.proofs.CorrectTotalLaws.{correct-able, entry-ext, correct-spoiled, correct-judged}

-- the plain count's answer, by the words lent
count-short : (T : ℕ) (n : Count) (c : Call) → c.lent < T → count_answer T n c ≡ refused 13 0
unfolding count_answer
count-short T n c l = rw (lt-ltb c.lent T l)

count_long : (T : ℕ) (n : Count) (c : Call) → T ≤ c.lent → count_answer T n c ≡ outcome_after (judge (count_checks n c.asked)) (count_value n c.asked)
unfolding count_answer
count_long T n c l = rw (le-ltb c.lent T l)

module _ (T : ℕ) (start : List ℕ) where
  -- what stands between the calls
  record Between (n : Count) (s : List ℕ) : Type 0 where
    holds : Holds n.given n.terms s
    rows : length n.given.rows ≡ (n.given.D + 1) * n.given.N
    fills : end s ≡ T
    same_length : length s ≡ length start
    rest : (i : ℕ) → T ≤ i → word s i ≡ word start i

  module _ (n : Count) (s : List ℕ) (b : Between n s) (m : ℕ) (asked : Asked) (lent : m ≤ length s) where
    abbrev u : List ℕ
    u = take m s

    abbrev c : Call
    c = record { lent = m; asked = asked }

    length-u : length u ≡ m
    length-u = length-take-le m s lent

    word-u : (i : ℕ) → i < m → word u i ≡ word s i
    word-u i l = get_or-take m s i 0 l

    short : m < T → ¬ Sound u
    short l h =
        let a = h.long in
        let c = length-u in
        let d = end-ext u h s (λ i v. sym (word-u i (omega arith))) in
        let e = b.fills in
        let z : ⊥ = omega arith in z

    long : T ≤ m → Holds n.given n.terms u
    long l = let e = b.fills in let c = length-u in holds-ext n.given n.terms s u b.holds (omega arith) (λ i v. word-u i (omega arith))

    end-u : T ≤ m → end u ≡ T
    end-u l = let e = b.fills in end-ext s b.holds.sound u (λ i v. word-u i (omega arith)) ∙ e

    module _ (part : List ℕ) where
      -- what an accepted call leaves of the words that it is lent
      record Left (n' : Count) : Type 0 where
        holds : Holds n'.given n'.terms part
        rows : length n'.given.rows ≡ (n'.given.D + 1) * n'.given.N
        ends : end part ≡ end u
        same_length : length part ≡ length u
        past : (i : ℕ) → end u ≤ i → word part i ≡ word u i

      next : T ≤ m → (n' : Count) → Left n' → Between n' (part ++ drop m s)
      next l n' d =
          let lp : length part ≡ m = d.same_length ∙ length-u in
          let ep : end part ≡ T = d.ends ∙ end-u l in
          let ls : length (part ++ drop m s) ≡ length s = simp (length-append, length-drop) (omega arith) in
          let low : (i : ℕ) → i < m → word (part ++ drop m s) i ≡ word part i = λ i v. get_or-append part (drop m s) 0 i (omega arith) in
          record {
            holds = holds-ext n'.given n'.terms part (part ++ drop m s) d.holds (omega arith) (λ i v. low i (omega arith));
            rows = d.rows;
            fills = end-ext part d.holds.sound (part ++ drop m s) (λ i v. low i (omega arith)) ∙ ep;
            same_length = ls ∙ b.same_length;
            rest = λ i v. ⊎_elim
                (λ (q : i < m). low i q ∙ d.past i (let x = end-u l in omega arith) ∙ word-u i q)
                (λ (q : m ≤ i).
                let x : length part + (i - m) ≡ i = omega arith in
                let y : m + (i - m) ≡ i = omega arith in
                ap (word (part ++ drop m s)) (sym x) ∙ get_or-append-add part (drop m s) (i - m) 0 ∙ get_or-drop m s (i - m) 0 ∙ ap (word s) y)
                (lt-or-ge i m)
                ∙ b.rest i v;
          }

      abbrev Step : Outcome ℕ → Type 0
      Step a = (a ≡ count_answer T n c) × Between (count_next n asked (count_answer T n c)) (part ++ drop m s)

      -- A call by its verdict v: lent too few words it is refused by 13; else v is the plain count's, and what an accepted call leaves is what is to be left.
      module _ (a : Outcome ℕ) (v : Verdict) (value : ℕ) (Done : Type 0) (answers : a ≡ outcome_after v value) (leaves : Leaves v Done u part) (spoiled : ¬ Sound u → v ≡ Refuse (refusal 13 0))
          (judged : Holds n.given n.terms u → (v ≡ judge (count_checks n asked)) × (value ≡ count_value n asked))
          (left : Holds n.given n.terms u → v ≡ Pass → Done → Left (count_next n asked (accepted value))) where
        refusing : (r : Row) → v ≡ Refuse r → Between n (part ++ drop m s)
        refusing r e = subst (Between n) (sym (ap (λ l. l ++ drop m s) (subst (λ v. Leaves v Done u part) e leaves) ∙ take-append-drop m s)) b

        by-verdict : T ≤ m → (w : Verdict) → v ≡ w → Between (count_next n asked (outcome_after w value)) (part ++ drop m s)
        by-verdict l Pass e = next l _ (left (long l) e (subst (λ v. Leaves v Done u part) e leaves))
        by-verdict l (Refuse r) e = refusing r e

        step : Step a
        step = ⊎_elim
            (λ (l : m < T).
            let e = spoiled (short l) in
            let q = count-short T n c l in
            (answers ∙ ap (λ v. outcome_after v value) e ∙ sym q, subst (λ o. Between (count_next n asked o) (part ++ drop m s)) (sym q) (refusing _ e)))
            (λ (l : T ≤ m).
            let (e, x) = judged (long l) in
            let q : outcome_after v value ≡ count_answer T n c = ap₂ outcome_after e x ∙ sym (count_long T n c l) in
            (answers ∙ q, subst (λ o. Between (count_next n asked o) (part ++ drop m s)) q (by-verdict l v refl)))
            (lt-or-ge m T)

  made : (n : Count) (s : List ℕ) (b : Between n s) (m : ℕ) (asked : Asked) (lent : m ≤ length s) (a : Outcome ℕ) (part : List ℕ) → Does asked (take m s) a part → Step n s b m asked lent part a
  made n s b m (extend w) lent a part x =
      let u = take m s in
      step n s b m (extend w) lent part a (extend_verdict u w) w (ExtendDone u w part) x.answers x.leaves (extend-spoiled u w)
      (λ h. (extend-judged u w h.sound ∙ ap₂ (λ r k. judge (beyond_check r w ∷ behind_check k w ∷ [])) (holds-reach n.given n.terms u h) h.same-terms, refl))
      (λ h _ d. record {
        holds = extend-holds u h.sound w part d n.given n.terms h;
        rows = b.rows;
        ends = extend-end u h.sound w part d;
        same_length = d.same_length;
        past = extend-past u h.sound w part d;
      })
  made n s b m (correct j t e) lent a part x =
      let u = take m s in
      step n s b m (correct j t e) lent part a (correct_verdict u j t e) (terms u) (CorrectDone u j t e part) x.answers x.leaves (correct-spoiled u j t e)
      (λ h. (
        correct-judged u j t e h.sound
            ∙ ap₂ (λ b p. judge (check 20 (not b) 0 ∷ number_check p e ∷ [])) (entry-ext (degree u) n.given.D (known u) (word n.given.lengths) j t h.same-degree h.same-lengths) h.same-modulus,
        h.same-terms,
      ))
      (λ h v d.
      let able = correct-able u j t e v in
      let i = able.entry.row in let o = able.entry.inside in
      record {
        holds = subst (λ k. Holds (corrected n.given j t e) k part) (sym h.same-terms) (correct-holds u h.sound j t e i o able.small part d n.given n.terms b.rows h);
        rows = length-set n.given.rows (j * n.given.N + t) e ∙ b.rows;
        ends = correct-end u h.sound j t e i o able.small part d;
        same_length = d.same_length;
        past = correct-past u h.sound j t e i o able.small part d;
      })

  whole : {s last : List ℕ} {cs : List Call} {os : List (Outcome ℕ)} → Run s cs os last → (n : Count) → Between n s → (os ≡ count_answers T n cs) × Between (count_end T n cs) last
  unfolding count_answers count_end
  whole done n b = (refl, b)
  whole (call {s} {c = c} {cs} {a} part l x r) n b =
      let q = made n s b c.lent c.asked l a part x in
      let z = whole r (count_next n c.asked (count_answer T n c)) q.1 in
      (ap₂ (λ (h : Outcome ℕ) (t : List (Outcome ℕ)). h ∷ t) q.0 z.0, z.1)

pub opened-done : (g : Given) (old new : List ℕ) (T : ℕ) → Opened g old (accepted T) new → OpenDone g old new T
opened-done g old new T x =
    let (e, t) = accepted-pass (open_verdict g (length old)) (needed g) T x.answers in
    subst (OpenDone g old new) (sym t) (subst (λ v. Leaves v (OpenDone g old new (needed g)) old new) e x.leaves)

between : (x : History) → (x.answers ≡ count_answers x.T (counting x.given) x.calls) × Between x.T x.start (count_end x.T (counting x.given) x.calls) x.last
between x =
    let d = opened-done x.given x.before x.start x.T x.opened in
    let (e, _) = accepted-pass (open_verdict x.given (length x.before)) (needed x.given) x.T x.opened.answers in
    whole x.T x.start x.run (counting x.given)
    (record { holds = d.holds; rows = (open-passed x.given (length x.before) e).list.rows.polynomial.long; fills = d.fills; same_length = refl; rest = λ i l. refl })

pub demand3-kept : (x : History) → Kept x
demand3-kept x =
    let q = between x in
    let b = q.1 in
    record {
      answers = q.0;
      holds = b.holds;
      fills = b.fills;
      only = λ s h. sym (subst (λ n. take n x.last ≡ take n s) b.fills (holds-unique (held x) (worked x) x.last s b.holds h));
      rest = ext_get_or 0 (drop x.T x.last) (drop x.T x.start) (length-drop x.T x.last ∙ ap (λ l. l - x.T) b.same_length ∙ sym (length-drop x.T x.start))
          (λ i l. get_or-drop x.T x.last i 0 ∙ b.rest (x.T + i) (omega arith) ∙ sym (get_or-drop x.T x.start i 0));
    }

-- sheets over one p agree below X^j exactly where what they hold does
pub holds_agree : (g g'' : Given) (k k' : ℕ) (s s' : List ℕ) → Holds g k s → Holds g'' k' s' → g.p ≡ g''.p → (j : ℕ) → 1 ≤ j → j ≤ k → j ≤ k' → SameLists j s s' ↔ SameGiven j g g''
holds_agree g g'' k k' s s' hx hy e zero low lx ly = absurd (not-suc-le-zero low)
holds_agree g g'' k k' s s' hx hy e (suc n) low lx ly =
    let p : modulus s ≡ modulus s' = hx.same-modulus ∙ e ∙ sym hy.same-modulus in
    let kx = hx.same-terms in
    let ky = hy.same-terms in
    let nx = sound-terms s hx.sound in
    let ny = sound-terms s' hy.sound in
    let dx = hx.same-degree in
    let dy = hy.same-degree in
    let gx = sound-good s hx.sound in
    let gy = sound-good s' hy.sound in (
      λ same.
          let q = good-polynomials (content_of s) (content_of s') gx gy p n (omega arith) (omega arith) same in
          let dq = q.degrees in
          record {
            degrees = sym dx ∙ q.degrees ∙ dy;
            columns = λ j l t v.
                sym (hx.same-polynomial j (omega arith) t (omega arith)) ∙ q.columns j (omega arith) t v ∙ hy.same-polynomial j (omega arith) t (omega arith);
          },
      λ same.
          let ds = same.degrees in
          good-lists (content_of s) (content_of s') gx gy p n (omega arith) (omega arith)
          (record {
            degrees = dx ∙ same.degrees ∙ sym dy;
            columns = λ j l t v.
                hx.same-polynomial j l t (omega arith) ∙ same.columns j (omega arith) t v ∙ sym (hy.same-polynomial j (omega arith) t (omega arith));
          }),
    )

-- corrections leave the modulus
same-modulus : (T : ℕ) (n : Count) (cs : List Call) → (count_end T n cs).given.p ≡ n.given.p
unfolding count_end
same-modulus T n [] = refl
same-modulus T n (c ∷ cs) = same-modulus T (count_next n c.asked (count_answer T n c)) cs ∙ go c.asked (count_answer T n c)
  where
    go : (asked : Asked) (o : Outcome ℕ) → (count_next n asked o).given.p ≡ n.given.p
    go (extend w) (accepted k) = refl
    go (correct j t e) (accepted k) = refl
    go asked (refused number detail) = refl

pub demand3-agree : (x y : History) → Agree x y
demand3-agree x y e =
    holds_agree (held x) (held y) (worked x) (worked y) x.last y.last (demand3-kept x).holds (demand3-kept y).holds
    (same-modulus x.T (counting x.given) x.calls ∙ e ∙ sym (same-modulus y.T (counting y.given) y.calls))

pub demand3 : Demand3
demand3 = (demand3-kept, demand3-agree)

pub calls_same : (x y : History) → x.start ≡ y.start → held x ≡ held y → worked x ≡ worked y → x.last ≡ y.last
calls_same x y es eg ew =
    let kx = demand3-kept x in
    let ky = demand3-kept y in
    let eT : x.T ≡ y.T
    = sym (opened-done x.given x.before x.start x.T x.opened).fills ∙ ap end es ∙ (opened-done y.given y.before y.start y.T y.opened).fills in
    let h : Holds (held x) (worked x) y.last = subst (λ g. Holds g (worked x) y.last) (sym eg) (subst (λ k. Holds (held y) k y.last) (sym ew) ky.holds) in
    let d : drop x.T x.last ≡ drop x.T y.last
    = kx.rest ∙ ap₂ (λ n s. drop n s) eT es ∙ sym ky.rest ∙ ap (λ n. drop n y.last) (sym eT) in
    sym (take-append-drop x.T x.last) ∙ ap₂ ◌++◌ (sym (kx.only y.last h)) d ∙ take-append-drop x.T y.last
