-- What `pair` answers and leaves is determined, for every input and to the last word.
--   done-one        the pair's words over the old ones meet PairDone, and nothing else does
--   paired-one      `Paired` has exactly one solution
--   paired-afresh   an accepted call leaves what starting leaves
--   paired-keeps    where h is 1 or more every word outside columns h..w − 1 of the D + 1 rows stays
--   paired-goes     in one go or in several: the same answer and the same words
-- Assumes nothing.
use Prim.Native.Nat.{ℕ, zero, ◌+◌, ◌-◌, ◌*◌, ◌%◌, ◌≤◌, ◌<◌}
use native.Mathlib.Nat.{mul-add-mod_self_right, mod-eq_of_lt}
use native.Mathlib.Omega.{arith}
use mathlib.Core.Path.{◌≡◌, refl, sym, ap, ap₂, subst, ◌∙◌}
use mathlib.Core.Logic.{◌⊎◌, inl, inr, ⊎_elim}
use mathlib.Core.List.{List, [], ◌++◌}
use lib.ListN.{length, drop, take-append-drop}
use lib.Seq.{get_or-drop}
use Rattle.algebra.specs.Prime.{Prime}
use Rattle.numbers.specs.Words.{word}
use Rattle.numbers.specs.Refusals.{judge, Outcome, accepted, outcome_after, operation_checks, Leaves, Verdict, Pass, Refuse}
use Rattle.numbers.specs.One.{One, OneOutcome}
use Rattle.numbers.proofs.OneLaws.{one_of, verdict-one}
use Rattle.numbers.proofs.RefusalsLaws.{accepted-pass}
use Rattle.numbers.proofs.WordsLaws.{lt-or-ge}
use Rattle.rows.proofs.RowsLaws.{by_row, row_fits}
use Rattle.pair.specs.Pair.{order}
use Rattle.pair.specs.Paired.{pair_checks, PairDone, Paired}
use Rattle.pair.proofs.PairWordsLaws.{pair_words, pair-words, length-pair}
use Rattle.pair.proofs.AnswerLaws.{PairInput, operation-of, pair-pass, pass-pair, lifted-done, done-unique, done-keeps}

module _ (p D N : ℕ) (f : List ℕ) (h w : ℕ) (old : List ℕ) (i : PairInput p D N f h w old) where
  done-exists : (new : List ℕ) × PairDone p D N f w old new
  done-exists =
      let g = (operation-of i).inputs in
      let xs = pair_words p D N f g.modulus.prime g.width_low g.f-below i.bound w in (
        xs ++ drop ((D + 1) * N) old,
        lifted-done p D N f h w old i xs (length-pair p D N f g.modulus.prime g.width_low g.f-below i.bound w)
            (pair-words p D N f g.modulus.prime g.width_low g.f-below i.bound w i.low i.high),
      )

-- what two calls leave is the same where the words past the rows are
module _ (p D N : ℕ) (f : List ℕ) (w : ℕ) (old old' : List ℕ) (prime : Prime p) (wide : zero < N) (roomy : (D + 1) * N ≤ length old) (roomy' : (D + 1) * N ≤ length old')
    (past : drop ((D + 1) * N) old ≡ drop ((D + 1) * N) old') where
  done-same : (new new' : List ℕ) → PairDone p D N f w old new → PairDone p D N f w old' new' → new ≡ new'
  done-same new new' d d' =
      let M = (D + 1) * N in
      sym (take-append-drop M new) ∙ ap₂ ◌++◌ (done-unique p D N f w old new old' new' prime wide roomy roomy' d d') (d.rest ∙ past ∙ sym d'.rest) ∙ take-append-drop M new'

module _ (p D N : ℕ) (f : List ℕ) (h w : ℕ) (old : List ℕ) where
  abbrev verdict : Verdict
  verdict = judge (pair_checks p D N f h w old)

  pub done-one : PairInput p D N f h w old → One (PairDone p D N f w old)
  done-one i =
      let o = operation-of i in
      one_of (PairDone p D N f w old) (done-exists p D N f h w old i).0 (done-exists p D N f h w old i).1 (done-same p D N f w old old o.inputs.modulus.prime o.inputs.width_low o.roomy o.roomy refl)

  pub paired-one : OneOutcome (Paired p D N f h w old)
  paired-one =
      verdict-one (Paired p D N f h w old) verdict (order D N f) (λ new. PairDone p D N f w old new) old
      (λ a new. (λ x. (x.answers, x.leaves), λ e. record { answers = e.0; leaves = e.1 })) (λ e. done-one (pair-pass p D N f h w old e))

  -- an accepted call, by its input and what it leaves
  pub paired-done : {d : ℕ} {new : List ℕ} → Paired p D N f h w old (accepted d) new → PairInput p D N f h w old × PairDone p D N f w old new
  paired-done {d} {new} x =
      let e = (accepted-pass verdict (order D N f) d x.answers).0 in
      (pair-pass p D N f h w old e, subst (λ v. Leaves v (PairDone p D N f w old new) old new) e x.leaves)

  pub done-paired : {answer : Outcome ℕ} {new : List ℕ} → PairInput p D N f h w old → Paired p D N f h w old answer new → (answer ≡ accepted (order D N f)) × PairDone p D N f w old new
  done-paired {answer} {new} i x =
      let e = pass-pair p D N f h w old i in
      (x.answers ∙ ap (λ v. outcome_after v (order D N f)) e, subst (λ v. Leaves v (PairDone p D N f w old new) old new) e x.leaves)

  pub paired-afresh : (d : ℕ) (new : List ℕ) → Paired p D N f h w old (accepted d) new → Paired p D N f 0 w old (accepted d) new
  paired-afresh d new x =
      let (i, done) = paired-done x in
      let e : judge (pair_checks p D N f 0 w old) ≡ Pass =
      pass-pair p D N f 0 w old (record { operates = i.operates; bound = i.bound; words = λ z. absurd (let y : ⊥ = omega arith in y); low = i.low; high = i.high; upto = omega arith }) in
      record {
        answers = x.answers ∙ ap (λ v. outcome_after v (order D N f)) (pass-pair p D N f h w old i ∙ sym e);
        leaves = subst (λ v. Leaves v (PairDone p D N f w old new) old new) (sym e) done;
      }

  -- word i stands in columns h..w − 1 of the D + 1 rows
  abbrev pub InColumns : ℕ → Type 0
  InColumns i = (i < (D + 1) * N) × (h ≤ i % N) × (i % N < w)

  module _ (one : 1 ≤ h) (answer : Outcome ℕ) (new : List ℕ) (x : Paired p D N f h w old answer new) where
    pub paired-keeps : (i : ℕ) → ¬ InColumns i → word new i ≡ word old i
    paired-keeps i = go verdict refl x.leaves
      where
        in_rows : PairInput p D N f h w old → PairDone p D N f w old new → (j : ℕ) → j < D + 1 → (t : ℕ) → t < N → ¬ InColumns (j * N + t) → word new (j * N + t) ≡ word old (j * N + t)
        in_rows c d j g t u n =
            let e : (j * N + t) % N ≡ t = mul-add-mod_self_right j N t ∙ mod-eq_of_lt u in
            let side : (t < h) ⊎ (w ≤ t) = ⊎_elim (λ (l : t < h). inl l)
            (λ (l : h ≤ t). ⊎_elim (λ (l' : t < w). absurd (n (omega (arith, row_fits j (D + 1) N g), omega arith, omega arith))) (λ (l' : w ≤ t). inr l') (lt-or-ge t w)) (lt-or-ge t h) in
            done-keeps p D N f h w old new (operation-of c).inputs.modulus.prime c.upto (c.words one) d j g t u side

        past : PairDone p D N f w old new → (D + 1) * N ≤ i → word new i ≡ word old i
        past d l =
            let e : (D + 1) * N + (i - (D + 1) * N) ≡ i = omega arith in
            ap (word new) (sym e) ∙ sym (get_or-drop ((D + 1) * N) new (i - (D + 1) * N) 0) ∙ ap (λ s. word s (i - (D + 1) * N)) d.rest
            ∙ get_or-drop ((D + 1) * N) old (i - (D + 1) * N) 0 ∙ ap (word old) e

        go : (v : Verdict) → verdict ≡ v → Leaves v (PairDone p D N f w old new) old new → ¬ InColumns i → word new i ≡ word old i
        go Pass e d n =
            let c = pair-pass p D N f h w old e in
            ⊎_elim (λ (l : i < (D + 1) * N). by_row (D + 1) N (λ k. ¬ InColumns k → word new k ≡ word old k) (operation-of c).inputs.width_low (in_rows c d) i l n)
            (past d) (lt-or-ge i ((D + 1) * N))
        go (Refuse r) e d n = ap (λ s. word s i) d

-- Where going from g to w in one go is accepted, going to h and then to w gives the same answer and leaves the same words; g = 0 is a start.
pub paired-goes : (p D N : ℕ) (f : List ℕ) (g h w : ℕ) (old : List ℕ) (d : ℕ) (new : List ℕ) (a b : Outcome ℕ) (mid last : List ℕ) → 1 ≤ h → g ≤ h → h ≤ w
    → Paired p D N f g w old (accepted d) new → Paired p D N f g h old a mid → Paired p D N f h w mid b last → (b ≡ accepted d) × (last ≡ new)
paired-goes p D N f g h w old d new a b mid last one low high x y z =
    let (i, done) = paired-done p D N f g w old x in
    let o = operation-of i in
    let top = i.high in
    let first : PairInput p D N f g h old = record { operates = i.operates; bound = i.bound; words = i.words; low = one; high = omega arith; upto = low } in
    let there = (done-paired p D N f g h old first y).1 in
    let n = there.long in
    let room = o.roomy in
    let then : PairInput p D N f h w mid = record {
      operates = subst (λ l. judge (operation_checks p N f (D + 1) [] 0 (D + 1) l) ≡ Pass) (sym n) i.operates;
      bound = i.bound;
      words = λ _. there.words;
      low = i.low;
      high = top;
      upto = high;
    } in
    let (answer, finished) = done-paired p D N f h w mid then z in (
      answer ∙ sym (done-paired p D N f g w old i x).0,
      done-same p D N f w mid old o.inputs.modulus.prime o.inputs.width_low (omega arith) room there.rest last new finished done,
    )
