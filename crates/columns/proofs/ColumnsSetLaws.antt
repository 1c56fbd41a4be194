-- Columns that a loop sets row after row (`ColumnsSet`): one row more, and the rows that `clear` and `put_columns` write.
-- Assumes nothing.
use mathlib.Core.Path.{◌≡◌, sym, ap, subst, ◌∙◌}
use mathlib.Core.Logic.{⊎_elim}
use mathlib.Core.List.{List}
use Prim.Native.Nat.{ℕ, ◌+◌, ◌-◌, ◌*◌, ◌≤◌, ◌<◌}
use native.Mathlib.Nat.{eq-or-lt_of_le}
use native.Mathlib.Omega.{arith}
use lib.ListN.{length, take, drop}
use lib.Seq.{get_or-drop, get_or-take}
use Rattle.numbers.specs.Words.{word, tabulate, over}
use Rattle.numbers.proofs.WordsLaws.{length-tabulate, word-tabulate, over-whole}
use Rattle.rows.proofs.RowsLaws.{row_fits}
use Rattle.columns.specs.internal.Column.{ColumnsSet}
use Rattle.columns.proofs.ColumnLaws.{put, put-long, put-before, put_in, put-past, length-lent}

module _ (N h w : ℕ) (g : ℕ → ℕ → ℕ) where
  -- row j, where y was put from column h on
  pub set-step : h ≤ w → w ≤ N → (rows j len : ℕ) (s e y : List ℕ) → j < rows → length s ≡ rows * N → len ≡ w - h
      → length y ≡ len → ((i : ℕ) → i < len → word y i ≡ g j (h + i)) → ColumnsSet N h w j g s e → ColumnsSet N h w (j + 1) g s (put (j * N + h) len e y)
  set-step up top rows j len s e y l n el ny is c =
      let a = j * N + h in
      let new = put a len e y in
      let fits : a + len ≤ length e = omega (arith, row_fits j rows N l, c.long) in
      let before = put-before a len e y fits ny in
      let after = put-past a len e y fits ny in
      record {
        long = put-long a len e y fits ny ∙ c.long;
        set = λ i u t lo hi.
            ⊎_elim
            (λ (q : i ≡ j). subst (λ v. word new (v * N + t) ≡ g v t) (sym q)
            (ap (word new) (let k : j * N + t ≡ a + (t - h) = omega arith in k) ∙ put_in a len e y fits ny (t - h) (omega arith)
            ∙ is (t - h) (omega arith) ∙ ap (g j) (let k : h + (t - h) ≡ t = omega arith in k)))
            (λ (q : i < j). before (i * N + t) (omega (arith, row_fits i j N q)) ∙ c.set i q t lo hi)
            (eq-or-lt_of_le {n = i} {m = j} (omega arith));
        others = λ i u t v side.
            ⊎_elim
            (λ (q : i ≡ j). subst (λ v. word new (v * N + t) ≡ word s (v * N + t)) (sym q)
            (⊎_elim (λ (x : t < h). before (j * N + t) (omega arith)) (λ (x : w ≤ t). after (j * N + t) (omega arith)) side ∙ c.past (j * N + t) (omega arith)))
            (λ (q : i < j). before (i * N + t) (omega (arith, row_fits i j N q)) ∙ c.others i q t v side)
            (eq-or-lt_of_le {n = i} {m = j} (omega arith));
        past = λ z u. let d : (j + 1) * N ≡ j * N + N = omega arith in after z (omega arith) ∙ c.past z (omega arith);
      }

-- a row of `clear`
pub clear_step : (N w rows j len : ℕ) (s e y : List ℕ) → w ≤ N → j < rows → length s ≡ rows * N → len ≡ N - w
    → y ≡ tabulate (length (take len (drop (j * N + w) e))) (λ _. 0) → ColumnsSet N w N j (λ _ _. 0) s e → ColumnsSet N w N (j + 1) (λ _ _. 0) s (put (j * N + w) len e y)
clear_step N w rows j len s e y top l n el q c =
    let np : length (take len (drop (j * N + w) e)) ≡ len = length-lent (j * N + w) len e (omega (arith, row_fits j rows N l, c.long)) in
    set-step N w N (λ _ _. 0) top (omega arith) rows j len s e y l n el
    (ap length q ∙ length-tabulate _ _ ∙ np) (λ i u. ap (λ x. word x i) q ∙ word-tabulate _ _ i (omega (arith, np))) c

-- a row of `put_columns`
pub put_step : (N h w rows j len : ℕ) (f s e y : List ℕ) → h ≤ w → w ≤ N → j < rows → length f ≡ rows * N → length s ≡ rows * N → len ≡ w - h
    → y ≡ over (take len (drop (j * N + h) f)) (take len (drop (j * N + h) e)) → ColumnsSet N h w j (λ j t. word f (j * N + t)) s e
    → ColumnsSet N h w (j + 1) (λ j t. word f (j * N + t)) s (put (j * N + h) len e y)
put_step N h w rows j len f s e y up top l nf n el q c =
    let a = j * N + h in
    let fits = row_fits j rows N l in
    let pf : length (take len (drop a f)) ≡ len = length-lent a len f (omega arith) in
    let pe : length (take len (drop a e)) ≡ len = length-lent a len e (omega (arith, c.long)) in
    let is : y ≡ take len (drop a f) = q ∙ over-whole _ _ (pf ∙ sym pe) in
    set-step N h w (λ j t. word f (j * N + t)) up top rows j len s e y l n el (ap length is ∙ pf)
    (λ i u. ap (λ x. word x i) is ∙ get_or-take len (drop a f) i 0 u ∙ get_or-drop a f i 0 ∙ ap (word f) (let k : a + i ≡ j * N + (h + i) = omega arith in k)) c
