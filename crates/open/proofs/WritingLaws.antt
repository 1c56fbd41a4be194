-- Tables, part after part, as the functions that write a fresh sheet leave them.
--   flat-row                      a row of a polynomial in Y alone
--   line-long, line-lower, line-rows   the words of an array that has (Y − c)^m at its front, and their rows
--   factors-none, factors-more, factors-all   the factors, one after the other
-- Assumes nothing.
use Prim.Native.Nat.{ℕ, zero, suc, ◌+◌, ◌-◌, ◌*◌, ◌≤◌, ◌<◌}
use native.Mathlib.Nat.{add-zero, add-suc, add-mul, zero-mul, mul-le-mul, le_refl}
use native.Mathlib.Numerals.{add-one}
use native.Mathlib.Omega.{arith}
use mathlib.Core.Path.{◌≡◌, refl, sym, ◌∙◌, ap}
use mathlib.Core.List.{List, ◌++◌, append_assoc, append-nil}
use lib.ListN.{length, take, drop, length-append, length-drop}
use lib.Seq.{get_or-take, take_at, length-take-le}
use Rattle.algebra.specs.Sums.{sum_to}
use Rattle.algebra.proofs.SumsLaws.{sum_to-zero, sum_to-suc, sum_to-mono}
use Rattle.numbers.specs.Words.{word, tabulate, over}
use Rattle.numbers.proofs.WordsLaws.{length-tabulate, word-tabulate, tabulate-ext, Writing, writing-none, writing-part, over-whole}
use Rattle.numbers.specs.Limits.{largest_degree, most_rows}
use Rattle.rows.specs.Rows.{table}
use Rattle.rows.proofs.RowsLaws.{zeros, table_none, length-table, table-ext}
use Rattle.columns.specs.internal.Column.{first_only}
use Rattle.hensel.specs.Factors.{root_power, flat}
use Rattle.sheet.specs.internal.Content.{start, stacked, cut}
use Rattle.sheet.proofs.BuildLaws.{stacked-is, cut_low, cut_high}
use Rattle.open.specs.internal.Writing.{degree_of, factor_table}
use Rattle.powers.proofs.LineLaws.{front-words}

table-append : (a b N : ℕ) (f : ℕ → ℕ → ℕ) → table (a + b) N f ≡ table a N f ++ table b N (λ j. f (a + j))
unfolding table
table-append a zero N f = ap (λ n. table n N f) (add-zero a) ∙ sym (append-nil (table a N f))
table-append a (suc b) N f =
    ap (λ n. table n N f) (add-suc a b) ∙ ap (λ (l : List ℕ). l ++ tabulate N (f (a + b))) (table-append a b N f)
    ∙ append_assoc (table a N f) (table b N (λ j. f (a + j))) (tabulate N (f (a + b)))

-- a row
pub flat-row : (n : ℕ) (a : ℕ → ℕ) (j : ℕ) → tabulate n (first_only (a j)) ≡ tabulate n (flat a j)
flat-row n a j = tabulate-ext n (first_only (a j)) (flat a j) (λ t _. go t)
  where
    go : (t : ℕ) → first_only (a j) t ≡ flat a j t
    go zero = refl
    go (suc t) = refl

flat-same : (a b : ℕ → ℕ) (j t : ℕ) → a j ≡ b j → flat a j t ≡ flat b j t
flat-same a b j zero e = e
flat-same a b j (suc t) e = refl

flat-cut : (b : ℕ → ℕ → ℕ) (a : ℕ → ℕ) (j q t : ℕ) → a j ≡ b q 0 → flat a j t ≡ cut 1 b q t
flat-cut b a j q zero e = e ∙ sym (cut_low 1 b q 0 (omega arith))
flat-cut b a j q (suc t) e = sym (cut_high 1 b q (suc t) (omega arith))

-- the array that has (Y − c)^m at its front
module _ (p x m : ℕ) (ws : List ℕ) (small : m ≤ largest_degree) (e : ws ≡ tabulate (length (take (m + 1) zeros)) (root_power p x (length (take (m + 1) zeros) - 1))) where
  words_long : length ws ≡ m + 1
  words_long = ap length (front-words m small p x ws e) ∙ length-tabulate (m + 1) (root_power p x m)

  pub line-long : length (ws ++ drop (m + 1) zeros) ≡ most_rows
  line-long =
      let a = length-drop (m + 1) zeros in
      let b = words_long in
      length-append ws (drop (m + 1) zeros) ∙ (let z : length ws + length (drop (m + 1) zeros) ≡ most_rows = omega arith in z)

  line-is : take (m + 1) (ws ++ drop (m + 1) zeros) ≡ tabulate (m + 1) (root_power p x m)
  line-is = take_at ws (drop (m + 1) zeros) (m + 1) words_long ∙ front-words m small p x ws e

  -- its rows, without the leading 1
  pub line-lower : length (take m (ws ++ drop (m + 1) zeros)) ≡ m
  line-lower = length-take-le m (ws ++ drop (m + 1) zeros) (let z = line-long in omega arith)

  pub line-rows : (n : ℕ) → table (length (take m (ws ++ drop (m + 1) zeros))) n (flat (word (take m (ws ++ drop (m + 1) zeros)))) ≡ table m n (flat (root_power p x m))
  line-rows n =
      let A = ws ++ drop (m + 1) zeros in
      ap (λ (k : ℕ). table k n (flat (word (take m A)))) line-lower
      ∙ table-ext m n (flat (word (take m A))) (flat (root_power p x m)) (λ j t l _.
      flat-same (word (take m A)) (root_power p x m) j t
      (get_or-take m A j 0 l ∙ sym (get_or-take (m + 1) A j 0 (omega arith)) ∙ ap (λ (s : List ℕ). word s j) line-is ∙ word-tabulate (m + 1) (root_power p x m) j (omega arith)))

pub power_small : (powers : List ℕ) (i : ℕ) → i < length powers → word powers i ≤ degree_of powers
power_small powers i l = omega (arith, sum_to-suc i (word powers), sum_to-mono (suc i) (length powers) (word powers) l)

pub block-fits : (n : ℕ) (powers : List ℕ) (i : ℕ) → i < length powers → sum_to i (word powers) * n + word powers i * n ≤ degree_of powers * n
block-fits n powers i l =
    let a = add-mul (sum_to i (word powers)) (word powers i) n in
    let b : (sum_to i (word powers) + word powers i) * n ≤ degree_of powers * n
    = mul-le-mul {n₂ = degree_of powers} {m₂ = n} (omega (arith, sum_to-suc i (word powers), sum_to-mono (suc i) (length powers) (word powers) l)) (le_refl n) in
    omega arith

module _ (p n : ℕ) (roots powers : List ℕ) where
  pub factors-none : (old : List ℕ) → Writing (table (sum_to 0 (word powers)) n (factor_table p roots powers)) old old
  factors-none old = rw (sum_to-zero (word powers), table_none n (factor_table p roots powers)) (writing-none old)

  pub factors-at : 0 ≡ sum_to 0 (word powers) * n
  factors-at = sym (ap (λ x. x * n) (sum_to-zero (word powers)) ∙ zero-mul n)

  pub factors-all : (i : ℕ) (old out : List ℕ) → i ≡ length powers → Writing (table (sum_to i (word powers)) n (factor_table p roots powers)) old out → length old ≡ degree_of powers * n
      → out ≡ table (degree_of powers) n (factor_table p roots powers)
  factors-all i old out q w long =
      w.is ∙ ap (λ k. over (table (sum_to k (word powers)) n (factor_table p roots powers)) old) q
      ∙ over-whole (table (degree_of powers) n (factor_table p roots powers)) old (length-table (degree_of powers) n (factor_table p roots powers) ∙ sym long)

  pub at_next : (i at : ℕ) → at ≡ sum_to i (word powers) * n → at + word powers i * n ≡ sum_to (i + 1) (word powers) * n
  at_next i at q =
      ap (λ x. x + word powers i * n) q ∙ sym (add-mul (sum_to i (word powers)) (word powers i) n)
      ∙ ap (λ x. x * n) (sym (ap (λ k. sum_to k (word powers)) (add-one i) ∙ sum_to-suc i (word powers)))

  factor-rows : (i : ℕ) → i < length roots → table (sum_to (i + 1) (word powers)) n (factor_table p roots powers)
      ≡ table (sum_to i (word powers)) n (factor_table p roots powers) ++ table (word powers i) n (flat (root_power p (word roots i) (word powers i)))
  factor-rows i l =
      let s = stacked (length roots) (word powers) (start p (word roots) (word powers)) in
      ap (λ k. table k n (factor_table p roots powers)) (ap (λ k. sum_to k (word powers)) (add-one i) ∙ sum_to-suc i (word powers))
      ∙ table-append (sum_to i (word powers)) (word powers i) n (factor_table p roots powers)
      ∙ ap (λ (l : List ℕ). table (sum_to i (word powers)) n (factor_table p roots powers) ++ l)
      (table-ext (word powers i) n (λ j. factor_table p roots powers (sum_to i (word powers) + j)) (flat (root_power p (word roots i) (word powers i))) (λ j t g _.
      sym (flat-cut s (root_power p (word roots i) (word powers i)) j (sum_to i (word powers) + j) t (sym (stacked-is (length roots) (word powers) (start p (word roots) (word powers)) i j 0 l g)))))

  pub factors-more : (i at : ℕ) (old out ys : List ℕ) → i < length roots → at ≡ sum_to i (word powers) * n → at + word powers i * n ≤ length old
      → Writing (table (sum_to i (word powers)) n (factor_table p roots powers)) old out → ys ≡ table (word powers i) n (flat (root_power p (word roots i) (word powers i)))
      → Writing (table (sum_to (i + 1) (word powers)) n (factor_table p roots powers)) old
      (take at out ++ (ys ++ drop (at + word powers i * n - at) (drop at out)))
  factors-more i at old out ys l q fits w e =
      let k : at + word powers i * n - at ≡ word powers i * n = omega arith in
      rw (factor-rows i l, e, k) (writing-part (table (sum_to i (word powers)) n (factor_table p roots powers)) (table (word powers i) n (flat (root_power p (word roots i) (word powers i)))) old out at (word powers i * n) w
      (length-table (sum_to i (word powers)) n (factor_table p roots powers) ∙ sym q) (length-table (word powers i) n (flat (root_power p (word roots i) (word powers i)))) fits)
