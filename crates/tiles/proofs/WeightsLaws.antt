-- The rows of a table as steps of tiles, and what a row of tiles with the weights adds up.
-- Assumes nothing.
use mathlib.Core.Path.{◌≡◌, refl, sym, ap, ap₂, subst, ◌∙◌}
use mathlib.Core.List.{List, ◌∷◌, ◌++◌}
use Prim.Native.Nat.{ℕ, zero, suc, ◌+◌, ◌-◌, ◌*◌, ◌/◌, ◌%◌, ◌≤◌, ◌<◌}
use native.Mathlib.Nat.{mul_comm, zero-add, add-zero, mul-add-div, div-eq_of_lt}
use native.Mathlib.Numerals.{add-one}
use native.Mathlib.Omega.{arith}
use lib.ListN.{length, drop, set}
use lib.Seq.{drop_at}
use Rattle.algebra.specs.Sums.{sum_to}
use Rattle.algebra.proofs.SumsLaws.{sum_to-ext}
use Rattle.numbers.specs.Words.{word, tabulate}
use Rattle.numbers.specs.internal.Facts.{AllBelow}
use Rattle.numbers.proofs.WordsLaws.{word-tabulate, tabulate-ext, tabulate-below, Writing, writing-next}
use Rattle.numbers.specs.internal.Limits.{modulus_bound}
use Rattle.series.proofs.SeriesLaws.{word_below}
use Rattle.rows.specs.internal.Passes.{weight_sum}
use Rattle.rows.proofs.RowsLaws.{writing-whole}
use Rattle.tiles.specs.internal.Tile.{tile_at, tile_row}
use Rattle.tiles.specs.internal.Weights.{TableTiled, pair_word}
use Rattle.tiles.proofs.TileLaws.{step_start, lane}

-- The first j rows of the table are steps of the tiles.
pub record Loading (n blocks : ℕ) (table tiles : List ℕ) (j : ℕ) : Type 0 where
  pub long : length tiles ≡ blocks * (8 * (n + 1))
  pub below : AllBelow modulus_bound tiles
  pub rows : (k : ℕ) → k < j → (i : ℕ) → i < n → tile_at (n + 1) tiles (n - k) i ≡ word table (k * n + i)

-- the loop is at the end of what it writes
pub written : (n m : ℕ) (f : ℕ → ℕ) (s e : List ℕ) → Writing (tabulate n f) s e → n ≡ m → m ≡ length s → e ≡ tabulate m f
written n m f s e w q h = writing-whole n f s e w (q ∙ h) ∙ ap (λ k. tabulate k f) q

-- what is written stands there, wherever the writing began
writing-again : (xs s e : List ℕ) → Writing xs s e → Writing xs e e
writing-again xs s e w = record {
  is = w.is ∙ ap (λ x. xs ++ x) (sym (ap (drop (length xs)) w.is ∙ drop_at xs (drop (length xs) s) (length xs) refl));
  long = refl;
}

-- a pair's two words
pair-at : (weights : List ℕ) (s b : ℕ) → b < 2 → pair_word weights (2 * (s + 1) + b) ≡ word weights s
unfolding pair_word
pair-at weights s b h = ap (word (0 ∷ weights)) (mul-add-div (omega arith) (s + 1) b ∙ ap (λ x. s + 1 + x) (div-eq_of_lt h) ∙ add-zero (s + 1) ∙ add-one s)

pair-zero : (weights : List ℕ) (b : ℕ) → b < 2 → 0 ≡ pair_word weights b
unfolding pair_word
pair-zero weights b h = ap (word (0 ∷ weights)) (sym (div-eq_of_lt h))

pub pairs_start : (weights s : List ℕ) → 2 ≤ length s → Writing (tabulate (2 * 0 + 2) (pair_word weights)) (set (set s 0 0) 1 0) (set (set s 0 0) 1 0)
pairs_start weights s h =
    writing-again _ s _ (writing-next 1 _ s (set s 0 0) 0 (writing-next 0 _ s s 0 (step_start _ s) (pair-zero weights 0 (omega arith)) (omega arith)) (pair-zero weights 1 (omega arith)) (omega arith))

pub pairs_next : (weights s e : List ℕ) (i : ℕ) → 2 * i + 3 < length s → Writing (tabulate (2 * i + 2) (pair_word weights)) s e
    → Writing (tabulate (2 * (i + 1) + 2) (pair_word weights)) s (set (set e (2 * i + 2) (word weights i)) (2 * i + 2 + 1) (word weights i))
pairs_next weights s e i h w =
    let q : (b : ℕ) → b < 2 → word weights i ≡ pair_word weights (2 * i + 2 + b) =
    λ b l. sym (pair-at weights i b l) ∙ ap (pair_word weights) (let z : 2 * (i + 1) + b ≡ 2 * i + 2 + b = omega arith in z) in
    let w₁ = writing-next (2 * i + 2) (pair_word weights) s e (word weights i) w (q 0 (omega arith) ∙ ap (pair_word weights) (add-zero (2 * i + 2))) (omega arith) in
    subst (λ k. Writing (tabulate k (pair_word weights)) s (set (set e (2 * i + 2) (word weights i)) (2 * i + 2 + 1) (word weights i)))
    (let z : 2 * i + 2 + 1 + 1 ≡ 2 * (i + 1) + 2 = omega arith in z)
    (writing-next (2 * i + 2 + 1) (pair_word weights) s (set e (2 * i + 2) (word weights i)) (word weights i) w₁ (q 1 (omega arith)) (omega arith))

pub pairs_below : (q n : ℕ) (weights : List ℕ) → 1 ≤ q → AllBelow q weights → AllBelow q (tabulate n (pair_word weights))
unfolding pair_word
pairs_below q n weights pos b = tabulate-below q n _ (λ k l. first q weights pos b (k / 2))
  where
    first : (q : ℕ) (s : List ℕ) → 1 ≤ q → AllBelow q s → (k : ℕ) → word (0 ∷ s) k < q
    first q s pos b zero = pos
    first q s pos b (suc k) = word_below q s pos b k

-- a row of tiles, from the table, the weights and no sums yet
pub weigh-row : (n blocks : ℕ) (table tiles weights : List ℕ) (i : ℕ) → TableTiled n blocks table tiles → length weights ≡ n → i < n → i < 8 * blocks
    → tile_row (n + 1) (n + 1) (tabulate (2 * (n + 1)) (pair_word weights)) tiles (tabulate (8 * blocks) (λ _. 0)) i ≡ weight_sum table n weights i
unfolding tile_row weight_sum
weigh-row n blocks table tiles weights i w q h g =
    let P = tabulate (2 * (n + 1)) (pair_word weights) in
    ap (λ x. x + sum_to (n + 1 - 1) (λ s. word P (2 * (s + 1) + i % 2) * tile_at (n + 1) tiles (n + 1 - (s + 1)) i)) (word-tabulate (8 * blocks) (λ _. 0) i g)
    ∙ zero-add _
    ∙ ap (λ x. sum_to x (λ s. word P (2 * (s + 1) + i % 2) * tile_at (n + 1) tiles (n + 1 - (s + 1)) i)) (let z : n + 1 - 1 ≡ length weights = omega arith in z)
    ∙ sum_to-ext (length weights) (λ s l.
    let b = lane i in
    ap₂ (λ x y. x * y)
    (word-tabulate (2 * (n + 1)) (pair_word weights) (2 * (s + 1) + i % 2) (omega arith) ∙ pair-at weights s (i % 2) b)
    (ap (λ x. tile_at (n + 1) tiles x i) (let z : n + 1 - (s + 1) ≡ n - s = omega arith in z) ∙ w.rows s (omega arith) i h)
    ∙ mul_comm (word weights s) (word table (s * n + i)))

-- the sums, reduced
pub weigh-is : (p n m blocks lanes : ℕ) (table tiles weights pairs zeros sums out : List ℕ) → length weights ≡ n → m ≡ n → lanes ≡ 8 * blocks → n ≤ 8 * blocks
    → pairs ≡ tabulate (2 * (length weights + 1)) (pair_word weights) → zeros ≡ tabulate lanes (λ _. 0)
    → sums ≡ tabulate (8 * blocks) (tile_row (n + 1) (n + 1) pairs tiles zeros) → out ≡ tabulate m (λ i. word sums i % p) → TableTiled n blocks table tiles
    → out ≡ tabulate n (λ i. weight_sum table n weights i % p)
weigh-is p n m blocks lanes table tiles weights pairs zeros sums out q all wide room eq-pairs eq-zeros eq-sums eq-out w =
    eq-out ∙ ap (λ k. tabulate k (λ i. word sums i % p)) all
    ∙ tabulate-ext n _ _ (λ i l.
    ap (λ x. x % p)
    (ap (λ x. word x i) eq-sums ∙ word-tabulate (8 * blocks) _ i (omega arith)
    ∙ ap₂ (λ x y. tile_row (n + 1) (n + 1) x tiles y i) (eq-pairs ∙ ap (λ k. tabulate (2 * (k + 1)) (pair_word weights)) q) (eq-zeros ∙ ap (λ k. tabulate k (λ _. 0)) wide)
    ∙ weigh-row n blocks table tiles weights i w q l (omega arith)))
