-- The words of a pair as a test that computes, for a polynomial that is not flat. `pair-test` shows that it is `PairWords`, so who believes the one need not
-- read the other.
--   product_test ..     P · A = f to k terms
--   pair_test ..        words below p, 0 from column k on, b is 0 at X = 0, c_0 is not, and the product
-- Assumes nothing.
use Rattle.std.specs.Prelude.{ℕ, ◌+◌, ◌*◌, Bool, not, List, [], ◌∷◌, eqb}
use Rattle.numbers.specs.Words.{word, all_to, all}
use Rattle.rows.specs.Rows.{mul, monic, rows_below}
use Rattle.pair.specs.Pair.{given, order, low_rows, high_rows}

-- P · A = f to k terms
unfoldable pub product_test : (p D N : ℕ) (f : List ℕ) (d k : ℕ) (s : List ℕ) → Bool
product_test p D N f d k s = all_to (D + 1) (λ j. all_to k (λ t. eqb (mul p (monic d (low_rows N d s)) (high_rows D N d s) j t) (given D N f j t)))

-- words below p, 0 from column k on, b is 0 at X = 0, c_0 is not, and the product
unfoldable pub pair_test : (p D N : ℕ) (f : List ℕ) (k : ℕ) (s : List ℕ) → Bool
pair_test p D N f k s =
    all (
    rows_below p s N (D + 1) 0 k
    ∷ rows_below 1 s N (D + 1) k N
    ∷ rows_below 1 s N (order D N f) 0 1
    ∷ not (eqb (word s (order D N f * N)) 0)
    ∷ product_test p D N f (order D N f) k s
    ∷ []
    )
