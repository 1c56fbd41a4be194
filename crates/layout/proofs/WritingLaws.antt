-- The words that the functions of `writing` leave.
--   header-stored   the header, word after word
--   pair-more       a root and its power more
-- Assumes nothing.
use Prim.Native.Nat.{ℕ, ◌+◌, ◌*◌, ◌≤◌}
use native.Mathlib.Omega.{arith}
use mathlib.Core.Path.{◌≡◌, refl, sym, subst, ◌∙◌}
use mathlib.Core.List.{List, [], ◌∷◌, ◌++◌, append_assoc}
use lib.ListN.{length, set, length-append}
use Rattle.numbers.specs.Words.{word, tabulate, over}
use Rattle.numbers.proofs.WordsLaws.{Writing, writing-none, writing-store}
use Rattle.rows.specs.Rows.{table}
use Rattle.rows.proofs.RowsLaws.{table-suc, length-table}
use Rattle.layout.specs.Layout.{lengths_from, roots_from, polynomial_from, factors_from, total, header_of}
use Rattle.layout.specs.internal.Places.{root_table}

pub header-stored : (p D N k r m o x y t : ℕ) (s : List ℕ) → lengths_from ≤ length s → o ≡ roots_from D → x ≡ polynomial_from D r → y ≡ factors_from D N r → t ≡ total D N r
    → set (set (set (set (set (set (set (set (set (set (set s 0 p) 1 D) 2 N) 3 k) 4 r) 5 o) 6 x) 7 y) 8 t) 9 t) 10 m ≡ over (header_of p D N k r m) s
header-stored p D N k r m o x y t s h q a b e =
    let w₁ = writing-store [] s s 0 p (writing-none s) refl (omega arith) in
    let w₂ = writing-store (p ∷ []) s _ 1 D w₁ refl (omega arith) in
    let w₃ = writing-store (p ∷ D ∷ []) s _ 2 N w₂ refl (omega arith) in
    let w₄ = writing-store (p ∷ D ∷ N ∷ []) s _ 3 k w₃ refl (omega arith) in
    let w₅ = writing-store (p ∷ D ∷ N ∷ k ∷ []) s _ 4 r w₄ refl (omega arith) in
    let w₆ = writing-store (p ∷ D ∷ N ∷ k ∷ r ∷ []) s _ 5 o w₅ refl (omega arith) in
    let w₇ = writing-store (p ∷ D ∷ N ∷ k ∷ r ∷ o ∷ []) s _ 6 x w₆ refl (omega arith) in
    let w₈ = writing-store (p ∷ D ∷ N ∷ k ∷ r ∷ o ∷ x ∷ []) s _ 7 y w₇ refl (omega arith) in
    let w₉ = writing-store (p ∷ D ∷ N ∷ k ∷ r ∷ o ∷ x ∷ y ∷ []) s _ 8 t w₈ refl (omega arith) in
    let wₜ = writing-store (p ∷ D ∷ N ∷ k ∷ r ∷ o ∷ x ∷ y ∷ t ∷ []) s _ 9 t w₉ refl (omega arith) in
    let w = writing-store (p ∷ D ∷ N ∷ k ∷ r ∷ o ∷ x ∷ y ∷ t ∷ t ∷ []) s _ 10 m wₜ refl (omega arith) in
    w.is ∙ rw (q, a, b, e)

pub pair-more : (roots powers old out : List ℕ) (i : ℕ) → Writing (table i 2 (root_table roots powers)) old out → 2 * i + 2 ≤ length old
    → Writing (table (i + 1) 2 (root_table roots powers)) old (set (set out (2 * i) (word roots i)) (2 * i + 1) (word powers i))
unfolding tabulate
pair-more roots powers old out i w h =
    let T = table i 2 (root_table roots powers) in
    let l : length T ≡ 2 * i = omega (arith, length-table i 2 (root_table roots powers)) in
    let one = writing-store T old out (2 * i) (word roots i) w l (omega arith) in
    let two = writing-store (T ++ (word roots i ∷ [])) old (set out (2 * i) (word roots i)) (2 * i + 1) (word powers i) one (length-append T (word roots i ∷ []) ∙ (let z : length T + 1 ≡ 2 * i + 1 = omega arith in z)) (omega arith) in
    subst (λ (xs : List ℕ). Writing xs old (set (set out (2 * i) (word roots i)) (2 * i + 1) (word powers i)))
    (append_assoc T (word roots i ∷ []) (word powers i ∷ []) ∙ sym (table-suc i 2 (root_table roots powers))) two
