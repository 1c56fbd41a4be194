-- Eight sums at a time: that they fit, and one step after another; rows of tiles, and a column put into them.
-- Assumes nothing.
use mathlib.Core.Path.{◌≡◌, sym, ap, ap₂, subst, ◌∙◌}
use mathlib.Core.Logic.{⊎_elim}
use mathlib.Core.List.{List, [], ◌∷◌, ◌++◌, append_assoc, append-nil}
use Prim.Native.Nat.{ℕ, zero, suc, ◌+◌, ◌-◌, ◌*◌, ◌/◌, ◌%◌, ◌≤◌, ◌<◌}
use native.Mathlib.Nat.{mod-lt, mod-eq_of_lt, div-add-mod, div-eq_of_lt, mul-add-div, mul-add-mod_self_left, mul-le-mul, add_assoc, add-zero, add-suc, eq-or-lt_of_le}
use native.Mathlib.Omega.{arith}
use lib.ListN.{length, take, drop, set, length-set}
use Rattle.algebra.specs.Sums.{sum_to}
use Rattle.algebra.proofs.SumsLaws.{sum_to-zero, sum_to-suc, sum_to-ext, sum_to-bound}
use Rattle.numbers.specs.Words.{word, tabulate}
use Rattle.numbers.specs.internal.Facts.{AllBelow}
use Rattle.numbers.proofs.WordsLaws.{lt-or-ge, length-tabulate, word-tabulate, tabulate-ext, Writing, writing-none, writing-past, writing-part, from, word-from, word-part}
use Rattle.numbers.specs.internal.Limits.{modulus_bound}
use Rattle.numbers.specs.Limits.{largest_width}
use Rattle.series.proofs.SeriesLaws.{word_below}
use Rattle.rows.proofs.RowsLaws.{length_part, writing-whole, row_fits}
use lib.Seq.{ext_get_or, get_or-set_same, get_or-set_other}
use Rattle.tiles.specs.internal.Tile.{tile_step, tile_add, tile_sum, tile_at, tile_row, TileReady}

pub word_fits : (x y : ℕ) → x < modulus_bound → y < modulus_bound → x * y ≤ 281474943156225
word_fits x y a b = let z : x * y ≤ 16777215 * 16777215 = mul-le-mul {n₂ = 16777215} {m₂ = 16777215} (omega arith) (omega arith) in omega arith

pub step_start : (f : ℕ → ℕ) (s : List ℕ) → Writing (tabulate 0 f) s s
unfolding tabulate
step_start f s = writing-none s

pub step-turn : (x w s a : List ℕ) (l : ℕ) → Writing (tabulate l (tile_step x w s)) s a → word a l + word x (l % 2) * word w l ≡ tile_step x w s l
unfolding tile_step
step-turn x w s a l h =
    ap (λ v. v + word x (l % 2) * word w l) (writing-past _ s a l h (omega (arith, length-tabulate l (λ l. word s l + word x (l % 2) * word w l))))

pub old-word : (x w s a : List ℕ) (l : ℕ) → Writing (tabulate l (tile_step x w s)) s a → word a l ≡ word s l
old-word x w s a l h = writing-past _ s a l h (omega (arith, length-tabulate l (tile_step x w s)))

pub copy-all : (n : ℕ) (x s e : List ℕ) → Writing (tabulate n (word x)) s e → n ≡ length s → length x ≡ length s → e ≡ x
copy-all n x s e w q h = writing-whole n (word x) s e w q ∙ ext_get_or 0 _ x (length-tabulate n (word x) ∙ q ∙ sym h) (λ k l. word-tabulate n (word x) k (omega (arith, length-tabulate n (word x))))

-- a step's sums are those of the words that it is lent
pub add_step : (t s : ℕ) (y w a b : List ℕ) → b ≡ tabulate 8 (tile_step (from y (2 * s)) (from w (8 * (t - s))) a) → b ≡ tabulate 8 (tile_add t s y w a)
unfolding tile_step tile_add
add_step t s y w a b q =
    q ∙ tabulate-ext 8 _ _ (λ l g. ap (λ v. word a l + v) (ap₂ (λ u v. u * v) (word-from y (2 * s) (l % 2)) (word-from w (8 * (t - s)) l)))

pub sum-none : (t : ℕ) (y w a : List ℕ) → length a ≡ 8 → a ≡ tabulate 8 (tile_sum 0 t y w a)
unfolding tile_sum
sum-none t y w a n =
    ext_get_or 0 a _ (n ∙ sym (length-tabulate 8 _)) (λ l g.
    let z = sum_to-zero (λ s. word y (2 * (s + 1) + l % 2) * word w (8 * (t - (s + 1)) + l)) in
    let q : word a l ≡ tile_sum 0 t y w a l = omega arith in
    q ∙ sym (word-tabulate 8 (tile_sum 0 t y w a) l (omega arith)))

sum_bound : (n t : ℕ) (y w a : List ℕ) (l : ℕ) → n ≤ 255 → AllBelow modulus_bound y → AllBelow modulus_bound w → word a l < 2305843009213693952 → tile_sum n t y w a l < 4611686018427387904
unfolding tile_sum
sum_bound n t y w a l g by bw ba =
    let z = sum_to-bound n 281474943156225 (λ s. word y (2 * (s + 1) + l % 2) * word w (8 * (t - (s + 1)) + l)) (λ s u. word_fits _ _ (word_below modulus_bound y (omega arith) by _) (word_below modulus_bound w (omega arith) bw _)) in
    let q : n * 281474943156225 ≤ 255 * 281474943156225 = mul-le-mul {n₂ = 255} {m₂ = 281474943156225} g (omega arith) in
    omega arith

pub sums-long : (f : ℕ → ℕ) (a : List ℕ) → a ≡ tabulate 8 f → length a ≡ 8
sums-long f a q = ap length q ∙ length-tabulate 8 f

-- after n steps the next one may be made; the first premise is what tile_sums requires
pub sums-ready : (t n s : ℕ) (y w a₀ a : List ℕ)
    → (1 ≤ t) × (t ≤ largest_width) × (2 * t ≤ length y) × (8 * t ≤ length w) × (length a₀ ≡ 8) × AllBelow modulus_bound y × AllBelow modulus_bound w × AllBelow 2305843009213693952 a₀
    → s ≡ n + 1 → s < t → a ≡ tabulate 8 (tile_sum n t y w a₀) → TileReady t s y w a
sums-ready t n s y w a₀ a r e h q =
    let z = sums-long _ a q in
    record {
      first = omega arith;
      last = h;
      few = r.1;
      long-y = r.2;
      long-w = r.3;
      long-a = z;
      below-y = r.5;
      below-w = r.6;
      below-a = λ l g.
          subst (λ v. v < 4611686018427387904) (sym (ap (λ v. word v l) q ∙ word-tabulate 8 _ l (omega arith)))
          (sum_bound n t y w a₀ l (omega arith) r.5 r.6 (r.7 l (omega arith)));
    }

pub sum_step : (t n s : ℕ) (y w a₀ a b : List ℕ) → s ≡ n + 1 → a ≡ tabulate 8 (tile_sum n t y w a₀) → b ≡ tabulate 8 (tile_add t s y w a) → b ≡ tabulate 8 (tile_sum s t y w a₀)
unfolding tile_add tile_sum
sum_step t n s y w a₀ a b e h q =
    q ∙ tabulate-ext 8 _ _ (λ l g.
    let F : ℕ → ℕ = λ s. word y (2 * (s + 1) + l % 2) * word w (8 * (t - (s + 1)) + l) in
    ap (λ v. v + word y (2 * s + l % 2) * word w (8 * (t - s) + l)) (ap (λ v. word v l) h ∙ word-tabulate 8 _ l g)
    ∙ add_assoc (word a₀ l) _ _
    ∙ ap (λ v. word a₀ l + v) (ap (λ v. sum_to n F + word y (2 * v + l % 2) * word w (8 * (t - v) + l)) e ∙ sym (sum_to-suc n F) ∙ ap (λ v. sum_to v F) (let z : suc n ≡ s = omega arith in z)))

-- the sums of n steps, where n is written otherwise
pub sum-count : (t n m : ℕ) (y w a₀ a : List ℕ) → n ≡ m → a ≡ tabulate 8 (tile_sum n t y w a₀) → a ≡ tabulate 8 (tile_sum m t y w a₀)
sum-count t n m y w a₀ a e h = h ∙ ap (λ v. tabulate 8 (tile_sum v t y w a₀)) e

pub lane : (l : ℕ) → l % 2 < 2
lane l = mod-lt l (omega arith)

-- lane l of block b
pub lane-block : (b l : ℕ) → l < 8 → (8 * b + l) / 8 ≡ b
lane-block b l h = mul-add-div (omega arith) b l ∙ ap (λ x. b + x) (div-eq_of_lt h) ∙ add-zero b

pub lane_in : (b l : ℕ) → l < 8 → (8 * b + l) % 8 ≡ l
lane_in b l h = mul-add-mod_self_left 8 b l ∙ mod-eq_of_lt h

pub lane-parity : (b l : ℕ) → (8 * b + l) % 2 ≡ l % 2
lane-parity b l = ap (λ x. (x + l) % 2) (let z : 8 * b ≡ 2 * (4 * b) = omega arith in z) ∙ mul-add-mod_self_left 2 (4 * b) l

-- two tables, one after the other
tabulate-join : (n m : ℕ) (f g : ℕ → ℕ) → ((k : ℕ) → k < m → g k ≡ f (n + k)) → tabulate n f ++ tabulate m g ≡ tabulate (n + m) f
unfolding tabulate
tabulate-join n zero f g h = append-nil (tabulate n f) ∙ ap (λ k. tabulate k f) (sym (add-zero n))
tabulate-join n (suc m) f g h =
    sym (append_assoc (tabulate n f) (tabulate m g) (g m ∷ []))
    ∙ ap₂ (λ xs x. xs ++ (x ∷ [])) (tabulate-join n m f g (λ k l. h k (omega arith))) (h m (omega arith)) ∙ ap (λ k. tabulate k f) (sym (add-suc n m))

-- a block's sums are the row's
block-sums : (t width b l : ℕ) (y tiles a₀ a : List ℕ) → l < 8 → word a l ≡ word a₀ (8 * b + l)
    → tile_sum (t - 1) t y (from tiles (b * (8 * width))) a l ≡ tile_row t width y tiles a₀ (8 * b + l)
unfolding tile_sum tile_row
block-sums t width b l y tiles a₀ a h q =
    ap₂ (λ u v. u + v) q
    (sum_to-ext (t - 1) (λ s g.
    ap₂ (λ u v. u * v) (ap (λ x. word y (2 * (s + 1) + x)) (sym (lane-parity b l)))
    (word-from tiles (b * (8 * width)) (8 * (t - (s + 1)) + l)
    ∙ ap₂ (λ u v. word tiles (u * (8 * width) + (8 * (t - (s + 1)) + v))) (sym (lane-block b l h)) (sym (lane_in b l h)))))

-- a word of a part, as the rule for `&s[a..a + n]` gives it
pub part-word : (s : List ℕ) (a n i : ℕ) → i < n → word (take (a + n - a) (drop a s)) i ≡ word s (a + i)
part-word s a n i h = word-part s a (a + n - a) i (omega arith)

-- the lent words of a block are still the old ones
block-word : (b l : ℕ) (f : ℕ → ℕ) (s a : List ℕ) → Writing (tabulate (8 * b) f) s a → l < 8 → word (take (8 * b + 8 - 8 * b) (drop (8 * b) a)) l ≡ word s (8 * b + l)
block-word b l f s a w g =
    part-word a (8 * b) 8 l g ∙ writing-past _ s a (8 * b + l) w (omega (arith, length-tabulate (8 * b) f))

pub block-below : (q b : ℕ) (f : ℕ → ℕ) (s a : List ℕ) → Writing (tabulate (8 * b) f) s a → 8 * b + 8 ≤ length s → AllBelow q s
    → AllBelow q (take (8 * b + 8 - 8 * b) (drop (8 * b) a))
block-below q b f s a w h below l g =
    let z = length_part a (8 * b) 8 (omega (arith, w.long)) in
    rw (block-word b l f s a w (omega arith)) (below (8 * b + l) (omega arith))

-- one block more
pub row_next : (t width b : ℕ) (y tiles s a ys : List ℕ) → Writing (tabulate (8 * b) (tile_row t width y tiles s)) s a → 8 * b + 8 ≤ length s
    → ys ≡ tabulate 8 (tile_sum (t - 1) t y (from tiles (b * (8 * width))) (take (8 * b + 8 - 8 * b) (drop (8 * b) a)))
    → Writing (tabulate (8 * (b + 1)) (tile_row t width y tiles s)) s (take (8 * b) a ++ (ys ++ drop (8 * b + 8 - 8 * b) (drop (8 * b) a)))
row_next t width b y tiles s a ys w h q =
    let F = tile_row t width y tiles s in
    let n : 8 * b + 8 - 8 * b ≡ 8 = omega arith in
    let e : tabulate (8 * b) F ++ ys ≡ tabulate (8 * (b + 1)) F =
    ap (λ x. tabulate (8 * b) F ++ x) q
    ∙ tabulate-join (8 * b) 8 F (tile_sum (t - 1) t y (from tiles (b * (8 * width))) (take (8 * b + 8 - 8 * b) (drop (8 * b) a))) (λ l g. block-sums t width b l y tiles s _ g (block-word b l F s a w g))
    ∙ ap (λ k. tabulate k F) (let z : 8 * b + 8 ≡ 8 * (b + 1) = omega arith in z) in
    subst (λ xs. Writing xs s (take (8 * b) a ++ (ys ++ drop (8 * b + 8 - 8 * b) (drop (8 * b) a)))) e
    (subst (λ k. Writing (tabulate (8 * b) F ++ ys) s (take (8 * b) a ++ (ys ++ drop k (drop (8 * b) a)))) (sym n)
    (writing-part (tabulate (8 * b) F) ys s a (8 * b) 8 w (length-tabulate (8 * b) F) (ap length q ∙ length-tabulate 8 _) h))

-- where lane i of step s stands
abbrev pub cell : (width s i : ℕ) → ℕ
cell width s i = i / 8 * (8 * width) + (8 * s + i % 8)

pub cell_room : (width blocks s i : ℕ) → s < width → i < 8 * blocks → cell width s i < blocks * (8 * width)
cell_room width blocks s i h g =
    let z = mod-lt i {m = 8} (omega arith) in
    let u : i / 8 < blocks = omega (arith, div-add-mod i 8) in
    omega (arith, row_fits (i / 8) blocks (8 * width) u)

same_block : (W a b x y : ℕ) → x < W → y < W → a * W + x ≡ b * W + y → a ≡ b
same_block W a b x y h g e =
    ⊎_elim
    (λ (l : a < b). omega (arith, row_fits a b W l))
    (λ (l : b ≤ a). ⊎_elim (λ (z : b ≡ a). sym z) (λ (z : b < a). omega (arith, row_fits b a W z)) (eq-or-lt_of_le l))
    (lt-or-ge a b)

-- no two stand in one place
pub cell_apart : (width s t i j : ℕ) → s < width → t < width → cell width s i ≡ cell width t j → (s ≡ t) × (i ≡ j)
cell_apart width s t i j h g e =
    let u = mod-lt i {m = 8} (omega arith) in
    let v = mod-lt j {m = 8} (omega arith) in
    let b = same_block (8 * width) (i / 8) (j / 8) (8 * s + i % 8) (8 * t + j % 8) (omega arith) (omega arith) e in
    let r : 8 * s + i % 8 ≡ 8 * t + j % 8 = let z = ap (λ x. x * (8 * width)) b in omega arith in
    (omega arith, omega (arith, div-add-mod i 8, div-add-mod j 8))

pub set_below : (q : ℕ) (s : List ℕ) (j v : ℕ) → v < q → AllBelow q s → AllBelow q (set s j v)
set_below q s j v h b k l =
    let n = length-set s j v in
    let other : (k ≡ j → ⊥) → word (set s j v) k < q = λ ne. rw (get_or-set_other s j k v 0 ne) (b k (omega arith)) in
    ⊎_elim
    (λ (x : k < j). other (λ (z : k ≡ j). omega arith))
    (λ (x : j ≤ k). ⊎_elim
    (λ (z : j ≡ k). subst (λ i. word (set s j v) i < q) z (rw (get_or-set_same s j v 0 (omega arith)) h))
    (λ (y : j < k). other (λ (z : k ≡ j). omega arith)) (eq-or-lt_of_le x))
    (lt-or-ge k j)

-- The first n lanes of a column are put into step t of the tiles.
pub record Putting (width t : ℕ) (column old new : List ℕ) (n : ℕ) : Type 0 where
  pub long : length new ≡ length old
  pub here : (i : ℕ) → i < n → tile_at width new t i ≡ word column i
  pub others : (s : ℕ) → s < width → (s ≡ t → ⊥) → (i : ℕ) → tile_at width new s i ≡ tile_at width old s i
  pub below : (q : ℕ) → 1 ≤ q → AllBelow q column → AllBelow q old → AllBelow q new

pub put_next : (width t : ℕ) (column old new : List ℕ) (n v : ℕ) → t < width → cell width t n < length old → v ≡ word column n
    → Putting width t column old new n → Putting width t column old (set new (cell width t n) v) (n + 1)
put_next width t column old new n v h room q w =
    let k = cell width t n in
    record {
      long = length-set new k v ∙ w.long;
      here = λ i l.
          ⊎_elim
          (λ (x : i ≡ n). rw x (get_or-set_same new k v 0 (omega (arith, w.long)) ∙ q))
          (λ (x : i < n).
          get_or-set_other new k (cell width t i) v 0 (λ e. let z = (cell_apart width t t i n h h e).1 in let y : ⊥ = omega arith in y) ∙ w.here i x)
          (eq-or-lt_of_le {n = i} {m = n} (omega arith));
      others = λ s g ne i. get_or-set_other new k (cell width s i) v 0 (λ e. ne (cell_apart width s t i n g h e).0) ∙ w.others s g ne i;
      below = λ p pos c b. set_below p new k v (rw q (word_below p column pos c n)) (w.below p pos c b);
    }
