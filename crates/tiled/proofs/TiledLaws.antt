-- The columns of a split by tiles: what the sums add up, and that what stands beside the rows keeps up with them.
-- Assumes nothing.
use mathlib.Core.Path.{◌≡◌, refl, sym, ap, ap₂, subst, ◌∙◌}
use mathlib.Core.Logic.{⊎_elim, ◌⊎◌, inl, inr}
use mathlib.Core.List.{List}
use Prim.Native.Nat.{ℕ, ◌+◌, ◌-◌, ◌*◌, ◌/◌, ◌%◌, ◌≤◌, ◌<◌}
use native.Mathlib.Nat.{div-add-mod', mod-lt, mul-le-mul, eq-or-lt_of_le, add-zero, zero-add, add-mul, mul-zero}
use native.Mathlib.Omega.{arith}
use lib.Dec.{ltb}
use borrow.Author.Tests.{lt-ltb, le-ltb, le-leb, lt-leb}
use lib.ListN.{length, take, drop, replicate, length-take, length-drop, length-replicate, get_or-replicate, get_or-eq_default}
use lib.Seq.{ext_get_or, get_or-drop, get_or-take, length-take-le}
use Rattle.algebra.specs.Sums.{sum_to}
use Rattle.algebra.proofs.SumsLaws.{sum_to-zero, sum_to-ext, sum_to-bound, sum_to-zeros, sum_to-append}
use Rattle.numbers.specs.Words.{word, choose, tabulate}
use Rattle.numbers.specs.internal.Facts.{AllBelow}
use Rattle.numbers.proofs.WordsLaws.{lt-or-ge, length-tabulate, word-tabulate, tabulate-ext, tabulate-below, from, word-from, length_from}
use Rattle.numbers.specs.internal.Limits.{modulus_bound}
use Rattle.numbers.specs.Limits.{largest_degree, most_rows, largest_width}
use Rattle.series.proofs.SeriesLaws.{word_below, sum-next}
use Rattle.rows.specs.Rows.{rows_of}
use Rattle.rows.specs.internal.Passes.{weight_sum}
use Rattle.rows.proofs.RowsLaws.{rows-below, rows-past, pass_term, pass_all, by_row, row_fits}
use Rattle.columns.specs.internal.Column.{middle_sum, ColumnStored}
use Rattle.columns.proofs.ColumnLaws.{put, put-long, put-before, put_in, put-past}
use Rattle.columns.proofs.SolveLaws.{pass-ext, pass-turn}
use Rattle.solution.specs.internal.Table.{left_at}
use Rattle.tiles.specs.internal.Tile.{tile_at, tile_row, TilePut}
use Rattle.tiled.specs.internal.Tiled.{lane_sum, lane_term, tile_sums, Tiled, ColumnPut, Beside, Stands, Sizes, Room}
use Rattle.tiled.specs.declared.Tiling.{Tiling}
use Rattle.tiles.proofs.TileLaws.{word_fits, lane}
use Rattle.solution.proofs.StepLaws.{same_or_not, left_below}

-- what a row adds to a sum
module _ (t N lanes : ℕ) (pairs tiles : List ℕ) where
  pub term_in : (j a : ℕ) → a ≤ j → j - a < lanes → lane_term t N lanes pairs tiles j a ≡ lane_sum t N pairs tiles a (j - a)
  unfolding lane_term
  term_in j a l g = simp (le-leb a j l, lt-ltb (j - a) lanes g)

  pub term-before : (j a : ℕ) → j < a → lane_term t N lanes pairs tiles j a ≡ 0
  unfolding lane_term
  term-before j a l = simp (lt-leb a j l)

  pub term-past : (j a : ℕ) → a ≤ j → lanes ≤ j - a → lane_term t N lanes pairs tiles j a ≡ 0
  unfolding lane_term
  term-past j a l g = simp (le-leb a j l, le-ltb (j - a) lanes g)

  module _ (top : t ≤ largest_width) (bp : AllBelow modulus_bound pairs) (bt : AllBelow modulus_bound tiles) where
    lane_bound : (a i : ℕ) → lane_sum t N pairs tiles a i ≤ 71776110504837375
    unfolding lane_sum
    lane_bound a i =
        let z = sum_to-bound (t - 1) 281474943156225 (λ s. word pairs (a * (2 * N) + (2 * (s + 1) + i % 2)) * word tiles (i / 8 * (8 * N) + (8 * (t - (s + 1)) + i % 8)))
        (λ s u. word_fits _ _ (word_below modulus_bound pairs (omega arith) bp _) (word_below modulus_bound tiles (omega arith) bt _)) in
        let q : (t - 1) * 281474943156225 ≤ 255 * 281474943156225 = mul-le-mul {n₂ = 255} {m₂ = 281474943156225} (omega arith) (omega arith) in
        omega arith

    term-bound : (j a : ℕ) → lane_term t N lanes pairs tiles j a ≤ 71776110504837375
    term-bound j a =
        ⊎_elim (λ (l : j < a). let e = term-before j a l in omega arith)
        (λ (l : a ≤ j). ⊎_elim (λ (g : j - a < lanes). let e = term_in j a l g in let z = lane_bound a (j - a) in omega arith) (λ (g : lanes ≤ j - a). let e = term-past j a l g in omega arith) (lt-or-ge (j - a) lanes))
        (lt-or-ge j a)

    pub sums-bound : (m j : ℕ) → m ≤ largest_degree → tile_sums m t N lanes pairs tiles j < 2305843009213693952
    sums-bound m j l =
        let z = sum_to-bound m 71776110504837375 (lane_term t N lanes pairs tiles j) (λ a _. term-bound j a) in
        let q : m * 71776110504837375 ≤ 32 * 71776110504837375 = mul-le-mul {n₂ = 32} {m₂ = 71776110504837375} l (omega arith) in
        omega arith

-- no row is added yet, and one row more
pub sums_none : (t N lanes m : ℕ) (pairs tiles s S : List ℕ) → length s ≡ m + lanes → S ≡ tabulate (length s) (λ _. 0)
    → (length S ≡ m + lanes) × ((j : ℕ) → j < m + lanes → word S j ≡ tile_sums 0 t N lanes pairs tiles j)
sums_none t N lanes m pairs tiles s S n e = (
  ap length e ∙ length-tabulate (length s) _ ∙ n,
  λ j l. ap (λ v. word v j) e ∙ word-tabulate (length s) _ j (omega arith) ∙ sym (sum_to-zero _),
)

pub row_is : (t N : ℕ) (pairs tiles x : List ℕ) (a i : ℕ) → tile_row t N (from pairs (a * (2 * N))) tiles x i ≡ word x i + lane_sum t N pairs tiles a i
unfolding tile_row lane_sum
row_is t N pairs tiles x a i =
    ap (λ v. word x i + v) (sum_to-ext (t - 1) (λ s _. ap (λ v. v * tile_at N tiles (t - (s + 1)) i) (word-from pairs (a * (2 * N)) (2 * (s + 1) + i % 2))))

pub sums-step : (t N lanes m len : ℕ) (pairs tiles S Y : List ℕ) (a : ℕ) → a < m → len ≡ lanes → length S ≡ m + lanes
    → ((j : ℕ) → j < m + lanes → word S j ≡ tile_sums a t N lanes pairs tiles j)
    → Y ≡ tabulate lanes (tile_row t N (from pairs (a * (2 * N))) tiles (take len (drop a S)))
    → (length (put a len S Y) ≡ m + lanes) × ((j : ℕ) → j < m + lanes → word (put a len S Y) j ≡ tile_sums (a + 1) t N lanes pairs tiles j)
sums-step t N lanes m len pairs tiles S Y a l q n h e =
    let ny : length Y ≡ len = ap length e ∙ length-tabulate lanes _ ∙ sym q in
    let room : a + len ≤ length S = omega arith in (
      put-long a len S Y room ny ∙ n,
      λ j g.
          let f = lane_term t N lanes pairs tiles j in
          let next : sum_to (a + 1) f ≡ sum_to a f + f a = sum-next a f in
          let old = h j g in
          ⊎_elim
          (λ (u : j < a). let z = put-before a len S Y room ny j u in let y = term-before t N lanes pairs tiles j a u in omega arith)
          (λ (u : a ≤ j). ⊎_elim
          (λ (v : j - a < lanes).
          let k : a + (j - a) ≡ j = omega arith in
          let z : word (put a len S Y) j ≡ word S j + lane_sum t N pairs tiles a (j - a) =
          ap (word (put a len S Y)) (sym k) ∙ put_in a len S Y room ny (j - a) (omega arith) ∙ ap (λ x. word x (j - a)) e ∙ word-tabulate lanes _ (j - a) v
          ∙ row_is t N pairs tiles (take len (drop a S)) a (j - a)
          ∙ ap (λ x. x + lane_sum t N pairs tiles a (j - a)) (get_or-take len (drop a S) (j - a) 0 (omega arith) ∙ get_or-drop a S (j - a) 0 ∙ ap (word S) k) in
          let y = term_in t N lanes pairs tiles j a u v in omega arith)
          (λ (v : lanes ≤ j - a). let z = put-past a len S Y room ny j (omega arith) in let y = term-past t N lanes pairs tiles j a u v in omega arith)
          (lt-or-ge (j - a) lanes))
          (lt-or-ge j a),
    )

pub sums-all : (t N lanes m : ℕ) (pairs tiles S : List ℕ) (a : ℕ) → a ≡ m → length S ≡ m + lanes → ((j : ℕ) → j < m + lanes → word S j ≡ tile_sums a t N lanes pairs tiles j)
    → S ≡ tabulate (m + lanes) (tile_sums m t N lanes pairs tiles)
sums-all t N lanes m pairs tiles S a e n h =
    ext_get_or 0 S _ (n ∙ sym (length-tabulate (m + lanes) _))
    (λ j l. h j (omega arith) ∙ ap (λ v. tile_sums v t N lanes pairs tiles j) e ∙ sym (word-tabulate (m + lanes) _ j (omega arith)))

-- what a call of `tile_row` is lent
pub row_room : (t N m a : ℕ) (pairs : List ℕ) → a < m → t ≤ N → length pairs ≡ m * (2 * N) → 2 * t ≤ length (from pairs (a * (2 * N)))
row_room t N m a pairs l g n = let z = row_fits a m (2 * N) l in omega (arith, length_from pairs (a * (2 * N)))

pub part-long : (m lanes len a : ℕ) (S : List ℕ) → a < m → len ≡ lanes → length S ≡ m + lanes → length (take len (drop a S)) ≡ lanes
part-long m lanes len a S l q n = length-take-le len (drop a S) (omega (arith, length-drop a S)) ∙ q

pub part-below : (p m lanes len a : ℕ) (S : List ℕ) → a < m → len ≡ lanes → length S ≡ m + lanes → ((j : ℕ) → j < m + lanes → word S j < p) → AllBelow p (take len (drop a S))
part-below p m lanes len a S l q n h i g =
    let e = part-long m lanes len a S l q n in
    rw (get_or-take len (drop a S) i 0 (omega arith), get_or-drop a S i 0) (h (a + i) (omega arith))

-- a sum past which there is nothing
cut : (n k : ℕ) (f : ℕ → ℕ) → n ≤ k → ((i : ℕ) → n ≤ i → i < k → f i ≡ 0) → sum_to k f ≡ sum_to n f
cut n k f l h =
    let e : n + (k - n) ≡ k = omega arith in
    let z : sum_to (k - n) (λ i. f (n + i)) ≡ 0 = sum_to-zeros (k - n) _ (λ i g. h (n + i) (omega arith) (omega arith)) in
    ap (λ v. sum_to v f) (sym e) ∙ sum_to-append n (k - n) f ∙ ap (λ v. sum_to n f + v) z ∙ add-zero _

-- the sums are those of the rows
module _ (N a m b k blocks t : ℕ) (s pairs tiles : List ℕ) (h : Tiled N a m b k blocks t s pairs tiles) (one : 1 ≤ t) (inside : t < N) (enough : k ≤ 8 * blocks) where
  abbrev P : ℕ → ℕ → ℕ
  P = rows_of (drop (a * N) s) N m

  abbrev A : ℕ → ℕ → ℕ
  A = rows_of (drop (b * N) s) N k

  row_at : (c n i u : ℕ) → i < n → word s ((c + i) * N + u) ≡ rows_of (drop (c * N) s) N n i u
  row_at c n i u l =
      ap (word s) (let e = add-mul c i N in let z : (c + i) * N + u ≡ c * N + (i * N + u) = omega arith in z)
      ∙ sym (rows-below (drop (c * N) s) N n i u l ∙ get_or-drop (c * N) s (i * N + u) 0)

  low-is : (i u : ℕ) → i < m → u < t - 1 → (l : ℕ) → l < 2 → word pairs (i * (2 * N) + (2 * (u + 1) + l)) ≡ P i (1 + u)
  low-is i u l g x y =
      h.low i l (u + 1) (omega arith) (omega arith) x y ∙ ap (λ v. word s ((a + i) * N + v)) (let e : u + 1 ≡ 1 + u = omega arith in e) ∙ row_at a m i (1 + u) l

  high_is : (i u : ℕ) → i < 8 * blocks → u < t - 1 → tile_at N tiles (t - (u + 1)) i ≡ A i (1 + (t - 1 - (u + 1)))
  high_is i u l g =
      let v : t - (u + 1) ≡ 1 + (t - 1 - (u + 1)) = omega arith in
      h.high (t - (u + 1)) (omega arith) (omega arith) i l ∙ ap (λ x. choose (ltb i k) (word s ((b + i) * N + x)) 0) v
      ∙ ⊎_elim (λ (c : i < k). rw (lt-ltb i k c) (row_at b k i (1 + (t - 1 - (u + 1))) c))
      (λ (c : k ≤ i). rw (le-ltb i k c) (sym (rows-past (drop (b * N) s) N k i (1 + (t - 1 - (u + 1))) c))) (lt-or-ge i k)

  term_is : (j i : ℕ) → i < m → i ≤ j → lane_term t N (8 * blocks) pairs tiles j i ≡ pass_term P A j 1 (t - 1) i
  unfolding lane_sum
  term_is j i l g =
      ⊎_elim
      (λ (c : j - i < 8 * blocks). term_in t N (8 * blocks) pairs tiles j i g c ∙ sum_to-ext (t - 1) (λ u z. ap₂ ◌*◌ (low-is i u l z ((j - i) % 2) (lane (j - i))) (high_is (j - i) u c z)))
      (λ (c : 8 * blocks ≤ j - i).
      term-past t N (8 * blocks) pairs tiles j i g c
      ∙ sym (sum_to-zeros (t - 1) _ (λ u _. ap (λ x. P i (1 + u) * x) (rows-past (drop (b * N) s) N k (j - i) (1 + (t - 1 - (u + 1))) (omega arith)) ∙ mul-zero _)))
      (lt-or-ge (j - i) (8 * blocks))

  pub sums-are : (j : ℕ) → tile_sums m t N (8 * blocks) pairs tiles j ≡ middle_sum P A j t
  sums-are j =
      ⊎_elim
      (λ (l : m < j + 1). sum_to-ext m (λ i g. term_is j i g (omega arith)) ∙ pass_all (drop (a * N) s) m (drop (b * N) s) k N j 1 (t - 1) m (omega arith) (omega arith))
      (λ (l : j + 1 ≤ m).
      cut (j + 1) m _ l (λ i lo hi. term-before t N (8 * blocks) pairs tiles j i (omega arith))
      ∙ sum_to-ext (j + 1) (λ i g. term_is j i (omega arith) (omega arith)) ∙ pass_all (drop (a * N) s) m (drop (b * N) s) k N j 1 (t - 1) (j + 1) (omega arith) (omega arith))
      (lt-or-ge m (j + 1))

module _ (N m k paired blocks t : ℕ) (s pairs tiles : List ℕ) (h : Beside N m k paired blocks t s pairs tiles) where
  pub beside_long : (length pairs ≡ paired * (2 * N)) × (length tiles ≡ blocks * (8 * N))
  beside_long = ⊎_elim (λ (e, g). (g.pairs-long ∙ ap (λ x. x * (2 * N)) (sym e), g.tiles-long)) (λ (_, e, g). (g.pairs-long ∙ ap (λ x. x * (2 * N)) (sym e), g.tiles-long)) h

  pub beside-below : AllBelow modulus_bound pairs × AllBelow modulus_bound tiles
  beside-below = ⊎_elim (λ (e, g). (g.pairs_below, g.tiles-below)) (λ (_, e, g). (g.pairs_below, g.tiles-below)) h

  module _ (one : 1 ≤ t) (inside : t < N) (enough : m + k ≤ paired + 8 * blocks) where
    low_rows : (i u : ℕ) → u < t → rows_of (drop (0 * N) s) N m i u ≡ rows_of (take (m * N) s) N m i u
    low_rows i u l =
        ⊎_elim
        (λ (g : i < m). rows-below (drop (0 * N) s) N m i u g ∙ get_or-drop (0 * N) s (i * N + u) 0 ∙ ap (word s) (let z : 0 * N + (i * N + u) ≡ i * N + u = omega arith in z)
        ∙ sym (rows-below (take (m * N) s) N m i u g ∙ get_or-take (m * N) s (i * N + u) 0 (omega (arith, row_fits i m N g))))
        (λ (g : m ≤ i). rows-past (drop (0 * N) s) N m i u g ∙ sym (rows-past (take (m * N) s) N m i u g)) (lt-or-ge i m)

    pub beside-sums : (j : ℕ) → tile_sums paired t N (8 * blocks) pairs tiles j ≡ middle_sum (rows_of (take (m * N) s) N m) (rows_of (drop (m * N) s) N k) j t
    beside-sums j =
        ⊎_elim
        (λ (e, g). ap (λ x. tile_sums x t N (8 * blocks) pairs tiles j) e ∙ sums-are N 0 m m k blocks t s pairs tiles g one inside (omega arith) j
        ∙ pass-ext j 1 (t - 1) (λ i u _ _ l. low_rows i u (omega arith)) (λ i u _ _ l. refl))
        (λ (_, e, g). ap (λ x. tile_sums x t N (8 * blocks) pairs tiles j) e ∙ sums-are N m k 0 m blocks t s pairs tiles g one inside (omega arith) j
        ∙ pass-turn (rows_of (drop (m * N) s) N k) (rows_of (drop (0 * N) s) N m) j 1 (t - 1)
        ∙ pass-ext j 1 (t - 1) (λ i u _ _ l. low_rows i u (omega arith)) (λ i u _ _ l. refl))
        h

    pub gathered-tiles : (p : ℕ) (e E S : List ℕ) → length e ≡ m + k → S ≡ tabulate (paired + 8 * blocks) (tile_sums paired t N (8 * blocks) pairs tiles)
        → E ≡ tabulate (length e) (λ j. (word s (j * N + t) + (p - word S j % p)) % p) → E ≡ tabulate (m + k) (left_at p N m k s t)
    unfolding left_at
    gathered-tiles p e E S n q r =
        r ∙ ap (λ x. tabulate x (λ j. (word s (j * N + t) + (p - word S j % p)) % p)) n
        ∙ tabulate-ext (m + k) _ _ (λ j l. ap (λ x. (word s (j * N + t) + (p - x % p)) % p) (ap (λ x. word x j) q ∙ word-tabulate (paired + 8 * blocks) _ j (omega arith) ∙ beside-sums j))

-- word j of what the sums leave
abbrev pub less_at : (p N t : ℕ) (sums rows : List ℕ) → ℕ → ℕ
less_at p N t sums rows j = (word rows (j * N + t) + (p - word sums j % p)) % p

-- words of a column that is stored
pub stored-below : (p N t rows : ℕ) (e s s' : List ℕ) → length e ≡ rows → length s ≡ rows * N → 1 ≤ N → ColumnStored N t e s s' → AllBelow p e → AllBelow p s → AllBelow p s'
stored-below p N t rows e s s' ne n wide st be bs x l =
    by_row rows N (λ x. word s' x < p) wide
    (λ j a u g. ⊎_elim (λ (q : u ≡ t). subst (λ v. word s' (j * N + v) < p) (sym q) (subst (λ v. v < p) (sym (st.here j (omega arith))) (be j (omega arith))))
    (λ apart. subst (λ v. v < p) (sym (st.others j (omega arith) u g apart)) (bs (j * N + u) (let z = row_fits j rows N a in omega arith))) (same_or_not u t))
    x (let z = st.long in omega arith)

two_lanes : (l : ℕ) → l < 2 → (l ≡ 0) ⊎ (l ≡ 1)
two_lanes l g = ⊎_elim (λ (z : l < 1). inl (omega arith)) (λ (z : 1 ≤ l). inr (omega arith)) (lt-or-ge l 1)

-- column t is stored, twice in the pairs, and put as lanes
module _ (N a b blocks t : ℕ) (low high old new pairs mid pairs' tiles tiles' : List ℕ) (inside : t < N) (enough : length high ≤ 8 * blocks)
    (bl : AllBelow modulus_bound low) (bh : AllBelow modulus_bound high)
    (first : ColumnStored (2 * N) (2 * t) low pairs mid) (second : ColumnStored (2 * N) (2 * t + 1) low mid pairs') (lanes : TilePut N blocks t high tiles tiles')
    (h : Tiled N a (length low) b (length high) blocks t old pairs tiles) (stl : ColumnPut N t a low old new) (sth : ColumnPut N t b high old new) where
  mid-long : length mid ≡ length low * (2 * N)
  mid-long = first.long ∙ h.pairs-long

  low-here : (i : ℕ) → i < length low → (l : ℕ) → l < 2 → word pairs' (i * (2 * N) + (2 * t + l)) ≡ word low i
  low-here i g l u =
      ⊎_elim
      (λ (e : l ≡ 0).
      let z : 2 * t + l ≡ 2 * t = omega arith in
      ap (λ v. word pairs' (i * (2 * N) + v)) z ∙ second.others i g (2 * t) (omega arith) (λ q. let y : ⊥ = omega arith in y) ∙ first.here i g)
      (λ (e : l ≡ 1). ap (λ v. word pairs' (i * (2 * N) + (2 * t + v))) e ∙ second.here i g)
      (two_lanes l u)

  low-kept : (i : ℕ) → i < length low → (s : ℕ) → s < t → (l : ℕ) → l < 2 → word pairs' (i * (2 * N) + (2 * s + l)) ≡ word pairs (i * (2 * N) + (2 * s + l))
  low-kept i g s u l v =
      second.others i g (2 * s + l) (omega arith) (λ q. let y : ⊥ = omega arith in y) ∙ first.others i g (2 * s + l) (omega arith) (λ q. let y : ⊥ = omega arith in y)

  high-here : (i : ℕ) → i < 8 * blocks → tile_at N tiles' t i ≡ choose (ltb i (length high)) (word new ((b + i) * N + t)) 0
  high-here i l =
      lanes.here i l
      ∙ ⊎_elim (λ (g : i < length high). rw (lt-ltb i (length high) g) (sym (sth.here i g))) (λ (g : length high ≤ i). rw (le-ltb i (length high) g) (get_or-eq_default high 0 g)) (lt-or-ge i (length high))

  high-kept : (s : ℕ) → 1 ≤ s → s < t → (i : ℕ) → i < 8 * blocks → tile_at N tiles' s i ≡ choose (ltb i (length high)) (word new ((b + i) * N + s)) 0
  high-kept s lo hi i l =
      lanes.others s (omega arith) (λ q. let y : ⊥ = omega arith in y) i l ∙ h.high s lo hi i l
      ∙ ⊎_elim (λ (g : i < length high). rw (lt-ltb i (length high) g) (sym (sth.before i g s hi))) (λ (g : length high ≤ i). rw (le-ltb i (length high) g)) (lt-or-ge i (length high))

  pub tiled-next : Tiled N a (length low) b (length high) blocks (t + 1) new pairs' tiles'
  tiled-next = record {
    pairs-long = second.long ∙ mid-long;
    tiles-long = lanes.long ∙ h.tiles-long;
    pairs_below = stored-below modulus_bound (2 * N) (2 * t + 1) (length low) low mid pairs' refl mid-long (omega arith) second bl
        (stored-below modulus_bound (2 * N) (2 * t) (length low) low pairs mid refl h.pairs-long (omega arith) first bl h.pairs_below);
    tiles-below = lanes.below modulus_bound (omega arith) bh h.tiles-below;
    low = λ i g s lo hi l u. ⊎_elim
        (λ (e : s ≡ t). subst (λ v. word pairs' (i * (2 * N) + (2 * v + l)) ≡ word new ((a + i) * N + v)) (sym e) (low-here i g l u ∙ sym (stl.here i g)))
        (λ (e : s < t). low-kept i g s e l u ∙ h.low i g s lo e l u ∙ sym (stl.before i g s e)) (eq-or-lt_of_le {n = s} {m = t} (omega arith));
    high = λ s lo hi i l. ⊎_elim
        (λ (e : s ≡ t). subst (λ v. tile_at N tiles' v i ≡ choose (ltb i (length high)) (word new ((b + i) * N + v)) 0) (sym e) (high-here i l))
        (λ (e : s < t). high-kept s lo e i l) (eq-or-lt_of_le {n = s} {m = t} (omega arith));
  }

-- the column in its two parts
module _ (m k : ℕ) (column : List ℕ) (n : length column ≡ m + k) where
  low-long : length (take m column) ≡ m
  low-long = length-take-le m column (omega arith)

  high-long : length (from column m) ≡ k
  high-long = length_from column m ∙ omega arith

module _ (N t m k : ℕ) (column old new : List ℕ) (inside : t < N) (n : length column ≡ m + k) (st : ColumnStored N t column old new) where
  abbrev nl : length (take m column) ≡ m
  nl = low-long m k column n

  abbrev nh : length (from column m) ≡ k
  nh = high-long m k column n

  low-put : ColumnPut N t 0 (take m column) old new
  low-put = record {
    here = λ j l. ap (λ x. word new (x * N + t)) (zero-add j) ∙ st.here j (omega (arith, nl)) ∙ sym (get_or-take m column j 0 (omega (arith, nl)));
    before = λ j l s g. let u : 0 + j ≡ j = zero-add j in
        subst (λ x. word new (x * N + s) ≡ word old (x * N + s)) (sym u) (st.others j (omega (arith, nl)) s (omega arith) (λ e. let z : ⊥ = omega arith in z));
  }

  high-put : ColumnPut N t m (from column m) old new
  high-put = record {
    here = λ j l. st.here (m + j) (omega (arith, nh)) ∙ sym (word-from column m j);
    before = λ j l s g. st.others (m + j) (omega (arith, nh)) s (omega arith) (λ e. let z : ⊥ = omega arith in z);
  }

-- one column more, either way round
module _ (N m k paired blocks t : ℕ) (column pairs tiles pairs' tiles' : List ℕ) (inside : t < N) (n : length column ≡ m + k) where
  abbrev pub Turn : (low high : List ℕ) → Type 0
  Turn low high =
      (a b : ℕ) (old new : List ℕ) → Tiled N a (length low) b (length high) blocks t old pairs tiles → ColumnPut N t a low old new → ColumnPut N t b high old new
      → Tiled N a (length low) b (length high) blocks (t + 1) new pairs' tiles'

  sized : (a b u : ℕ) (rows ps ts : List ℕ) {x y x' y' : ℕ} → x ≡ x' → y ≡ y' → Tiled N a x b y blocks u rows ps ts → Tiled N a x' b y' blocks u rows ps ts
  sized a b u rows ps ts {x} {y} {x'} {y'} e q g = subst (λ v. Tiled N a v b y' blocks u rows ps ts) e (subst (λ v. Tiled N a x b v blocks u rows ps ts) q g)

  pub beside-low : paired ≡ m → Turn (take m column) (from column m) → (old new : List ℕ) → Beside N m k paired blocks t old pairs tiles → ColumnStored N t column old new
      → Beside N m k paired blocks (t + 1) new pairs' tiles'
  beside-low e f old new h st =
      ⊎_elim
      (λ (_, g). inl (
        e,
        sized 0 m (t + 1) new pairs' tiles' (low-long m k column n) (high-long m k column n)
            (f 0 m old new (sized 0 m t old pairs tiles (sym (low-long m k column n)) (sym (high-long m k column n)) g) (low-put N t m k column old new inside n st) (high-put N t m k column old new inside n st)),
      ))
      (λ (ne, _, _). absurd (ne e)) h

  pub beside-high : (paired ≡ m → ⊥) → Turn (from column m) (take m column) → (old new : List ℕ) → Beside N m k paired blocks t old pairs tiles → ColumnStored N t column old new
      → Beside N m k paired blocks (t + 1) new pairs' tiles'
  beside-high ne f old new h st =
      ⊎_elim (λ (e, _). absurd (ne e))
      (λ (_, q, g). inr (
        ne,
        q,
        sized m 0 (t + 1) new pairs' tiles' (high-long m k column n) (low-long m k column n)
            (f m 0 old new (sized m 0 t old pairs tiles (sym (high-long m k column n)) (sym (low-long m k column n)) g) (high-put N t m k column old new inside n st) (low-put N t m k column old new inside n st)),
      )) h

-- before column 1 nothing stands beside the rows
nothing : (N a m b k blocks : ℕ) (rows pairs tiles : List ℕ) → length pairs ≡ m * (2 * N) → length tiles ≡ blocks * (8 * N) → AllBelow modulus_bound pairs → AllBelow modulus_bound tiles
    → Tiled N a m b k blocks 1 rows pairs tiles
nothing N a m b k blocks rows pairs tiles np nt bp bt = record {
  pairs-long = np;
  tiles-long = nt;
  pairs_below = bp;
  tiles-below = bt;
  low = λ i l s lo hi. absurd (let z : ⊥ = omega arith in z);
  high = λ s lo hi. absurd (let z : ⊥ = omega arith in z);
}

pub tiled-none : (g : Tiling) (rows cells pairs tiles : List ℕ) → (g.paired ≡ g.m) ⊎ (g.paired ≡ g.k) → Room g cells pairs tiles → Stands g 1 rows pairs tiles
tiled-none g rows cells pairs tiles side r =
    let N = g.n in
    let m = g.m in
    let k = g.k in
    let paired = g.paired in
    let blocks = g.blocks in
    ⊎_elim
    (λ (e : paired ≡ m). inl (e, nothing N 0 m m k blocks rows pairs tiles (r.pairs-long ∙ ap (λ x. x * (2 * N)) e) r.tiles-long r.pairs_below r.tiles-below))
    (λ (ne : paired ≡ m → ⊥).
    let e : paired ≡ k = ⊎_elim (λ (q : paired ≡ m). absurd (ne q)) (λ (q : paired ≡ k). q) side in
    inr (ne, e, nothing N m k 0 m blocks rows pairs tiles (r.pairs-long ∙ ap (λ x. x * (2 * N)) e) r.tiles-long r.pairs_below r.tiles-below))
    (same_or_not paired m)

-- column t as it stands in the rows: stored there, it leaves them as they are
module _ (N t n : ℕ) (rows c : List ℕ) (loaded : c ≡ tabulate n (λ j. word rows (j * N + t))) where
  long : length c ≡ n
  long = ap length loaded ∙ length-tabulate n _

  at : (j : ℕ) → j < n → word c j ≡ word rows (j * N + t)
  at j l = ap (λ x. word x j) loaded ∙ word-tabulate n _ j l

  pub loaded-stored : ColumnStored N t c rows rows
  loaded-stored = record { long = refl; here = λ j l. sym (at j (omega (arith, long))); others = λ j l s g ne. refl; rest = λ i l. refl }

  pub loaded-below : (q : ℕ) → t < N → length rows ≡ n * N → AllBelow q rows → AllBelow q c
  loaded-below q l e b j g =
      let u : j < n = omega (arith, long) in
      subst (λ x. x < q) (sym (at j u)) (b (j * N + t) (omega (arith, row_fits j n N u)))

-- the lengths and bounds of what the calls are lent
pub made-long : (n : ℕ) (f : ℕ → ℕ) (s : List ℕ) → s ≡ tabulate n f → length s ≡ n
made-long n f s e = ap length e ∙ length-tabulate n f

pub below_more : (p q : ℕ) (s : List ℕ) → p ≤ q → AllBelow p s → AllBelow q s
below_more p q s l b i g = let z = b i g in omega arith

pub left-small : (p N m k t : ℕ) (s E : List ℕ) → 1 ≤ p → p < modulus_bound → E ≡ tabulate (m + k) (left_at p N m k s t) → AllBelow modulus_bound E
left-small p N m k t s E pos small e = below_more p modulus_bound E (omega arith) (subst (AllBelow p) (sym e) (left_below p m k N t s pos))

pub column-small : (p n : ℕ) (T E R : List ℕ) → 1 ≤ p → p < modulus_bound → R ≡ tabulate n (λ i. weight_sum T n E i % p) → AllBelow modulus_bound R
column-small p n T E R pos small e =
    below_more p modulus_bound R (omega arith) (subst (AllBelow p) (sym e) (tabulate-below p n (λ i. weight_sum T n E i % p) (λ i _. mod-lt _ pos)))

pub column-is : (p N m k t : ℕ) (T s E R : List ℕ) → E ≡ tabulate (m + k) (left_at p N m k s t) → R ≡ tabulate (m + k) (λ i. weight_sum T (m + k) E i % p)
    → R ≡ tabulate (m + k) (λ i. weight_sum T (m + k) (tabulate (m + k) (left_at p N m k s t)) i % p)
column-is p N m k t T s E R e r = r ∙ ap (λ y. tabulate (m + k) (λ i. weight_sum T (m + k) y i % p)) e

-- arrays of 0, of which a part is lent
abbrev pub blank : ℕ → List ℕ
blank n = replicate n 0

pub lent-long : (n x : ℕ) → x ≤ n → length (take x (blank n)) ≡ x
lent-long n x l = length-take-le x (blank n) (omega (arith, length-replicate {A = ℕ} n 0))

lent_below : (n x : ℕ) → AllBelow modulus_bound (take x (blank n))
lent_below n x i l =
    let z : i < x = omega (arith, length-take x (blank n)) in
    let y : i < n = omega (arith, length-take x (blank n), length-replicate {A = ℕ} n 0) in
    rw (get_or-take x (blank n) i 0 z, get_or-replicate {A = ℕ} n i 0 0 y) (omega arith)

-- as many tiles as hold k lanes
pub tiles_hold : (k : ℕ) → k ≤ 8 * ((k + 7) / 8)
tiles_hold k = omega (arith, div-add-mod' (k + 7) 8, mod-lt (k + 7) {m = 8} (omega arith))

pub tiles-few : (k b : ℕ) → k ≤ 8 * b → (k + 7) / 8 ≤ b
tiles-few k b l = omega (arith, div-add-mod' (k + 7) 8, mod-lt (k + 7) {m = 8} (omega arith))

module _ (N m k paired : ℕ) (width : N ≤ largest_width) (few : m ≤ 31) (lanes : k ≤ 31) (room : m + k ≤ most_rows) (side : (paired ≡ m) ⊎ (paired ≡ k)) where
  -- the tiling that is made of them
  abbrev pub made : ℕ → Tiling
  made p = record { p = p; m = m; k = k; n = N; paired = paired; blocks = (m + k - paired + 7) / 8; high = (m + k + 7) / 8 }

  paired-few : (paired ≤ 31) × (m + k - paired ≤ 31)
  paired-few = ⊎_elim (λ (e : paired ≡ m). (omega arith, omega arith)) (λ (e : paired ≡ k). (omega arith, omega arith)) side

  pub cells_fit : (m + k + 7) / 8 * (8 * (m + k + 1)) ≤ 1360
  cells_fit = let z : (m + k + 7) / 8 * (8 * (m + k + 1)) ≤ 5 * 272 = mul-le-mul {n₂ = 5} {m₂ = 272} (tiles-few (m + k) 5 (omega arith)) (omega arith) in omega arith

  pub pairs-fit : paired * (2 * N) ≤ 15872
  pairs-fit = let z : paired * (2 * N) ≤ 31 * 512 = mul-le-mul {n₂ = 31} {m₂ = 512} paired-few.0 (omega arith) in omega arith

  pub tiles-fit : (m + k - paired + 7) / 8 * (8 * N) ≤ 8192
  tiles-fit = let z : (m + k - paired + 7) / 8 * (8 * N) ≤ 4 * 2048 = mul-le-mul {n₂ = 4} {m₂ = 2048} (tiles-few (m + k - paired) 4 (omega (arith, paired-few.1))) (omega arith) in omega arith

  pub room-made : (p a b c : ℕ) → (m + k + 7) / 8 * (8 * (m + k + 1)) ≤ a → paired * (2 * N) ≤ b → (m + k - paired + 7) / 8 * (8 * N) ≤ c
      → Room (made p) (take ((m + k + 7) / 8 * (8 * (m + k + 1))) (blank a)) (take (paired * (2 * N)) (blank b)) (take ((m + k - paired + 7) / 8 * (8 * N)) (blank c))
  room-made p a b c la lb lc = record {
    cells-long = lent-long a _ la;
    pairs-long = lent-long b _ lb;
    tiles-long = lent-long c _ lc;
    cells-below = lent_below a ((m + k + 7) / 8 * (8 * (m + k + 1)));
    pairs_below = lent_below b (paired * (2 * N));
    tiles-below = lent_below c ((m + k - paired + 7) / 8 * (8 * N));
  }

  pub sizes-are : (p : ℕ) → 1 ≤ p → p < modulus_bound → 1 ≤ m → Sizes (made p)
  sizes-are p pos small low = record {
    some = pos;
    small = small;
    width = width;
    m-low = low;
    room = room;
    either = side;
    paired-high = omega (arith, paired-few.0);
    lanes = omega (arith, tiles_hold (m + k - paired));
    few = tiles-few (m + k - paired) 5 (omega (arith, paired-few.1));
    high-lanes = tiles_hold (m + k);
    high-few = tiles-few (m + k) 5 (omega arith);
  }
