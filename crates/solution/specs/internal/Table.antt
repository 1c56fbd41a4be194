-- What the loops that solve for the columns of a split know of their words. No public contract cites these. The equations are those of polynomials over the numbers below p.
--   poly, plus, by          words as coefficients modulo p, and the sum and product of such polynomials
--   Expanded p c q e        e are the coefficients of q_0 + q_1 (Y − c_0) + .. , the last words of q standing for what the product of all lines multiplies
--   Digit p c a e d         e = q · a + (Y − c) · d's words from 1 on, the digit q being d's first word
--   Digits p c a m e d      e = (q_0 + q_1 (Y − c_0) + ..) · a + (Y − c_0) .. (Y − c_(m−1)) · d's words from m on, the digits q being d's first m words
--   low_of m w, high_of m k w     the first m of m + k words, and the k after them, with 0 past them
--   Solution p m k P A j w  the words w are P_j and A_j: P · A_j + P_j · A = Y^j
--   Table p m k P A n T     a table whose row j, for j < n, is the solution for Y^j
--   before_word e j          word j − 1 of e, and 0 for j = 0
--   next_word p q b e j      word j of Y · e + q · b
--   Lines p c s             s are the words of (Y − c_0) .. (Y − c_(m−1))
--   FirstSolution p c a k w         w is the solution for 1
--   Bases p m k P A         P and A at X = 0: m + 1 and k + 1 words below p, and P is monic
--   capped, rows_from        rows with a top row x, 0, 0, ..; rows from row m on
--   low_poly, high_poly       P and A, from the rows and their leading words
--   SplitTo .. h w old new  columns h to w − 1 of the rows in old are split; the others from 1 on are as they were
--   left_at p N m k s t j    what the columns before t leave of word j of column t
--   Step p N m k T t old new    column t is worked
--   SplitRoom p N h w rows s    the rows lent, and the columns to work
--   SplitReady ..           what is known before the columns of a split are worked
--   SplitStart p c A        a split at X = 0: the roots c of P, and A, which is not 0 at any of them
--   SplitBy p N h w c A old new     the split that begins so
--   SplitRoots p m c        the roots of a node's split: the first m of c against the others
--   Split p N w m c old new     the split of a node by its first m roots
-- Assumes nothing.
use Prim.Native.Nat.{ℕ, zero, suc, ◌+◌, ◌-◌, ◌*◌, ◌%◌, ◌≤◌, ◌<◌, Fin}
use Rattle.std.specs.Prelude.{◌≡◌, List, ltb, eqb, length, take, drop}
use Rattle.algebra.specs.internal.Series.{Series}
use Rattle.algebra.specs.Prime.{Prime}
use Rattle.algebra.specs.internal.Fp.{Fp, rem}
use Rattle.numbers.specs.Words.{word, choose, tabulate}
use Rattle.numbers.specs.internal.Facts.{AllBelow}
use Rattle.rows.specs.Rows.{mul, rows_of, unit}
use Rattle.rows.specs.internal.Passes.{weight_sum}
use Rattle.columns.specs.internal.Column.{horner_words, middle_sum, ColumnStored}
use Rattle.algebra.specs.internal.Poly.{const, lin, lines, newton, mono}
use Rattle.numbers.specs.internal.Limits.{modulus_bound}
use Rattle.numbers.specs.Limits.{largest_degree, most_rows, largest_width}

abbrev pub poly : (p : ℕ) (pos : zero < p) → (ℕ → ℕ) → ℕ → Fin p
poly p pos a j = rem p pos (a j)

abbrev pub plus : (p : ℕ) (pos : zero < p) → (ℕ → Fin p) → (ℕ → Fin p) → ℕ → Fin p
plus p pos = (Series (Fp p pos)).add

abbrev pub by : (p : ℕ) (pos : zero < p) → (ℕ → Fin p) → (ℕ → Fin p) → ℕ → Fin p
by p pos = (Series (Fp p pos)).mul

pub record Expanded (p : ℕ) (c q e : List ℕ) : Type 0 where
  pub long : length e ≡ length q
  pub below : AllBelow p e
  pub is : (pos : zero < p) → poly p pos (word e)
      ≡ plus p pos (newton (Fp p pos) (poly p pos (word c)) (poly p pos (word q)) (length c))
      (by p pos (lines (Fp p pos) (poly p pos (word c)) (length c)) (poly p pos (word (drop (length c) q))))

pub record Digit (p c : ℕ) (a e d : List ℕ) : Type 0 where
  pub long : length d ≡ length e
  pub below : AllBelow p d
  pub is : (pos : zero < p) → poly p pos (word e)
      ≡ plus p pos (by p pos (const (Fp p pos) (rem p pos (word d 0))) (poly p pos (word a))) (by p pos (lin (Fp p pos) (rem p pos c)) (poly p pos (word (drop 1 d))))

pub record Digits (p : ℕ) (c a : List ℕ) (m : ℕ) (e d : List ℕ) : Type 0 where
  pub long : length d ≡ length e
  pub below : AllBelow p d
  pub is : (pos : zero < p) → poly p pos (word e)
      ≡ plus p pos (by p pos (newton (Fp p pos) (poly p pos (word c)) (poly p pos (word d)) m) (poly p pos (word a)))
      (by p pos (lines (Fp p pos) (poly p pos (word c)) m) (poly p pos (word (drop m d))))

abbrev pub low_of : ℕ → (ℕ → ℕ) → ℕ → ℕ
low_of m w i = choose (ltb i m) (w i) 0

abbrev pub high_of : ℕ → ℕ → (ℕ → ℕ) → ℕ → ℕ
high_of m k w i = choose (ltb i k) (w (m + i)) 0

pub record Solution (p m k : ℕ) (P A : ℕ → ℕ) (j : ℕ) (w : ℕ → ℕ) : Type 0 where
  pub below : (i : ℕ) → i < m + k → w i < p
  pub solves : (pos : zero < p) → plus p pos (by p pos (poly p pos P) (poly p pos (high_of m k w))) (by p pos (poly p pos (low_of m w)) (poly p pos A)) ≡ mono (Fp p pos) j

abbrev pub Table : (p m k : ℕ) (P A : ℕ → ℕ) (n : ℕ) (T : List ℕ) → Type 0
Table p m k P A n T = (j : ℕ) → j < n → Solution p m k P A j (λ i. word T (j * (m + k) + i))

abbrev pub before_word : List ℕ → ℕ → ℕ
before_word e zero = 0
before_word e (suc j) = word e j

unfoldable pub next_word : (p q : ℕ) (b e : List ℕ) → ℕ → ℕ
next_word p q b e j = (before_word e j + q * word b j) % p

-- the words of (Y − c_0) .. (Y − c_(m−1)), all m + 1
pub record Lines (p : ℕ) (c s : List ℕ) : Type 0 where
  pub long : length s ≡ length c + 1
  pub below : AllBelow p s
  pub is : (pos : zero < p) → poly p pos (word s) ≡ lines (Fp p pos) (poly p pos (word c)) (length c)

-- the solution for 1, with the product of the lines
pub record FirstSolution (p : ℕ) (c a : List ℕ) (k : ℕ) (w : List ℕ) : Type 0 where
  pub long : length w ≡ length c + k
  pub below : AllBelow p w
  pub solves : (pos : zero < p) → plus p pos (by p pos (lines (Fp p pos) (poly p pos (word c)) (length c)) (poly p pos (high_of (length c) k (word w))))
      (by p pos (poly p pos (low_of (length c) (word w))) (poly p pos (word a))) ≡ mono (Fp p pos) 0

-- P and A at X = 0: m + 1 and k + 1 words below p, and P is monic
pub record Bases (p m k : ℕ) (P A : List ℕ) : Type 0 where
  pub small : p < modulus_bound
  pub two : 2 ≤ p
  pub low : 1 ≤ m
  pub high : 1 ≤ k
  pub room : m + k ≤ most_rows
  pub P-long : length P ≡ m + 1
  pub A-long : length A ≡ k + 1
  pub P-below : AllBelow p P
  pub A-below : AllBelow p A
  pub P-top : word P m ≡ 1

-- rows from row m on, d of them and x as the top
unfoldable pub capped : (d x : ℕ) (a : ℕ → ℕ → ℕ) → ℕ → ℕ → ℕ
capped d x a j t = choose (ltb j d) (a j t) (choose (eqb j d) (x * unit t) 0)

abbrev pub rows_from : ℕ → ℕ → List ℕ → ℕ → ℕ → ℕ
rows_from m N s j t = word s ((m + j) * N + t)

abbrev pub low_poly : (m : ℕ) (P : List ℕ) (N : ℕ) (s : List ℕ) → ℕ → ℕ → ℕ
low_poly m P N s = capped m (word P m) (rows_from 0 N s)

abbrev pub high_poly : (m k : ℕ) (A : List ℕ) (N : ℕ) (s : List ℕ) → ℕ → ℕ → ℕ
high_poly m k A N s = capped k (word A k) (rows_from m N s)

-- columns h to w − 1 of the rows in old are split: rows 0..m − 1 of new are P's and the k after them A's; the other columns from 1 on are as they were
pub record SplitTo (p N m k : ℕ) (P A : List ℕ) (h w : ℕ) (old new : List ℕ) : Type 0 where
  pub long : length new ≡ length old
  pub below : AllBelow p new
  pub first-low : (j : ℕ) → j < m → word new (j * N) ≡ word P j
  pub first-high : (j : ℕ) → j < k → word new ((m + j) * N) ≡ word A j
  pub kept : (t : ℕ) → 1 ≤ t → t < h → (j : ℕ) → j < m + k → word new (j * N + t) ≡ word old (j * N + t)
  pub same : (t : ℕ) → h ≤ t → t < w → (j : ℕ) → j < m + k → mul p (low_poly m P N new) (high_poly m k A N new) j t ≡ word old (j * N + t)
  pub rest : (t : ℕ) → w ≤ t → t < N → (j : ℕ) → j < m + k → word new (j * N + t) ≡ word old (j * N + t)

-- what column t leaves
unfoldable pub left_at : (p N m k : ℕ) (s : List ℕ) (t j : ℕ) → ℕ
left_at p N m k s t j = (word s (j * N + t) + (p - middle_sum (rows_of (take (m * N) s) N m) (rows_of (drop (m * N) s) N k) j t % p)) % p

-- column t becomes the sum of the solutions of the table, each times a word of what the column leaves
abbrev pub Step : (p N m k : ℕ) (T : List ℕ) (t : ℕ) (old new : List ℕ) → Type 0
Step p N m k T t old new = ColumnStored N t (tabulate (m + k) (λ i. weight_sum T (m + k) (tabulate (m + k) (left_at p N m k old t)) i % p)) old new

-- the rows lent, and the columns to work
pub record SplitRoom (p N h w rows : ℕ) (s : List ℕ) : Type 0 where
  pub width : N ≤ largest_width
  pub from_low : 1 ≤ h
  pub from-high : h ≤ w
  pub terms-high : w ≤ N
  pub long : length s ≡ rows * N
  pub below : AllBelow p s

-- what is known before columns h to w − 1 of a split are worked
pub record SplitReady (p N m k : ℕ) (P A table : List ℕ) (h w : ℕ) (rows : List ℕ) : Type 0 where
  pub bases : Bases p m k P A
  pub lent : SplitRoom p N h w (m + k) rows
  pub table-long : length table ≡ (m + k) * (m + k)
  pub table_below : AllBelow p table
  pub table_is : Table p m k (word P) (word A) (m + k) table
  pub first-low : (j : ℕ) → j < m → word rows (j * N) ≡ word P j
  pub first-high : (j : ℕ) → j < k → word rows ((m + j) * N) ≡ word A j

-- a split at X = 0: P is the product of the Y − c, and A, of one word more than it has rows, is not 0 at any c
pub record SplitStart (p : ℕ) (c A : List ℕ) : Type 0 where
  pub prime : Prime p
  pub small : p < modulus_bound
  pub low : 1 ≤ length c
  pub high : 2 ≤ length A
  pub room : length c + length A ≤ most_rows + 1
  pub c-below : AllBelow p c
  pub A-below : AllBelow p A
  pub values : (l : ℕ) → l < length c → 1 ≤ word (horner_words p (word c l) A) 0

pub record SplitBy (p N h w : ℕ) (c A old new : List ℕ) : Type 0 where
  pub P : List ℕ
  pub lines-low : Lines p c P
  pub done : SplitTo p N (length c) (length A - 1) P A h w old new

-- the roots of a node's split: the first m of c against the others
pub record SplitRoots (p m : ℕ) (c : List ℕ) : Type 0 where
  pub prime : Prime p
  pub small : p < modulus_bound
  pub low : 1 ≤ m
  pub high : m < length c
  pub room : length c ≤ largest_degree
  pub below : AllBelow p c
  pub apart : (i j : ℕ) → i < m → m ≤ j → j < length c → word c i < word c j

-- the split of a node by its first m roots
pub record Split (p N w m : ℕ) (c old new : List ℕ) : Type 0 where
  pub P : List ℕ
  pub A : List ℕ
  pub lines-low : Lines p (take m c) P
  pub lines-high : Lines p (drop m c) A
  pub done : SplitTo p N m (length c - m) P A 1 w old new
