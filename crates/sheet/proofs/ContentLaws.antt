-- A sheet's words, written out from what it holds, and the words read back.
--   word-header, word-known, word-root, word-power, word-polynomial, word-factors   what stands where
--   length-sheet     it has T words
--   words_same       contents that agree have the same words
-- Assumes nothing.
use Prim.Native.Nat.{ℕ, zero, suc, ◌+◌, ◌*◌, ◌≤◌, ◌<◌}
use native.Mathlib.Omega.{arith}
use mathlib.Core.Path.{◌≡◌, refl, ◌∙◌, ap, ap₂}
use mathlib.Core.List.{List, ◌++◌}
use lib.ListN.{length, length-append, get_or-append}
use lib.Seq.{get_or-append-add}
use Rattle.sheet.specs.internal.Content.{Content, size, header_words, entry, sheet_words}
use Rattle.numbers.specs.Words.{word, tabulate}
use Rattle.numbers.proofs.WordsLaws.{length-tabulate, word-tabulate, tabulate-ext}
use Rattle.rows.specs.Rows.{table}
use Rattle.rows.proofs.RowsLaws.{length-table, word-table, table-ext}
use Rattle.layout.specs.Layout.{lengths_from, roots_from, polynomial_from, factors_from}
use Rattle.layout.proofs.RegionsLaws.{in_rows}

-- past the first list
skip : (xs ys : List ℕ) (n i k : ℕ) → length xs ≡ n → k ≡ n + i → word (xs ++ ys) k ≡ word ys i
skip xs ys n i k e h = let z : k ≡ length xs + i = omega arith in ap (word (xs ++ ys)) z ∙ get_or-append-add xs ys i 0

module _ (c : Content) where
  abbrev L : List ℕ
  L = tabulate c.D c.known

  abbrev E : List ℕ
  E = table c.r 2 (entry c)

  abbrev P : List ℕ
  P = table (c.D + 1) c.N c.f

  abbrev F : List ℕ
  F = table c.D c.N c.factors

  pub word-header : (i : ℕ) → i < lengths_from → word (sheet_words c) i ≡ word (header_words c) i
  unfolding sheet_words
  word-header i l = get_or-append (header_words c) (L ++ (E ++ (P ++ F))) 0 i l

  past-header : (n m : ℕ) → m ≡ lengths_from + n → word (sheet_words c) m ≡ word (L ++ (E ++ (P ++ F))) n
  unfolding sheet_words
  past-header n m e = skip (header_words c) (L ++ (E ++ (P ++ F))) lengths_from n m refl e

  pub word-known : (j : ℕ) → j < c.D → word (sheet_words c) (lengths_from + j) ≡ c.known j
  word-known j l =
      past-header j _ refl ∙ get_or-append L (E ++ (P ++ F)) 0 j (omega (arith, length-tabulate c.D c.known)) ∙ word-tabulate c.D c.known j l

  past-lengths : (n m : ℕ) → m ≡ roots_from c.D + n → word (sheet_words c) m ≡ word (E ++ (P ++ F)) n
  past-lengths n m e = past-header (c.D + n) m (omega arith) ∙ skip L (E ++ (P ++ F)) c.D n (c.D + n) (length-tabulate c.D c.known) refl

  entry_at : (i t m : ℕ) → i < c.r → t < 2 → m ≡ roots_from c.D + (i * 2 + t) → word (sheet_words c) m ≡ entry c i t
  entry_at i t m l g e =
      past-lengths (i * 2 + t) m e ∙ get_or-append E (P ++ F) 0 (i * 2 + t) (omega (arith, length-table c.r 2 (entry c), in_rows c.r 2 i t l g))
      ∙ word-table c.r 2 (entry c) i t l g

  pub word-root : (i : ℕ) → i < c.r → word (sheet_words c) (roots_from c.D + 2 * i) ≡ c.root i
  word-root i l = entry_at i 0 _ l (omega arith) (omega arith)

  pub word-power : (i : ℕ) → i < c.r → word (sheet_words c) (roots_from c.D + 2 * i + 1) ≡ c.power i
  word-power i l = entry_at i 1 _ l (omega arith) (omega arith)

  past-entries : (n m : ℕ) → m ≡ polynomial_from c.D c.r + n → word (sheet_words c) m ≡ word (P ++ F) n
  past-entries n m e =
      past-lengths (c.r * 2 + n) m (omega arith) ∙ skip E (P ++ F) (c.r * 2) n (c.r * 2 + n) (length-table c.r 2 (entry c)) refl

  pub word-polynomial : (j t : ℕ) → j ≤ c.D → t < c.N → word (sheet_words c) (polynomial_from c.D c.r + j * c.N + t) ≡ c.f j t
  word-polynomial j t l g =
      past-entries (j * c.N + t) _ (omega arith)
      ∙ get_or-append P F 0 (j * c.N + t) (omega (arith, length-table (c.D + 1) c.N c.f, in_rows (c.D + 1) c.N j t (omega arith) g))
      ∙ word-table (c.D + 1) c.N c.f j t (omega arith) g

  past-polynomial : (n m : ℕ) → m ≡ factors_from c.D c.N c.r + n → word (sheet_words c) m ≡ word F n
  past-polynomial n m e =
      past-entries ((c.D + 1) * c.N + n) m (omega arith) ∙ skip P F ((c.D + 1) * c.N) n ((c.D + 1) * c.N + n) (length-table (c.D + 1) c.N c.f) refl

  pub word-factors : (j t : ℕ) → j < c.D → t < c.N → word (sheet_words c) (factors_from c.D c.N c.r + j * c.N + t) ≡ c.factors j t
  word-factors j t l g =
      past-polynomial (j * c.N + t) _ (omega arith)
      ∙ word-table c.D c.N c.factors j t l g

  pub length-sheet : length (sheet_words c) ≡ size c
  unfolding sheet_words
  length-sheet = simp (length-append, length-tabulate, length-table) (omega arith)

-- contents that agree on all that has a place
pub record SameContent (c c' : Content) : Type 0 where
  pub modulus : c.p ≡ c'.p
  pub degree : c.D ≡ c'.D
  pub width : c.N ≡ c'.N
  pub terms : c.k ≡ c'.k
  pub count : c.r ≡ c'.r
  pub reach : c.m ≡ c'.m
  pub lengths : (j : ℕ) → j < c.D → c.known j ≡ c'.known j
  pub roots : (i : ℕ) → i < c.r → c.root i ≡ c'.root i
  pub powers : (i : ℕ) → i < c.r → c.power i ≡ c'.power i
  pub polynomial : (j t : ℕ) → j ≤ c.D → t < c.N → c.f j t ≡ c'.f j t
  pub factors : (j t : ℕ) → j < c.D → t < c.N → c.factors j t ≡ c'.factors j t

module _ (c c' : Content) (e : SameContent c c') where
  pub same_size : size c ≡ size c'
  same_size = cc (e.degree, e.width, e.count)

  same-header : header_words c ≡ header_words c'
  same-header = let q = same_size in cc (e.modulus, e.degree, e.width, e.terms, e.count, e.reach)

  same-table : (R R' : ℕ) (a a' : ℕ → ℕ → ℕ) → R ≡ R' → ((j t : ℕ) → j < R → t < c.N → a j t ≡ a' j t) → table R c.N a ≡ table R' c'.N a'
  same-table R R' a a' q h = table-ext R c.N a a' h ∙ ap₂ (λ R N. table R N a') q e.width

  same-entry : (i t : ℕ) → i < c.r → t < 2 → entry c i t ≡ entry c' i t
  same-entry i zero l g = e.roots i l
  same-entry i (suc t) l g = e.powers i l

  pub words_same : sheet_words c ≡ sheet_words c'
  unfolding sheet_words
  words_same =
      ap₂ ◌++◌ same-header (ap₂ ◌++◌ (tabulate-ext c.D c.known c'.known e.lengths ∙ ap (λ D. tabulate D c'.known) e.degree)
      (ap₂ ◌++◌ (table-ext c.r 2 (entry c) (entry c') same-entry ∙ ap (λ r. table r 2 (entry c')) e.count)
      (ap₂ ◌++◌ (same-table (c.D + 1) (c'.D + 1) c.f c'.f (ap (λ D. D + 1) e.degree) (λ j t l g. e.polynomial j t (omega arith) g))
      (same-table c.D c'.D c.factors c'.factors e.degree e.factors))))
