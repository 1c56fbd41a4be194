-- The split of a node: its products of lines, the table, column 0.
-- Assumes nothing.
use mathlib.Core.Path.{◌≡◌, sym, ap, subst, ◌∙◌}
use mathlib.Core.Logic.{⊎_elim, ◌≢◌}
use mathlib.Core.List.{List, ◌++◌}
use Prim.Native.Nat.{ℕ, zero, suc, ◌+◌, ◌-◌, ◌*◌, ◌≤◌, ◌<◌}
use native.Mathlib.Nat.{mul-le-mul, add-zero as add-zeroₙ}
use native.Mathlib.Omega.{arith}
use lib.ListN.{length, take, drop, length-drop, length-append, get_or-append, get_or-eq_default}
use lib.Seq.{get_or-drop, get_or-take, length-take-le}
use Rattle.algebra.specs.internal.Ring.{CommRing}
use Rattle.algebra.proofs.RingLaws.{IsField}
use Rattle.algebra.specs.internal.Poly.{lin, lines}
use Rattle.algebra.proofs.PolyLaws.{eval, poly-lin, NonRoot, nonroot-one, nonroot-mul, nonroot-lin}
use Rattle.algebra.specs.Prime.{Prime}
use Rattle.algebra.specs.internal.Fp.{Fp, rem}
use Rattle.algebra.proofs.FpLaws.{p-pos, Fp-field}
use Rattle.algebra.proofs.BridgeLaws.{rem-zero, rem-one, same-rem}
use Rattle.numbers.specs.Words.{word, tabulate}
use Rattle.numbers.specs.internal.Facts.{AllBelow}
use Rattle.numbers.proofs.WordsLaws.{lt-or-ge, length-tabulate, word-tabulate, from, from_is, length_from, take_below}
use Rattle.columns.specs.internal.Column.{horner_words, ColumnStored}
use Rattle.columns.proofs.ColumnLaws.{put_from, horner-words-at}
use Rattle.columns.proofs.SolveLaws.{horner-poly}
use Rattle.algebra.proofs.SolutionLaws.{lines-zero, lines-suc, lines-below, lines-top}
use Rattle.numbers.specs.Limits.{most_rows}
use Rattle.solution.specs.internal.Table.{poly, Solution, Table, Lines, FirstSolution, Bases, SplitTo, SplitRoom, SplitReady, SplitStart, SplitBy, SplitRoots, Split}
use Rattle.solution.proofs.DigitsLaws.{put-kept, put-drop, put-long}
use Rattle.solution.proofs.TableLaws.{first-solution, table_below}
use Rattle.solution.proofs.StepLaws.{same_or_not}
use Rattle.rows.proofs.RowsLaws.{by_row, row_fits}

-- a product of lines is not 0 at what is no root of it
lines-nonroot : {R : Type 0} (𝓡 : CommRing R) (field : IsField 𝓡) (x : R) (c : ℕ → R) (m : ℕ) → ((i : ℕ) → i < m → x ≢ c i) → NonRoot 𝓡 x (lines 𝓡 c m)
lines-nonroot 𝓡 field x c zero h = rw (lines-zero 𝓡 c) (nonroot-one 𝓡 field.nontrivial x)
lines-nonroot 𝓡 field x c (suc m) h =
    rw (lines-suc 𝓡 c m)
    (nonroot-mul 𝓡 field x (lines 𝓡 c m) (lin 𝓡 (c m)) (_, lines-below 𝓡 c m) (poly-lin 𝓡 (c m)) (lines-nonroot 𝓡 field x c m (λ i l. h i (omega arith))) (nonroot-lin 𝓡 x (c m) (h m (omega arith))))

module _ {p : ℕ} (prime : Prime p) where
  abbrev pos : zero < p
  pos = p-pos prime

  pub lines-value : (x : ℕ) → x < p → (d A : List ℕ) → AllBelow p d → Lines p d A → ((i : ℕ) → i < length d → x < word d i) → 1 ≤ word (horner_words p x A) 0
  lines-value x l d A bd h less =
      ⊎_elim (λ (z : word (horner_words p x A) 0 < 1). absurd (no (let e : word (horner_words p x A) 0 ≡ 0 = omega arith in e))) (λ g. g) (lt-or-ge (word (horner_words p x A) 0) 1)
    where
      no : word (horner_words p x A) 0 ≡ 0 → ⊥
      no e =
          lines-nonroot (Fp p pos) (Fp-field prime) (rem p pos x) (poly p pos (word d)) (length d)
          (λ i g q. let z : x ≡ word d i = same-rem p pos l (bd i g) q in let y = less i g in omega arith)
          (length A) (λ j g. ap (λ f. f j) (sym (h.is pos)) ∙ ap (rem p pos) (get_or-eq_default A 0 g) ∙ rem-zero p pos)
          (ap (eval (Fp p pos) (rem p pos x) (length A)) (sym (h.is pos)) ∙ sym (horner-poly p pos x (length A) (word A) 0)
          ∙ ap (rem p pos) (sym (horner-words-at p x pos A 0) ∙ e) ∙ rem-zero p pos)

  pub lines-last : (d A : List ℕ) → Lines p d A → word A (length d) ≡ 1
  lines-last d A h =
      same-rem p pos (h.below (length d) (let e = h.long in omega arith)) prime.two-le
      (ap (λ f. f (length d)) (h.is pos) ∙ lines-top (Fp p pos) (poly p pos (word d)) (length d) ∙ sym (rem-one p pos))

  -- a split at X = 0, with its product of lines
  module _ (c A : List ℕ) (h : SplitStart p c A) (P : List ℕ) (hP : Lines p c P) where
    pub bases : Bases p (length c) (length A - 1) P A
    bases = let low = h.low in let high = h.high in let room = h.room in record {
      small = h.small;
      two = prime.two-le;
      low = low;
      high = omega arith;
      room = omega arith;
      P-long = hP.long;
      A-long = omega arith;
      P-below = hP.below;
      A-below = h.A-below;
      P-top = lines-last c P hP;
    }

    pub node-first : (w : List ℕ) → FirstSolution p c A (length A - 1) w
        → (length w ≡ length c + (length A - 1)) × AllBelow p w × Solution p (length c) (length A - 1) (word P) (word A) 0 (word w)
    node-first w g = (g.long, g.below, first-solution p c A P (length A - 1) w hP g)

  -- the split of a node: its first m roots against the others
  module _ (c : List ℕ) (m : ℕ) (h : SplitRoots p m c) (A : List ℕ) (hA : Lines p (drop m c) A) where
    nl : length (take m c) ≡ m
    nl = length-take-le m c (let z = h.high in omega arith)

    nh : length (drop m c) ≡ length c - m
    nh = length-drop m c

    values : (l : ℕ) → l < length (take m c) → 1 ≤ word (horner_words p (word (take m c) l) A) 0
    values l g =
        let high = h.high in
        let e : word (take m c) l ≡ word c l = get_or-take m c l 0 (omega (arith, nl)) in
        lines-value (word (take m c) l) (subst (λ x. x < p) (sym e) (h.below l (omega (arith, nl)))) (drop m c) A
        (λ i u. subst (λ x. x < p) (sym (get_or-drop m c i 0)) (h.below (m + i) (omega (arith, nh)))) hA
        (λ i u. subst (λ x. x < word (drop m c) i) (sym e) (subst (λ x. word c l < x) (sym (get_or-drop m c i 0)) (h.apart l (m + i) (omega (arith, nl)) (omega arith) (omega (arith, nh)))))

    pub node-start : SplitStart p (take m c) A
    node-start =
        let low = h.low in let high = h.high in let room = h.room in let long = hA.long in
        record {
          prime = prime;
          small = h.small;
          low = omega (arith, nl);
          high = omega (arith, nh);
          room = omega (arith, nl, nh);
          c-below = take_below p m c (omega arith) h.below;
          A-below = hA.below;
          values = values;
        }

    pub node-split : (N w : ℕ) (old new : List ℕ) → SplitBy p N 1 w (take m c) A old new → Split p N w m c old new
    node-split N w old new s =
        let e : length A - 1 ≡ length c - m = let z = hA.long in omega (arith, nh) in
        record {
          P = s.P;
          A = A;
          lines-low = s.lines-low;
          lines-high = hA;
          done = subst (λ x. SplitTo p N x (length c - m) s.P A 1 w old new) nl (subst (λ x. SplitTo p N (length (take m c)) x s.P A 1 w old new) e s.done);
        }

    pub node-rows : (N : ℕ) → (length (take m c) + (length A - 1)) * N ≡ length c * N
    node-rows N = ap (λ x. x * N) (let high = h.high in let z = hA.long in omega (arith, nl, nh))

-- the first words of both
pub joined : (m k : ℕ) (P A e x y : List ℕ) → length P ≡ m + 1 → length A ≡ k + 1 → length e ≡ m + k
    → x ≡ tabulate (length (take m e)) (λ j. word P (j * 1 + 0)) → y ≡ tabulate (length (from (x ++ drop m e) m)) (λ j. word A (j * 1 + 0))
    → record {
      long : length (put_from m (x ++ drop m e) y) ≡ m + k;
      low : (i : ℕ) → i < m → word (put_from m (x ++ drop m e) y) i ≡ word P i;
      high : (i : ℕ) → i < k → word (put_from m (x ++ drop m e) y) (m + i) ≡ word A i;
    }
joined m k P A e x y nP nA ne ex ey =
    let nt : length (take m e) ≡ m = length-take-le m e (omega arith) in
    let nx : length x ≡ m = ap length ex ∙ length-tabulate (length (take m e)) _ ∙ nt in
    let nd : length (drop m e) ≡ k = length-drop m e ∙ omega arith in
    let nw : length (x ++ drop m e) ≡ m + k = length-append x (drop m e) ∙ omega arith in
    let nf : length (from (x ++ drop m e) m) ≡ k = length_from (x ++ drop m e) m ∙ omega arith in
    let ny : length y ≡ k = ap length ey ∙ length-tabulate (length (from (x ++ drop m e) m)) _ ∙ nf in
    let le : m ≤ length (x ++ drop m e) = omega arith in
    record {
      long = put-long m (x ++ drop m e) y le (omega arith) ∙ nw;
      low = λ i l. put-kept m (x ++ drop m e) y le i l ∙ get_or-append x (drop m e) 0 i (omega arith) ∙ ap (λ s. word s i) ex ∙ word-tabulate (length (take m e)) _ i (omega arith) ∙ ap (word P) (let z : i * 1 + 0 ≡ i = omega arith in z);
      high = λ i l. sym (get_or-drop m (put_from m (x ++ drop m e) y) i 0) ∙ ap (λ s. word s i) (put-drop m (x ++ drop m e) y le ∙ ey) ∙ word-tabulate (length (from (x ++ drop m e) m)) _ i (omega arith) ∙ ap (word A) (let z : i * 1 + 0 ≡ i = omega arith in z);
    }

-- column 0 is put
module _ (p N m k : ℕ) (P A e s s' : List ℕ) (wide : 1 ≤ N) (ne : length e ≡ m + k) (bP : AllBelow p P) (bA : AllBelow p A) (nP : length P ≡ m + 1) (nA : length A ≡ k + 1)
    (low : (i : ℕ) → i < m → word e i ≡ word P i) (high : (i : ℕ) → i < k → word e (m + i) ≡ word A i) (bs : AllBelow p s) (long : length s ≡ (m + k) * N) (st : ColumnStored N 0 e s s') where
  here : (j : ℕ) → j < m + k → word s' (j * N) ≡ word e j
  here j l = ap (word s') (sym (add-zeroₙ (j * N))) ∙ st.here j (omega arith)

  put_low : (j : ℕ) → j < m → word s' (j * N) ≡ word P j
  put_low j l = here j (omega arith) ∙ low j l

  put-high : (j : ℕ) → j < k → word s' ((m + j) * N) ≡ word A j
  put-high j l = here (m + j) (omega arith) ∙ high j l

  e-below : (j : ℕ) → j < m + k → word e j < p
  e-below j l =
      ⊎_elim (λ (g : j < m). subst (λ x. x < p) (sym (low j g)) (bP j (omega arith)))
      (λ (g : m ≤ j). let z : m + (j - m) ≡ j = omega arith in subst (λ x. word e x < p) z (subst (λ x. x < p) (sym (high (j - m) (omega arith))) (bA (j - m) (omega arith)))) (lt-or-ge j m)

  put-below-all : AllBelow p s'
  put-below-all x l =
      by_row (m + k) N (λ x. word s' x < p) wide
      (λ j a u g. ⊎_elim (λ (q : u ≡ 0). subst (λ x. word s' (j * N + x) < p) (sym q) (subst (λ x. x < p) (sym (st.here j (omega arith))) (e-below j a)))
      (λ no. subst (λ x. x < p) (sym (st.others j (omega arith) u g no)) (bs (j * N + u) (let z = row_fits j (m + k) N a in omega arith))) (same_or_not u 0))
      x (let q = st.long in omega arith)

  put-split : (from w : ℕ) (new : List ℕ) → 1 ≤ from → from ≤ w → w ≤ N → SplitTo p N m k P A from w s' new → SplitTo p N m k P A from w s new
  put-split from w new one upto top h = record {
    long = h.long ∙ st.long;
    below = h.below;
    first-low = h.first-low;
    first-high = h.first-high;
    kept = λ t lo hi j l. h.kept t lo hi j l ∙ st.others j (omega arith) t (omega arith) (λ q. let z : ⊥ = omega arith in z);
    same = λ t lo hi j l. h.same t lo hi j l ∙ st.others j (omega arith) t (omega arith) (λ q. let z : ⊥ = omega arith in z);
    rest = λ t lo hi j l. h.rest t lo hi j l ∙ st.others j (omega arith) t hi (λ q. let z : ⊥ = omega arith in z);
  }

-- so the columns are ready to be worked, and once they are the split is there
module _ (p N from w : ℕ) (c A P T e s s' : List ℕ) (h : SplitStart p c A) (lent : SplitRoom p N from w (length c + (length A - 1)) s) (hP : Lines p c P)
    (nT : length T ≡ (length c + (length A - 1)) * (length c + (length A - 1)))
    (tab : Table p (length c) (length A - 1) (word P) (word A) (length c + (length A - 1)) T) (ne : length e ≡ length c + (length A - 1))
    (low : (i : ℕ) → i < length c → word e i ≡ word P i) (high : (i : ℕ) → i < length A - 1 → word e (length c + i) ≡ word A i) (st : ColumnStored N 0 e s s') where
  abbrev m : ℕ
  m = length c

  abbrev k : ℕ
  k = length A - 1

  bs : Bases p m k P A
  bs = bases h.prime c A h P hP

  wide : 1 ≤ N
  wide = let a = lent.from_low in let b = lent.from-high in let d = lent.terms-high in omega arith

  pub put-ready : SplitReady p N m k P A T from w s'
  put-ready = record {
    bases = bs;
    lent = record {
      width = lent.width;
      from_low = lent.from_low;
      from-high = lent.from-high;
      terms-high = lent.terms-high;
      long = st.long ∙ lent.long;
      below = put-below-all p N m k P A e s s' wide ne bs.P-below bs.A-below bs.P-long bs.A-long low high lent.below lent.long st;
    };
    table-long = nT;
    table_below = table_below p m k (word P) (word A) T nT tab;
    table_is = tab;
    first-low = put_low p N m k P A e s s' wide ne bs.P-below bs.A-below bs.P-long bs.A-long low high lent.below lent.long st;
    first-high = put-high p N m k P A e s s' wide ne bs.P-below bs.A-below bs.P-long bs.A-long low high lent.below lent.long st;
  }

  pub put-by : (new : List ℕ) → SplitTo p N m k P A from w s' new → SplitBy p N from w c A s new
  put-by new g = record {
    P = P;
    lines-low = hP;
    done = put-split p N m k P A e s s' wide ne bs.P-below bs.A-below bs.P-long bs.A-long low high lent.below lent.long st from w new lent.from_low lent.from-high lent.terms-high g;
  }

pub lines-drop : (p : ℕ) (c A : List ℕ) (m : ℕ) → Lines p (from c m) A → Lines p (drop m c) A
lines-drop p c A m h = subst (λ x. Lines p x A) (from_is c m) h

pub square-small : (n : ℕ) → n ≤ most_rows → n * n ≤ 1089
square-small n l = let z : n * n ≤ 33 * 33 = mul-le-mul {n₂ = 33} {m₂ = 33} l l in omega arith
