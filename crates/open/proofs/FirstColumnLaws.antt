-- f at X = 0, of rows that passed checks 1 to 7.
--   column-loaded   the column, loaded over the first words of an array
--   column-lent, lent_fits, lent-monic   and lent from there
--   column-long, column-at, column-below, column-monic   it is a monic polynomial of degree D over F_p
--   powers-answer, roots-answer   what was found from it
-- Assumes nothing.
use Prim.Native.Nat.{ℕ, zero, suc, ◌+◌, ◌-◌, ◌*◌, ◌≤◌, ◌<◌}
use native.Mathlib.Omega.{arith}
use mathlib.Core.Path.{◌≡◌, sym, ◌∙◌, ap, subst}
use mathlib.Core.Bool.{Bool}
use mathlib.Core.List.{List, ◌++◌}
use Rattle.std.specs.Prelude.{Option}
use lib.ListN.{length, take, drop, length-append}
use lib.Seq.{length-take-le, take_at}
use Rattle.algebra.specs.Prime.{Prime}
use Rattle.numbers.specs.Words.{word, tabulate, over}
use Rattle.numbers.specs.internal.Facts.{Rising}
use Rattle.numbers.proofs.WordsLaws.{length-tabulate, word-tabulate, tabulate-ext}
use Rattle.rows.proofs.RowsLaws.{row_fits}
use Rattle.layout.specs.Layout.{rows_at}
use Rattle.powers.specs.internal.Powers.{FoundPowers}
use Rattle.rootfinding.specs.internal.Finding.{Monic, FoundRoots}
use Rattle.sheet.specs.Sheet.{Given, given-polynomial}
use Rattle.open.specs.Find.{first_column}
use Rattle.open.specs.internal.Opening.{PowersAnswer}
use Rattle.open.proofs.OpenChecksLaws.{RowsPass}
use Rattle.open.proofs.PowersFoundLaws.{found-answer}

pub column-loaded : (rows : List ℕ) (D N : ℕ) (zs L : List ℕ) → D + 1 ≤ length zs → L ≡ tabulate (length (take (D + 1) zs)) (λ j. word rows (j * N + 0))
    → L ++ drop (D + 1) zs ≡ over (tabulate (suc D) (λ j. rows_at rows 0 N j zero)) zs
column-loaded rows D N zs L size loaded =
    let F = tabulate (suc D) (λ j. rows_at rows 0 N j zero) in
    let n : D + 1 ≡ suc D = omega arith in
    let q : L ≡ F = loaded ∙ ap (λ k. tabulate k (λ j. word rows (j * N + 0))) (length-take-le (D + 1) zs size ∙ n)
    ∙ tabulate-ext (suc D) _ _ (λ j u. ap (word rows) (let z : j * N + 0 ≡ 0 + j * N + 0 = omega arith in z)) in
    ap (λ x. x ++ drop (D + 1) zs) q ∙ ap (λ k. F ++ drop k zs) (n ∙ sym (length-tabulate (suc D) (λ j. rows_at rows 0 N j zero)))

module _ (g : Given) where
  abbrev e : List ℕ
  e = first_column g

  pub column-long : length e ≡ g.D + 1
  column-long = length-tabulate (suc g.D) _ ∙ (let z : suc g.D ≡ g.D + 1 = omega arith in z)

  pub column-at : (j : ℕ) → j ≤ g.D → word e j ≡ given-polynomial g j zero
  column-at j l = word-tabulate (suc g.D) (λ j. given-polynomial g j zero) j (omega arith)

  -- lent from the front of an array
  module _ (zs s : List ℕ) (q : s ≡ over e zs) where
    column-lent : take (g.D + 1) s ≡ e
    column-lent = ap (take (g.D + 1)) q ∙ take_at e (drop (length e) zs) (g.D + 1) column-long

    pub lent_fits : g.D + 1 ≤ length s
    lent_fits = omega (arith, ap length q, length-append e (drop (length e) zs), column-long)

  module _ (h : RowsPass g) where
    prime : Prime g.p
    prime = h.polynomial.modulus.prime

    pub column-below : (j : ℕ) → j ≤ g.D → word e j < g.p
    column-below j l =
        let w = h.polynomial.width_low in
        let s = h.polynomial.long in
        rw (column-at j l) (h.polynomial.rows-below (0 + j * g.N + 0) (omega (arith, row_fits j (g.D + 1) g.N (omega arith))))

    pub column-monic : Monic g.p e
    column-monic =
        let low = h.polynomial.degree-low in
        let high = h.polynomial.degree-high in
        let n = column-long in
        record {
          prime = prime;
          small = h.polynomial.modulus.small;
          some = omega arith;
          few = omega arith;
          below = λ k l. column-below k (omega arith);
          top = ap (word e) (let z : length e - 1 ≡ g.D = omega arith in z) ∙ column-at g.D (omega arith) ∙ h.top zero h.polynomial.width_low;
        }

    -- so what is lent from that array
    module _ (zs s : List ℕ) (q : s ≡ over e zs) where
      pub lent-monic : Monic g.p (take (g.D + 1) s)
      lent-monic = subst (Monic g.p) (sym (column-lent zs s q)) column-monic

      pub powers-answer : Rising g.roots → (found : Bool) (ps : List ℕ) → length ps ≡ length g.roots → FoundPowers g.p g.roots (take (g.D + 1) s) found ps → PowersAnswer g found ps
      powers-answer up found ps n f =
          found-answer g prime e column-long column-at column-below up h.polynomial.roots-below found ps n (subst (λ x. FoundPowers g.p g.roots x found ps) (column-lent zs s q) f)

      pub roots-answer : (n : Option ℕ) (roots ps : List ℕ) → FoundRoots g.p (take (g.D + 1) s) n roots ps → FoundRoots g.p e n roots ps
      roots-answer n roots ps f = subst (λ x. FoundRoots g.p x n roots ps) (column-lent zs s q) f
