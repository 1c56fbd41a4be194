-- Filling in what is not known: the known lengths say how far the factors are determined.
--   filled-opens   a polynomial that open accepts is accepted when it is filled in
--   filled-same, filled-own   every way of filling in gives the same factors below the least known length, which are those of the sheet itself
--   filled_apart   and some two ways differ at the next column
-- Assumes nothing.
use Prim.Native.Nat.{ℕ, zero, ◌+◌, ◌*◌, ◌≤◌, ◌<◌}
use native.Mathlib.Nat.{eq-or-lt_of_le}
use native.Mathlib.Omega.{arith}
use mathlib.Core.Path.{◌≡◌, refl, sym, ◌∙◌, ap, subst}
use mathlib.Core.Logic.{◌≢◌, ⊎_elim}
use mathlib.Core.List.{List}
use lib.ListN.{length, set, length-set}
use lib.Seq.{get_or-set_same}
use Rattle.numbers.specs.Refusals.{Pass}
use Rattle.numbers.specs.Words.{word, tabulate}
use Rattle.numbers.proofs.WordsLaws.{least-le, least_at, least-there}
use Rattle.numbers.proofs.RefusalsLaws.{reduced, below-reduced}
use Rattle.tiles.proofs.TileLaws.{set_below}
use Rattle.layout.proofs.RegionsLaws.{in_rows, entry_other}
use Rattle.sheet.specs.Sheet.{Given, given-reach, given-polynomial}
use Rattle.sheet.proofs.HoldsLaws.{holds-reach}
use Rattle.open.specs.Open.{needed, open_verdict}
use Rattle.open.proofs.OpenChecksLaws.{ListPass, whole-list}
use Rattle.open.proofs.OpeningLaws.{open-passed, column-opens}
use Rattle.calls.specs.Calls.{SameGiven}
use Rattle.calls.specs.Filling.{filled, Fills, SameFilled, OwnFilled, ApartFilled}
use Rattle.calls.proofs.Demand3Laws.{holds_agree}

-- below the least known length all is known
fills-agree : (g : Given) (rows : List ℕ) → Fills g rows → (j : ℕ) → j ≤ given-reach g → SameGiven j g (filled g rows)
fills-agree g rows F j r = record {
  degrees = refl;
  columns = λ q l t v. ⊎_elim
      (λ (e : q ≡ g.D). subst (λ x. given-polynomial g x t ≡ given-polynomial (filled g rows) x t) (sym e) (sym (F.top t (omega (arith, least-le g.N (word g.lengths) g.D)))))
      (λ (u : q < g.D). sym (F.known q u t (omega (arith, least_at g.N (word g.lengths) g.D q u))))
      (eq-or-lt_of_le l);
}

pub filled-same : (g : Given) → SameFilled g
filled-same g a b A B k w s u h h' j low lk lw r =
    let x = fills-agree g a A j r in
    let y = fills-agree g b B j r in
    (holds_agree (filled g a) (filled g b) k w s u h h' refl j low lk lw).1 (record { degrees = refl; columns = λ q l t v. sym (x.columns q l t v) ∙ y.columns q l t v })

pub filled-own : (g : Given) → OwnFilled g
filled-own g a A k w s u h h' j low lk lw =
    let r = holds-reach g k s h in
    let m = h.sound.terms-high in
    let e = h.same-terms in
    (holds_agree g (filled g a) k w s u h h' refl j low lk lw).1 (fills-agree g a A j (omega arith))

-- a polynomial that open accepts
module _ (g : Given) (h : ListPass g) where
  abbrev N : ℕ
  N = g.N

  module _ (rows : List ℕ) (F : Fills g rows) where
    abbrev f : Given
    f = filled g rows

    filled-list : ListPass f
    filled-list = whole-list g rows F.long (reduced g.p rows F.reduced) (λ t l. F.top t l ∙ h.rows.top t l) h

    -- every row is known at X = 0
    column-zero : (j : ℕ) → j ≤ g.D → given-polynomial f j zero ≡ given-polynomial g j zero
    column-zero j l =
        ⊎_elim
        (λ (e : j ≡ g.D). subst (λ x. given-polynomial f x zero ≡ given-polynomial g x zero) (sym e) (F.top zero h.rows.polynomial.width_low))
        (λ (u : j < g.D). F.known j u zero (h.rows.lengths j u).low)
        (eq-or-lt_of_le l)

  own : Fills g g.rows
  own = record { long = h.rows.polynomial.long; reduced = below-reduced g.p g.rows h.rows.polynomial.rows-below; known = λ j l t u. refl; top = λ t l. refl }

  -- one entry that is not known, made 1: row j is known to m terms
  module _ (j m : ℕ) (low : j < g.D) (is : word g.lengths j ≡ m) (short : m < N) where
    abbrev place : ℕ
    place = 0 + j * N + m

    abbrev other : List ℕ
    other = set g.rows place 1

    fits : place < length g.rows
    fits = omega (arith, h.rows.polynomial.long, in_rows (g.D + 1) N j m (omega arith) short)

    -- nothing that is known moves
    elsewhere : (i t : ℕ) → t < N → ¬ ((i ≡ j) × (t ≡ m)) → given-polynomial (filled g other) i t ≡ given-polynomial g i t
    elsewhere = entry_other g.rows 0 N j m 1 short

    made : Fills g other
    made = record {
      long = length-set g.rows place 1 ∙ h.rows.polynomial.long;
      reduced = below-reduced g.p other (set_below g.p g.rows place 1 h.rows.polynomial.modulus.prime.two-le h.rows.polynomial.rows-below);
      known = λ i l t u. elsewhere i t (omega (arith, (h.rows.lengths i l).high)) (λ (x, y). let q = ap (word g.lengths) x in let z : ⊥ = omega arith in z);
      top = λ t l. elsewhere g.D t l (λ (x, y). let z : ⊥ = omega arith in z);
    }

    apart : given-polynomial (filled g g.rows) j m ≢ given-polynomial (filled g other) j m
    apart e = let a = (h.rows.lengths j low).rest m (omega arith) short in let b = get_or-set_same g.rows place 1 0 fits in let z : ⊥ = omega (arith, e) in z

pub filled-opens : (g : Given) (rows : List ℕ) → open_verdict g (needed g) ≡ Pass → Fills g rows → open_verdict (filled g rows) (needed (filled g rows)) ≡ Pass
filled-opens g rows pass F = let h = (open-passed g (needed g) pass).list in column-opens g rows (tabulate g.D (λ _. g.N)) (column-zero g h rows F) pass (filled-list g h rows F)

pub filled_apart : (g : Given) → open_verdict g (needed g) ≡ Pass → given-reach g < g.N → ApartFilled g
filled_apart g pass short =
    let h = (open-passed g (needed g) pass).list in
    let m = given-reach g in
    let (j, low, is) = least-there g.N (word g.lengths) g.D short in (
      g.rows,
      set g.rows (0 + j * g.N + m) 1,
      own g h,
      made g h j m low is short,
      λ k w s u hs hu lk lw same.
          let c = (holds_agree (filled g g.rows) (filled g (set g.rows (0 + j * g.N + m) 1)) k w s u hs hu refl (m + 1) (omega arith) (omega arith) (omega arith)).0 same in
          apart g h j m low is short (c.columns j (omega arith) m (omega arith)),
    )
