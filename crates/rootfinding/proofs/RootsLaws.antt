-- The list of all roots.
--   value-horner        the value of a list of words, as Horner's scheme has it
--   roots_below p e n    the roots below n
--   root-value          a number is a root exactly where the polynomial over F_p is 0 there
--   all-rising          the list of all roots passes the test of a rising list
--   roots-rise, roots-below, roots_few   all roots rise, are below p, and are at most as many as the degree says
--   roots-complete      numbers below p that rise, with powers that give the polynomial, are all its roots
--   any_order           where some list of numbers, in any order and with repetitions, has such powers, the list of all roots has
--   unsplit-all         so a polynomial is unsplit exactly where the list of all roots has none
-- Assumes nothing.
use Prim.Native.Nat.{ℕ, zero, suc, ◌+◌, ◌-◌, ◌*◌, ◌%◌, ◌≤◌, ◌<◌, Fin}
use native.Mathlib.Nat.{mod-lt, mod-mod, eq-or-lt_of_le, eq-zero-or-pos}
use native.Mathlib.Bridge.{le_prop}
use native.Mathlib.Omega.{arith}
use mathlib.Core.Path.{◌≡◌, refl, sym, ◌∙◌, ap, subst}
use mathlib.Core.Logic.{◌≢◌, ◌↔◌, ◌⊎◌, inl, inr, ⊎_elim}
use mathlib.Core.Bool.{true}
use mathlib.Core.List.{List, [], ◌∷◌}
use borrow.Author.Tests.{eqb-true, eq-eqb}
use lib.ListN.{length}
use Rattle.algebra.specs.Prime.{Prime}
use Rattle.algebra.specs.internal.Ring.{CommRing, prod}
use Rattle.algebra.specs.internal.Series.{Series}
use Rattle.algebra.specs.internal.Poly.{lin_pow}
use Rattle.algebra.specs.internal.Fp.{Fp, rem}
use Rattle.algebra.specs.Sums.{sum_to}
use Rattle.algebra.proofs.PolyLaws.{Below, eval, NonRoot, Root}
use Rattle.algebra.proofs.Chain.{at-zero-nonroot, nonroot-some, rising-distinct}
use Rattle.algebra.proofs.Roots.{root-count, at-zero-root-at, Powered, powered-cast, product-in}
use Rattle.algebra.proofs.FpLaws.{p-pos, Fp-field}
use Rattle.algebra.proofs.BridgeLaws.{same-rem, rem-zero, rem-one}
use Rattle.numbers.specs.Words.{word, rising, all_where}
use Rattle.numbers.specs.internal.Facts.{AllBelow, Rising}
use Rattle.numbers.proofs.WordsLaws.{lt-or-ge}
use Rattle.numbers.proofs.TestsLaws.{rising-passes}
use Rattle.numbers.proofs.ListedLaws.{At, Absent, at-or-not, Listed, where-listed, listed-is}
use Rattle.columns.specs.internal.Column.{horner_word}
use Rattle.columns.proofs.ColumnLaws.{horner-word-suc, horner-word-none, horner-word-below}
use Rattle.columns.proofs.SolveLaws.{below-pol, horner-poly}
use Rattle.hensel.proofs.FactorsLaws.{roots_of, key, roots-rising}
use Rattle.powers.specs.internal.Powers.{over_field, GivesPowers, Unsplit}
use Rattle.rootfinding.specs.Roots.{value, is_root, all_roots}

horner-tail : (p c n : ℕ) (b : ℕ → ℕ) (t : ℕ) → horner_word p c n b (suc t) ≡ horner_word p c n (λ i. b (suc i)) t
horner-tail p c zero b t = horner-word-none p c b (suc t) ∙ sym (horner-word-none p c (λ i. b (suc i)) t)
horner-tail p c (suc n) b t =
    horner-word-suc p c n b (suc t) ∙ ap (λ x. (b (suc t) + c * x) % p) (horner-tail p c n b (suc t)) ∙ sym (horner-word-suc p c n (λ i. b (suc i)) t)

pub value-horner : (p c : ℕ) (e : List ℕ) → value p c e ≡ horner_word p c (length e) (word e) 0
unfolding value
value-horner p c [] = sym (horner-word-none p c (word []) 0)
value-horner p c (a ∷ e) =
    ap (λ x. (a + c * x) % p) (value-horner p c e ∙ sym (horner-tail p c (length e) (word (a ∷ e)) 0)) ∙ sym (horner-word-suc p c (length e) (word (a ∷ e)) 0)

abbrev pub roots_below : (p : ℕ) → List ℕ → ℕ → List ℕ
roots_below p e n = all_where (is_root p e) 0 n

pub all-rising : (p : ℕ) (e : List ℕ) → rising (all_roots p e) ≡ true
all-rising p e = sym (rising-passes (all_roots p e) (length (all_roots p e)) (omega arith) (where-listed (is_root p e) 0 p).rising)

module _ {p : ℕ} (prime : Prime p) (e : List ℕ) where
  abbrev pos : zero < p
  pos = p-pos prime

  abbrev K : CommRing (Fin p)
  K = Fp p pos

  abbrev q : ℕ → Fin p
  q = rem p pos

  root-value : (c : ℕ) → (is_root p e c ≡ true) ↔ (eval K (q c) (length e) (over_field p pos e) ≡ K.𝟘)
  root-value c = (
    λ t. sym over ∙ ap q (eqb-true (value p c e) 0 t) ∙ rem-zero p pos,
    λ z. eq-eqb (value p c e) 0 (same-rem p pos below pos (over ∙ z ∙ sym (rem-zero p pos))),
  )
    where
      over : q (value p c e) ≡ eval K (q c) (length e) (over_field p pos e)
      over = ap q (value-horner p c e) ∙ horner-poly p pos c (length e) (word e) 0

      below : value p c e < p
      below = subst (λ x. x < p) (sym (value-horner p c e)) (horner-word-below p pos c (length e) (word e) 0)

  abbrev rs : List ℕ
  rs = all_roots p e

  listed : (n : ℕ) → Listed (is_root p e) 0 n (roots_below p e n)
  listed n = where-listed (is_root p e) 0 n

  pub roots-rise : Rising rs
  roots-rise = (listed p).rising

  pub roots-below : AllBelow p rs
  roots-below i l = let z = (listed p).high i l in omega arith

  -- listed roots differ over F_p too
  differ : (n i j : ℕ) → n ≤ p → i < j → j < length (roots_below p e n) → q (word (roots_below p e n) i) ≢ q (word (roots_below p e n) j)
  differ n i j small =
      let s = roots_below p e n in
      let up = roots-rising prime (length s) (word s) (listed n).rising (λ i l. let z = (listed n).high i l in omega arith) in
      rising-distinct (key prime) (length s) (roots_of prime (word s)) up i j

  pub roots_few : 1 ≤ length e → word e (length e - 1) ≡ 1 → (n : ℕ) → n ≤ p → length (roots_below p e n) < length e
  roots_few some one n l =
      let s = roots_below p e n in
      let d = length e - 1 in
      let k : suc d ≡ length e = omega arith in
      let b : Below K (suc d) (over_field p pos e) = subst (λ x. Below K x (over_field p pos e)) (sym k) (below-pol p pos e) in
      let z = root-count K (Fp-field prime) d (length s) (over_field p pos e) (λ i. q (word s i)) b (ap q one ∙ rem-one p pos)
      (λ i u. ap (λ x. eval K (q (word s i)) x (over_field p pos e)) k ∙ (root-value (word s i)).0 ((listed n).holds i u)) (λ i j. differ n i j l) in
      omega arith

  module _ (l : List ℕ) (m : ℕ → ℕ) (G : GivesPowers p l e m) where
    abbrev cs : ℕ → Fin p
    cs i = q (word l i)

    -- each number of the list is a root over F_p, and what is none of them is no root
    given-root : (i : ℕ) → i < length l → eval K (cs i) (length e) (over_field p pos e) ≡ K.𝟘
    given-root i u = subst (Root K (cs i)) (sym (G.product pos)) (at-zero-root-at K (length l) cs m G.low i u) (length e) (below-pol p pos e)

    other-nonroot : (x : Fin p) → ((i : ℕ) → i < length l → x ≢ cs i) → eval K x (length e) (over_field p pos e) ≢ K.𝟘
    other-nonroot x ne = subst (NonRoot K x) (sym (G.product pos)) (at-zero-nonroot K (Fp-field prime) (length l) cs m x ne) (length e) (below-pol p pos e)

    pub roots-complete : Rising l → AllBelow p l → rs ≡ l
    roots-complete up low = listed-is (is_root p e) 0 p l (record {
      rising = up;
      low = λ i u. omega arith;
      high = λ i u. let z = low i u in omega arith;
      holds = λ i u. (root-value (word l i)).1 (given-root i u);
      all = λ c _ u t. ⊎_elim (λ (a : At l c). a)
          (λ (w : Absent l c). absurd (other-nonroot (q c) (λ i v z. w i v (sym (same-rem p pos (omega arith) (low i v) z))) ((root-value c).0 t))) (at-or-not l c);
    })

    root-of : (i : ℕ) → i < length l → (j : ℕ) × (j < length rs) × (cs i ≡ q (word rs j))
    root-of i u =
        let c = word l i % p in
        let same : q c ≡ cs i = native.Mathlib.Fin.val_path (mod-mod (word l i) p) in
        let small = mod-lt (word l i) pos in
        let (j, g, w) = (listed p).all c (omega arith) (omega arith) ((root-value c).1 (ap (λ y. eval K y (length e) (over_field p pos e)) same ∙ given-root i u)) in
        (j, g, sym same ∙ ap q (sym w))

    whole : Powered K (length rs) (λ j. q (word rs j)) (sum_to (length l) m) (over_field p pos e)
    whole = powered-cast K (length rs) (λ j. q (word rs j)) _ _ _ _ refl (sym (G.product pos)) (product-in K (length rs) (λ j. q (word rs j)) (length l) cs m root-of)

    -- no power is 0: else the root were none
    other : (i j : ℕ) → i < length rs → j < length rs → whole.powers i ≡ zero → (q (word rs i) ≢ q (word rs j)) ⊎ (whole.powers j ≡ zero)
    other i j u v z =
        ⊎_elim (λ (y : i < j). inl (differ p i j (omega arith) y v))
        (λ (y : j ≤ i). ⊎_elim (λ (t : j ≡ i). inr (ap whole.powers t ∙ z)) (λ (t : j < i). inl (λ w. differ p j i (omega arith) t u (sym w))) (eq-or-lt_of_le y))
        (lt-or-ge i j)

    low : (i : ℕ) → i < length rs → 1 ≤ whole.powers i
    low i u =
        ⊎_elim (λ (z : whole.powers i ≡ zero). absurd (subst (NonRoot K (q (word rs i))) (sym whole.product)
        (nonroot-some K (Fp-field prime) (length rs) (λ j. q (word rs j)) whole.powers (q (word rs i)) (λ j v. other i j u v z))
        (length e) (below-pol p pos e) ((root-value (word rs i)).0 ((listed p).holds i u))))
        (λ (l : zero < whole.powers i). l) (eq-zero-or-pos (whole.powers i))

    pub any_order : (k : ℕ → ℕ) × GivesPowers p rs e k
    any_order = (
      whole.powers,
      record {
        low = low;
        sum = ap suc whole.sum ∙ G.sum;
        product = λ pos'. subst (λ (w : zero < p). over_field p w e ≡ prod (Series (Fp p w)) (length rs) (λ l. lin_pow (Fp p w) (rem p w (word rs l)) (whole.powers l)))
            (le_prop pos pos') whole.product;
      },
    )

  pub unsplit-all : Unsplit p e ↔ ((m : ℕ → ℕ) → GivesPowers p rs e m → ⊥)
  unsplit-all = (λ u. u rs, λ never l m G. let (k, H) = any_order l m G in never k H)
