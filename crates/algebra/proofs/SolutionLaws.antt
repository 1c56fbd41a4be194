-- Splitting by a table of solutions: P0 · A + P · A0 = E for P0 = (Y − c_0) .. (Y − c_(m−1)), roots with repetition, and A0 not 0 at any of them.
--   tot n f             f 0 + .. + f (n − 1)
-- Laws: a digit more (`digit-step`), expansion from the last digit on (`expand-step`), from the solution for Y^j to that for Y^(j+1)
-- (`next-solves`, `next_low`, `next-high`), and the solution for any E from those for Y^0, .., Y^(n−1) (`assembled`).
-- Assumes nothing.
use Prim.Native.Nat.{ℕ, zero, suc, ◌+◌ as ◌+ₙ◌, ◌≤◌, ◌<◌}
use native.Mathlib.Nat.{eq-or-lt_of_le, le_of_suc-le-suc, not-suc-le-zero}
use native.Mathlib.Omega.{arith}
use mathlib.Core.Path.{◌≡◌, refl, sym, ◌∙◌, ap, ap₂, subst, fun_ext}
use mathlib.Core.Logic.{⊎_elim}
use Rattle.algebra.specs.internal.Ring.{CommRing, ring, units, add-zero, zero-add, mul-one, one-mul, mul-zero, zero-mul, mul_assoc, mul_comm, add-neg}
use Rattle.algebra.proofs.RingLaws.{minus, pow-zero, pow-suc}
use Rattle.algebra.specs.internal.Series.{Series, cons}
use Rattle.algebra.proofs.SeriesLaws.{add_at, neg-at, zero-at, one_at, mul-at-zero, mul-at-suc}
use Rattle.algebra.specs.internal.Poly.{const, lin, lin_pow, lines, newton, up, mono}
use Rattle.algebra.proofs.PolyLaws.{Below, const-mul, lin-mul-suc, below-add, below-neg, below_one, below-scale, below-lin-mul, below-cons, top-mul, below-low}

-- the identities, over ring variables
module _ {S : Type 0} (𝓢 : CommRing S) where
  open 𝓢 use {𝟘, 𝟙, add as ◌+◌, mul as ◌*◌, neg}

  infixl 65 ◌+◌
  infixl 70 ◌*◌
  pub digit-step : (E N A M r K L r' : S) → E ≡ N * A + M * r → r ≡ K * A + L * r' → E ≡ (N + K * M) * A + M * L * r'
  digit-step E N A M r K L r' e h = e ∙ ap (λ x. N * A + M * x) h ∙ simp ring

  pub expand-step : (N K M L x : S) → N + K * M + M * L * x ≡ N + M * (K + L * x)
  expand-step N K M L x = simp ring

  pub next-step : (P A p a Y K : S) → P * (Y * a + K * A) + (Y * p + neg (K * P)) * A ≡ Y * (P * a + p * A)
  next-step P A p a Y K = simp (ring, minus)

  add_step : (P A x y K a p e : S) → P * x + y * A ≡ e → (P * (x + K * a) + (y + K * p) * A) ≡ e + K * (P * a + p * A)
  add_step P A x y K a p e h = (simp ring) ∙ ap (λ z. z + K * (P * a + p * A)) h ∙ simp ring

  unfoldable pub tot : ℕ → (ℕ → S) → S
  tot zero f = 𝟘
  tot (suc n) f = tot n f + f n

  pub tot-zero : (f : ℕ → S) → tot zero f ≡ 𝟘
  unfolding tot
  tot-zero f = refl

  pub tot-suc : (n : ℕ) (f : ℕ → S) → tot (suc n) f ≡ tot n f + f n
  unfolding tot
  tot-suc n f = refl

  pub tot-ext : (n : ℕ) {f g : ℕ → S} → ((i : ℕ) → i < n → f i ≡ g i) → tot n f ≡ tot n g
  tot-ext zero {f} {g} h = tot-zero f ∙ sym (tot-zero g)
  tot-ext (suc n) {f} {g} h = tot-suc n f ∙ ap₂ ◌+◌ (tot-ext n (λ i l. h i (omega arith))) (h n (omega arith)) ∙ sym (tot-suc n g)

  -- sums of solutions are solutions of sums
  pub tot-solves : (P A : S) (n : ℕ) (K a p y : ℕ → S) → ((j : ℕ) → j < n → P * a j + p j * A ≡ y j)
      → P * tot n (λ j. K j * a j) + tot n (λ j. K j * p j) * A ≡ tot n (λ j. K j * y j)
  tot-solves P A zero K a p y h = simp (tot-zero, units)
  tot-solves P A (suc n) K a p y h =
      ap₂ (λ u v. P * u + v * A) (tot-suc n (λ j. K j * a j)) (tot-suc n (λ j. K j * p j))
      ∙ add_step P A _ _ (K n) (a n) (p n) _ (tot-solves P A n K a p y (λ j l. h j (omega arith)))
      ∙ ap (λ z. tot n (λ j. K j * y j) + K n * z) (h n (omega arith)) ∙ sym (tot-suc n (λ j. K j * y j))

module _ {R : Type 0} (𝓡 : CommRing R) where
  open 𝓡 use {𝟘, 𝟙, add as ◌+◌, mul as ◌*◌, neg}
  open Series 𝓡 use {𝟘 as 𝟘ₛ, 𝟙 as 𝟙ₛ, add as ◌⊕◌, mul as ◌⊛◌, neg as ⊖}

  infixl 65 ◌+◌
  infixl 70 ◌*◌
  infixl 65 ◌⊕◌
  infixl 70 ◌⊛◌
  pub tot-at : (n : ℕ) (F : ℕ → ℕ → R) (i : ℕ) → tot (Series 𝓡) n F i ≡ tot 𝓡 n (λ j. F j i)
  tot-at zero F i = ap (λ x. x i) (tot-zero (Series 𝓡) F) ∙ zero-at 𝓡 i ∙ sym (tot-zero 𝓡 (λ j. F j i))
  tot-at (suc n) F i =
      ap (λ x. x i) (tot-suc (Series 𝓡) n F) ∙ add_at 𝓡 _ (F n) i ∙ ap (λ x. x + F n i) (tot-at n F i) ∙ sym (tot-suc 𝓡 n (λ j. F j i))

  pub lines-zero : (c : ℕ → R) → lines 𝓡 c zero ≡ 𝟙ₛ
  unfolding lines
  lines-zero c = refl

  pub lines-suc : (c : ℕ → R) (m : ℕ) → lines 𝓡 c (suc m) ≡ lines 𝓡 c m ⊛ lin 𝓡 (c m)
  unfolding lines
  lines-suc c m = refl

  pub lines-ext : (m : ℕ) {c d : ℕ → R} → ((i : ℕ) → i < m → c i ≡ d i) → lines 𝓡 c m ≡ lines 𝓡 d m
  lines-ext zero {c} {d} h = lines-zero c ∙ sym (lines-zero d)
  lines-ext (suc m) {c} {d} h = lines-suc c m ∙ ap₂ (λ x y. x ⊛ lin 𝓡 y) (lines-ext m (λ i l. h i (omega arith))) (h m (omega arith)) ∙ sym (lines-suc d m)

  pub lines-append : (n m : ℕ) (c : ℕ → R) → lines 𝓡 c (n +ₙ m) ≡ lines 𝓡 c n ⊛ lines 𝓡 (λ i. c (n +ₙ i)) m
  lines-append n zero c = ap (lines 𝓡 c) (let e : n +ₙ zero ≡ n = omega arith in e) ∙ sym (ap (λ x. lines 𝓡 c n ⊛ x) (lines-zero _) ∙ mul-one (Series 𝓡) _)
  lines-append n (suc m) c =
      ap (lines 𝓡 c) (let e : n +ₙ suc m ≡ suc (n +ₙ m) = omega arith in e) ∙ lines-suc c (n +ₙ m) ∙ ap (λ x. x ⊛ lin 𝓡 (c (n +ₙ m))) (lines-append n m c)
      ∙ mul_assoc (Series 𝓡) _ _ _ ∙ sym (ap (λ x. lines 𝓡 c n ⊛ x) (lines-suc (λ i. c (n +ₙ i)) m))

  pub lines_same : (x : R) (m : ℕ) → lines 𝓡 (λ _. x) m ≡ lin_pow 𝓡 x m
  lines_same x zero = lines-zero _ ∙ sym (pow-zero (Series 𝓡) (lin 𝓡 x))
  lines_same x (suc m) = lines-suc _ m ∙ ap (λ y. y ⊛ lin 𝓡 x) (lines_same x m) ∙ mul_comm (Series 𝓡) _ _ ∙ sym (pow-suc (Series 𝓡) (lin 𝓡 x) m)

  pub lines-below : (c : ℕ → R) (m : ℕ) → Below 𝓡 (suc m) (lines 𝓡 c m)
  lines-below c zero = rw (lines-zero c) (below_one 𝓡)
  lines-below c (suc m) = rw (lines-suc c m, mul_comm (Series 𝓡) (lines 𝓡 c m) (lin 𝓡 (c m))) (below-lin-mul 𝓡 (c m) (lines-below c m))

  pub lines-top : (c : ℕ → R) (m : ℕ) → lines 𝓡 c m m ≡ 𝟙
  lines-top c zero = ap (λ x. x zero) (lines-zero c ∙ one_at 𝓡)
  lines-top c (suc m) =
      ap (λ x. x (suc m)) (lines-suc c m ∙ mul_comm (Series 𝓡) (lines 𝓡 c m) (lin 𝓡 (c m))) ∙ lin-mul-suc 𝓡 (c m) (lines 𝓡 c m) m
      ∙ rw (lines-below c m (suc m) (omega arith), lines-top c m) (simp (units, 𝓡))

  pub newton-zero : (c q : ℕ → R) → newton 𝓡 c q zero ≡ 𝟘ₛ
  unfolding newton
  newton-zero c q = refl

  pub newton-suc : (c q : ℕ → R) (m : ℕ) → newton 𝓡 c q (suc m) ≡ newton 𝓡 c q m ⊕ const 𝓡 (q m) ⊛ lines 𝓡 c m
  unfolding newton
  newton-suc c q m = refl

  pub newton-ext : (c : ℕ → R) (m : ℕ) {q r : ℕ → R} → ((i : ℕ) → i < m → q i ≡ r i) → newton 𝓡 c q m ≡ newton 𝓡 c r m
  newton-ext c zero {q} {r} h = newton-zero c q ∙ sym (newton-zero c r)
  newton-ext c (suc m) {q} {r} h =
      newton-suc c q m ∙ ap₂ (λ x y. x ⊕ const 𝓡 y ⊛ lines 𝓡 c m) (newton-ext c m (λ i l. h i (omega arith))) (h m (omega arith)) ∙ sym (newton-suc c r m)

  -- no digits but the last, 1
  pub newton-zeros : (c q : ℕ → R) (m : ℕ) → ((i : ℕ) → i < m → q i ≡ 𝟘) → newton 𝓡 c q m ≡ 𝟘ₛ
  newton-zeros c q zero h = newton-zero c q
  newton-zeros c q (suc m) h =
      newton-suc c q m ∙ ap (λ x. x ⊕ const 𝓡 (q m) ⊛ lines 𝓡 c m) (newton-zeros c q m (λ i l. h i (omega arith))) ∙ zero-add (Series 𝓡) _
      ∙ fun_ext (λ j. const-mul 𝓡 (q m) (lines 𝓡 c m) j ∙ ap (λ x. x * lines 𝓡 c m j) (h m (omega arith)) ∙ zero-mul 𝓡 _ ∙ sym (zero-at 𝓡 j))

  abbrev Y : ℕ → R
  Y = up 𝓡 𝟙ₛ

  pub up-zero : (a : ℕ → R) → up 𝓡 a zero ≡ 𝟘
  unfolding up
  up-zero a = refl

  pub up_suc : (a : ℕ → R) (j : ℕ) → up 𝓡 a (suc j) ≡ a j
  unfolding up
  up_suc a j = refl

  up-mul : (a : ℕ → R) → Y ⊛ a ≡ up 𝓡 a
  unfolding up
  up-mul a = fun_ext (elim [
    | zero ↦ mul-at-zero 𝓡 (cons 𝟘 𝟙ₛ) a ∙ zero-mul 𝓡 _
    | suc t ↦ mul-at-suc 𝓡 (cons 𝟘 𝟙ₛ) a t ∙ rw (zero-mul 𝓡 (a (suc t)), one-mul (Series 𝓡) a) (zero-add 𝓡 (a t))
  ])

  pub mono-zero : mono 𝓡 zero ≡ 𝟙ₛ
  unfolding mono
  mono-zero = refl

  pub mono-suc : (j : ℕ) → mono 𝓡 (suc j) ≡ up 𝓡 (mono 𝓡 j)
  unfolding mono
  mono-suc j = refl

  pub mono-same : (j : ℕ) → mono 𝓡 j j ≡ 𝟙
  mono-same zero = ap (λ x. x zero) (mono-zero ∙ one_at 𝓡)
  mono-same (suc j) = ap (λ x. x (suc j)) (mono-suc j) ∙ up_suc (mono 𝓡 j) j ∙ mono-same j

  pub mono-other : (j i : ℕ) → (i ≡ j → ⊥) → mono 𝓡 j i ≡ 𝟘
  mono-other zero zero ne = absurd (ne refl)
  mono-other zero (suc i) ne = ap (λ x. x (suc i)) (mono-zero ∙ one_at 𝓡)
  mono-other (suc j) zero ne = ap (λ x. x zero) (mono-suc j) ∙ up-zero (mono 𝓡 j)
  mono-other (suc j) (suc i) ne = ap (λ x. x (suc i)) (mono-suc j) ∙ up_suc (mono 𝓡 j) i ∙ mono-other j i (λ e. ne (ap suc e))

  -- the coefficients of a polynomial
  past-at : (n : ℕ) (e : ℕ → R) (i : ℕ) → n ≤ i → tot 𝓡 n (λ j. (const 𝓡 (e j) ⊛ mono 𝓡 j) i) ≡ 𝟘
  past-at zero e i l = tot-zero 𝓡 _
  past-at (suc n) e i l =
      tot-suc 𝓡 n _ ∙ ap₂ ◌+◌ (past-at n e i (omega arith))
      (const-mul 𝓡 (e n) (mono 𝓡 n) i ∙ ap (λ x. e n * x) (mono-other n i (λ q. let z : ⊥ = omega arith in z)) ∙ mul-zero 𝓡 _) ∙ add-zero 𝓡 _

  here-at : (n : ℕ) (e : ℕ → R) (i : ℕ) → i < n → tot 𝓡 n (λ j. (const 𝓡 (e j) ⊛ mono 𝓡 j) i) ≡ e i
  here-at zero e i l = absurd (not-suc-le-zero l)
  here-at (suc n) e i l =
      tot-suc 𝓡 n _ ∙ ⊎_elim
      (λ (q : i ≡ n). subst (λ x. tot 𝓡 n (λ j. (const 𝓡 (e j) ⊛ mono 𝓡 j) x) + (const 𝓡 (e n) ⊛ mono 𝓡 n) x ≡ e x) (sym q)
      (ap₂ ◌+◌ (past-at n e n (omega arith)) (const-mul 𝓡 (e n) (mono 𝓡 n) n ∙ ap (λ x. e n * x) (mono-same n) ∙ mul-one 𝓡 _) ∙ zero-add 𝓡 _))
      (λ (g : i < n).
      ap₂ ◌+◌ (here-at n e i g) (const-mul 𝓡 (e n) (mono 𝓡 n) i ∙ ap (λ x. e n * x) (mono-other n i (λ q. let z : ⊥ = omega arith in z)) ∙ mul-zero 𝓡 _) ∙ add-zero 𝓡 _)
      (eq-or-lt_of_le (le_of_suc-le-suc l))

  -- P0 and A0, and the solutions for Y^j, j < n
  module _ (P₀ A₀ : ℕ → R) where
    abbrev pub Solves : (p a e : ℕ → R) → Type 0
    Solves p a e = P₀ ⊛ a ⊕ p ⊛ A₀ ≡ e

    pub assembled : (n : ℕ) (p a : ℕ → ℕ → R) (e : ℕ → R) → ((j : ℕ) → j < n → Solves (p j) (a j) (mono 𝓡 j))
        → (i : ℕ) → i < n → (P₀ ⊛ tot (Series 𝓡) n (λ j. const 𝓡 (e j) ⊛ a j) ⊕ tot (Series 𝓡) n (λ j. const 𝓡 (e j) ⊛ p j) ⊛ A₀) i ≡ e i
    assembled n p a e h i l =
        ap (λ x. x i) (tot-solves (Series 𝓡) P₀ A₀ n (λ j. const 𝓡 (e j)) a p (mono 𝓡) h) ∙ tot-at n (λ j. const 𝓡 (e j) ⊛ mono 𝓡 j) i ∙ here-at n e i l

    module _ (m k : ℕ) (bP : Below 𝓡 (suc m) P₀) (top : P₀ m ≡ 𝟙) (bA : Below 𝓡 (suc k) A₀) (p a : ℕ → R) (bp : Below 𝓡 m p) (ba : Below 𝓡 k a) (q : R) where
      abbrev p' : ℕ → R
      p' = up 𝓡 p ⊕ ⊖ (const 𝓡 q ⊛ P₀)

      abbrev a' : ℕ → R
      a' = up 𝓡 a ⊕ const 𝓡 q ⊛ A₀

      pub next-solves : (e : ℕ → R) → Solves p a e → Solves p' a' (up 𝓡 e)
      next-solves e h =
          ap₂ (λ x y. P₀ ⊛ (x ⊕ const 𝓡 q ⊛ A₀) ⊕ (y ⊕ ⊖ (const 𝓡 q ⊛ P₀)) ⊛ A₀) (sym (up-mul a)) (sym (up-mul p))
          ∙ next-step (Series 𝓡) P₀ A₀ p a Y (const 𝓡 q) ∙ ap (λ x. Y ⊛ x) h ∙ up-mul e

      up-below : (n : ℕ) (b : ℕ → R) → Below 𝓡 n b → Below 𝓡 (suc n) (up 𝓡 b)
      unfolding up
      up-below n b h = below-cons 𝓡 𝟘 h

      low-suc : Below 𝓡 (suc m) p'
      low-suc = below-add 𝓡 (up-below m p bp) (below-neg 𝓡 (below-scale 𝓡 q bP))

      low-last : (u : ℕ) → m ≡ suc u → q ≡ p u → p' m ≡ 𝟘
      low-last u s e =
          add_at 𝓡 (up 𝓡 p) (⊖ (const 𝓡 q ⊛ P₀)) m
          ∙ ap₂ ◌+◌ (ap (up 𝓡 p) s ∙ up_suc p u ∙ sym e) (neg-at 𝓡 (const 𝓡 q ⊛ P₀) m ∙ ap neg (const-mul 𝓡 q P₀ m ∙ ap (λ x. q * x) top ∙ mul-one 𝓡 q))
          ∙ add-neg 𝓡 q

      -- a bound less by one, where the last coefficient is 0
      one_less : (n : ℕ) (b : ℕ → R) → Below 𝓡 (suc n) b → b n ≡ 𝟘 → Below 𝓡 n b
      one_less n b h e j l = ⊎_elim (λ (g : n ≡ j). ap b (sym g) ∙ e) (h j) (eq-or-lt_of_le l)

      pub next_low : (u : ℕ) → m ≡ suc u → q ≡ p u → Below 𝓡 m p'
      next_low u s e = one_less m p' low-suc (low-last u s e)

      pub next-high : (u : ℕ) → m ≡ suc u → q ≡ p u → (e : ℕ → R) → Solves p a e → up 𝓡 e (m +ₙ k) ≡ 𝟘 → Below 𝓡 k a'
      next-high u s eq e h z =
          let high-suc : Below 𝓡 (suc k) a' = below-add 𝓡 (up-below k a ba) (below-scale 𝓡 q bA) in
          let sum : (P₀ ⊛ a' ⊕ p' ⊛ A₀) (m +ₙ k) ≡ 𝟘 = ap (λ x. x (m +ₙ k)) (next-solves e h) ∙ z in
          let low : (p' ⊛ A₀) (m +ₙ k) ≡ 𝟘 = below-low 𝓡 m k p' A₀ (next_low u s eq) bA (m +ₙ k) (omega arith) in
          one_less k a' high-suc
          (sym (one-mul 𝓡 (a' k)) ∙ ap (λ x. x * a' k) (sym top) ∙ sym (top-mul 𝓡 m k (m +ₙ k) P₀ a' refl bP high-suc)
          ∙ sym (add-zero 𝓡 _) ∙ ap (λ x. (P₀ ⊛ a') (m +ₙ k) + x) (sym low) ∙ sym (add_at 𝓡 (P₀ ⊛ a') (p' ⊛ A₀) (m +ₙ k)) ∙ sum)
