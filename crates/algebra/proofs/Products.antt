-- Products of many elements of a commutative ring.
--   prod-mul      a product of products is the product of both
--   prod-listed   a product over 0, 1, .., m − 1 whose factors are 1 but at listed numbers, which rise, is the product over the list
-- Assumes nothing.
use Prim.Native.Nat.{ℕ, zero, suc, ◌+◌ as ◌+ₙ◌, ◌-◌, ◌≤◌, ◌<◌, zero-le}
use native.Mathlib.Nat.{eq-or-lt_of_le, not-suc-le-zero, zero-add as zeroₙ-add}
use native.Mathlib.Omega.{arith}
use mathlib.Core.Path.{◌≡◌, sym, ◌∙◌, ap, ap₂}
use mathlib.Core.Logic.{◌≢◌, ⊎_elim}
use Rattle.algebra.specs.internal.Ring.{CommRing, mul_assoc, mul_left_comm, mul-one, one-mul, prod}
use Rattle.algebra.proofs.RingLaws.{prod-zero, prod-suc, prod_from, prod_from-zero, prod_from-suc}
use Rattle.algebra.proofs.Chain.{Rising, rising-all}

module _ {R : Type 0} (𝓡 : CommRing R) where
  open 𝓡 use {𝟙, mul as ◌*◌}

  infixl 70 ◌*◌
  pub prod-mul : (n : ℕ) (F G : ℕ → R) → prod 𝓡 n (λ i. F i * G i) ≡ prod 𝓡 n F * prod 𝓡 n G
  prod-mul zero F G = simp (prod-zero, mul-one)
  prod-mul (suc n) F G = simp (prod-suc, prod-mul n (λ i. F (suc i)) (λ i. G (suc i)), mul_assoc, mul_left_comm)

  -- what is asked of a list l of n of the numbers d, d + 1, .., e − 1, for a product over these numbers to be one over the list
  record Carries (d e n : ℕ) (l : ℕ → ℕ) (G : ℕ → R) : Type 0 where
    up : Rising (λ (k : ℕ). k) n l
    low : (i : ℕ) → i < n → d ≤ l i
    high : (i : ℕ) → i < n → l i < e
    rest : (c : ℕ) → d ≤ c → c < e → ((i : ℕ) → i < n → l i ≢ c) → G c ≡ 𝟙

  -- d is the first of the list: the others come after it
  carries-tail : (d e n : ℕ) (l : ℕ → ℕ) (G : ℕ → R) → Carries d e (suc n) l G → d ≡ l zero → Carries (suc d) e n (λ i. l (suc i)) G
  carries-tail d e n l G h q = record {
    up = λ i u. h.up (suc i) (omega arith);
    low = λ i u. let z = rising-all (λ (k : ℕ). k) (suc n) l h.up zero (suc i) (omega arith) (omega arith) in omega arith;
    high = λ i u. h.high (suc i) (omega arith);
    rest = λ c u v ne. h.rest c (omega arith) v (elim [ zero ↦ λ _ x. (let z : ⊥ = omega arith in z) | suc i ↦ λ w. ne i (omega arith) ]);
  }

  -- d is not in the list
  carries-skip : (d e n : ℕ) (l : ℕ → ℕ) (G : ℕ → R) → Carries d e n l G → ((i : ℕ) → i < n → d < l i) → Carries (suc d) e n l G
  carries-skip d e n l G h after = record { up = h.up; low = after; high = h.high; rest = λ c u v ne. h.rest c (omega arith) v ne }

  skip_step : (d e n : ℕ) (l : ℕ → ℕ) (G : ℕ → R) → d < e → Carries d e n l G → ((i : ℕ) → i < n → d < l i)
      → prod 𝓡 n (λ i. G (l i)) ≡ prod_from 𝓡 (suc d) e G → prod 𝓡 n (λ i. G (l i)) ≡ prod_from 𝓡 d e G
  skip_step d e n l G u h after q =
      q ∙ sym (one-mul 𝓡 _) ∙ ap (λ x. x * prod_from 𝓡 (suc d) e G) (sym (h.rest d (omega arith) u (λ i v w. let z = after i v in let y : ⊥ = omega arith in y)))
      ∙ sym (prod_from-suc 𝓡 d e G u)

  prod-carries : (m d e n : ℕ) (l : ℕ → ℕ) (G : ℕ → R) → d +ₙ m ≡ e → Carries d e n l G → prod 𝓡 n (λ i. G (l i)) ≡ prod_from 𝓡 d e G
  prod-carries zero d e zero l G q h = prod-zero 𝓡 _ ∙ sym (ap (λ x. prod 𝓡 x (λ i. G (d +ₙ i))) (let z : e - d ≡ zero = omega arith in z) ∙ prod-zero 𝓡 _)
  prod-carries zero d e (suc n) l G q h = absurd (let a = h.low zero (omega arith) in let b = h.high zero (omega arith) in let z : ⊥ = omega arith in z)
  prod-carries (suc m) d e zero l G q h =
      let after : (i : ℕ) → i < zero → d < l i = λ i u. absurd (not-suc-le-zero u) in
      skip_step d e zero l G (omega arith) h after (prod-carries m (suc d) e zero l G (omega arith) (carries-skip d e zero l G h after))
  prod-carries (suc m) d e (suc n) l G q h =
      ⊎_elim
      (λ (w : d ≡ l zero).
      prod-suc 𝓡 n _ ∙ ap₂ ◌*◌ (ap G (sym w)) (prod-carries m (suc d) e n (λ i. l (suc i)) G (omega arith) (carries-tail d e n l G h w))
      ∙ sym (prod_from-suc 𝓡 d e G (omega arith)))
      (λ (w : d < l zero).
      let after : (i : ℕ) → i < suc n → d < l i =
      elim [ zero ↦ λ _. w | suc i ↦ λ u. (let z = rising-all (λ (k : ℕ). k) (suc n) l h.up zero (suc i) (omega arith) u in omega arith) ] in
      skip_step d e (suc n) l G (omega arith) h after (prod-carries m (suc d) e (suc n) l G (omega arith) (carries-skip d e (suc n) l G h after)))
      (eq-or-lt_of_le (h.low zero (omega arith)))

  pub prod-listed : (m n : ℕ) (l : ℕ → ℕ) (G : ℕ → R) → ((i : ℕ) → suc i < n → l i < l (suc i)) → ((i : ℕ) → i < n → l i < m)
      → ((c : ℕ) → c < m → ((i : ℕ) → i < n → l i ≢ c) → G c ≡ 𝟙) → prod 𝓡 n (λ i. G (l i)) ≡ prod 𝓡 m G
  prod-listed m n l G up high rest =
      prod-carries m zero m n l G (zeroₙ-add m) (record { up = up; low = λ i u. zero-le; high = high; rest = λ c _. rest c }) ∙ prod_from-zero 𝓡 m G
