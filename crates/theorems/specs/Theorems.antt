-- The end theorems, in a row: what is promised of the calls, each with one plain sentence. `theorems` in proofs/TheoremsLaws proves them all.
--   PairTheorems, SheetTheorems, FindTheorems, RootTheorems, CountTheorems, TypedTheorems, CallTheorems, OriginTheorems, KnownTheorems, RowTheorems, Theorems   the theorems, and all of them
-- Assumes nothing.
use Rattle.std.specs.Prelude.{ℕ, suc, ◌+◌, ◌-◌, ◌*◌, ◌^◌, ◌%◌, ◌≤◌, ◌<◌, ◌≡◌, ◌↔◌, ◌≢◌, true, false, List, [], ◌∷◌, ◌++◌, length, take}
use Rattle.algebra.specs.Prime.{Prime}
use Rattle.algebra.specs.Sums.{sum_to}
use Rattle.numbers.specs.Words.{word, rising, tabulate}
use Rattle.numbers.specs.Divisor.{inverse_of}
use Rattle.numbers.specs.Refusals.{judge, refusal, Outcome, accepted, unreduced, Pass, Refuse}
use Rattle.numbers.specs.One.{TheOne, One, OneOutcome}
use Rattle.series.specs.Known.{KnownTo, known_to}
use Rattle.series.specs.Series.{IsSeries, series_checks, inverse_checks, sums, product_column, product, quotient}
use Rattle.series.specs.Quotient.{least_power, quotient_checks, IsQuotient, Divided, quotient_words}
use Rattle.rows.specs.Rows.{shift_checks, row_product, row_shift, unit}
use Rattle.pair.specs.Pair.{order, PairWords}
use Rattle.pair.specs.Test.{pair_test}
use Rattle.pair.specs.Paired.{Paired}
use Rattle.rootfinding.specs.Roots.{value, all_roots}
use Rattle.layout.specs.Layout.{modulus, degree, terms, count, root, power, polynomial, factor}
use Rattle.sheet.specs.Sheet.{Sound, Given, given_of, given-reach, Holds}
use Rattle.sheet.specs.Test.{sound_test}
use Rattle.simple.specs.Simple.{IsSeriesRoot, multiple_check, SimpleRoots}
use Rattle.signed.specs.Signed.{IsSigned, signed_of}
use Rattle.open.specs.Open.{needed, polynomial_checks, top_checks, open_verdict, Opened}
use Rattle.open.specs.Find.{with_roots, find_verdict, Found, IsProduct}
use Rattle.extend.specs.Extend.{Extended}
use Rattle.correct.specs.Correct.{Corrected, corrected}
use Rattle.calls.specs.Calls.{Call, Run, Lendable, counting, count_answers, count_end, largest_accepted, History, worked, held, Demand3}
use Rattle.calls.specs.Afresh.{Afresh}
use Rattle.calls.specs.Replay.{Replayed}
use Rattle.calls.specs.Filling.{filled, Fills, SameFilled, OwnFilled, ApartFilled}
use Rattle.origin.specs.Origin.{IsMoved, Origin}
use Rattle.counts.specs.Counts.{subsets, in_y, splits, counted, counts_checks}
use Rattle.formula.specs.Grammar.{Derives}
use Rattle.read.specs.Read.{ReadOf}
use Rattle.job.specs.Limits.{job_room}
use Rattle.job.specs.Job.{place, field}
use Rattle.text.specs.declared.Profile.{Profile}
use Rattle.listing.specs.Listing.{IsListing, Listed}
use Rattle.typed.specs.Limits.{longest_input}
use Rattle.typed.specs.Order.{Orders}
use Rattle.typed.specs.Key.{IsKey, Keyed}

-- The Weierstrass pair.
pub record PairTheorems : Type 0 where
  -- The pair to w terms exists and is the only one: every call has exactly one outcome, refused or accepted, to the last word.
  pub pair_one : (p D N : ℕ) (f : List ℕ) (h w : ℕ) (old : List ℕ) → OneOutcome (Paired p D N f h w old)
  -- A pair that is continued is the pair started afresh.
  pub pair-afresh : (p D N : ℕ) (f : List ℕ) (h w : ℕ) (old : List ℕ) (d : ℕ) (new : List ℕ) → Paired p D N f h w old (accepted d) new → Paired p D N f 0 w old (accepted d) new
  -- Continuing changes columns h..w − 1 of the D + 1 rows and no other word.
  pub pair_keeps : (p D N : ℕ) (f : List ℕ) (h w : ℕ) (old : List ℕ) → 1 ≤ h → (answer : Outcome ℕ) (new : List ℕ) → Paired p D N f h w old answer new
      → (i : ℕ) → ¬ ((i < (D + 1) * N) × (h ≤ i % N) × (i % N < w)) → word new i ≡ word old i
  -- Where going from g to w is accepted (g = 0 is a start), going to h and then to w gives the same answer and leaves the same words.
  pub pair_goes : (p D N : ℕ) (f : List ℕ) (g h w : ℕ) (old : List ℕ) (d : ℕ) (new : List ℕ) (a b : Outcome ℕ) (mid last : List ℕ) → 1 ≤ h → g ≤ h → h ≤ w
      → Paired p D N f g w old (accepted d) new → Paired p D N f g h old a mid → Paired p D N f h w mid b last → (b ≡ accepted d) × (last ≡ new)
  -- The test behind refusal 13 is the pair's conditions.
  pub pair-test : (p D N : ℕ) (f : List ℕ) (k : ℕ) (s : List ℕ) → Prime p → order D N f ≤ D → 1 ≤ k → (pair_test p D N f k s ≡ true) ↔ PairWords p D N f k s

-- The factor sheet.
pub record SheetTheorems : Type 0 where
  -- The test is soundness.
  pub sound-test : (s : List ℕ) → (sound_test s ≡ true) ↔ Sound s
  -- The sound sheet exists and is the only one, for all that open accepts and each number of terms up to the most.
  pub sheet-one : (g : Given) → open_verdict g (needed g) ≡ Pass → (k : ℕ) → 1 ≤ k → k ≤ given-reach g → One (λ s. Holds g k s × (length s ≡ needed g))
  -- Open and extend have exactly one outcome on every input.
  pub open-one : (g : Given) (old : List ℕ) → OneOutcome (Opened g old)
  pub extend-one : (old : List ℕ) (w : ℕ) → OneOutcome (Extended old w)
  -- So has correct ..
  pub correct-one : (old : List ℕ) (j t entry : ℕ) → OneOutcome (Corrected old j t entry)
  -- .. and the sheet that it leaves is the one of the corrected polynomial, which open accepts, with as many terms as before; their number is the answer.
  pub correct-afresh : (g : Given) → open_verdict g (needed g) ≡ Pass → (k : ℕ) (old : List ℕ) → Holds g k old → (j t entry d : ℕ) (new : List ℕ)
      → Corrected old j t entry (accepted d) new → (d ≡ k) × Afresh (corrected g j t entry) k new

-- Opening without a list of roots.
pub record FindTheorems : Type 0 where
  -- Find has exactly one outcome on every input.
  pub find-one : (g : Given) (old : List ℕ) → OneOutcome (Found g old)
  -- Rows that have passed the checks before 9 are refused by 9 exactly where f at X = 0 is no product of powers of Y minus a number: no list of numbers, in
  -- whatever order and however often each of them is listed, and no powers of them would do.
  pub find-nine : (g : Given) → judge (polynomial_checks g ++ top_checks g) ≡ Pass → (room : ℕ) → (find_verdict g room ≡ Refuse (refusal 9 0)) ↔ ((l : List ℕ) (m : ℕ → ℕ) → ¬ IsProduct g l m)
  -- An accepted find is an accepted open with the list of all roots, so that demand 3 takes it as that open ..
  pub find-opens : (g : Given) (old : List ℕ) (T : ℕ) (new : List ℕ) → Found g old (accepted T) new → Opened (with_roots g) old (accepted T) new
  -- .. and an accepted open is an accepted find: whoever lists the roots, the sheet is the same.
  pub open-finds : (p D N : ℕ) (rows lengths roots old : List ℕ) (T : ℕ) (new : List ℕ)
      → Opened (given_of p D N rows lengths roots) old (accepted T) new → Found (given_of p D N rows lengths []) old (accepted T) new
  -- All roots are listed, each once and rising: a number stands in the list exactly where it is below p and the polynomial has the value 0 there.
  pub roots-rise : (p : ℕ) (e : List ℕ) → rising (all_roots p e) ≡ true
  pub roots-are : (p : ℕ) (e : List ℕ) (c : ℕ) → ((i : ℕ) × (i < length (all_roots p e)) × (word (all_roots p e) i ≡ c)) ↔ ((c < p) × (value p c e ≡ 0))

-- Roots as series.
pub record RootTheorems : Type 0 where
  -- Refusal 22 is given exactly where a sound sheet has a root of power above 1, with the least of these roots.
  pub roots-multiple : (s : List ℕ) → Sound s → (c : ℕ) → (judge (multiple_check s ∷ []) ≡ Refuse (refusal 22 c))
      ↔ ((i : ℕ) × (i < count s) × (root s i ≡ c) × (1 < power s i) × ((j : ℕ) → j < count s → 1 < power s j → c ≤ root s j))
  -- Where it is not given, each root goes on to exactly one series s with f(s) = 0 modulo X^k ..
  pub root-one : (s : List ℕ) → Sound s → judge (multiple_check s ∷ []) ≡ Pass → (i : ℕ) → i < count s
      → One (λ (l : List ℕ). (length l ≡ terms s) × IsSeriesRoot (modulus s) (degree s) (terms s) (polynomial s) (root s i) (word l))
  -- .. and its factor is Y − s: the factor's one lower row is minus s.
  pub root-factor : (s : List ℕ) → Sound s → judge (multiple_check s ∷ []) ≡ Pass → (i : ℕ) → i < count s → (u : ℕ → ℕ)
      → IsSeriesRoot (modulus s) (degree s) (terms s) (polynomial s) (root s i) u → (t : ℕ) → t < terms s → (u t + factor s i 0 t) % modulus s ≡ 0
  -- `simple_roots` has exactly one outcome on every input.
  pub roots-one : (s old : List ℕ) → OneOutcome (SimpleRoots s old)
  -- A number below p has exactly one signed number.
  pub signed-one : (p v : ℕ) → v < p → TheOne (IsSigned p v) (signed_of p v)

-- How often it splits.
pub record CountTheorems : Type 0 where
  -- Of the monic polynomials of degree D over F_p, C(p, r) · C(D − 1, r − 1) split with exactly r distinct roots, r from 1 up: as many as there are sets of r
  -- roots and lists of their powers ..
  pub counts-formula : (p D r : ℕ) → Prime p → 1 ≤ D → 1 ≤ r → counted p D r ≡ subsets p r * subsets (D - 1) (r - 1)
  -- .. and with those that do not split they are all p^D polynomials.
  pub counts-total : (p D : ℕ) → 1 ≤ D → sum_to (suc D) (counted p D) ≡ p ^ D
  -- Those that are counted as not splitting are those that find, given them as they are, refuses by 9.
  pub counts-find : (p D : ℕ) (f : List ℕ) → judge (counts_checks p D (D + 1)) ≡ Pass → length f ≡ D → unreduced p f ≡ false → (room : ℕ)
      → (find_verdict (in_y p D f) room ≡ Refuse (refusal 9 0)) ↔ (splits p D f ≡ false)

-- Typed polynomials.
pub record TypedTheorems : Type 0 where
  -- Every text has exactly one reading: one formula, or none.
  pub reading-one : (text : List ℕ) → One (Derives text)
  -- Every call of read has exactly one outcome, refused or accepted, to the last word.
  pub read_one : (p N : ℕ) (text old : List ℕ) → OneOutcome (ReadOf p N text old)
  -- Typed input asks for exactly one polynomial, with modulus and terms, or for none ..
  pub order-one : (input : List ℕ) → One (Orders input)
  -- .. and comes to exactly one text ..
  pub key_one : (input : List ℕ) → One (IsKey input)
  -- .. so the call has one outcome only.
  pub keyed-only : (input old : List ℕ) (a b : Outcome ℕ) (new new' : List ℕ) → Keyed input old a new → Keyed input old b new' → (a ≡ b) × (new ≡ new')
  -- More than 4,160 bytes need not be read to the end.
  pub key-cut : (input text : List ℕ) (n : ℕ) → longest_input < n → n ≤ length input → IsKey (take n input) text → IsKey input text

-- Lists of calls, and jobs.
pub record CallTheorems : Type 0 where
  -- Every list of calls on every slice has exactly one run, where no call lends more words than there are.
  pub run-one : (s : List ℕ) (cs : List Call) → Lendable (length s) cs → One (λ (x : List (Outcome ℕ) × List ℕ). Run s cs x.0 x.1)
  -- Demand 3: answers are the plain count's, the words are the one sound sheet's, and factor lists agree exactly where the polynomials now held do.
  pub demand3 : Demand3
  -- Lists of calls on one opened sheet that end at the same count and the same polynomial leave the same words, to the last.
  pub calls_same : (x y : History) → x.start ≡ y.start → held x ≡ held y → worked x ≡ worked y → x.last ≡ y.last
  -- K is the largest number accepted, or 1.
  pub largest : (T : ℕ) (g : Given) (cs : List Call) → (count_end T (counting g) cs).terms ≡ largest_accepted 1 (count_answers T (counting g) cs)
  -- `replay` has exactly one outcome on every input.
  pub replay-one : (calls start old : List ℕ) → One (λ (x : Outcome ℕ × List ℕ × List ℕ). Replayed calls start old x.0 x.1 x.2)
  -- A job comes to exactly one text of its factors, and to one of its roots, and listing it has one outcome only.
  pub listing-one : (profile : Profile) (job : List ℕ) → One (IsListing profile job)
  pub listed-only : (profile : Profile) (job old : List ℕ) (a a' : Outcome ℕ) (new new' : List ℕ) → Listed profile job old a new → Listed profile job old a' new' → (a ≡ a') × (new ≡ new')
  -- A file that does not begin with a word of 0 is read as document 01 has it: field i has two bytes, and byte 2i is its first.
  pub narrow-job : (job : List ℕ) (i : ℕ) → 0 < word job 0 + 256 * word job 1 → (field job i ≡ word job (2 * i) + 256 * word job (2 * i + 1)) × (place job i ≡ 2 * i)
  -- Of a longer file the programs read the first `job_room` bytes, and these come to the same text.
  pub listing-cut : (profile : Profile) (job text : List ℕ) → job_room ≤ length job → IsListing profile (take job_room job) text → IsListing profile job text

-- Moving the origin: Y + c for Y.
pub record OriginTheorems : Type 0 where
  -- Exactly one list has the roots less c modulo p, in rising order ..
  pub moved-one : (p c : ℕ) (roots : List ℕ) → c < p → rising roots ≡ true → unreduced p roots ≡ false → One (IsMoved p c roots)
  -- .. and with it, for each f that open accepts and each c below p: f is cut to its least known length; the shift by c accepts it, and open what the shift
  -- writes, in the room that f needs; and worked to as many terms as f, the variant has the factors of f, each shifted by c, with their powers.
  pub origin : (g : Given) → open_verdict g (needed g) ≡ Pass → (c : ℕ) → c < g.p → (l : List ℕ) → IsMoved g.p c g.roots l → Origin g c l

-- What is known to fewer terms than N.
pub record KnownTheorems : Type 0 where
  -- The test behind refusal 21 is the condition that a sound sheet's rows keep.
  pub known-test : (N n : ℕ) (s : ℕ → ℕ) → (known_to N n s ≡ true) ↔ KnownTo N n s
  -- The most terms that a sheet can have is the least of the known lengths: no more than any, and N or one of them.
  pub reach-least : (g : Given) (j : ℕ) → j < g.D → given-reach g ≤ word g.lengths j
  pub reach-there : (g : Given) → given-reach g < g.N → (j : ℕ) × (j < g.D) × (word g.lengths j ≡ given-reach g)
  -- Unknown entries may be filled in by any numbers below p: open accepts the polynomial still.
  pub filled-opens : (g : Given) (rows : List ℕ) → open_verdict g (needed g) ≡ Pass → Fills g rows → open_verdict (filled g rows) (needed (filled g rows)) ≡ Pass
  -- Every way of filling them in gives the same factors below the least known length ..
  pub filled-same : (g : Given) → SameFilled g
  -- .. which are those of the sheet itself.
  pub filled-own : (g : Given) → OwnFilled g
  -- Where the least known length is less than N, some two ways give factors that differ at the next column.
  pub filled_apart : (g : Given) → open_verdict g (needed g) ≡ Pass → given-reach g < g.N → ApartFilled g
  -- Words past the counts of known terms have no part in a sum or a product.
  pub sum-known : (p N : ℕ) (g g'' : List ℕ) (a : ℕ) (h h' : List ℕ) (b : ℕ) → ((t : ℕ) → t < a → word g t ≡ word g'' t) → ((t : ℕ) → t < b → word h t ≡ word h' t)
      → sums p N g a h b ≡ sums p N g'' a h' b
  pub product-known : (p N : ℕ) (g g'' : List ℕ) (a : ℕ) (h h' : List ℕ) (b : ℕ) → ((t : ℕ) → t < a → word g t ≡ word g'' t) → ((t : ℕ) → t < b → word h t ≡ word h' t)
      → product p N g a h b ≡ product p N g'' a h' b
  -- With all N terms known they are as in document 01.
  pub sum-whole : (p N : ℕ) (g h : List ℕ) → sums p N g N h N ≡ tabulate N (λ t. (word g t + word h t) % p)
  pub product_whole : (p N : ℕ) (g h : List ℕ) → product p N g N h N ≡ tabulate N (product_column p g h)

-- Numbers, series and row polynomials.
pub record RowTheorems : Type 0 where
  -- The inverse modulo a prime is one.
  pub inverse-is : (p a : ℕ) → Prime p → 1 ≤ a → a < p → (a * inverse_of p a % p ≡ 1) × (inverse_of p a < p)
  -- The quotient has exactly one outcome on every input.
  pub quotient-one : (p N : ℕ) (f g old : List ℕ) → OneOutcome (Divided p N f g old)
  -- It is had by leaving out the divisor's least power of X, and going column after column.
  pub quotient-words : (p N : ℕ) (f g : List ℕ) → judge (quotient_checks p N f g N) ≡ Pass → TheOne (IsQuotient p N f g) (quotient_words p N f g)
  -- By a divisor that does not begin with 0 all is as in document 01: no check is added, all N terms are known, and the words are those of the recurrence.
  pub quotient-whole : (p N : ℕ) (f g : List ℕ) (room : ℕ) → 1 ≤ N → word g 0 ≢ 0
      → (judge (quotient_checks p N f g room) ≡ judge (series_checks p N f g room)) × (N - least_power g ≡ N) × (quotient_words p N f g ≡ quotient p N f g)
  -- A dividend of lower least power is no product with the divisor.
  pub quotient-none : (p N : ℕ) (f g h : List ℕ) → length g ≡ N → least_power f < least_power g → product p N h N g N ≢ f
  -- The inverse is the one series whose product with g is 1.
  pub inverse-one : (p N : ℕ) (g : List ℕ) → judge (inverse_checks p N g N) ≡ Pass → TheOne (λ h. IsSeries p N h × (product p N h N g N ≡ tabulate N unit)) (quotient p N (1 ∷ []) g)
  -- A shift by c is undone by the shift by p − c.
  pub shift_back : (p D N : ℕ) (f : List ℕ) (c : ℕ) → judge (shift_checks p D N f c ((D + 1) * N)) ≡ Pass → row_shift p D N (row_shift p D N f c) ((p - c) % p) ≡ f
  -- The shift of a product is the product of the shifts.
  pub shift-product : (p D₁ D₂ N : ℕ) (f g : List ℕ) (c : ℕ) → 1 ≤ p
      → row_shift p (D₁ + D₂) N (row_product p D₁ D₂ N f g) c ≡ row_product p D₁ D₂ N (row_shift p D₁ N f c) (row_shift p D₂ N g c)

abbrev pub Theorems : Type 0
Theorems = PairTheorems × SheetTheorems × FindTheorems × RootTheorems × CountTheorems × TypedTheorems × CallTheorems × OriginTheorems × KnownTheorems × RowTheorems
