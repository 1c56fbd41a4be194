-- The starred examples of document 01 with the moduli and the wide file of F-2, the quotients of F-5, the lengths of F-9, the roots of F-3, the correction of F-6, the typed texts of F-1, the series of F-10 and the variants of F-11, as one list: closed terms of the definitions that
-- the contracts cite. `starred` in proofs/StarredLaws is its proof: by evaluation, but for the moduli near 2^24, where laws say how little has to be
-- evaluated.
--   typed, minus-square, zero-power   the formulas (Y^2-X)*(Y+3) - 2*X*Y, -Y^2 and 0^0
--   Starred    the list
-- Assumes nothing.
use Rattle.std.specs.Prelude.{ℕ, ◌-◌, ◌≡◌, true, List, [], ◌∷◌, ◌++◌, pos, negsuc}
use Rattle.std.proofs.Math.Option.{some}
use Rattle.numbers.specs.Words.{word, tabulate}
use Rattle.numbers.specs.Refusals.{judge, refusal, accepted, refused, modulus_checks, Pass, Refuse}
use Rattle.series.specs.Series.{known_checks, sums, product}
use Rattle.series.specs.Quotient.{least_power, quotient_checks, quotient_words}
use Rattle.rows.specs.Rows.{row_shift}
use Rattle.pair.specs.Pair.{order}
use Rattle.pair.specs.Paired.{pair_checks}
use Rattle.pair.specs.Test.{pair_test}
use Rattle.sheet.specs.Test.{sound_test}
use Rattle.sheet.specs.Sheet.{Given, given_of, whole_of, given-reach, given-polynomial}
use Rattle.open.specs.Open.{powers_of, needed, open_verdict}
use Rattle.open.specs.Find.{with_roots, find_verdict}
use Rattle.extend.specs.Extend.{extend_verdict}
use Rattle.correct.specs.Correct.{correct_verdict, corrected}
use Rattle.calls.specs.Calls.{counting, count_answers, count_end}
use Rattle.calls.specs.Replay.{calls_to, replay_verdict}
use Rattle.origin.specs.Origin.{cut, variant}
use Rattle.counts.specs.Counts.{subsets, count_words, counts_checks}
use Rattle.formula.specs.Formula.{plus, minus, none, sign, number, letter_x, letter_y, bracket, plain, raised, one, times, Sum, first, more, reads, unreadable}
use Rattle.formula.specs.Grammar.{Derives}
use Rattle.read.specs.Read.{read_degree, read_words, read_checks}
use Rattle.signed.specs.Signed.{signed_of}
use Rattle.simple.specs.Simple.{value_at, simple_verdict}
use Rattle.text.specs.Text.{bytes, listing_text, roots_text}
use Rattle.listing.specs.Listing.{job_given, rooted, list_verdict}

-- Y² − 1 − X over 7, three terms; its sheet with k terms and these factor rows, row 0 known to m terms
abbrev job-rows : List ℕ
job-rows = 6 ∷ 6 ∷ 0 ∷ 0 ∷ 0 ∷ 0 ∷ 1 ∷ 0 ∷ 0 ∷ []

abbrev job : Given
job = whole_of 7 2 3 job-rows (1 ∷ 6 ∷ [])

abbrev known-sheet : (m k : ℕ) → List ℕ → List ℕ
known-sheet m k factors = 7 ∷ 2 ∷ 3 ∷ k ∷ 2 ∷ 13 ∷ 17 ∷ 26 ∷ 32 ∷ 32 ∷ m ∷ m ∷ 3 ∷ 1 ∷ 1 ∷ 6 ∷ 1 ∷ 6 ∷ 6 ∷ 0 ∷ 0 ∷ 0 ∷ 0 ∷ 1 ∷ 0 ∷ 0 ∷ factors

abbrev job-sheet : ℕ → List ℕ → List ℕ
job-sheet = known-sheet 3

-- Y² − 1 − 2X over 7: the job with row 0, column 1 corrected to 5; its sheet with three terms
abbrev corrected-job : Given
corrected-job = whole_of 7 2 3 (6 ∷ 5 ∷ 0 ∷ 0 ∷ 0 ∷ 0 ∷ 1 ∷ 0 ∷ 0 ∷ []) (1 ∷ 6 ∷ [])

abbrev corrected-sheet : List ℕ
corrected-sheet = 7 ∷ 2 ∷ 3 ∷ 3 ∷ 2 ∷ 13 ∷ 17 ∷ 26 ∷ 32 ∷ 32 ∷ 3 ∷ 3 ∷ 3 ∷ 1 ∷ 1 ∷ 6 ∷ 1 ∷ 6 ∷ 5 ∷ 0 ∷ 0 ∷ 0 ∷ 0 ∷ 1 ∷ 0 ∷ 0 ∷ 6 ∷ 6 ∷ 4 ∷ 1 ∷ 1 ∷ 3 ∷ []

-- Y² + 4Y + 3 − X over 7: the job with Y + 2 for Y, whose roots are 4 and 6; its sheet with three terms
abbrev variant-sheet : List ℕ
variant-sheet = 7 ∷ 2 ∷ 3 ∷ 3 ∷ 2 ∷ 13 ∷ 17 ∷ 26 ∷ 32 ∷ 32 ∷ 3 ∷ 3 ∷ 3 ∷ 4 ∷ 1 ∷ 6 ∷ 1 ∷ 3 ∷ 6 ∷ 0 ∷ 4 ∷ 0 ∷ 0 ∷ 1 ∷ 0 ∷ 0 ∷ 3 ∷ 4 ∷ 6 ∷ 1 ∷ 3 ∷ 1 ∷ []

-- Y² + X²Y − 1 over 7, row 0 known to one term
abbrev short : Given
short = given_of 7 2 3 (6 ∷ 0 ∷ 0 ∷ 0 ∷ 0 ∷ 1 ∷ 1 ∷ 0 ∷ 0 ∷ []) (1 ∷ 3 ∷ []) (1 ∷ 6 ∷ [])

abbrev pub typed : Sum
typed =
    more
    (first none (times
    (one (plain (bracket (more (first none (one (raised letter_y 2))) minus (one (plain letter_x))))))
    (plain (bracket (more (first none (one (plain letter_y))) plus (one (plain (number 3))))))))
    minus (times (times (one (plain (number 2))) (plain letter_x)) (plain letter_y))

abbrev pub minus-square : Sum
minus-square = first (sign minus) (one (raised letter_y 2))

abbrev pub zero-power : Sum
zero-power = first none (one (raised (number 0) 0))

-- a list of calls on the job's sheet, as the words that `replay` is given: to two terms; the correction, before and after a call with a word too few; an entry
-- that is none; a number that is none; to three terms
abbrev job-calls : List ℕ
job-calls =
    32 ∷ 0 ∷ 2 ∷ 0 ∷ 0 ∷ []
    ++ (31 ∷ 1 ∷ 0 ∷ 1 ∷ 5 ∷ []
    ++ (32 ∷ 1 ∷ 0 ∷ 1 ∷ 5 ∷ []
    ++ (32 ∷ 1 ∷ 2 ∷ 1 ∷ 7 ∷ []
    ++ (32 ∷ 1 ∷ 0 ∷ 1 ∷ 7 ∷ []
    ++ (32 ∷ 0 ∷ 3 ∷ 0 ∷ 0 ∷ [])))))

-- Y³ + Y² + XY + X over 2, two terms
abbrev double-rows : List ℕ
double-rows = 0 ∷ 1 ∷ 0 ∷ 1 ∷ 1 ∷ 0 ∷ 1 ∷ 0 ∷ []

abbrev double : Given
double = whole_of 2 3 2 double-rows (0 ∷ 1 ∷ [])

abbrev double-sheet : List ℕ
double-sheet = 2 ∷ 3 ∷ 2 ∷ 2 ∷ 2 ∷ 14 ∷ 18 ∷ 26 ∷ 32 ∷ 32 ∷ 2 ∷ 2 ∷ 2 ∷ 2 ∷ 0 ∷ 2 ∷ 1 ∷ 1 ∷ 0 ∷ 1 ∷ 0 ∷ 1 ∷ 1 ∷ 0 ∷ 1 ∷ 0 ∷ 0 ∷ 1 ∷ 0 ∷ 0 ∷ 1 ∷ 0 ∷ []

-- Y² − 1 over 7 with the root 1 alone
abbrev alone : Given
alone = whole_of 7 2 1 (6 ∷ 0 ∷ 1 ∷ []) (1 ∷ [])

-- X + Y + Y², four terms; 2Y + X, two; 1 + Y, one: all over 5
abbrev pair1 : List ℕ
pair1 = 0 ∷ 1 ∷ 0 ∷ 0 ∷ 1 ∷ 0 ∷ 0 ∷ 0 ∷ 1 ∷ 0 ∷ 0 ∷ 0 ∷ []

abbrev pair2 : List ℕ
pair2 = 0 ∷ 1 ∷ 2 ∷ 0 ∷ []

abbrev pair3 : List ℕ
pair3 = 1 ∷ 1 ∷ []

-- the same job as a file: p, D, N, r, two offsets; two roots; three rows
abbrev job-file : List ℕ
job-file =
    7 ∷ 0 ∷ 2 ∷ 0 ∷ 3 ∷ 0 ∷ 2 ∷ 0 ∷ 12 ∷ 0 ∷ 16 ∷ 0 ∷ []
    ++ (1 ∷ 0 ∷ 6 ∷ 0 ∷ []
    ++ (6 ∷ 0 ∷ 6 ∷ 0 ∷ 0 ∷ 0 ∷ 0 ∷ 0 ∷ 0 ∷ 0 ∷ 0 ∷ 0 ∷ 1 ∷ 0 ∷ 0 ∷ 0 ∷ 0 ∷ 0 ∷ []))

-- and as a wide file: a word of 0, and the same in words of 32 bits
abbrev wide-file : List ℕ
wide-file =
    0 ∷ 0 ∷ 7 ∷ 0 ∷ 0 ∷ 0 ∷ 2 ∷ 0 ∷ 0 ∷ 0 ∷ 3 ∷ 0 ∷ 0 ∷ 0 ∷ 2 ∷ 0 ∷ 0 ∷ 0 ∷ 26 ∷ 0 ∷ 0 ∷ 0 ∷ 34 ∷ 0 ∷ 0 ∷ 0 ∷ []
    ++ (1 ∷ 0 ∷ 0 ∷ 0 ∷ 6 ∷ 0 ∷ 0 ∷ 0 ∷ []
    ++ (6 ∷ 0 ∷ 0 ∷ 0 ∷ 6 ∷ 0 ∷ 0 ∷ 0 ∷ 0 ∷ 0 ∷ 0 ∷ 0 ∷ 0 ∷ 0 ∷ 0 ∷ 0 ∷ 0 ∷ 0 ∷ 0 ∷ 0 ∷ 0 ∷ 0 ∷ 0 ∷ 0 ∷ 1 ∷ 0 ∷ 0 ∷ 0 ∷ 0 ∷ 0 ∷ 0 ∷ 0 ∷ 0 ∷ 0 ∷ 0 ∷ 0 ∷ []))

-- and as a file that lists no roots
abbrev find-file : List ℕ
find-file = 7 ∷ 0 ∷ 2 ∷ 0 ∷ 3 ∷ 0 ∷ 0 ∷ 0 ∷ 12 ∷ 0 ∷ 12 ∷ 0 ∷ [] ++ (6 ∷ 0 ∷ 6 ∷ 0 ∷ 0 ∷ 0 ∷ 0 ∷ 0 ∷ 0 ∷ 0 ∷ 0 ∷ 0 ∷ 1 ∷ 0 ∷ 0 ∷ 0 ∷ 0 ∷ 0 ∷ [])

-- its listing
abbrev job-text : List ℕ
job-text = bytes "mod 7 terms 3 degree 2 factors 2\nroot 1 power 1\nY^0: 6 3 1\nroot 6 power 1\nY^0: 1 4 6\n"

-- and that of its roots
abbrev roots-text : List ℕ
roots-text = bytes "mod 7 terms 3 degree 2 factors 2\nY = 1 -3 -1\nY = -1 3 1\n"

abbrev pub Starred : Type 0
Starred =
    -- the job: its sheet has T = 32 words; with three terms the factors have the rows 6 3 1 and 1 4 6
    (open_verdict job 32 ≡ Pass)
    × (needed job ≡ 32)
    × (sound_test (job-sheet 3 (6 ∷ 3 ∷ 1 ∷ 1 ∷ 4 ∷ 6 ∷ [])) ≡ true)
    -- as a file of either kind it is read to that job and passes; the listing of its sheet is the text, byte for byte
    × (job_given job-file ≡ job)
    × (list_verdict job-file ≡ Pass)
    × (job_given wide-file ≡ job)
    × (list_verdict wide-file ≡ Pass)
    × (listing_text (job-sheet 3 (6 ∷ 3 ∷ 1 ∷ 1 ∷ 4 ∷ 6 ∷ [])) ≡ job-text)
    -- p = 2: the factor of root 0 has power 2, rows 0 1 and 0 0; the factor of root 1 has row 1 0
    × (open_verdict double 32 ≡ Pass)
    × (powers_of double ≡ some (2 ∷ 1 ∷ []))
    × (sound_test double-sheet ≡ true)
    -- p = 5, N = 4, X + Y + Y²: order 1, b_0 = 0 1 1 2, c_0 = 1 4 4 3, c_1 = 1 0 0 0
    × (judge (pair_checks 5 2 4 pair1 0 4 pair1) ≡ Pass)
    × (order 2 4 pair1 ≡ 1)
    × (pair_test 5 2 4 pair1 4 (0 ∷ 1 ∷ 1 ∷ 2 ∷ 1 ∷ 4 ∷ 4 ∷ 3 ∷ 1 ∷ 0 ∷ 0 ∷ 0 ∷ []) ≡ true)
    -- its first two terms can be continued; with the others besides they are not its first two
    × (judge (pair_checks 5 2 4 pair1 2 4 (0 ∷ 1 ∷ 0 ∷ 0 ∷ 1 ∷ 4 ∷ 0 ∷ 0 ∷ 1 ∷ 0 ∷ 0 ∷ 0 ∷ [])) ≡ Pass)
    × (judge (pair_checks 5 2 4 pair1 2 4 (0 ∷ 1 ∷ 1 ∷ 2 ∷ 1 ∷ 4 ∷ 4 ∷ 3 ∷ 1 ∷ 0 ∷ 0 ∷ 0 ∷ [])) ≡ Refuse (refusal 13 0))
    -- p = 5, N = 2, 2Y + X: b_0 = 0 3, c_0 = 2 0
    × (judge (pair_checks 5 1 2 pair2 0 2 pair2) ≡ Pass)
    × (order 1 2 pair2 ≡ 1)
    × (pair_test 5 1 2 pair2 2 (0 ∷ 3 ∷ 2 ∷ 0 ∷ []) ≡ true)
    -- p = 5, N = 1, 1 + Y: order 0, c_0 = 1, c_1 = 1
    × (judge (pair_checks 5 1 1 pair3 0 1 pair3) ≡ Pass)
    × (order 1 1 pair3 ≡ 0)
    × (pair_test 5 1 1 pair3 1 (1 ∷ 1 ∷ []) ≡ true)
    -- p = 7, Y² − 1, roots 1 alone: 9
    × (open_verdict alone 100 ≡ Refuse (refusal 9 0))
    -- p = 91: 2, detail 7; p = 65,521 passes, 65,535 gives 2 with 3, 65,536 gives 2 with 2
    × (judge (modulus_checks 91) ≡ Refuse (refusal 2 7))
    × (judge (modulus_checks 65521) ≡ Pass)
    × (judge (modulus_checks 65535) ≡ Refuse (refusal 2 3))
    × (judge (modulus_checks 65536) ≡ Refuse (refusal 2 2))
    -- 16,777,213 passes, 16,777,215 gives 2 with 3, 16,777,216 gives 1
    × (judge (modulus_checks 16777213) ≡ Pass)
    × (judge (modulus_checks 16777215) ≡ Refuse (refusal 2 3))
    × (judge (modulus_checks 16777216) ≡ Refuse (refusal 1 0))
    -- w = N passes, N + 1 is 14, 0 is 14
    × (extend_verdict (job-sheet 1 (6 ∷ 0 ∷ 0 ∷ 1 ∷ 0 ∷ 0 ∷ [])) 3 ≡ Pass)
    × (extend_verdict (job-sheet 1 (6 ∷ 0 ∷ 0 ∷ 1 ∷ 0 ∷ 0 ∷ [])) 4 ≡ Refuse (refusal 14 0))
    × (extend_verdict (job-sheet 1 (6 ∷ 0 ∷ 0 ∷ 1 ∷ 0 ∷ 0 ∷ [])) 0 ≡ Refuse (refusal 14 0))
    -- and so for the pair
    × (judge (pair_checks 5 2 4 pair1 0 4 pair1) ≡ Pass)
    × (judge (pair_checks 5 2 4 pair1 0 5 pair1) ≡ Refuse (refusal 14 0))
    × (judge (pair_checks 5 2 4 pair1 0 0 pair1) ≡ Refuse (refusal 14 0))
    -- p = 7, N = 3: X + X² by X is 1 + X, known to two terms, and zeros by X are zeros; zeros by zeros, X by zeros and 1 by X are 12
    × (judge (quotient_checks 7 3 (0 ∷ 1 ∷ 1 ∷ []) (0 ∷ 1 ∷ 0 ∷ []) 3) ≡ Pass)
    × (quotient_words 7 3 (0 ∷ 1 ∷ 1 ∷ []) (0 ∷ 1 ∷ 0 ∷ []) ≡ 1 ∷ 1 ∷ 0 ∷ [])
    × (3 - least_power (0 ∷ 1 ∷ 0 ∷ []) ≡ 2)
    × (judge (quotient_checks 7 3 (0 ∷ 0 ∷ 0 ∷ []) (0 ∷ 1 ∷ 0 ∷ []) 3) ≡ Pass)
    × (quotient_words 7 3 (0 ∷ 0 ∷ 0 ∷ []) (0 ∷ 1 ∷ 0 ∷ []) ≡ 0 ∷ 0 ∷ 0 ∷ [])
    × (judge (quotient_checks 7 3 (0 ∷ 0 ∷ 0 ∷ []) (0 ∷ 0 ∷ 0 ∷ []) 3) ≡ Refuse (refusal 12 0))
    × (judge (quotient_checks 7 3 (0 ∷ 1 ∷ 0 ∷ []) (0 ∷ 0 ∷ 0 ∷ []) 3) ≡ Refuse (refusal 12 0))
    × (judge (quotient_checks 7 3 (1 ∷ 0 ∷ 0 ∷ []) (0 ∷ 1 ∷ 0 ∷ []) 3) ≡ Refuse (refusal 12 0))
    -- the job with row 0 known to two terms: it can be worked to two, and not to three; known to one, its second word should be 0: 21
    × (open_verdict (given_of 7 2 3 job-rows (2 ∷ 3 ∷ []) (1 ∷ 6 ∷ [])) 32 ≡ Pass)
    × (given-reach (given_of 7 2 3 job-rows (2 ∷ 3 ∷ []) (1 ∷ 6 ∷ [])) ≡ 2)
    × (sound_test (known-sheet 2 2 (6 ∷ 3 ∷ 0 ∷ 1 ∷ 4 ∷ 0 ∷ [])) ≡ true)
    × (extend_verdict (known-sheet 2 1 (6 ∷ 0 ∷ 0 ∷ 1 ∷ 0 ∷ 0 ∷ [])) 2 ≡ Pass)
    × (extend_verdict (known-sheet 2 1 (6 ∷ 0 ∷ 0 ∷ 1 ∷ 0 ∷ 0 ∷ [])) 3 ≡ Refuse (refusal 14 0))
    × (open_verdict (given_of 7 2 3 job-rows (1 ∷ 3 ∷ []) (1 ∷ 6 ∷ [])) 32 ≡ Refuse (refusal 21 0))
    -- p = 7, N = 3: 1 + 2X, known to two terms, and 3 + 2X + X²: two terms of the sum and of the product are known; a count of 0 or of 4 is 21
    × (sums 7 3 (1 ∷ 2 ∷ 0 ∷ []) 2 (3 ∷ 2 ∷ 1 ∷ []) 3 ≡ 4 ∷ 4 ∷ 0 ∷ [])
    × (product 7 3 (1 ∷ 2 ∷ 0 ∷ []) 2 (3 ∷ 2 ∷ 1 ∷ []) 3 ≡ 3 ∷ 1 ∷ 0 ∷ [])
    × (judge (known_checks 7 3 (1 ∷ 2 ∷ 0 ∷ []) 2 (3 ∷ 2 ∷ 1 ∷ []) 3 3) ≡ Pass)
    × (judge (known_checks 7 3 (1 ∷ 2 ∷ 0 ∷ []) 2 (3 ∷ 2 ∷ 1 ∷ []) 2 3) ≡ Refuse (refusal 21 0))
    × (judge (known_checks 7 3 (0 ∷ 0 ∷ 0 ∷ []) 0 (3 ∷ 2 ∷ 1 ∷ []) 3 3) ≡ Refuse (refusal 21 0))
    × (judge (known_checks 7 3 (1 ∷ 2 ∷ 0 ∷ []) 4 (3 ∷ 2 ∷ 1 ∷ []) 3 3) ≡ Refuse (refusal 21 0))
    -- without their roots the job and the polynomial over 2 are what they are with them, and so is the job as a file with r = 0
    × (with_roots (whole_of 7 2 3 job-rows []) ≡ job)
    × (find_verdict (whole_of 7 2 3 job-rows []) 32 ≡ Pass)
    × (with_roots (whole_of 2 3 2 double-rows []) ≡ double)
    × (find_verdict (whole_of 2 3 2 double-rows []) 31 ≡ Refuse (refusal 10 32))
    × (rooted (job_given find-file) ≡ job)
    × (list_verdict find-file ≡ Pass)
    -- p = 7: Y² + 1 has no root, and Y⁴ − 1 has two of power 1: 9, whatever room there is
    × (find_verdict (whole_of 7 2 1 (1 ∷ 0 ∷ 1 ∷ []) []) 0 ≡ Refuse (refusal 9 0))
    × (find_verdict (whole_of 7 4 1 (6 ∷ 0 ∷ 0 ∷ 0 ∷ 1 ∷ []) []) 100 ≡ Refuse (refusal 9 0))
    -- row 0, column 1 of the job can be corrected to 5, and then the factors have the rows 6 6 4 and 1 1 3; column 0, column 3 and row 2 can't be; 7 is no entry
    × (correct_verdict (job-sheet 3 (6 ∷ 3 ∷ 1 ∷ 1 ∷ 4 ∷ 6 ∷ [])) 0 1 5 ≡ Pass)
    × (corrected job 0 1 5 ≡ corrected-job)
    × (sound_test corrected-sheet ≡ true)
    × (correct_verdict (job-sheet 3 (6 ∷ 3 ∷ 1 ∷ 1 ∷ 4 ∷ 6 ∷ [])) 0 0 5 ≡ Refuse (refusal 20 0))
    × (correct_verdict (job-sheet 3 (6 ∷ 3 ∷ 1 ∷ 1 ∷ 4 ∷ 6 ∷ [])) 0 3 5 ≡ Refuse (refusal 20 0))
    × (correct_verdict (job-sheet 3 (6 ∷ 3 ∷ 1 ∷ 1 ∷ 4 ∷ 6 ∷ [])) 2 1 7 ≡ Refuse (refusal 20 0))
    × (correct_verdict (job-sheet 3 (6 ∷ 3 ∷ 1 ∷ 1 ∷ 4 ∷ 6 ∷ [])) 0 1 7 ≡ Refuse (refusal 6 0))
    -- with row 0 known to two terms there is no entry in column 2
    × (correct_verdict (known-sheet 2 2 (6 ∷ 3 ∷ 0 ∷ 1 ∷ 4 ∷ 0 ∷ [])) 0 2 0 ≡ Refuse (refusal 20 0))
    -- the plain count of a list of calls; it ends at three terms of the corrected polynomial
    × (replay_verdict 32 job-calls 12 ≡ Pass)
    × (count_answers 32 (counting job) (calls_to 6 job-calls) ≡ accepted 2 ∷ refused 13 0 ∷ accepted 2 ∷ refused 20 0 ∷ refused 6 0 ∷ accepted 3 ∷ [])
    × ((count_end 32 (counting job) (calls_to 6 job-calls)).terms ≡ 3)
    × ((count_end 32 (counting job) (calls_to 6 job-calls)).given ≡ corrected-job)
    -- a word too few, a kind that is none, and an extend with more to say than w: 5
    × (replay_verdict 32 (32 ∷ 0 ∷ 2 ∷ 0 ∷ []) 12 ≡ Refuse (refusal 5 0))
    × (replay_verdict 32 (32 ∷ 2 ∷ 2 ∷ 0 ∷ 0 ∷ []) 12 ≡ Refuse (refusal 5 0))
    × (replay_verdict 32 (32 ∷ 0 ∷ 2 ∷ 0 ∷ 1 ∷ []) 12 ≡ Refuse (refusal 5 0))
    -- of the nine quadratics over 3 three are of each kind, and of the eight cubics over 2 half do not split
    × (count_words 3 2 ≡ 3 ∷ 3 ∷ 3 ∷ [])
    × (count_words 2 3 ≡ 4 ∷ 2 ∷ 2 ∷ 0 ∷ [])
    × (subsets 5 2 ≡ 10)
    -- degrees 0 and 33 are 3; 65,536 polynomials are counted, and more are 24, before 10
    × (judge (counts_checks 2 0 1) ≡ Refuse (refusal 3 0))
    × (judge (counts_checks 2 33 0) ≡ Refuse (refusal 3 0))
    × (judge (counts_checks 2 16 17) ≡ Pass)
    × (judge (counts_checks 2 16 16) ≡ Refuse (refusal 10 17))
    × (judge (counts_checks 2 17 0) ≡ Refuse (refusal 24 0))
    × (judge (counts_checks 257 2 3) ≡ Refuse (refusal 24 0))
    -- the typed example: its one reading, its degree and its rows, modulo 7 and X^3
    × Derives (bytes "(Y^2-X)*(Y+3) - 2*X*Y") (reads typed)
    × (read_degree 7 3 (reads typed) ≡ 3)
    × (read_words 7 3 (reads typed) ≡ 0 ∷ 4 ∷ 0 ∷ 0 ∷ 4 ∷ 0 ∷ 3 ∷ 0 ∷ 0 ∷ 1 ∷ 0 ∷ 0 ∷ [])
    × (judge (read_checks 7 3 21 (reads typed) 12) ≡ Pass)
    × (judge (read_checks 7 3 21 (reads typed) 11) ≡ Refuse (refusal 10 12))
    -- a minus before a power is no part of it; anything to the power 0 is 1; blanks may stand everywhere but in a number
    × Derives (bytes "-Y^2") (reads minus-square)
    × (read_words 7 1 (reads minus-square) ≡ 0 ∷ 0 ∷ 6 ∷ [])
    × Derives (bytes " 0 ^ 000 ") (reads zero-power)
    × (read_words 7 1 (reads zero-power) ≡ 1 ∷ [])
    × Derives (bytes "1 2") unreadable
    -- one sign alone, no power of a power, 255 the most, nine digits the most, and nothing is no polynomial
    × Derives (bytes "1+-2") unreadable
    × Derives (bytes "Y^2^3") unreadable
    × Derives (bytes "Y^256") unreadable
    × Derives (bytes "1234567890") unreadable
    × Derives [] unreadable
    × (judge (read_checks 7 3 0 unreadable 0) ≡ Refuse (refusal 17 0))
    -- with one term X is 0
    × (read_words 7 1 (reads (first none (one (plain letter_x)))) ≡ 0 ∷ [])
    -- the job's roots go on to 1 4 6 and 6 3 1, at which the polynomial is 0; with their signs they are 1 −3 −1 and −1 3 1; 5 words are too few for them
    × (tabulate 3 (value_at 7 2 (given-polynomial job) (word (1 ∷ 4 ∷ 6 ∷ []))) ≡ 0 ∷ 0 ∷ 0 ∷ [])
    × (tabulate 3 (value_at 7 2 (given-polynomial job) (word (6 ∷ 3 ∷ 1 ∷ []))) ≡ 0 ∷ 0 ∷ 0 ∷ [])
    × (simple_verdict (job-sheet 3 (6 ∷ 3 ∷ 1 ∷ 1 ∷ 4 ∷ 6 ∷ [])) 6 ≡ Pass)
    × (roots_text (job-sheet 3 (6 ∷ 3 ∷ 1 ∷ 1 ∷ 4 ∷ 6 ∷ [])) (1 ∷ 4 ∷ 6 ∷ 6 ∷ 3 ∷ 1 ∷ []) ≡ roots-text)
    × (simple_verdict (job-sheet 3 (6 ∷ 3 ∷ 1 ∷ 1 ∷ 4 ∷ 6 ∷ [])) 5 ≡ Refuse (refusal 10 6))
    -- p = 2, where root 0 has power 2: 22 with 0, and before 10
    × (simple_verdict double-sheet 0 ≡ Refuse (refusal 22 0))
    -- signed numbers: 0, p = 2, and on both sides of p/2
    × (signed_of 7 0 ≡ pos 0)
    × (signed_of 2 0 ≡ pos 0)
    × (signed_of 2 1 ≡ pos 1)
    × (signed_of 7 3 ≡ pos 3)
    × (signed_of 7 4 ≡ negsuc 2)
    × (signed_of 16777213 8388606 ≡ pos 8388606)
    × (signed_of 16777213 8388607 ≡ negsuc 8388605)
    × (signed_of 16777213 16777212 ≡ negsuc 0)
    -- the job with Y + 2 for Y: its roots 1 and 6 become 6 and 4, in order 4 and 6, and its factors Y + 1 + 3X + X² and Y + 3 + 4X + 6X²
    × (row_shift 7 2 3 job-rows 2 ≡ 3 ∷ 6 ∷ 0 ∷ 4 ∷ 0 ∷ 0 ∷ 1 ∷ 0 ∷ 0 ∷ [])
    × (open_verdict (variant job 2 (4 ∷ 6 ∷ [])) 32 ≡ Pass)
    × (sound_test variant-sheet ≡ true)
    × (open_verdict (variant job 2 (6 ∷ 4 ∷ [])) 32 ≡ Refuse (refusal 8 0))
    -- the factor of root 6 is shifted with its leading 1; the row alone would stay as it is
    × (row_shift 7 1 3 (1 ∷ 4 ∷ 6 ∷ 1 ∷ 0 ∷ 0 ∷ []) 2 ≡ 3 ∷ 4 ∷ 6 ∷ 1 ∷ 0 ∷ 0 ∷ [])
    × (row_shift 7 0 3 (1 ∷ 4 ∷ 6 ∷ []) 2 ≡ 1 ∷ 4 ∷ 6 ∷ [])
    -- where lengths differ, the shift brings words into row 0 that are not known there: 21, unless f is cut first
    × (open_verdict short 32 ≡ Pass)
    × (open_verdict (variant short 2 (4 ∷ 6 ∷ [])) 32 ≡ Refuse (refusal 21 0))
    × (open_verdict (variant (cut short) 2 (4 ∷ 6 ∷ [])) 32 ≡ Pass)
