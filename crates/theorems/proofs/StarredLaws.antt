-- The starred examples, by evaluation.
-- Assumes nothing.
use native.Mathlib.Omega.{arith}
use mathlib.Core.List.{[]}
use mathlib.Core.Path.{◌≡◌, refl}
use Rattle.algebra.specs.Sums.{sum_to}
use Rattle.numbers.specs.Limits.{largest_modulus}
use Rattle.numbers.specs.Words.{outside, first_where, first_nonzero, first_large, all_to, all, all_where, tabulate, each, least}
use Rattle.numbers.specs.Divisor.{least_divisor, inverse_of}
use Rattle.numbers.specs.Refusals.{check, refusal, judge, modulus_checks, Pass, Refuse}
use Rattle.numbers.proofs.DivisorLaws.{least-is, trial-none, trial-prime}
use Rattle.numbers.proofs.RefusalsLaws.{take-check, modulus-fine, modulus-composite}
use Rattle.series.specs.Known.{known_to, rows_known}
use Rattle.series.specs.Series.{sums, product_column, quotient_column, quotient}
use Rattle.series.specs.Series as series
use Rattle.series.specs.Quotient.{quotient_words}
use Rattle.rows.specs.Rows.{rows_of, rows_below, table, mul, line_power, shifted, row_shift, monic}
use Rattle.pair.specs.Pair.{order_of}
use Rattle.pair.specs.Test.{product_test, pair_test}
use Rattle.pair.specs.Paired.{held}
use Rattle.hensel.specs.Factors.{product}
use Rattle.sheet.specs.Test.{prime_test, factors_test, header_test, body_test, sound_test}
use Rattle.open.specs.Open.{choices, find, splits_test, powers_of, needed, open_verdict}
use Rattle.rootfinding.specs.Roots.{value}
use Rattle.open.specs.Find.{find_verdict}
use Rattle.extend.specs.Extend.{extend_verdict}
use Rattle.correct.specs.Correct.{is_entry, correct_verdict}
use Rattle.calls.specs.Calls.{count_answer, count_answers, count_end}
use Rattle.calls.specs.Replay.{call_fits, calls_to, replay_verdict}
use Rattle.counts.specs.Counts.{lists, count, subsets, counted}
use Rattle.text.specs.Decimal.{digits, digits_within}
use Rattle.text.specs.Text.{bytes, listing_text, roots_text, head_line, root_line, row_name, row_line, row_lines, factor_text, join_to, signed_text, number_text, more_numbers}
use Rattle.simple.specs.Simple.{series_power, value_at, first_multiple, simple_verdict}
use Rattle.job.specs.Job.{number, is_wide, fields_from, field_size, field}
use Rattle.listing.specs.Listing.{job_given, list_verdict}
use Rattle.formula.specs.Formula.{reads, unreadable, sum_depth}
use Rattle.formula.specs.Grammar.{Derives}
use Rattle.read.specs.Value.{top_row, power_of, powers_high, sum_value, sum_high}
use Rattle.formula.specs.internal.Scan.{kind_of, step, finish, scan}
use Rattle.formula.proofs.SoundLaws.{scan-sound}
use Rattle.formula.proofs.FoundLaws.{unread}
use Rattle.theorems.specs.Starred.{typed, minus-square, zero-power, Starred}

-- The definition of the least divisor would try millions of numbers here: so the moduli at the limit are judged by trial division, and only that is evaluated.
largest-prime : judge (modulus_checks 16777213) ≡ Pass
unfolding first_where
largest-prime = modulus-fine 16777213 (trial-prime 16777213 4097 (omega arith) (omega arith) (trial-none 16777213 4095)) (omega arith)

largest-composite : judge (modulus_checks 16777215) ≡ Refuse (refusal 2 3)
unfolding first_where
largest-composite = modulus-composite 16777215 3 (omega arith) (omega arith) (least-is 16777215 3 (omega arith) (omega arith) refl (trial-none 16777215 1)) (omega arith)

out_of_range : judge (modulus_checks 16777216) ≡ Refuse (refusal 1 0)
out_of_range = take-check (check 1 (outside 2 largest_modulus 16777216) 0) _ refl

-- The readings of the typed texts: what the scan finds is what the grammar derives.
reads-typed : Derives (bytes "(Y^2-X)*(Y+3) - 2*X*Y") (reads typed)
unfolding scan step kind_of finish
reads-typed = scan-sound typed _ refl

reads-minus : Derives (bytes "-Y^2") (reads minus-square)
unfolding scan step kind_of finish
reads-minus = scan-sound minus-square _ refl

reads-zero : Derives (bytes " 0 ^ 000 ") (reads zero-power)
unfolding scan step kind_of finish
reads-zero = scan-sound zero-power _ refl

unread-blank : Derives (bytes "1 2") unreadable
unfolding scan step kind_of finish
unread-blank = unread _ refl

unread-sign : Derives (bytes "1+-2") unreadable
unfolding scan step kind_of finish
unread-sign = unread _ refl

unread-chain : Derives (bytes "Y^2^3") unreadable
unfolding scan step kind_of finish
unread-chain = unread _ refl

unread-power : Derives (bytes "Y^256") unreadable
unfolding scan step kind_of finish
unread-power = unread _ refl

unread-digits : Derives (bytes "1234567890") unreadable
unfolding scan step kind_of finish
unread-digits = unread _ refl

unread-none : Derives [] unreadable
unfolding scan step kind_of finish
unread-none = unread _ refl

pub starred : Starred
unfolding table top_row power_of sum_value sum_high powers_high sum_depth judge least_divisor inverse_of first_where first_nonzero first_large all_to all sum_to rows_of mul monic order_of rows_below product_test pair_test held line_power shifted row_shift product prime_test factors_test header_test body_test sound_test each choices find splits_test powers_of needed open_verdict extend_verdict number is_wide fields_from field_size field job_given list_verdict listing_text head_line root_line row_line row_lines factor_text join_to tabulate least known_to rows_known sums product_column series.product quotient_column quotient quotient_words digits digits_within row_name roots_text signed_text number_text more_numbers series_power value_at first_multiple simple_verdict value all_where find_verdict is_entry correct_verdict call_fits calls_to replay_verdict count_answer count_answers count_end lists count subsets counted
starred = (refl, refl, refl, refl, refl, refl, refl, refl, refl, refl, refl, refl, refl, refl, refl, refl, refl, refl, refl, refl, refl, refl, refl, refl, refl, refl, refl, largest-prime, largest-composite, out_of_range, refl, refl, refl, refl, refl, refl, refl, refl, refl, refl, refl, refl, refl, refl, refl, refl, refl, refl, refl, refl, refl, refl, refl, refl, refl, refl, refl, refl, refl, refl, refl, refl, refl, refl, refl, refl, refl, refl, refl, refl, refl, refl, refl, refl, refl, refl, refl, refl, refl, refl, refl, refl, refl, refl, refl, refl, refl, refl, reads-typed, refl, refl, refl, refl, reads-minus, refl, reads-zero, refl, unread-blank, unread-sign, unread-chain, unread-power, unread-digits, unread-none, refl, refl, refl, refl, refl, refl, refl, refl, refl, refl, refl, refl, refl, refl, refl, refl, refl, refl, refl, refl, refl, refl, refl, refl, refl)
