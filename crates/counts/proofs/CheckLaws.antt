-- What the checks of counting leave.
-- Assumes nothing.
use Prim.Native.Nat.{ℕ, ◌+◌, ◌^◌, ◌<◌}
use native.Mathlib.Omega.{arith}
use mathlib.Core.Path.{◌≡◌}
use borrow.Author.Tests.{ltb-false}
use Rattle.numbers.specs.Refusals.{judge, modulus_checks, Pass}
use Rattle.numbers.specs.Limits.{largest_degree}
use Rattle.numbers.proofs.RefusalsLaws.{pass-parts, pass-check, inside, modulus-pass}
use Rattle.counts.specs.Counts.{most_polynomials, counts_checks}
use Rattle.counts.specs.internal.Counting.{Countable}

pub counts-pass : (p D room : ℕ) → judge (counts_checks p D room) ≡ Pass → Countable p D × (D < room)
counts-pass p D room pass =
    let a = pass-parts (modulus_checks p) _ pass in
    let M = modulus-pass p a.0 in
    let b = pass-check _ _ a.1 in
    let i = inside 1 largest_degree D b.0 in
    let c = pass-check _ _ b.1 in
    let d = ltb-false room (D + 1) (pass-check _ _ c.1).0 in
    (record { prime = M.prime; small = M.small; low = i.0; high = i.1; total = ltb-false most_polynomials (p ^ D) c.0 }, omega arith)
