-- `job::number` meets its contract: byte after byte, from the last one down; what is read so far is the number of the bytes from `at + i` on.
-- Assumes nothing.
use Prim.Native.Nat.{◌+◌, ◌-◌, ◌<◌}
use mathlib.Core.Path.{◌≡◌}
use Rattle.job.specs.Job.{number}
use Rattle.job.specs.internal.Form.{bytes_bound}
use Rattle.job.proofs.number.Given as goal

abbrev pub invariant-loop-i : goal.invariant-loop-i
invariant-loop-i l = (l.value ≡ number l.job (l.at + l.i) (l.size - l.i)) × (l.value < bytes_bound (l.size - l.i))
