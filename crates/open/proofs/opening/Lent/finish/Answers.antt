-- `open::opening::Lent::finish` meets its contract: T, and then refusal 10 or the sheet.
-- Assumes nothing.
use mathlib.Core.Path.{◌≡◌, refl}
use mathlib.Core.List.{List}
use Rattle.sheet.specs.Sheet.{Given}
use Rattle.layout.specs.Layout.{total}
use Rattle.open.specs.internal.Writing.{FreshReady}
use Prim.Native.Nat.{ℕ, ◌<◌}
use native.Mathlib.Omega.{arith}
use lib.ListN.{length}
use Rattle.open.specs.internal.Opening.{given}
use Rattle.open.specs.Open.{needed}
use Rattle.open.proofs.SheetWritingLaws.{count_small, total-small, finished-short, finished-done}
use Rattle.open.proofs.opening.Lent.finish.Goals as goal

-- T fits a word
word_size : (g : Given) (powers : List ℕ) (T : ℕ) → FreshReady g powers → T ≡ total g.D g.N (length g.roots) → T < 4294967296
word_size g powers T h e = omega (arith, total-small g.D g.N (length g.roots) h.degree-high h.width-high (count_small g powers h), e)

pub total_of-total-requires : goal.total_of-total-requires
total_of-total-requires c = let h = c.requires.0 in (h.degree-high, h.width-high, count_small (given c.args.self) c.args.powers.now h)

pub overflow_cast-result : goal.overflow_cast-result
overflow_cast-result c = omega (arith, word_size _ _ _ c.requires.0 c.total_of-total.ensures)

pub returns-then-out-total : goal.returns-then-out-total
unfolding needed
returns-then-out-total c = finished-short (given c.args.self) c.args.powers.now c.args.out.now _ c.total_of-total.ensures _ refl c.if-out-total.true

pub overflow_cast-result-2 : goal.overflow_cast-result-2
overflow_cast-result-2 c = omega (arith, word_size _ _ _ c.requires.0 c.total_of-total.ensures)

pub returns : goal.returns
unfolding needed
returns c = finished-done (given c.args.self) c.args.powers.now c.args.out.now _ c.total_of-total.ensures _ c.write_sheet.ensures c.if-out-total.false
