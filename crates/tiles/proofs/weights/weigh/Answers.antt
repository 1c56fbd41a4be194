-- `tiles::weights::weigh` meets its contract.
-- Assumes nothing.
use Prim.Native.Nat.{◌+◌, ◌*◌}
use mathlib.Core.Path.{sym, ap, subst, ◌∙◌}
use native.Mathlib.Omega.{arith}
use lib.ListN.{length}
use Rattle.numbers.specs.internal.Facts.{AllBelow}
use Rattle.numbers.proofs.WordsLaws.{length-tabulate, tabulate-below}
use Rattle.numbers.specs.internal.Limits.{modulus_bound}
use Rattle.tiles.specs.internal.Weights.{pair_word}
use Rattle.tiles.proofs.WeightsLaws.{pairs_below, weigh-is}
use borrow.Author.Rules.{rules}
use Rattle.tiles.proofs.weights.weigh.Goals as goal

pub tile_row-requires : goal.tile_row-requires
tile_row-requires c =
    let a = c.args in
    let r = c.requires in
    let pairs = c.pair_weights.ensures in
    let zeros = c.clear_sums.ensures in (
      omega arith,
      omega arith,
      omega arith,
      omega arith,
      r.5,
      omega (arith, ap length pairs, length-tabulate (2 * (length a.weights.now + 1)) (pair_word a.weights.now)),
      r.6,
      ap length zeros ∙ length-tabulate _ _ ∙ r.11,
      subst (AllBelow modulus_bound) (sym pairs) (pairs_below modulus_bound _ a.weights.now (omega arith) r.9),
      r.7,
      subst (AllBelow 2305843009213693952) (sym zeros) (tabulate-below 2305843009213693952 _ _ (λ k l. omega arith)),
    )

pub returns : goal.returns
returns c =
    let a = c.args in
    let r = c.requires in
    record {
      pairs = search rules;
      sums = search rules;
      is = λ table.
          weigh-is a.p a.n _ a.blocks _ table a.tiles.now a.weights.now _ _ _ _ r.8 r.12 r.11 r.4
          c.pair_weights.ensures c.clear_sums.ensures c.tile_row.ensures c.reduce_sums.ensures;
    }
