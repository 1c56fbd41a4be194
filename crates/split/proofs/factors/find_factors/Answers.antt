-- `split::factors::find_factors` meets its contract.
-- Assumes nothing.
use mathlib.Core.Path.{◌≡◌, sym, ap, subst, ◌∙◌}
use Prim.Native.Nat.{◌-◌, ◌+◌, ◌*◌}
use native.Mathlib.Omega.{arith}
use lib.ListN.{length}
use Rattle.algebra.specs.Sums.{sum_to}
use Rattle.numbers.specs.Words.{word}
use Rattle.columns.specs.internal.Column.{ColumnsSet}
use Rattle.split.specs.internal.Found.{Splitting}
use Rattle.split.proofs.FactorsToLaws.{spread-below, begins-splits, splits-begins, found_some, found_none, cleared-splitting, cleared-factors, ready, factors-done}
use Rattle.split.proofs.factors.find_factors.Goals as goal

pub product_of-requires : goal.product_of-requires
product_of-requires c =
    let r = c.requires in
    (r.0.prime.two-le, r.0.small, r.2 ∙ sym (ap (λ x. x + 1) (c.spread.ensures.long ∙ r.1)), spread-below r.0 c.spread.new.c (c.spread.ensures.long ∙ r.1) c.spread.ensures.is)

pub begins-requires : goal.begins-requires
begins-requires c =
    let a = c.args in
    let r = c.requires in
    let e : length c.product_of.new.out - 1 ≡ sum_to (length a.powers.now) (word a.powers.now) = let z = c.product_of.ensures.long in let y = c.spread.ensures.long in let x = r.1 in omega arith in
    let room = r.0.room in let low = r.0.terms-low in let high = r.0.terms-high in let y = c.spread.ensures.long in let z = c.product_of.ensures.long in let x = r.1 in
    (omega arith, r.0.width, omega arith, omega arith, r.0.long ∙ ap (λ d. d * a.n) (sym e))

pub returns-then-not-begins : goal.returns-then-not-begins
returns-then-not-begins c =
    let a = c.args in
    let r = c.requires in
    found_none (λ g. c.begins.ensures.no (c.if-not-begins.true)
    (splits-begins a.p a.n a.w a.roots.now a.powers.now a.rows.now r.0 _ (c.spread.ensures.long ∙ r.1) c.spread.ensures.is _ c.product_of.ensures g))

pub clear-requires : goal.clear-requires
clear-requires c =
    let a = c.args in
    let r = c.requires in
    let room = r.0.room in
    let e = c.spread.ensures.long ∙ r.1 in
    (r.0.terms-high, r.0.width, omega arith, r.0.long ∙ ap (λ x. x * a.n) (sym e))

pub factor_rows-requires : goal.factor_rows-requires
factor_rows-requires c =
    let begins = c.begins in
    let a = c.args in
    let r = c.requires in
    let e = c.spread.ensures.long ∙ r.1 in
    let s1 = c.clear.new.rows in
    let fits = begins-splits a.p a.n a.w a.roots.now a.powers.now a.rows.now r.0 _ e c.spread.ensures.is _ c.product_of.ensures (begins.ensures.yes (c.if-not-begins.false)) in
    let cl = subst (λ x. ColumnsSet a.n a.w a.n x (λ _ _. 0) a.rows.now s1) e c.clear.ensures in
    let sp = cleared-splitting a.p a.n a.w a.roots.now a.powers.now a.rows.now s1 (record { listed = r.0; splits = fits }) cl in
    ready a.p a.n a.w a.roots.now a.powers.now s1 sp _ e c.spread.ensures.is

pub returns : goal.returns
returns c =
    let begins = c.begins in
    let a = c.args in
    let r = c.requires in
    let e = c.spread.ensures.long ∙ r.1 in
    let s1 = c.clear.new.rows in
    let fits = begins-splits a.p a.n a.w a.roots.now a.powers.now a.rows.now r.0 _ e c.spread.ensures.is _ c.product_of.ensures (begins.ensures.yes (c.if-not-begins.false)) in
    let whole : Splitting a.p a.n a.w a.roots.now a.powers.now a.rows.now = record { listed = r.0; splits = fits } in
    let cl = subst (λ x. ColumnsSet a.n a.w a.n x (λ _ _. 0) a.rows.now s1) e c.clear.ensures in
    let sp = cleared-splitting a.p a.n a.w a.roots.now a.powers.now a.rows.now s1 whole cl in
    found_some (cleared-factors a.p a.n a.w a.roots.now a.powers.now a.rows.now s1 whole cl _
    (factors-done a.p a.n a.w a.roots.now a.powers.now s1 sp _ e c.spread.ensures.is _ cl.set c.factor_rows.ensures))
