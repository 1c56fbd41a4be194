-- `pair::same_words` meets its contract.
-- Assumes nothing.
use mathlib.Core.Path.{sym, ap, ◌∙◌}
use mathlib.Core.List.{List}
use Prim.Native.Nat.{ℕ}
use lib.Seq.{ext_get_or}
use Rattle.std.proofs.lemmas.Bool.Decides.{Decides-eqb}
use Rattle.std.proofs.lemmas.Slice.Eq.{slice_eq-Decides}
use Rattle.numbers.specs.Words.{word}
use Rattle.numbers.proofs.WordsLaws.{true-false}
use Rattle.pair.proofs.same_words.Goals as goal

pub returns : goal.returns
returns c =
    let a = c.args in
    let d = slice_eq-Decides Decides-eqb a.a.now a.b.now _ c.eq.ensures in
    record {
      yes = λ t i l. ap (λ (xs : List ℕ). word xs i) (d.0 t);
      no = λ f h. true-false (sym (d.1 (ext_get_or 0 a.a.now a.b.now (sym c.requires) h)) ∙ f);
    }
