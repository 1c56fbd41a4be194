-- What a row operation is given with the rows of factor i, but for the rows.
--   factor_shape s i     the sheet's modulus and width, and the bound, one below the factor's power
-- Assumes nothing.
use Rattle.std.specs.Prelude.{ℕ, ◌-◌, List}
use Rattle.layout.specs.Layout.{modulus, width, power}
use Rattle.sheet.specs.declared.Shape.{Shape}

abbrev pub factor_shape : List ℕ → ℕ → Shape
factor_shape s i = record { p = modulus s; bound = power s i - 1; width = width s }
