-- A text is cut into lines at line feeds; what follows the last one is a line where it isn't empty.
use Rattle.std.specs.Prelude.{ℕ, ◌==◌, List, [], ◌∷◌, if◌then◌else◌}
use Rattle.std.specs.List.{onto_first}
use Rattle.byte_cuts.specs.declared.line.TheConstants.{LINE_FEED}

abbrev pub lines_of : List ℕ → List (List ℕ)
lines_of [] = []
lines_of (byte ∷ rest) = if byte == LINE_FEED then [] ∷ lines_of rest else onto_first byte (lines_of rest)
