-- Worked examples of reports, each computed.
use Rattle.std.proofs.Common.{◌≡◌, ℕ, [], ◌∷◌, codes, refl}
use Rattle.std.specs.Prelude.{pos, ◌==◌, if◌then◌else◌}
use Rattle.calc_addr.specs.Places.{Place, Rectangle}
use Rattle.calc_model.specs.Scalars.{CellValues}
use Rattle.calc_model.specs.declared.fault.Fault.TheVariants.{DivZero}
use Rattle.calc_model.specs.declared.value.Value.{Value}
use Rattle.calc_model.specs.declared.value.Value.TheVariants.{Number, Words, Bad, Blank}
use Rattle.calc_watch.specs.Reports.{reports, watched}

-- the first three cells of column B show an error, the empty text and nothing, downwards
abbrev by_row : ℕ → Value
by_row row = if row == 1 then Bad DivZero else (if row == 2 then Words [] else Blank)

abbrev shown : CellValues
shown cell = by_row cell.row

abbrev three : Rectangle
three = record { sheet = 0; first_col = 2; last_col = 2; first_row = 1; last_row = 3 }

abbrev cell : ℕ → Place
cell row = record { sheet = 0; col = 2; row = row }

what_is_known_is_not_told : reports shown (watched three (Bad DivZero ∷ Words [] ∷ Blank ∷ []) []) ≡ []
what_is_known_is_not_told = refl

changes_are_told_downwards : reports shown (watched three (Number (pos 5) ∷ Words [] ∷ Number (pos 0) ∷ []) []) ≡ record { cell = cell 1; shown = codes "#DIV/0!" } ∷ record { cell = cell 3; shown = [] } ∷ []
changes_are_told_downwards = refl

the_empty_text_is_not_nothing : reports shown (watched three (Bad DivZero ∷ Blank ∷ Blank ∷ []) []) ≡ record { cell = cell 2; shown = [] } ∷ []
the_empty_text_is_not_nothing = refl
