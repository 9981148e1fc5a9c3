-- A column that was never used has all rows, and shows nothing.
use Rattle.std.proofs.Common.{◌≡◌, ℕ, List, length, get_or, Option, Some, None, refl, sym, ap, ◌∙◌}
use Rattle.std.proofs.lemmas.List.{length-replicate}
use Rattle.std.specs.Option.{option_map, unwrap_or}
use Rattle.calc_addr.specs.declared.cell.TheConstants.{LAST_ROW}
use Rattle.calc_model.specs.declared.value.Value.TheVariants.{Blank}
use Rattle.value_column.specs.Sheets.{shown_in}
use Rattle.value_column.specs.ValueRows.{ValueRows, no_values}

pub unused-rows : (sheets : List (Option ValueRows)) (place : ℕ) → get_or sheets place None ≡ None → length (shown_in sheets place) ≡ LAST_ROW
unfolding no_values
unused-rows sheets place none = ap (λ o. length (unwrap_or (option_map (λ c. c.values) o) no_values)) none ∙ length-replicate LAST_ROW Blank

pub used-rows : (sheets : List (Option ValueRows)) (place : ℕ) (column : ValueRows) → get_or sheets place None ≡ Some column → length column.values ≡ LAST_ROW → length (shown_in sheets place) ≡ LAST_ROW
used-rows sheets place column some rows = ap (λ o. length (unwrap_or (option_map (λ c. c.values) o) no_values)) some ∙ rows
