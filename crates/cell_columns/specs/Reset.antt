-- Cells that are emptied, and cells that are set.
use Rattle.std.specs.Prelude.{List, fold}
use Rattle.calc_addr.specs.Places.{Place}
use Rattle.calc_model.specs.declared.content.Content.TheVariants.{Empty}
use Rattle.calc_model.specs.Books.{with_content}
use Rattle.calc_model.specs.CellEdits.{CellEntries}

-- without these cells
abbrev pub emptied : CellEntries → List Place → CellEntries
emptied cells places = fold (λ held q. with_content held q Empty) cells places

-- with these contents, one after the other
abbrev pub with_all : CellEntries → CellEntries → CellEntries
with_all cells entries = fold (λ held entry. with_content held entry.0 entry.1) cells entries
