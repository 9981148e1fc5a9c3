use Rattle.std.proofs.Common.{◌≡◌, ◌++◌, ℕ, List}
use Rattle.std.specs.List.{flat_map}
use Rattle.calc_addr.specs.Places.{Rectangle, rows_of}
use Rattle.csv_records.specs.Records.{record_text}
use Rattle.calc_cli.specs.Records.{row_texts}
use Rattle.csv_records.specs.Writers.{Holds}
use Rattle.calc_cli.proofs.records.print_area.Given as goal

-- the records so far, and those of the rows that are left
abbrev pub invariant-loop-row : goal.invariant-loop-row
invariant-loop-row g l =
    let record_of = λ (row : Rectangle). record_text (row_texts (g.T.CellTexts.texts l.texts) row) in
    (bytes : List ℕ) × Holds l.writer bytes × (bytes ++ flat_map record_of l.row-iterator ≡ flat_map record_of (rows_of l.fn.area))
