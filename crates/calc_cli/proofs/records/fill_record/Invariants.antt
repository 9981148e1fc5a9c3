use Rattle.std.proofs.Common.{◌≡◌, [], ◌++◌, map}
use Rattle.csv.specs.Records.{fields_of, partial_of}
use Rattle.calc_cli.specs.Records.{row_texts}
use Rattle.calc_cli.proofs.records.fill_record.Given as goal

-- the texts so far, and those of the cells that are left
abbrev pub invariant-loop-cell : goal.invariant-loop-cell
invariant-loop-cell g l =
    let text = g.T.CellTexts.texts l.texts in
    record {
      texts : fields_of l.fields ++ map text l.cell-iterator ≡ row_texts text l.fn.row;
      whole : partial_of l.fields ≡ [];
    }
