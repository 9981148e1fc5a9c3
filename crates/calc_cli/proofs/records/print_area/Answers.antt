use Rattle.std.proofs.Common.{◌≡◌, ◌++◌, List, ℕ, subst}
use Rattle.std.specs.List.{flat_map}
use Rattle.csv.specs.Records.{fields_of}
use Rattle.calc_addr.specs.Places.{Rectangle, rows_of}
use Rattle.csv_records.specs.Records.{record_text}
use Rattle.calc_cli.specs.Records.{row_texts}
use Rattle.csv_records.specs.Writers.{Holds}
use Rattle.calc_cli.proofs.Joining.{join_one}
use Rattle.calc_cli.proofs.records.print_area.Goals as goal

pub loop-row-preserved : goal.loop-row-preserved
loop-row-preserved g c =
    let texts = g.T.CellTexts.texts c.args.texts.now in
    let text : Rectangle → List ℕ = λ row. record_text (row_texts texts row) in
    let inv = c.loop-row.invariant in
    let fields : fields_of c.fill_record.new.fields ≡ row_texts texts c.in-Some.row = c.in_ok-fill_record.ensures in (
      inv.0 ++ text c.in-Some.row,
      subst (λ fs. Holds c.write_record.new.writer (inv.0 ++ record_text fs)) fields (c.in_ok-write_record.ensures inv.0 inv.1),
      join_one text inv.0 (flat_map text (rows_of c.args.area)) c.loop-row.row-iterator c.next.new.self c.in-Some.row inv.2 c.in-Some.ensures.steps,
    )
