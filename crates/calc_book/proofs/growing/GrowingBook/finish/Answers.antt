-- No record is left.
use Rattle.std.proofs.Common.{ℕ, [], map, Option, sym, ap, subst, ◌∙◌}
use Rattle.csv.specs.Records.{Row, fields_of}
use Rattle.formula_reader.specs.Fields.{field_of}
use Rattle.calc_book.specs.BookCells.{with_records}
use Rattle.calc_book.specs.Growing.{GrowsIn}
use Rattle.calc_book.proofs.growing.GrowingBook.finish.Goals as goal

pub place-requires-after_bounds : goal.place-requires-after_bounds
place-requires-after_bounds g c κs within =
    (c.in-Some._room, c.requires.0, [], c.requires.1, subst (λ (room : Option ℕ). GrowsIn room c.args.self c.requires.0 [] c.requires.1) c.in-Some.is c.requires.2)

pub returns-clause-cells : goal.returns-clause-cells
returns-clause-cells g c row all h =
    let after = c.in-Ok.ensures.grown c.in-Some._room row [] all (subst (λ (room : Option ℕ). GrowsIn room c.args.self row [] all) c.in-Some.is h) in
    let book = c.place.new.self in
    sym (ap (λ rows. with_records field_of book.row book.book.cells (map fields_of rows)) c.in-Ok.ensures.placed) ∙ after.cells

pub returns-clause-names : goal.returns-clause-names
returns-clause-names g c row all h =
    let after = c.in-Ok.ensures.grown c.in-Some._room row [] all (subst (λ (room : Option ℕ). GrowsIn room c.args.self row [] all) c.in-Some.is h) in
    after.names
