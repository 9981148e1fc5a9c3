-- The contents of the records make what the records do.
use Rattle.std.proofs.Common.{rules, ◌≡◌, ℕ, ◌+◌, ◌≤◌, [], List, length, map, sum_by, sym, ap, subst, ◌∙◌, arith, Vec}
use Rattle.std.specs.declared.alloc.Global.{Global}
use Rattle.std.specs.List.{All}
use Rattle.std.proofs.lemmas.List.{length-map}
use Rattle.std.proofs.lemmas.List.Elements.{All-nil}
use Rattle.csv.specs.Records.{AllText, Row, fields_of}
use Rattle.calc_addr.specs.declared.cell.TheConstants.{LAST_COL}
use Rattle.calc_model.specs.declared.content.Content.{Content}
use Rattle.formula_reader.specs.Fields.{field_of}
use Rattle.calc_book.specs.BookCells.{Fields, Records, filled, with_records}
use Rattle.calc_book.specs.Growing.{taken}
use Rattle.calc_book.specs.Placed.{held_in, with_rows}
use Rattle.calc_book.proofs.ReadRows.{contents_few, contents_in, mapped_twice, records_held, records_placed, unmapped}
use Rattle.calc_book.proofs.growing.GrowingBook.place.Goals as goal

pub read_contents-requires-after_bounds : goal.read_contents-requires-after_bounds
read_contents-requires-after_bounds g c κs within =
    let before = c.args.self.now in
    let rows : c.deref.result.now ≡ before.rows.items = search rules in
    subst (λ (rows : List Row). All (λ row. AllText (fields_of row)) rows) (sym rows) (unmapped AllText fields_of before.rows.items c.requires.4.text)

-- the contents of rows
abbrev contents_of : List (Vec Content Global) → List (List Content)
contents_of rows = map (λ row. row.items) rows

-- the contents of the rows are those of the records
same_contents : (contents : List (Vec Content Global)) (lent rows : List Row) → contents_of contents ≡ map (λ row. map field_of (fields_of row)) lent → lent ≡ rows → contents_of contents ≡ contents_in (map fields_of rows)
same_contents contents lent rows read lent_is =
    read ∙ ap (map (λ row. map field_of (fields_of row))) lent_is ∙ mapped_twice fields_of (map field_of) rows

pub place_rows-requires-clause-cols : goal.place_rows-requires-clause-cols
place_rows-requires-clause-cols g c =
    let before = c.args.self.now in
    let rows : c.deref.result.now ≡ before.rows.items = search rules in
    let read : contents_of c.in_ok-contents.contents.items ≡ map (λ row. map field_of (fields_of row)) c.deref.result.now = search rules in
    let contents = same_contents c.in_ok-contents.contents.items c.deref.result.now before.rows.items read rows in
    subst (λ (rows : List (List Content)). All (λ row. length row ≤ LAST_COL) rows) (sym contents) (contents_few LAST_COL (taken before) c.requires.4.few)

pub place_rows-requires-clause-room : goal.place_rows-requires-clause-room
place_rows-requires-clause-room g c =
    let before = c.args.self.now in
    let rows : c.deref.result.now ≡ before.rows.items = search rules in
    let read : contents_of c.in_ok-contents.contents.items ≡ map (λ row. map field_of (fields_of row)) c.deref.result.now = search rules in
    let contents = same_contents c.in_ok-contents.contents.items c.deref.result.now before.rows.items read rows in
    omega (arith, ap (sum_by held_in) contents, records_held (taken before), c.requires.4.fits)

pub returns-clause-grown : goal.returns-clause-grown
returns-clause-grown g c room row rest all h =
    let before = c.args.self.now in
    let rows : c.deref.result.now ≡ before.rows.items = search rules in
    let read : contents_of c.in_ok-contents.contents.items ≡ map (λ row. map field_of (fields_of row)) c.deref.result.now = search rules in
    let contents = same_contents c.in_ok-contents.contents.items c.deref.result.now before.rows.items read rows in
    let long = ap length contents ∙ length-map (taken before) (map field_of) in
    let put = c.in_ok-self.ensures in
    let book = c.place_rows.new.book in
    let none : map fields_of c.clear.new.self.items ≡ [] = ap (map fields_of) c.clear.ensures.items in
    let no_byte : filled (map fields_of c.clear.new.self.items) ≡ 0 = ap filled none in
    let cells = ap (with_records field_of c.in_ok-self.field-0 book.cells) none
    ∙ put.cells
    ∙ ap (with_rows before.row before.book.cells) contents
    ∙ records_placed before.row before.book.cells (taken before)
    in
    record {
      names = put.names ∙ h.names;
      from = omega (arith, put.behind, h.from);
      next = omega (arith, ap length none, put.behind, long, h.next);
      to = h.to;
      few = subst (All (λ (fields : Fields). length fields ≤ LAST_COL)) (sym none) (All-nil (λ (fields : Fields). length fields ≤ LAST_COL));
      text = subst (All AllText) (sym none) (All-nil AllText);
      cells = ap (λ cells. with_records field_of row cells rest) cells ∙ h.cells;
      fits = omega (arith, no_byte, put.room, ap (sum_by held_in) contents, records_held (taken before), h.fits);
      left = h.left;
    }
