-- One record more is held.
use Rattle.std.proofs.Common.{rules, ◌≡◌, ℕ, ◌+◌, ◌≤◌, ◌++◌, ◌∷◌, [], List, length, map, sym, ap, subst, ◌∙◌, arith}
use Rattle.std.specs.List.{All}
use Rattle.std.proofs.lemmas.List.{map-append}
use Rattle.std.proofs.lemmas.List.Elements.{All-push}
use Rattle.csv.specs.Records.{AllText, fields_of}
use Rattle.calc_addr.specs.declared.cell.TheConstants.{LAST_COL}
use Rattle.formula_reader.specs.Fields.{field_of}
use Rattle.calc_book.specs.BookCells.{Fields, filled, with_fields, with_records}
use Rattle.calc_book.specs.Growing.{cells_with, taken}
use Rattle.calc_book.proofs.TakenRecords.{filled_first, filled_last, one_longer, one_more}
use Rattle.calc_book.proofs.growing.GrowingBook.hold.Goals as goal

pub returns-clause-grown : goal.returns-clause-grown
returns-clause-grown c row rest all within h =
    let before = c.args.self.now in
    let fields = fields_of c.args.fields in
    let pushed : c.push.new.self.items ≡ before.rows.items ++ (c.args.fields ∷ []) = search rules in
    let more = ap (map fields_of) pushed ∙ map-append fields_of before.rows.items (c.args.fields ∷ []) in
    let cells = ap (with_records field_of before.row before.book.cells) more
    ∙ one_more before.row before.book.cells (taken before) fields
    ∙ ap (λ n. with_fields field_of n 1 (cells_with before) fields) h.next
    in
    record {
      names = h.names;
      from = h.from;
      next = omega (arith, ap length more, one_longer (taken before) fields, h.next);
      to = omega (arith, within);
      few = subst (All (λ (fields : Fields). length fields ≤ LAST_COL)) (sym more) (All-push (λ (fields : Fields). length fields ≤ LAST_COL) (taken before) fields h.few c.requires.few);
      text = subst (All AllText) (sym more) (All-push AllText (taken before) fields h.text c.requires.text);
      cells = ap (λ cells. with_records field_of (row + 1) cells rest) cells ∙ h.cells;
      fits = omega (arith, h.fits, ap filled more, filled_last (taken before) fields);
      left = omega (arith, h.left, filled_first fields rest);
    }
