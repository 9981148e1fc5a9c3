use Rattle.std.proofs.Common.{◌-◌, subst}
use Rattle.std.specs.Prelude.{slice_index_or}
use Rattle.calc_addr.specs.Places.{Place}
use Rattle.calc_model.specs.Books.{Book}
use Rattle.block_column.specs.declared.slot.Slot.TheVariants as slot
use Rattle.cell_columns.specs.Looks.{AreSlotsOf, Has}
use Rattle.book_parts.proofs.Contents.{same_content}
use Rattle.book_parts.proofs.parts.BookParts.column.Goals as goal

pub returns : goal.returns
returns c =
    let book : Book = record { cells = c.self.inside.cells; names = c.self.inside.names } in
    let slots = c.column.result.now.slots in
    subst (λ (b : Book). AreSlotsOf b c.args.sheet c.args.col slots) c.self.view_is
    (record {
      all = c.column.ensures.all;
      each = λ row from to.
          let q : Place = record { sheet = c.args.sheet; col = c.args.col; row = row } in
          subst (Has (slice_index_or slots (row - 1) slot.Empty)) (same_content book q) (c.column.ensures.each row from to);
    })
