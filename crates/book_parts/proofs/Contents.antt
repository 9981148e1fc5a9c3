-- A book of cells without names, and one with them.
use Rattle.std.proofs.Common.{◌≡◌, Option, None, Some, refl}
use Rattle.std.specs.Option.{IfSome}
use Rattle.calc_addr.specs.Places.{Place}
use Rattle.calc_model.specs.Books.{Book, IsBook, NameEntries, content_at}
use Rattle.calc_model.specs.CellEdits.{CellEntries}
use Rattle.calc_model.specs.NamedAreas.{AreNames}
use Rattle.cell_columns.specs.Cells.{cells_only}

-- names are nothing to what cells hold
pub same_content : (book : Book) (q : Place) → content_at (cells_only book.cells) q ≡ content_at book q
unfolding content_at
same_content book q = refl

pub together : (cells : CellEntries) (names : NameEntries) → IsBook (cells_only cells) → AreNames names → IsBook (record { cells = cells; names = names })
together cells names is named = record {
  cells_in_order = is.cells_in_order;
  cells_held = is.cells_held;
  cells_in_limit = is.cells_in_limit;
  names_in_order = named.in_order;
  names_spelled = named.spelled;
  names_in_limit = named.in_limit;
}

pub some_weaker : {T : Type 0} {P Q : T → Type 0} (o : Option T) → ((x : T) → P x → Q x) → IfSome o P → IfSome o Q
some_weaker None more none = none
some_weaker (Some x) more is = more x is
