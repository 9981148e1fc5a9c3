-- A cell of columns that is set.
use Rattle.std.proofs.Common.{◌≡◌, ◌≢◌, ℕ, ◌≤◌, ◌<◌, true, false, cond, not, ◌||◌, List, [], ◌∷◌, length, refl, sym, ap, subst, ◌∙◌, ◌⊎◌, inl, inr, arith}
use Rattle.std.specs.Prelude.{Ok, Err}
use Rattle.std.specs.Ordering.{eq_by_cmp}
use Rattle.std.proofs.lemmas.Bool.{le-leb}
use Rattle.calc_addr.specs.declared.cell.TheConstants.{LAST_ROW}
use Rattle.calc_addr.specs.Places.{IsPlace, Place, place_cmp}
use Rattle.calc_model.specs.declared.content.Content.{Content}
use Rattle.calc_model.specs.declared.content.Content.TheVariants.{Formula}
use Rattle.calc_model.specs.declared.edit.Edit.TheVariants.{Set}
use Rattle.calc_model.specs.declared.edit.EditCause.TheVariants.{CellsFull}
use Rattle.calc_model.specs.declared.limits.TheConstants.{MOST_CELLS}
use Rattle.calc_model.specs.Books.{IsBook, content_at, is_content, is_held, is_place, with_content}
use Rattle.calc_model.specs.CellEdits.{CellEntries}
use Rattle.calc_model.proofs.BooksKept.{keeps_books}
use Rattle.calc_model.proofs.EntriesKept.{both_so}
use Rattle.calc_model.proofs.Places.{same_places}
use Rattle.calc_model.proofs.Reached.{or_second, same_cell}
use Rattle.formula_code.specs.Codes.{Codes, IsLive, has_valid_references, total_uses, uses_at}
use Rattle.formula_code.specs.Relative.{absolute}
use Rattle.block_column.specs.declared.slot.Slot.{Slot}
use Rattle.block_column.specs.declared.slot.Slot.TheVariants as slot
use Rattle.block_column.specs.Kinds.{is_filled}
use Rattle.kept_codes.specs.declared.cells.TheConstants.{COLUMNS}
use Rattle.cell_columns.specs.Cells.{Column, cells_of, cells_only, column_at, content_of, slot_at, with_slot}
use Rattle.cell_columns.specs.Sheets.{AreSheets, IsFit}
use Rattle.cell_columns.specs.Taken.{AreReturned, IsSlotOf, KeepsForms}
use Rattle.cell_columns.specs.Uses.{formula_of, formulas_in, use_of, uses_in}
use Rattle.cell_columns.proofs.Orders.{in_order}
use Rattle.cell_columns.proofs.Edited.{live, same_content, stands, still_sheets}
use Rattle.cell_columns.proofs.PutSlot.{at_cell, elsewhere, put_all, put_rows, summed_put}
use Rattle.cell_columns.proofs.Contents.{set_content}
use Rattle.cell_columns.proofs.Told.{holds, is_book, place_test, same_cells}

module _ (old mid new : Codes) (before : List Column) (was : AreSheets old before) (cell : Place) (is : IsPlace cell) (content : Content) (x : Slot) (put : IsSlotOf old mid cell content x) (returned : AreReturned mid new (slot_at before cell ∷ [])) where
  after : List Column
  after = with_slot before cell x

  forms : KeepsForms old new
  forms id first last =
      let between : IsLive mid id = put.taken.live id first in
      returned.forms id between last ∙ put.taken.forms id first between

  used : (id : ℕ) → uses_at new id ≡ uses_in id (with_slot before cell x)
  used id =
      omega (arith, returned.uses id, put.taken.uses id, was.used id, summed_put before was.all_columns was.all_rows cell is x (use_of id))

  total : total_uses new ≡ formulas_in (with_slot before cell x)
  total =
      omega (arith, returned.total, put.taken.total, was.total, summed_put before was.all_columns was.all_rows cell is x formula_of)

  here : slot_at (with_slot before cell x) cell ≡ x
  here = at_cell before was.all_columns was.all_rows cell is x

  all_after : length (with_slot before cell x) ≡ COLUMNS
  all_after = put_all before was.all_columns was.all_rows cell is x

  rows_after : (n : ℕ) → n < COLUMNS → length (column_at (with_slot before cell x) n) ≡ LAST_ROW
  rows_after = put_rows before was.all_columns was.all_rows cell is x

  live_now : (id : ℕ) → x ≡ slot.Formula id → IsLive new id
  live_now id formula = live new id (subst (λ n. 1 ≤ n) (sym (used id)) (stands (with_slot before cell x) all_after rows_after cell is id (here ∙ formula)))

  -- the cell holds the content
  held : content_of new cell x ≡ content
  held =
      elim x as (λ s. x ≡ s → content_of new cell s ≡ content_of mid cell s) [
        | slot.Empty ↦ λ _. refl
        | slot.Number n ↦ λ _. refl
        | slot.Words text ↦ λ _. refl
        | slot.Bad fault ↦ λ _. refl
        | slot.Raw text ↦ λ _. refl
        | slot.Formula id ↦ λ formula. ap (λ form. Formula (absolute cell form)) (returned.forms id (put.coded id formula).live (live_now id formula))
      ] refl
      ∙ put.holds

  fit : IsFit new cell x
  fit = record {
    coded = λ id formula. record {
      live = live_now id formula;
      valid = subst (λ form. has_valid_references (absolute cell form) ≡ true) (sym (returned.forms id (put.coded id formula).live (live_now id formula))) (put.coded id formula).valid;
    };
    fit = λ filled. subst (λ c. is_content c ≡ true) (sym held) (put.fit filled);
  }

  other : (q : Place) → eq_by_cmp place_cmp q cell ≡ false → q ≢ cell
  other q apart e = let same : eq_by_cmp place_cmp q cell ≡ true = subst (λ p. eq_by_cmp place_cmp q p ≡ true) e (same_cell q) in cc

  each : (q : Place) → IsPlace q → (slot_at (with_slot before cell x) q ≡ slot_at before q) ⊎ IsFit new q (slot_at (with_slot before cell x) q)
  each q at =
      elim (eq_by_cmp place_cmp q cell) as (λ b. eq_by_cmp place_cmp q cell ≡ b → (slot_at (with_slot before cell x) q ≡ slot_at before q) ⊎ IsFit new q (slot_at (with_slot before cell x) q)) [
        | true ↦ λ same. inr (subst (λ p. IsFit new p (slot_at (with_slot before cell x) p)) (sym (same_places q cell same)) (subst (IsFit new cell) (sym here) fit))
        | false ↦ λ apart. inl (elsewhere before was.all_columns was.all_rows cell is x q at (other q apart))
      ] refl

  pub sheets_set : AreSheets new (with_slot before cell x)
  sheets_set = still_sheets old new before (with_slot before cell x) was forms all_after rows_after used each total

  seen : (q : Place) → IsPlace q → content_at (cells_only (with_content (cells_of old before) cell content)) q ≡ content_of new q (slot_at (with_slot before cell x) q)
  seen q at =
      set_content (cells_of old before) cell q content (in_order old before)
      ∙ elim (eq_by_cmp place_cmp q cell) as (λ b. eq_by_cmp place_cmp q cell ≡ b → cond b content (content_at (cells_only (cells_of old before)) q) ≡ content_of new q (slot_at (with_slot before cell x) q)) [
        | true ↦ λ same. subst (λ p. content ≡ content_of new p (slot_at (with_slot before cell x) p)) (sym (same_places q cell same)) (sym (ap (content_of new cell) here ∙ held))
        | false ↦ λ apart.
            let stays : slot_at (with_slot before cell x) q ≡ slot_at before q = elsewhere before was.all_columns was.all_rows cell is x q at (other q apart) in
            holds old before q at ∙ sym (same_content old new before (with_slot before cell x) was forms all_after rows_after used q at stays)
      ] refl

  book_set : length (cells_of old before) ≤ MOST_CELLS → length (with_content (cells_of old before) cell content) ≤ MOST_CELLS → IsBook (cells_only (with_content (cells_of old before) cell content))
  book_set few fits =
      let cells : CellEntries = cells_of old before in
      keeps_books (cells_only cells) (cells_only (with_content cells cell content)) (Set cell content) (is_book old before was few)
      (both_so (is_place cell) _ (place_test cell is) valid)
      (ap (λ b. cond b (Ok (cells_only (with_content cells cell content))) (Err CellsFull)) (le-leb (length (with_content cells cell content)) MOST_CELLS fits))
    where
      valid : (not (is_held content) || is_content content) ≡ true
      valid = subst (λ c. (not (is_held c) || is_content c) ≡ true) put.holds (elim x as (λ s. x ≡ s → (not (is_held (content_of mid cell s)) || is_content (content_of mid cell s)) ≡ true) [
        | slot.Empty ↦ λ _. refl
        | slot.Number n ↦ λ same. valid_of (slot.Number n) same refl
        | slot.Words text ↦ λ same. valid_of (slot.Words text) same refl
        | slot.Bad fault ↦ λ same. valid_of (slot.Bad fault) same refl
        | slot.Raw text ↦ λ same. valid_of (slot.Raw text) same refl
        | slot.Formula id ↦ λ same. valid_of (slot.Formula id) same refl
      ] refl)
        where
          valid_of : (s : Slot) → x ≡ s → is_filled s ≡ true → (not (is_held (content_of mid cell s)) || is_content (content_of mid cell s)) ≡ true
          valid_of s same filled =
              let good : is_content (content_of mid cell s) ≡ true =
              subst (λ c. is_content c ≡ true) (sym (ap (content_of mid cell) (sym same) ∙ put.holds)) (put.fit (subst (λ t. is_filled t ≡ true) (sym same) filled)) in
              or_second (not (is_held (content_of mid cell s))) (is_content (content_of mid cell s)) good

  pub cells_set : length (cells_of old before) ≤ MOST_CELLS → length (with_content (cells_of old before) cell content) ≤ MOST_CELLS → cells_of new (with_slot before cell x) ≡ with_content (cells_of old before) cell content
  cells_set few fits = same_cells new (with_slot before cell x) sheets_set (with_content (cells_of old before) cell content) (book_set few fits) seen
