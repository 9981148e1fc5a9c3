-- The book after an edit that fits, and the causes of those that don't.
use Rattle.std.proofs.Common.{◌≡◌, ◌≤◌, ◌<◌, ◌+◌, ◌≢◌, ℕ, suc, true, false, ◌&&◌, not, cond, nat_le, arith, List, [], ◌∷◌, length, refl, sym, ap, ◌∙◌}
use Rattle.std.specs.Prelude.{Ok, Err, Some, is_some}
use Rattle.std.specs.BTreeMap.{insert_entry}
use Rattle.std.specs.FinMap.Entries.{find}
use Rattle.std.specs.Ordering.{is_eq, match_ordering}
use Rattle.std.specs.Str.{str_to_ascii_uppercase}
use Rattle.std.specs.declared.cmp.Ordering.{Ordering}
use Rattle.std.specs.declared.cmp.Ordering.TheVariants.{Less, Equal, Greater}
use Rattle.std.proofs.lemmas.Bool.{eq-eqb, le-leb, ne_eqb}
use Rattle.calc_addr.specs.Places.{Place, Rectangle}
use Rattle.calc_addr.specs.ValidReferences.{is_rectangle}
use Rattle.calc_model.specs.declared.limits.TheConstants.{MOST_CELLS, MOST_NAMES}
use Rattle.calc_model.specs.declared.content.Content.{Content}
use Rattle.calc_model.specs.declared.edit.Edit.TheVariants.{Set, Clear, Copy, Fill, InsertRows, DeleteRows, Name, Unname}
use Rattle.calc_model.specs.declared.edit.EditCause.TheVariants.{OffSheet, BadName, NoName, NamesFull, RowsFull, CellsFull}
use Rattle.calc_model.specs.Books.{Book, NameEntries, content_at, with_content}
use Rattle.calc_model.specs.CellEdits.{CellEntries, after_copy, after_fill, area_at, without_area}
use Rattle.calc_model.specs.NamedAreas.{is_defined, name_cmp, names_after_deletion, names_after_insertion, with_name, without_name}
use Rattle.calc_model.specs.RowEdits.{are_rows, cells_after_deletion, cells_after_insertion, is_pushed_out}
use Rattle.std.proofs.lemmas.Bool.Decides.{nat_tests}
use Rattle.calc_model.specs.Step.{if_cells_fit, if_names_fit, step, with_cells}
use Rattle.calc_model.specs.Tokens.{is_name}

same_book : (before after : Book) (cells : CellEntries) → after.cells ≡ cells → after.names ≡ before.names → with_cells before cells ≡ after
same_book before after cells same names =
    ap (λ (es : CellEntries). with_cells before es) (sym same) ∙ ap (λ names. record after { names = names }) (sym names)

same_parts : (first second : Book) → second.cells ≡ first.cells → second.names ≡ first.names → first ≡ second
same_parts first second cells names = ap (λ (es : CellEntries). record first { cells = es }) (sym cells) ∙ ap (λ names. record second { names = names }) (sym names)

fits : (before after : Book) (cells : CellEntries) → after.cells ≡ cells → after.names ≡ before.names → length cells ≤ MOST_CELLS → if_cells_fit (with_cells before cells) ≡ Ok after
fits before after cells same names few =
    ap (λ b. cond b (Ok (with_cells before cells)) (Err CellsFull)) (le-leb (length cells) MOST_CELLS few)
    ∙ ap Ok (same_book before after cells same names)

full : (before : Book) (cells : CellEntries) → nat_le (length cells) MOST_CELLS ≡ false → if_cells_fit (with_cells before cells) ≡ Err CellsFull
full before cells many = ap (λ b. cond b (Ok (with_cells before cells)) (Err CellsFull)) many

-- a new key is one entry more
length-new : {K X : Type 0} (R : K → K → Ordering) (es : List (K × X)) (key : K) (value : X) → is_some (find R key es) ≡ false → length (insert_entry R es key value) ≡ length es + 1
length-new R [] key value new = refl
length-new R (e ∷ es) key value new =
    elim (R key e.0) as (λ o. is_some (cond (is_eq o) (Some e.1) (find R key es)) ≡ false → length (match_ordering o ((key, value) ∷ e ∷ es) ((e.0, value) ∷ es) (e ∷ insert_entry R es key value)) ≡ suc (length es) + 1) [
      | Less ↦ λ _. omega arith
      | Equal ↦ λ h. cc
      | Greater ↦ λ h. omega (arith, length-new R es key value h)
    ] new

module _ (before : Book) where
  pub set_step : (after : Book) (cell : Place) (content : Content) → after.cells ≡ with_content before.cells cell content → after.names ≡ before.names → length (with_content before.cells cell content) ≤ MOST_CELLS → step before (Set cell content) ≡ Ok after
  set_step after cell content = fits before after (with_content before.cells cell content)

  pub clear_step : (after : Book) (area : Rectangle) → after.cells ≡ without_area before.cells area → after.names ≡ before.names → step before (Clear area) ≡ Ok after
  clear_step after area same names = ap Ok (same_book before after (without_area before.cells area) same names)

  module _ (area : Rectangle) (to : Place) where
    on_sheet : to.sheet ≡ area.sheet → is_rectangle (area_at area to) ≡ true → step before (Copy area to) ≡ if_cells_fit (with_cells before (after_copy before.cells area to))
    on_sheet sheets place =
        ap (λ b. cond (b && is_rectangle (area_at area to)) (if_cells_fit (with_cells before (after_copy before.cells area to))) (Err OffSheet)) (eq-eqb to.sheet area.sheet sheets)
        ∙ ap (λ b. cond b (if_cells_fit (with_cells before (after_copy before.cells area to))) (Err OffSheet)) place

    pub copy_step : (after : Book) → to.sheet ≡ area.sheet → is_rectangle (area_at area to) ≡ true → after.cells ≡ after_copy before.cells area to → after.names ≡ before.names → length (after_copy before.cells area to) ≤ MOST_CELLS → step before (Copy area to) ≡ Ok after
    copy_step after sheets place same names few = on_sheet sheets place ∙ fits before after (after_copy before.cells area to) same names few

    pub copy_full : to.sheet ≡ area.sheet → is_rectangle (area_at area to) ≡ true → nat_le (length (after_copy before.cells area to)) MOST_CELLS ≡ false → step before (Copy area to) ≡ Err CellsFull
    copy_full sheets place many = on_sheet sheets place ∙ full before (after_copy before.cells area to) many

    pub copy_elsewhere : to.sheet ≢ area.sheet → step before (Copy area to) ≡ Err OffSheet
    copy_elsewhere apart =
        ap (λ b. cond (b && is_rectangle (area_at area to)) (if_cells_fit (with_cells before (after_copy before.cells area to))) (Err OffSheet)) (ne_eqb to.sheet area.sheet apart)

    pub copy_outside : to.sheet ≡ area.sheet → is_rectangle (area_at area to) ≡ false → step before (Copy area to) ≡ Err OffSheet
    copy_outside sheets out =
        ap (λ b. cond (b && is_rectangle (area_at area to)) (if_cells_fit (with_cells before (after_copy before.cells area to))) (Err OffSheet)) (eq-eqb to.sheet area.sheet sheets)
        ∙ ap (λ b. cond b (if_cells_fit (with_cells before (after_copy before.cells area to))) (Err OffSheet)) out

  module _ (from : Place) (area : Rectangle) where
    abbrev pub filled : CellEntries
    filled = after_fill before.cells from (content_at before from) area

    in_sheet : from.sheet ≡ area.sheet → step before (Fill from area) ≡ if_cells_fit (with_cells before filled)
    in_sheet sheets = ap (λ b. cond b (if_cells_fit (with_cells before filled)) (Err OffSheet)) (eq-eqb from.sheet area.sheet sheets)

    pub fill_step : (after : Book) → from.sheet ≡ area.sheet → after.cells ≡ filled → after.names ≡ before.names → length filled ≤ MOST_CELLS → step before (Fill from area) ≡ Ok after
    fill_step after sheets same names few = in_sheet sheets ∙ fits before after filled same names few

    pub fill_full : from.sheet ≡ area.sheet → nat_le (length filled) MOST_CELLS ≡ false → step before (Fill from area) ≡ Err CellsFull
    fill_full sheets many = in_sheet sheets ∙ full before filled many

    pub fill_elsewhere : from.sheet ≢ area.sheet → step before (Fill from area) ≡ Err OffSheet
    fill_elsewhere apart = ap (λ b. cond b (if_cells_fit (with_cells before filled)) (Err OffSheet)) (ne_eqb from.sheet area.sheet apart)

  module _ (sheet place count : ℕ) where
    abbrev pub inserted : Book
    inserted = record { cells = cells_after_insertion sheet place count before.cells; names = names_after_insertion sheet place count before.names }

    abbrev pub deleted : Book
    deleted = record { cells = cells_after_deletion sheet place count before.cells; names = names_after_deletion sheet place count before.names }

    pub insert_step : (after : Book) → are_rows sheet place count ≡ true → is_pushed_out sheet place count before.cells ≡ false → after.cells ≡ inserted.cells → after.names ≡ inserted.names → step before (InsertRows sheet place count) ≡ Ok after
    insert_step after rows inside cells names =
        ap (λ b. cond (not b) (Err OffSheet) (cond (is_pushed_out sheet place count before.cells) (Err RowsFull) (Ok inserted))) rows
        ∙ ap (λ b. cond b (Err RowsFull) (Ok inserted)) inside
        ∙ ap Ok (same_parts inserted after cells names)

    pub insert_outside : are_rows sheet place count ≡ false → step before (InsertRows sheet place count) ≡ Err OffSheet
    insert_outside rows = ap (λ b. cond (not b) (Err OffSheet) (cond (is_pushed_out sheet place count before.cells) (Err RowsFull) (Ok inserted))) rows

    pub insert_full : are_rows sheet place count ≡ true → is_pushed_out sheet place count before.cells ≡ true → step before (InsertRows sheet place count) ≡ Err RowsFull
    insert_full rows out =
        ap (λ b. cond (not b) (Err OffSheet) (cond (is_pushed_out sheet place count before.cells) (Err RowsFull) (Ok inserted))) rows
        ∙ ap (λ b. cond b (Err RowsFull) (Ok inserted)) out

    pub delete_step : (after : Book) → are_rows sheet place count ≡ true → after.cells ≡ deleted.cells → after.names ≡ deleted.names → step before (DeleteRows sheet place count) ≡ Ok after
    delete_step after rows cells names = ap (λ b. cond (not b) (Err OffSheet) (Ok deleted)) rows ∙ ap Ok (same_parts deleted after cells names)

    pub delete_outside : are_rows sheet place count ≡ false → step before (DeleteRows sheet place count) ≡ Err OffSheet
    delete_outside rows = ap (λ b. cond (not b) (Err OffSheet) (Ok deleted)) rows

  -- a name that is spelled
  module _ (name : List ℕ) (area : Rectangle) (spelled : is_name name ≡ true) where
    abbrev named : Book
    named = record before { names = with_name before.names name area }

    passed : step before (Name name area) ≡ if_names_fit named
    passed = ap (λ b. cond b (if_names_fit named) (Err BadName)) spelled

    pub define_step : (after : Book) → after.cells ≡ before.cells → after.names ≡ named.names → length after.names ≤ MOST_NAMES → step before (Name name area) ≡ Ok after
    define_step after cells names few =
        passed
        ∙ ap (λ b. cond b (Ok named) (Err NamesFull)) (le-leb (length named.names) MOST_NAMES (omega (arith, ap (λ (ns : NameEntries). length ns) names)))
        ∙ ap Ok (same_parts named after cells names)

    pub define_full : is_defined before.names name ≡ false → length before.names ≡ MOST_NAMES → step before (Name name area) ≡ Err NamesFull
    define_full new full_of =
        passed
        ∙ ap (λ b. cond b (Ok named) (Err NamesFull)) (many (length named.names) (omega (arith, length-new name_cmp before.names (str_to_ascii_uppercase name) (Some area) new, full_of)))
      where
        many : (n : ℕ) → MOST_NAMES < n → nat_le n MOST_NAMES ≡ false
        many n h = grind (arith, nat_tests, h)

  pub remove_step : (after : Book) (name : List ℕ) → is_defined before.names name ≡ true → after.cells ≡ before.cells → after.names ≡ without_name before.names name → step before (Unname name) ≡ Ok after
  remove_step after name there cells names =
      ap (λ b. cond b (Ok (record before { names = without_name before.names name })) (Err NoName)) there
      ∙ ap Ok (same_parts (record before { names = without_name before.names name }) after cells names)
