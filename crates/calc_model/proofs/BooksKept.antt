-- A book stays one under every edit: its entries stay in order, and what they can be.
use Rattle.std.proofs.Common.{◌≡◌, ◌≤◌, ◌+◌, ℕ, Bool, true, false, not, ◌&&◌, ◌||◌, cond, nat_le, nat_lt, List, [], ◌∷◌, length, map, refl, subst, arith, lit≤}
use Rattle.std.specs.Prelude.{Result, Ok, Err, Some, ◌==◌}
use Rattle.std.specs.List.{filter, list_all, list_any}
use Rattle.std.specs.Option.{unwrap_or}
use Rattle.std.specs.Ordering.{eq_by_cmp}
use Rattle.std.specs.FinMap.Entries.{find, is_sorted}
use Rattle.std.specs.BTreeMap.{insert_entry, is_at}
use Rattle.std.specs.Map.{remove_entry}
use Rattle.std.proofs.lemmas.Bool.{leb-true}
use Rattle.std.proofs.lemmas.Bool.Decides.{leb_tells}
use Rattle.std.proofs.lemmas.List.{length-map}
use Rattle.calc_addr.specs.Places.{IsRectangle, Place, Rectangle, covers, place_cmp, places, single}
use Rattle.calc_addr.specs.ValidReferences.{is_rectangle}
use Rattle.calc_addr.specs.Shifts.{area_after_deletion, area_after_insertion}
use Rattle.calc_model.specs.declared.limits.TheConstants.{MOST_CELLS, MOST_GENERATED_ROWS, MOST_NAMES}
use Rattle.calc_model.specs.declared.tree.Tree.{Tree}
use Rattle.calc_model.specs.declared.content.Content.{Content}
use Rattle.calc_model.specs.declared.content.Content.TheVariants.{Empty, Constant, Formula, Raw}
use Rattle.calc_model.specs.declared.edit.Edit.TheVariants.{Set, Clear, Copy, Fill, InsertRows, DeleteRows, Name, Unname, Make}
use Rattle.calc_model.specs.declared.edit.EditCause.{EditCause}
use Rattle.calc_model.specs.declared.edit.EditCause.TheVariants.{OffSheet, BadName, NoName, NamesFull, RowsFull, CellsFull}
use Rattle.calc_model.specs.Books.{Book, IsBook, content_at, is_cell_entry, is_content, is_held, is_place, with_content}
use Rattle.calc_model.specs.CellEdits.{CellEntries, after_copy, after_fill, area_at, copied_entry, equal_place, filled_entries, moved_content, with_entries, with_tree, within_area, without_area}
use Rattle.calc_model.specs.Formed.{is_formed}
use Rattle.calc_model.specs.GeneratedBook.{generated_book, generated_entries}
use Rattle.calc_model.specs.Homes.{cols_between, home_after_deletion, home_after_insertion, rows_between}
use Rattle.calc_model.specs.NamedAreas.{AreNames, is_defined, names_after_deletion, names_after_insertion, with_name, without_name}
use Rattle.calc_model.specs.RowEdits.{are_rows, cells_after_deletion, cells_after_insertion, is_in_rows, is_pushed_out}
use Rattle.calc_model.specs.Step.{KeepsBooks, if_cells_fit, with_cells}
use Rattle.calc_model.specs.Tokens.{is_name}
use Rattle.calc_model.specs.TreeShifts.{tree_after_deletion, tree_after_insertion}
use Rattle.calc_model.proofs.Areas.{Inside, all_places, both_true, inside}
use Rattle.calc_model.proofs.EntriesKept.{all-inserted, all-removed, both_so, length-inserted, length-removed, sorted-inserted, sorted-removed}
use Rattle.calc_model.proofs.EntriesMoved.{all-filter, all-filtered, all-inserts, all-map, length-filter, sorted-filter, sorted-inserts, sorted-moved}
use Rattle.calc_model.proofs.FormedShifts.{deleted_is_formed, inserted_is_formed, moved_is_formed}
use Rattle.calc_model.proofs.GeneratedKept.{generated_fit, generated_held, generated_in_sheet}
use Rattle.calc_model.proofs.NamesKept.{on_sheet_kept, with_name_kept, without_name_kept}
use Rattle.calc_model.proofs.Places.{places_total}
use Rattle.calc_model.proofs.RowsKept.{deleted_is_place, deleted_target, deletion_rises, inserted_is_place, inserted_target, insertion_rises, rectangle_from, tested_rectangle}

-- one content more is one entry more at most
pub longer_by_one : (es : CellEntries) (cell : Place) (content : Content) → length (with_content es cell content) ≤ length es + 1
longer_by_one es cell content =
    elim (is_held content) as (λ b. length (cond b (insert_entry place_cmp es cell content) (remove_entry (is_at (place_cmp cell)) es)) ≤ length es + 1) [
      | true ↦ length-inserted place_cmp cell content es
      | false ↦ omega (arith, length-removed (is_at (place_cmp cell)) es)
    ]

-- Entries of cells, in order and each one that a cell can have.
record AreCells (es : CellEntries) : Type 0 where
  sorted : is_sorted place_cmp es ≡ true
  held : list_all is_cell_entry es ≡ true

-- the entries with a content in a cell, or with nothing there
set_kept : (cell : Place) (content : Content) (es : CellEntries) → is_place cell ≡ true → (not (is_held content) || is_content content) ≡ true → AreCells es → AreCells (with_content es cell content)
set_kept cell content es p c are =
    elim (is_held content) as (λ b. (not b || is_content content) ≡ true → AreCells (cond b (insert_entry place_cmp es cell content) (remove_entry (is_at (place_cmp cell)) es))) [
      | true ↦ λ is. record {
        sorted = sorted-inserted place_cmp places_total cell content es are.sorted;
        held = all-inserted place_cmp is_place is_content cell content es p is are.held;
      }
      | false ↦ λ _. record {
        sorted = sorted-removed place_cmp (is_at (place_cmp cell)) es are.sorted;
        held = all-removed (is_at (place_cmp cell)) is_cell_entry es are.held;
      }
    ] c

-- some of the entries
filter_kept : (test : Place → Bool) (es : CellEntries) → AreCells es → AreCells (filter (λ e. test e.0) es)
filter_kept test es are = record {
  sorted = sorted-filter place_cmp test es are.sorted;
  held = all-filter is_cell_entry (λ e. test e.0) es are.held;
}

-- the entries with several more
inserts_kept : (news es : CellEntries) → list_all is_cell_entry news ≡ true → AreCells es → AreCells (with_entries es news)
inserts_kept news es is are = record {
  sorted = sorted-inserts place_cmp places_total news es are.sorted;
  held = all-inserts place_cmp is_place is_content news es is are.held;
}

-- a content with another formed tree in place of its tree
with_tree_kept : (change : Tree → Tree) → ((x : Tree) → is_formed x ≡ true → is_formed (change x) ≡ true) → (content : Content) → is_content content ≡ true → is_content (with_tree change content) ≡ true
with_tree_kept change keeps Empty is = cc
with_tree_kept change keeps (Constant value) is = is
with_tree_kept change keeps (Formula tree) is = keeps tree is
with_tree_kept change keeps (Raw text) is = refl

moved_kept : (from to : Place) (content : Content) → is_content content ≡ true → is_content (moved_content from to content) ≡ true
moved_kept from to = with_tree_kept _ (moved_is_formed (cols_between from to) (rows_between from to))

equal_place_lies : (area : Rectangle) (to p : Place) → is_rectangle (area_at area to) ≡ true → covers area p ≡ true → is_place (equal_place area to p) ≡ true
equal_place_lies area to p is covered =
    let lies : IsRectangle (area_at area to) = rectangle_from (area_at area to) is in
    let at : Inside area p = inside area p covered in
    tested_rectangle (single (equal_place area to p)) (record {
      sheet_in = lies.sheet_in;
      cols_from = omega (arith, lies.cols_from);
      cols_in_order = omega arith;
      cols_to = omega (arith, lies.cols_to, at.col_to, at.col_from);
      rows_from = omega (arith, lies.rows_from);
      rows_in_order = omega arith;
      rows_to = omega (arith, lies.rows_to, at.row_to, at.row_from);
    })

copied_kept : (area : Rectangle) (to : Place) (e : Place × Content) → is_rectangle (area_at area to) ≡ true → is_cell_entry e ≡ true → covers area e.0 ≡ true → is_cell_entry (copied_entry area to e) ≡ true
copied_kept area to e is held inside =
    let parts = both_true (is_place e.0) (is_content e.1) held in
    both_so _ _ (equal_place_lies area to e.0 is inside) (moved_kept e.0 (equal_place area to e.0) e.1 parts.1)

copy_kept : (es : CellEntries) (area : Rectangle) (to : Place) → is_rectangle (area_at area to) ≡ true → AreCells es → AreCells (after_copy es area to)
unfolding after_copy
copy_kept es area to is are =
    inserts_kept (map (copied_entry area to) (within_area es area)) (without_area es (area_at area to))
    (all-map is_cell_entry (λ e. covers area e.0) is_cell_entry (copied_entry area to) (λ e. copied_kept area to e is) (within_area es area) (all-filter is_cell_entry (λ e. covers area e.0) es are.held) (all-filtered (λ e. covers area e.0) es))
    (filter_kept (λ q. not (covers (area_at area to) q)) es are)

cell_of_area : (area : Rectangle) → is_rectangle area ≡ true → (q : Place) → covers area q ≡ true → is_place q ≡ true
cell_of_area area is q covered =
    let lies : IsRectangle area = rectangle_from area is in
    let at : Inside area q = inside area q covered in
    tested_rectangle (single q) (record {
      sheet_in = omega (arith, lies.sheet_in, at.same_sheet);
      cols_from = omega (arith, lies.cols_from, at.col_from);
      cols_in_order = omega arith;
      cols_to = omega (arith, lies.cols_to, at.col_to);
      rows_from = omega (arith, lies.rows_from, at.row_from);
      rows_in_order = omega arith;
      rows_to = omega (arith, lies.rows_to, at.row_to);
    })

filled_kept : (from : Place) (content : Content) (area : Rectangle) → is_rectangle area ≡ true → (is_held content ≡ true → is_content content ≡ true) → list_all is_cell_entry (filled_entries from content area) ≡ true
filled_kept from content area is can =
    elim (is_held content) as (λ b. is_held content ≡ b → list_all is_cell_entry (cond b (map (λ q. (q, moved_content from q content)) (places area)) []) ≡ true) [
      | true ↦ λ held. all-map (covers area) is_place is_cell_entry (λ q. (q, moved_content from q content)) (λ q _ p. both_so _ _ p (moved_kept from q content (can held))) (places area) (all_places (covers area) area (λ q c. c)) (all_places is_place area (cell_of_area area is))
      | false ↦ λ _. refl
    ] refl

fill_kept : (es : CellEntries) (from : Place) (content : Content) (area : Rectangle) → is_rectangle area ≡ true → (is_held content ≡ true → is_content content ≡ true) → AreCells es → AreCells (after_fill es from content area)
unfolding after_fill
fill_kept es from content area is can are =
    inserts_kept (filled_entries from content area) (without_area es area) (filled_kept from content area is can) (filter_kept (λ q. not (covers area q)) es are)

all_true : {X : Type 0} (xs : List X) → list_all (λ x. true) xs ≡ true
all_true [] = refl
all_true (x ∷ xs) = all_true xs

none_passes : {X : Type 0} (test : X → Bool) (xs : List X) → list_any test xs ≡ false → list_all (λ x. not (test x)) xs ≡ true
none_passes test [] h = refl
none_passes test (x ∷ xs) h =
    elim (test x) as (λ b. (b || list_any test xs) ≡ false → (not b && list_all (λ y. not (test y)) xs) ≡ true) [
      | true ↦ λ is. cc
      | false ↦ λ is. none_passes test xs is
    ] h

insertion_kept : (sheet place count : ℕ) (es : CellEntries) → is_pushed_out sheet place count es ≡ false → AreCells es → AreCells (cells_after_insertion sheet place count es)
unfolding cells_after_insertion
insertion_kept sheet place count es inside are =
    let stay = none_passes (λ (e : Place × Content). nat_lt 1048576 (home_after_insertion sheet place count e.0).row) es inside in
    record {
      sorted = sorted-moved place_cmp (λ _. true) (home_after_insertion sheet place count) (λ e. with_tree (tree_after_insertion e.0 sheet place count) e.1) (λ k l _ _. insertion_rises sheet place count k l) es (all_true es) are.sorted;
      held = all-map is_cell_entry (λ e. not (nat_lt 1048576 (home_after_insertion sheet place count e.0).row)) is_cell_entry _ (λ e held low.
          let parts = both_true (is_place e.0) (is_content e.1) held in
          both_so _ _ (inserted_is_place sheet place count e.0 parts.0 (grind (arith, low))) (with_tree_kept _ (inserted_is_formed e.0 sheet place count) e.1 parts.1)) es are.held stay;
    }

deletion_kept : (sheet place count : ℕ) (es : CellEntries) → 1 ≤ place → AreCells es → AreCells (cells_after_deletion sheet place count es)
unfolding cells_after_deletion
deletion_kept sheet place count es from are =
    let left : CellEntries = filter (λ e. not (is_in_rows sheet place count e.0)) es in
    let kept : AreCells left = filter_kept (λ q. not (is_in_rows sheet place count q)) es are in
    let stay = all-filtered (λ (e : Place × Content). not (is_in_rows sheet place count e.0)) es in
    record {
      sorted = sorted-moved place_cmp (λ q. not (is_in_rows sheet place count q)) (home_after_deletion sheet place count) (λ e. with_tree (tree_after_deletion e.0 sheet place count) e.1) (deletion_rises sheet place count) left stay kept.sorted;
      held = all-map is_cell_entry (λ e. not (is_in_rows sheet place count e.0)) is_cell_entry _ (λ e held stays.
          let parts = both_true (is_place e.0) (is_content e.1) held in
          both_so _ _ (deleted_is_place sheet place count e.0 from parts.0 stays) (with_tree_kept _ (deleted_is_formed e.0 sheet place count from) e.1 parts.1)) left kept.held stay;
    }

as_many : (sheet place count : ℕ) (es : CellEntries) → length (cells_after_insertion sheet place count es) ≡ length es
unfolding cells_after_insertion
as_many sheet place count es = length-map es _

no_more : (sheet place count : ℕ) (es : CellEntries) → length (cells_after_deletion sheet place count es) ≤ length es
unfolding cells_after_deletion
no_more sheet place count es =
    let left : CellEntries = filter (λ e. not (is_in_rows sheet place count e.0)) es in
    let same : length (cells_after_deletion sheet place count es) ≡ length left = length-map left _ in
    omega (arith, same, length-filter (λ (e : Place × Content). not (is_in_rows sheet place count e.0)) es)

cells_of : (book : Book) → IsBook book → AreCells book.cells
cells_of book is = record { sorted = is.cells_in_order; held = is.cells_held }

names_of : (book : Book) → IsBook book → AreNames book.names
names_of book is = record { in_order = is.names_in_order; spelled = is.names_spelled; in_limit = is.names_in_limit }

book_is : (book : Book) → AreCells book.cells → length book.cells ≤ MOST_CELLS → AreNames book.names → IsBook book
book_is book cells few names = record {
  cells_in_order = cells.sorted;
  cells_held = cells.held;
  cells_in_limit = few;
  names_in_order = names.in_order;
  names_spelled = names.spelled;
  names_in_limit = names.in_limit;
}

-- where a test let the book pass, it passed
passed : (test : Bool) (book next : Book) (cause : EditCause) → cond test (Ok book) (Err cause) ≡ Ok next → (test ≡ true) × (book ≡ next)
passed true book next cause h = (refl, cc)
passed false book next cause h = cc

chosen : (test : Bool) (result : Result Book EditCause) (next : Book) (cause : EditCause) → cond test result (Err cause) ≡ Ok next → (test ≡ true) × (result ≡ Ok next)
chosen true result next cause h = (refl, h)
chosen false result next cause h = cc

passed_over : (test : Bool) (result : Result Book EditCause) (next : Book) (cause : EditCause) → cond test (Err cause) result ≡ Ok next → (test ≡ false) × (result ≡ Ok next)
passed_over true result next cause h = cc
passed_over false result next cause h = (refl, h)

-- a book with other cells that fit
fitting_kept : (book next : Book) (cells : CellEntries) → IsBook book → AreCells cells → if_cells_fit (with_cells book cells) ≡ Ok next → IsBook next
fitting_kept book next cells is are h =
    let fits = passed (nat_le (length cells) MOST_CELLS) (with_cells book cells) next CellsFull h in
    subst IsBook fits.1 (book_is (with_cells book cells) are (leb-true (length cells) MOST_CELLS fits.0) (names_of book is))

found_can : (q : Place) (es : CellEntries) → list_all is_cell_entry es ≡ true → is_held (unwrap_or (find place_cmp q es) Empty) ≡ true → is_content (unwrap_or (find place_cmp q es) Empty) ≡ true
found_can q [] all held = cc
found_can q (e ∷ es) all held =
    let parts = both_true (is_cell_entry e) (list_all is_cell_entry es) all in
    elim (eq_by_cmp place_cmp q e.0) as (λ b. is_held (unwrap_or (cond b (Some e.1) (find place_cmp q es)) Empty) ≡ true → is_content (unwrap_or (cond b (Some e.1) (find place_cmp q es)) Empty) ≡ true) [
      | true ↦ λ _. (both_true (is_place e.0) (is_content e.1) parts.0).1
      | false ↦ found_can q es parts.1
    ] held

content_can : (book : Book) → IsBook book → (q : Place) → is_held (content_at book q) ≡ true → is_content (content_at book q) ≡ true
unfolding content_at
content_can book is q = found_can q book.cells is.cells_held

rows_from : (sheet place count : ℕ) → not (are_rows sheet place count) ≡ false → 1 ≤ place
rows_from sheet place count h = grind (arith, leb_tells)

no_cells : AreCells []
no_cells = record { sorted = refl; held = refl }

no_names : AreNames []
no_names = record { in_order = refl; spelled = refl; in_limit = lit≤ tt }

pub generated_is_book : (start rows : ℕ) → rows ≤ MOST_GENERATED_ROWS → IsBook (generated_book start rows)
generated_is_book start rows few =
    book_is (generated_book start rows)
    (inserts_kept (generated_entries start rows) [] (generated_held start rows (generated_in_sheet rows few)) no_cells) (generated_fit start rows few) no_names

pub keeps_books : KeepsBooks
keeps_books book next (Set cell content) is valid stepped =
    let parts = both_true (is_place cell) (not (is_held content) || is_content content) valid in
    fitting_kept book next (with_content book.cells cell content) is (set_kept cell content book.cells parts.0 parts.1 (cells_of book is)) stepped
keeps_books book next (Clear area) is valid stepped =
    let left : CellEntries = without_area book.cells area in
    let same : with_cells book left ≡ next = cc in
    subst IsBook same (book_is (with_cells book left) (filter_kept (λ q. not (covers area q)) book.cells (cells_of book is)) (omega (arith, length-filter (λ e. not (covers area e.0)) book.cells, is.cells_in_limit)) (names_of book is))
keeps_books book next (Copy area to) is valid stepped =
    let on = chosen ((to.sheet == area.sheet) && is_rectangle (area_at area to)) _ next OffSheet stepped in
    let lies = both_true (to.sheet == area.sheet) (is_rectangle (area_at area to)) on.0 in
    fitting_kept book next (after_copy book.cells area to) is (copy_kept book.cells area to lies.1 (cells_of book is)) on.1
keeps_books book next (Fill from area) is valid stepped =
    let parts = both_true (is_place from) (is_rectangle area) valid in
    let on = chosen (from.sheet == area.sheet) _ next OffSheet stepped in
    fitting_kept book next (after_fill book.cells from (content_at book from) area) is (fill_kept book.cells from (content_at book from) area parts.1 (content_can book is from) (cells_of book is)) on.1
keeps_books book next (InsertRows sheet place count) is valid stepped =
    let rows = passed_over (not (are_rows sheet place count)) _ next OffSheet stepped in
    let room = passed_over (is_pushed_out sheet place count book.cells) _ next RowsFull rows.1 in
    let after : Book = record { cells = cells_after_insertion sheet place count book.cells; names = names_after_insertion sheet place count book.names } in
    let same : after ≡ next = cc in
    subst IsBook same (book_is after (insertion_kept sheet place count book.cells room.0 (cells_of book is)) (omega (arith, as_many sheet place count book.cells, is.cells_in_limit)) (on_sheet_kept sheet (area_after_insertion place count) (inserted_target place count) book.names (names_of book is)))
keeps_books book next (DeleteRows sheet place count) is valid stepped =
    let rows = passed_over (not (are_rows sheet place count)) _ next OffSheet stepped in
    let from = rows_from sheet place count rows.0 in
    let after : Book = record { cells = cells_after_deletion sheet place count book.cells; names = names_after_deletion sheet place count book.names } in
    let same : after ≡ next = cc in
    subst IsBook same (book_is after (deletion_kept sheet place count book.cells from (cells_of book is)) (omega (arith, no_more sheet place count book.cells, is.cells_in_limit)) (on_sheet_kept sheet (area_after_deletion place count) (deleted_target place count from) book.names (names_of book is)))
keeps_books book next (Name name area) is valid stepped =
    let spelled = chosen (is_name name) _ next BadName stepped in
    let after : Book = record book { names = with_name book.names name area } in
    let fits = passed (nat_le (length after.names) MOST_NAMES) after next NamesFull spelled.1 in
    subst IsBook fits.1 (book_is after (cells_of book is) is.cells_in_limit (with_name_kept book.names (names_of book is) name area spelled.0 valid (leb-true (length after.names) MOST_NAMES fits.0)))
keeps_books book next (Unname name) is valid stepped =
    let after : Book = record book { names = without_name book.names name } in
    let there = passed (is_defined book.names name) after next NoName stepped in
    subst IsBook there.1 (book_is after (cells_of book is) is.cells_in_limit (without_name_kept book.names (names_of book is) name))
keeps_books book next (Make start rows) is valid stepped =
    let same : generated_book start rows ≡ next = cc in
    subst IsBook same (generated_is_book start rows (leb-true rows MOST_GENERATED_ROWS valid))
