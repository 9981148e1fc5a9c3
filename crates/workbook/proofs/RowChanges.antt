-- What inserted and deleted rows leave: cells that they don't touch stay where they are and hold what they held.
use Rattle.std.proofs.Common.{◌≡◌, ◌<◌, ◌+◌, ◌-◌, nat_le, ℕ, Bool, true, false, ◌&&◌, ◌||◌, not, cond, List, [], ◌∷◌, map, Option, Some, None, unwrap_or, refl, sym, ap, subst, ◌∙◌, ◌⊎◌, inl, inr, arith}
use Rattle.std.specs.Prelude.{◌==◌, Err, Ok, OnOk, Result}
use Rattle.std.specs.List.{filter, list_all, list_any}
use Rattle.std.specs.Option.{option_map}
use Rattle.std.specs.Ordering.{eq_by_cmp, is_eq, nat_cmp, ordering_then}
use Rattle.std.specs.declared.cmp.Ordering.{Ordering}
use Rattle.std.specs.declared.cmp.Ordering.TheVariants.{Less, Equal, Greater}
use Rattle.std.specs.FinMap.Entries.{find}
use Rattle.std.proofs.lemmas.Bool.Decides.{nat_tests}
use Rattle.std.proofs.lemmas.Bool.{false_from_ne_true}
use Rattle.calc_addr.specs.Places.{Place, Rectangle, covers, place_cmp}
use Rattle.calc_addr.specs.Shifts.{is_deleted, row_after_deletion, row_after_insertion}
use Rattle.calc_model.specs.declared.tree.Tree.{Tree}
use Rattle.calc_model.specs.declared.content.Content.{Content}
use Rattle.calc_model.specs.declared.content.Content.TheVariants.{Empty, Constant, Formula, Raw}
use Rattle.calc_model.specs.Books.{Book, IsBook, NameEntries, area_named, content_at, entry_named, is_cell_entry, is_content, is_formula, is_place}
use Rattle.calc_model.specs.CellEdits.{CellEntries, with_tree}
use Rattle.calc_model.specs.Homes.{home_after_deletion, home_after_insertion}
use Rattle.calc_model.specs.NamedAreas.{names_after_deletion, names_after_insertion}
use Rattle.calc_model.specs.Reads.{Names, areas, content_areas, reads}
use Rattle.calc_model.specs.RowEdits.{cells_after_deletion, cells_after_insertion, is_changed_by_deletion, is_changed_by_insertion, is_in_rows}
use Rattle.calc_model.specs.Stale.{is_formula_cell}
use Rattle.calc_model.specs.Touched.{CellSet, is_from_row, origin, reads_any, rows_from}
use Rattle.calc_model.specs.TreeShifts.{tree_after_deletion, tree_after_insertion}
use Rattle.calc_model.proofs.Areas.{both_true}
use Rattle.calc_model.proofs.EntriesMoved.{all-filtered}
use Rattle.calc_model.proofs.NamedReads.{deleted_reads, inserted_reads}
use Rattle.calc_model.proofs.Places.{same_places}
use Rattle.calc_model.proofs.RowsKept.{home_is}
use Rattle.calc_model.proofs.ShiftedReads.{deletion_stays, insertion_stays}
use Rattle.std.specs.BTreeMap.{is_at}
use Rattle.std.proofs.lemmas.Map.Entries.{lookup-filter-keys}
use Rattle.book_parts.proofs.Lookups.{find-lookup}
use Rattle.calc_model.specs.Listeners.{ReadAreas, listed}
use Rattle.calc_model.specs.Reads.{reads}
use Rattle.formula_listeners.specs.Held.{HoldsReads}
use Rattle.calc_model.specs.declared.edit.Edit.TheVariants.{InsertRows, DeleteRows}
use Rattle.workbook.specs.Touched.{lies_in}
use Rattle.workbook.specs.Workbook.{Stales, State}
use Rattle.workbook.proofs.Staleness.{stale_moved}

module _ (book : Book) (changes : Rectangle → Bool) (q : Place) where
  reads_formula : (content : Content) → list_any changes (content_areas q (area_named book) content) ≡ true → is_formula content ≡ true
  reads_formula Empty h = h
  reads_formula (Constant value) h = h
  reads_formula (Formula tree) h = refl
  reads_formula (Raw text) h = h

  -- formulas alone read an area that changes, as a hub says
  pub hub_reads : (read : ReadAreas) → HoldsReads read book → (is_formula_cell book q && list_any changes (listed (read q))) ≡ reads_any book changes q
  hub_reads read holds =
      elim (is_formula_cell book q) as (λ b. is_formula_cell book q ≡ b → (b && list_any changes (listed (read q))) ≡ reads_any book changes q) [
        | true ↦ λ is. ap (λ o. list_any changes (listed o)) (holds q ∙ ap (λ b. cond b (Some (reads book q)) None) is)
        | false ↦ λ is_not. sym (false_from_ne_true _ (λ some. let no : is_formula_cell book q ≡ true = reads_formula (content_at book q) some in cc))
      ] refl

-- where a cell is found among cells at other places, of which none comes to it that wasn't there
module _ (goes : Place → Place) (change : Place → Tree → Tree) (stays : Place → Bool) (q : Place) (same : (p : Place) → stays p ≡ true → eq_by_cmp place_cmp q (goes p) ≡ eq_by_cmp place_cmp q p) where
  find_gone : (es : CellEntries) → list_all (λ e. stays e.0) es ≡ true → find place_cmp q (map (λ e. (goes e.0, with_tree (change e.0) e.1)) es) ≡ option_map (with_tree (change q)) (find place_cmp q es)
  find_gone [] all = refl
  find_gone (e ∷ es) all =
      let parts = both_true (stays e.0) (list_all (λ e. stays e.0) es) all in
      let rest : find place_cmp q (map (λ e. (goes e.0, with_tree (change e.0) e.1)) es) ≡ option_map (with_tree (change q)) (find place_cmp q es) = find_gone es parts.1 in
      ap (λ b. cond b (Some (with_tree (change e.0) e.1)) (find place_cmp q (map (λ e. (goes e.0, with_tree (change e.0) e.1)) es))) (same e.0 parts.0)
      ∙ elim (eq_by_cmp place_cmp q e.0) as (λ b. eq_by_cmp place_cmp q e.0 ≡ b → cond b (Some (with_tree (change e.0) e.1)) (find place_cmp q (map (λ e. (goes e.0, with_tree (change e.0) e.1)) es)) ≡ option_map (with_tree (change q)) (cond b (Some e.1) (find place_cmp q es))) [
        | true ↦ λ is. ap (λ p. Some (with_tree (change p) e.1)) (sym (same_places q e.0 is))
        | false ↦ λ _. rest
      ] refl

same_eq : (s c : Ordering) (a b x : ℕ) → (s ≡ Equal → is_eq (nat_cmp a x) ≡ is_eq (nat_cmp a b)) → is_eq (ordering_then s (ordering_then c (nat_cmp a x))) ≡ is_eq (ordering_then s (ordering_then c (nat_cmp a b)))
same_eq Less c a b x same = refl
same_eq Equal Less a b x same = refl
same_eq Equal Equal a b x same = same refl
same_eq Equal Greater a b x same = refl
same_eq Greater c a b x same = refl

equal_numbers : (m n : ℕ) → nat_cmp m n ≡ Equal → m ≡ n
equal_numbers m n h = grind (arith, nat_tests)

-- no cell of a sheet comes to another row above the place
module _ (goes : ℕ → ℕ) (sheet place : ℕ) (gone : ℕ → Bool) (apart : (a b : ℕ) → a < place → gone b ≡ false → is_eq (nat_cmp a (goes b)) ≡ is_eq (nat_cmp a b)) where
  row_to : Bool → ℕ → ℕ
  row_to test row = cond test (goes row) row

  rows_apart : (test : Bool) (a b : ℕ) → (test ≡ true → a < place) → not (test && gone b) ≡ true → is_eq (nat_cmp a (cond test (goes b) b)) ≡ is_eq (nat_cmp a b)
  rows_apart true a b above stays = apart a b (above refl) (to_false (gone b) stays)
    where
      to_false : (b : Bool) → not b ≡ true → b ≡ false
      to_false true h = cc
      to_false false h = refl
  rows_apart false a b above stays = refl

  pub homes_apart : (q p : Place) → is_from_row sheet place q ≡ false → not ((p.sheet == sheet) && gone p.row) ≡ true → eq_by_cmp place_cmp q (cond (p.sheet == sheet) (record p { row = goes p.row }) p) ≡ eq_by_cmp place_cmp q p
  homes_apart q p above stays =
      ap (eq_by_cmp place_cmp q) (home_is goes sheet p)
      ∙ same_eq (nat_cmp q.sheet p.sheet) (nat_cmp q.col p.col) q.row p.row (cond (p.sheet == sheet) (goes p.row) p.row)
      (λ sheets.
      let same : q.sheet ≡ p.sheet = equal_numbers q.sheet p.sheet sheets in
      rows_apart (p.sheet == sheet) q.row p.row (λ on. above_place (subst (λ s. (s == sheet) ≡ true) (sym same) on)) stays)
    where
      above_place : (q.sheet == sheet) ≡ true → q.row < place
      above_place on =
          let low : nat_le place q.row ≡ false = sym (ap (λ b. b && nat_le place q.row) on) ∙ above in
          grind (arith, nat_tests, low)

inserted_apart : (place count a b : ℕ) → a < place → is_eq (nat_cmp a (row_after_insertion place count b)) ≡ is_eq (nat_cmp a b)
inserted_apart place count a b h = grind (arith, nat_tests)

deleted_apart : (place count a b : ℕ) → a < place → is_deleted place count b ≡ false → is_eq (nat_cmp a (row_after_deletion place count b)) ≡ is_eq (nat_cmp a b)
deleted_apart place count a b h stays = grind (arith, nat_tests)

-- what is found at a place is one that a cell can have
found_place : (q : Place) (es : CellEntries) → list_all is_cell_entry es ≡ true → is_place q ≡ false → find place_cmp q es ≡ None
found_place q [] all out = refl
found_place q (e ∷ es) all out =
    let parts = both_true (is_cell_entry e) (list_all is_cell_entry es) all in
    elim (eq_by_cmp place_cmp q e.0) as (λ b. eq_by_cmp place_cmp q e.0 ≡ b → cond b (Some e.1) (find place_cmp q es) ≡ None) [
      | true ↦ λ is.
          let there : is_place q ≡ true = subst (λ p. is_place p ≡ true) (sym (same_places q e.0 is)) (both_true (is_place e.0) (is_content e.1) parts.0).0 in
          cc
      | false ↦ λ _. found_place q es parts.1 out
    ] refl

pub nothing_outside : (book : Book) → IsBook book → (q : Place) → is_place q ≡ false → content_at book q ≡ Empty
unfolding content_at
nothing_outside book is q out = ap (λ o. unwrap_or o Empty) (found_place q book.cells is.cells_held out)

pub above_rows : (sheet place : ℕ) (q : Place) → is_place q ≡ true → covers (rows_from sheet place) q ≡ false → is_from_row sheet place q ≡ false
above_rows sheet place q is out = grind (arith, nat_tests)

-- a content whose formula stays is the content
same_content : (change : Tree → Tree) (content : Content) → ((tree : Tree) → content ≡ Formula tree → change tree ≡ tree) → with_tree change content ≡ content
same_content change Empty stays = refl
same_content change (Constant value) stays = refl
same_content change (Formula tree) stays = ap Formula (stays tree refl)
same_content change (Raw text) stays = refl

unwrap_changed : (change : Tree → Tree) (o : Option Content) → unwrap_or (option_map (with_tree change) o) Empty ≡ with_tree change (unwrap_or o Empty)
unwrap_changed change None = refl
unwrap_changed change (Some content) = refl

neither : (b c : Bool) → (b || c) ≡ false → (b ≡ false) × (c ≡ false)
neither true c h = cc
neither false c h = (refl, h)

all_true : {X : Type 0} (xs : List X) → list_all (λ x. true) xs ≡ true
all_true [] = refl
all_true (x ∷ xs) = all_true xs

place_or_not : (q : Place) → (is_place q ≡ true) ⊎ (is_place q ≡ false)
place_or_not q = elim (is_place q) as (λ b. is_place q ≡ b → (is_place q ≡ true) ⊎ (is_place q ≡ false)) [ true ↦ λ h. inl h | false ↦ λ h. inr h ] refl

module _ (before after : Book) (sheet place count : ℕ) (was : IsBook before) (is : IsBook after) where
  not_gone : (b : Bool) → not (b && false) ≡ true
  not_gone true = refl
  not_gone false = refl

  moved_content_at : after.cells ≡ cells_after_insertion sheet place count before.cells → (q : Place) → is_from_row sheet place q ≡ false → content_at after q ≡ with_tree (tree_after_insertion q sheet place count) (content_at before q)
  unfolding content_at cells_after_insertion
  moved_content_at same q above =
      ap (λ cells. unwrap_or (find place_cmp q cells) Empty) same
      ∙ ap (λ o. unwrap_or o Empty) (find_gone (home_after_insertion sheet place count) (λ home. tree_after_insertion home sheet place count) (λ _. true) q
      (λ p _. homes_apart (row_after_insertion place count) sheet place (λ _. false) (λ a b h _. inserted_apart place count a b h) q p above (not_gone (p.sheet == sheet))) before.cells (all_true before.cells))
      ∙ unwrap_changed (tree_after_insertion q sheet place count) (find place_cmp q before.cells)

  pub insertion_leaves : after.cells ≡ cells_after_insertion sheet place count before.cells → (q : Place) → (covers (rows_from sheet place) q || reads_any before (is_changed_by_insertion sheet place count) q) ≡ false → content_at after q ≡ content_at before q
  insertion_leaves same q untouched =
      let parts = neither (covers (rows_from sheet place) q) (reads_any before (is_changed_by_insertion sheet place count) q) untouched in
      elim (place_or_not q) [
        | inl valid ↦
            moved_content_at same q (above_rows sheet place q valid parts.0)
            ∙ same_content (tree_after_insertion q sheet place count) (content_at before q) (λ tree holds.
            insertion_stays q (area_named before) sheet place count tree (ap (λ content. list_any (is_changed_by_insertion sheet place count) (content_areas q (area_named before) content)) (sym holds) ∙ parts.1))
        | inr out ↦ nothing_outside after is q out ∙ sym (nothing_outside before was q out)
      ]

  deleted_content_at : after.cells ≡ cells_after_deletion sheet place count before.cells → (q : Place) → is_from_row sheet place q ≡ false → content_at after q ≡ with_tree (tree_after_deletion q sheet place count) (content_at before q)
  unfolding content_at cells_after_deletion
  deleted_content_at same q above =
      let stays : Place → Bool = λ p. not (is_in_rows sheet place count p) in
      let left : CellEntries = filter (λ e. not (is_in_rows sheet place count e.0)) before.cells in
      ap (λ cells. unwrap_or (find place_cmp q cells) Empty) same
      ∙ ap (λ o. unwrap_or o Empty) (find_gone (home_after_deletion sheet place count) (λ home. tree_after_deletion home sheet place count) stays q
      (λ p stay. homes_apart (row_after_deletion place count) sheet place (is_deleted place count) (deleted_apart place count) q p above stay) left (all-filtered (λ (e : Place × Content). not (is_in_rows sheet place count e.0)) before.cells))
      ∙ unwrap_changed (tree_after_deletion q sheet place count) (find place_cmp q left)
      ∙ ap (λ o. with_tree (tree_after_deletion q sheet place count) (unwrap_or o Empty)) (find_left q above)
    where
      out_of_rows : (q : Place) → is_from_row sheet place q ≡ false → is_in_rows sheet place count q ≡ false
      out_of_rows q above = grind (arith, nat_tests)

      find_left : (q : Place) → is_from_row sheet place q ≡ false → find place_cmp q (filter (λ e. not (is_in_rows sheet place count e.0)) before.cells) ≡ find place_cmp q before.cells
      find_left q above =
          find-lookup place_cmp q (filter (λ e. not (is_in_rows sheet place count e.0)) before.cells)
          ∙ lookup-filter-keys (is_at (place_cmp q)) (λ p. not (is_in_rows sheet place count p)) true (λ k is. ap not (subst (λ p. is_in_rows sheet place count p ≡ false) (same_places q k is) (out_of_rows q above))) before.cells
          ∙ sym (find-lookup place_cmp q before.cells)

  pub deletion_leaves : after.cells ≡ cells_after_deletion sheet place count before.cells → (q : Place) → (covers (rows_from sheet place) q || reads_any before (is_changed_by_deletion sheet place count) q) ≡ false → content_at after q ≡ content_at before q
  deletion_leaves same q untouched =
      let parts = neither (covers (rows_from sheet place) q) (reads_any before (is_changed_by_deletion sheet place count) q) untouched in
      elim (place_or_not q) [
        | inl valid ↦
            deleted_content_at same q (above_rows sheet place q valid parts.0)
            ∙ same_content (tree_after_deletion q sheet place count) (content_at before q) (λ tree holds.
            deletion_stays q (area_named before) sheet place count tree (ap (λ content. list_any (is_changed_by_deletion sheet place count) (content_areas q (area_named before) content)) (sym holds) ∙ parts.1))
        | inr out ↦ nothing_outside after is q out ∙ sym (nothing_outside before was q out)
      ]

pub formula_place : (book : Book) → IsBook book → (q : Place) → is_formula_cell book q ≡ true → is_place q ≡ true
formula_place book is q formula =
    elim (place_or_not q) [
      | inl valid ↦ valid
      | inr out ↦ let none : is_formula_cell book q ≡ false = ap is_formula (nothing_outside book is q out) in cc
    ]

pub origin_inserted : (sheet place count : ℕ) (q : Place) → is_from_row sheet place q ≡ false → origin (InsertRows sheet place count) q ≡ Some q
origin_inserted sheet place count q above =
    ap (λ b. cond b (Some (record q { row = q.row - count })) (cond (is_from_row sheet place q) None (Some q))) (further sheet place count q above)
    ∙ ap (λ b. cond b None (Some q)) above
  where
    further : (sheet place count : ℕ) (q : Place) → is_from_row sheet place q ≡ false → is_from_row sheet (place + count) q ≡ false
    further sheet place count q above = grind (arith, nat_tests)

pub origin_deleted : (sheet place count : ℕ) (q : Place) → is_from_row sheet place q ≡ false → origin (DeleteRows sheet place count) q ≡ Some q
origin_deleted sheet place count q above = ap (λ b. cond b (Some (record q { row = q.row + count })) (Some q)) above

-- what follows from two facts on success
pub on_ok_both : {T E : Type 0} {P Q R : Type 0} (result : Result T E) → (P → Q → R) → OnOk result P → OnOk result Q → OnOk result R
on_ok_both (Ok x) f p q = f p q
on_ok_both (Err e) f p q = tt

pub on_ok_so : {T E : Type 0} {P : Type 0} (result : Result T E) → P → OnOk result P
on_ok_so (Ok x) p = p
on_ok_so (Err e) p = tt

-- a formula reads by other names what it reads by the first, where its tree does
names_read : (home : Place) (first second : Names) (content : Content) → ((tree : Tree) → content ≡ Formula tree → areas home second tree ≡ areas home first tree) → content_areas home second content ≡ content_areas home first content
names_read home first second Empty same = refl
names_read home first second (Constant value) same = refl
names_read home first second (Formula tree) same = same tree refl
names_read home first second (Raw text) same = refl

-- a cell that keeps its content, in a book whose names are others
pub reads_by_names : (before after : Book) (named : NameEntries) (q : Place) → after.names ≡ named → content_at after q ≡ content_at before q → ((tree : Tree) → content_at before q ≡ Formula tree → areas q (entry_named named) tree ≡ areas q (area_named before) tree) → reads after q ≡ reads before q
reads_by_names before after named q names same trees =
    ap (λ entries. content_areas q (entry_named entries) (content_at after q)) names
    ∙ ap (content_areas q (entry_named named)) same
    ∙ names_read q (area_named before) (entry_named named) (content_at before q) trees

module _ (before after : State) (sheet place count : ℕ) (was : IsBook before.book) (is : IsBook after.book) (touched : after.touched.names ≡ before.touched.names) where
  above_untouched : (changed : Rectangle → Bool) (q : Place) → is_formula_cell after.book q ≡ true → (covers (rows_from sheet place) q || reads_any before.book changed q) ≡ false → is_from_row sheet place q ≡ false
  above_untouched changed q formula untouched = above_rows sheet place q (formula_place after.book is q formula) (neither (covers (rows_from sheet place) q) (reads_any before.book changed q) untouched).0

  reads_nothing_changed : (changed : Rectangle → Bool) (q : Place) (tree : Tree) → (covers (rows_from sheet place) q || reads_any before.book changed q) ≡ false → content_at before.book q ≡ Formula tree → list_any changed (areas q (area_named before.book) tree) ≡ false
  reads_nothing_changed changed q tree untouched holds =
      ap (λ content. list_any changed (content_areas q (area_named before.book) content)) (sym holds)
      ∙ (neither (covers (rows_from sheet place) q) (reads_any before.book changed q) untouched).1

  pub insertion_stale : after.book.cells ≡ cells_after_insertion sheet place count before.book.cells → after.book.names ≡ names_after_insertion sheet place count before.book.names → ((q : Place) → lies_in after.touched q ≡ (lies_in before.touched q || (covers (rows_from sheet place) q || reads_any before.book (is_changed_by_insertion sheet place count) q))) → Stales before (InsertRows sheet place count) after
  insertion_stale cells names lies =
      let changed = is_changed_by_insertion sheet place count in
      let edited : CellSet = λ q. covers (rows_from sheet place) q || reads_any before.book changed q in
      let same = insertion_leaves before.book after.book sheet place count was is cells in
      stale_moved before after (InsertRows sheet place count) edited
      (λ q apart. reads_by_names before.book after.book (names_after_insertion sheet place count before.book.names) q names (same q apart) (λ tree holds. inserted_reads q before.book.names sheet place count tree (reads_nothing_changed changed q tree apart holds)))
      same
      (λ q formula apart. origin_inserted sheet place count q (above_untouched changed q formula apart)) touched lies

  pub deletion_stale : after.book.cells ≡ cells_after_deletion sheet place count before.book.cells → after.book.names ≡ names_after_deletion sheet place count before.book.names → ((q : Place) → lies_in after.touched q ≡ (lies_in before.touched q || (covers (rows_from sheet place) q || reads_any before.book (is_changed_by_deletion sheet place count) q))) → Stales before (DeleteRows sheet place count) after
  deletion_stale cells names lies =
      let changed = is_changed_by_deletion sheet place count in
      let edited : CellSet = λ q. covers (rows_from sheet place) q || reads_any before.book changed q in
      let same = deletion_leaves before.book after.book sheet place count was is cells in
      stale_moved before after (DeleteRows sheet place count) edited
      (λ q apart. reads_by_names before.book after.book (names_after_deletion sheet place count before.book.names) q names (same q apart) (λ tree holds. deleted_reads q before.book.names sheet place count tree (reads_nothing_changed changed q tree apart holds)))
      same
      (λ q formula apart. origin_deleted sheet place count q (above_untouched changed q formula apart)) touched lies
