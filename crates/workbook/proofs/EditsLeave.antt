-- An edit that is made leaves the cells that it doesn't touch, whichever edit it is.
use Rattle.std.proofs.Common.{◌≡◌, ℕ, Bool, true, false, ◌||◌, not, cond, List, Some, Result, Ok, Err, refl, sym, ap, subst, ◌∙◌}
use Rattle.std.specs.List.{list_any}
use Rattle.std.specs.Prelude.{IsErrOf, OnOk}
use Rattle.std.specs.Str.{str_to_ascii_uppercase}
use Rattle.calc_addr.specs.Places.{Place, Rectangle, covers}
use Rattle.calc_addr.specs.Shifts.{area_after_deletion, area_after_insertion}
use Rattle.calc_model.specs.declared.content.Content.TheVariants.{Formula}
use Rattle.calc_model.specs.declared.edit.Edit.{Edit}
use Rattle.calc_model.specs.declared.edit.Edit.TheVariants.{Set, Clear, Copy, Fill, InsertRows, DeleteRows, Name, Unname, Make}
use Rattle.calc_model.specs.declared.edit.EditCause.{EditCause}
use Rattle.calc_model.specs.declared.edit.EditCause.TheVariants.{OffSheet, RowsFull}
use Rattle.calc_model.specs.declared.tree.Tree.{Tree}
use Rattle.calc_model.specs.Books.{Book, IsBook, NameEntries, area_named, content_at, entry_named, looked_up}
use Rattle.calc_model.specs.NamedAreas.{name_cmp, names_after_deletion, names_after_insertion, with_name, without_name}
use Rattle.calc_model.specs.Reads.{areas, content_areas}
use Rattle.calc_model.specs.RowEdits.{are_rows, is_changed_by_deletion, is_changed_by_insertion, is_pushed_out}
use Rattle.calc_model.specs.Step.{step}
use Rattle.calc_model.specs.Touched.{reads_any, rows_from}
use Rattle.calc_model.specs.UsedNames.{is_same_name}
use Rattle.calc_model.proofs.EntriesFound.{find-insert_entry, find-remove_entry}
use Rattle.calc_model.proofs.NamedReads.{deleted_reads, exact_names, inserted_reads, named_reads, unnamed_reads}
use Rattle.calc_model.proofs.ShiftedReads.{deletion_goes, insertion_goes, neither}
use Rattle.workbook.specs.declared.fault.EditFault.{EditFault}
use Rattle.workbook.specs.declared.fault.EditFault.TheVariants as fault
use Rattle.workbook.specs.Workbook.{AfterNoMemory, IsFresh, IsRefused, Made, State, WasBook, mended, stale_of}
use Rattle.book_parts.proofs.LeftCells.{clear_leaves, copy_leaves, fill_leaves, set_leaves}
use Rattle.workbook.proofs.Fresh.{Leaves, fresh_when_stale, still_fresh}
use Rattle.workbook.proofs.Leavings.{cells_leave, name_leaves, others_shifted, rows_leave}
use Rattle.workbook.proofs.RowChanges.{above_rows, deletion_leaves, formula_place, insertion_leaves, origin_deleted, origin_inserted}

-- what is made where nothing refuses it
abbrev made_book : Book → Result Book EditCause
made_book book = Ok book

same_made : {x y : Book} → made_book x ≡ made_book y → y ≡ x
same_made h = cc

unless : (b : Bool) (r : Result Book EditCause) (y : Book) (e : EditCause) → cond b (Err e) r ≡ Ok y → r ≡ Ok y
unless true r y e h = cc
unless false r y e h = h

where_so : (b : Bool) (r : Result Book EditCause) (y : Book) (e : EditCause) → cond b r (Err e) ≡ Ok y → r ≡ Ok y
where_so true r y e h = h
where_so false r y e h = cc

named_other : (entries : NameEntries) (name other : List ℕ) (area : Rectangle) → is_same_name name other ≡ false → entry_named (with_name entries name area) other ≡ entry_named entries other
unfolding entry_named
named_other entries name other area apart = ap looked_up (find-insert_entry name_cmp exact_names (str_to_ascii_uppercase name) (str_to_ascii_uppercase other) apart entries (Some area))

unnamed_other : (entries : NameEntries) (name other : List ℕ) → is_same_name name other ≡ false → entry_named (without_name entries name) other ≡ entry_named entries other
unfolding entry_named
unnamed_other entries name other apart = ap looked_up (find-remove_entry name_cmp exact_names (str_to_ascii_uppercase name) (str_to_ascii_uppercase other) apart entries)

module _ (before after : Book) (is : IsBook after) where
  cells_of : {made : Book} → after ≡ made → after.cells ≡ made.cells
  cells_of e = ap (λ (b : Book). b.cells) e

  names_of : {made : Book} → after ≡ made → after.names ≡ made.names
  names_of e = ap (λ (b : Book). b.names) e

  reads_none : (sheet place : ℕ) (changed : Rectangle → Bool) (q : Place) (tree : Tree) → (covers (rows_from sheet place) q || reads_any before changed q) ≡ false → content_at before q ≡ Formula tree → list_any changed (areas q (area_named before) tree) ≡ false
  reads_none sheet place changed q tree apart holds =
      ap (λ content. list_any changed (content_areas q (area_named before) content)) (sym holds)
      ∙ (neither (covers (rows_from sheet place) q) (reads_any before changed q) apart).1

  pub leaves_of : (edit : Edit) → WasBook before edit → step before edit ≡ Ok after → Leaves before after edit
  leaves_of (Set cell content) was h =
      let e = same_made (where_so _ _ _ _ h) in
      cells_leave before after (Set cell content) (names_of e) (set_leaves before after cell content (cells_of e)) (λ q. refl)
  leaves_of (Clear area) was h =
      let e = same_made h in
      cells_leave before after (Clear area) (names_of e) (clear_leaves before after area (cells_of e)) (λ q. refl)
  leaves_of (Copy area to) was h =
      let e = same_made (where_so _ _ _ _ (where_so _ _ _ _ h)) in
      cells_leave before after (Copy area to) (names_of e) (copy_leaves before after area to (cells_of e)) (λ q. refl)
  leaves_of (Fill from area) was h =
      let e = same_made (where_so _ _ _ _ (where_so _ _ _ _ h)) in
      cells_leave before after (Fill from area) (names_of e) (fill_leaves before after from (content_at before from) area (cells_of e)) (λ q. refl)
  leaves_of (InsertRows sheet place count) was h =
      let e = same_made (unless (is_pushed_out sheet place count before.cells) _ after RowsFull (unless (not (are_rows sheet place count)) _ after OffSheet h)) in
      let changed = is_changed_by_insertion sheet place count in
      rows_leave before after (InsertRows sheet place count) changed (names_after_insertion sheet place count before.names) (names_of e)
      (insertion_leaves before after sheet place count was is (cells_of e)) (reads_none sheet place changed)
      (λ home tree none. inserted_reads home before.names sheet place count tree none)
      (others_shifted before.names sheet (area_after_insertion place count) (insertion_goes place count))
      (λ q formula apart. origin_inserted sheet place count q (above_rows sheet place q (formula_place after is q formula) (neither (covers (rows_from sheet place) q) (reads_any before changed q) apart).0))
  leaves_of (DeleteRows sheet place count) was h =
      let e = same_made (unless _ _ _ _ h) in
      let changed = is_changed_by_deletion sheet place count in
      rows_leave before after (DeleteRows sheet place count) changed (names_after_deletion sheet place count before.names) (names_of e)
      (deletion_leaves before after sheet place count was is (cells_of e)) (reads_none sheet place changed)
      (λ home tree none. deleted_reads home before.names sheet place count tree none)
      (others_shifted before.names sheet (area_after_deletion place count) (deletion_goes place count))
      (λ q formula apart. origin_deleted sheet place count q (above_rows sheet place q (formula_place after is q formula) (neither (covers (rows_from sheet place) q) (reads_any before changed q) apart).0))
  leaves_of (Name name area) was h =
      let e = same_made (where_so _ _ _ _ (where_so _ _ _ _ h)) in
      name_leaves before after (Name name area) name (cells_of e) (λ q. refl)
      (λ other apart. ap (λ es. entry_named es other) (names_of e) ∙ named_other before.names name other area apart)
      (λ home tree none. ap (λ es. areas home (entry_named es) tree) (names_of e) ∙ named_reads home before.names name area tree none) (λ q. refl)
  leaves_of (Unname name) was h =
      let e = same_made (where_so _ _ _ _ h) in
      name_leaves before after (Unname name) name (cells_of e) (λ q. refl)
      (λ other apart. ap (λ es. entry_named es other) (names_of e) ∙ unnamed_other before.names name other apart)
      (λ home tree none. ap (λ es. areas home (entry_named es) tree) (names_of e) ∙ unnamed_reads home before.names name tree none) (λ q. refl)
  leaves_of (Make start rows) was h = record {
    content = λ q apart. cc;
    read = λ q apart. cc;
    meant = λ q apart tree holds v. cc;
    stays = λ q formula apart. cc;
  }

-- want of memory leaves a workbook fresh
pub no_memory_fresh : (before after : State) (edit : Edit) → AfterNoMemory before edit after → IsFresh before → IsFresh after
unfolding stale_of
no_memory_fresh before after (Set cell content) same fresh = subst IsFresh (sym same) fresh
no_memory_fresh before after (Clear area) same fresh = subst IsFresh (sym same) fresh
no_memory_fresh before after (Copy area to) dead fresh = fresh_when_stale after dead.stale
no_memory_fresh before after (Fill from area) dead fresh = fresh_when_stale after dead.stale
no_memory_fresh before after (InsertRows sheet place count) dead fresh = fresh_when_stale after dead.stale
no_memory_fresh before after (DeleteRows sheet place count) dead fresh = fresh_when_stale after dead.stale
no_memory_fresh before after (Name name area) dead fresh = fresh_when_stale after dead.stale
no_memory_fresh before after (Unname name) dead fresh = fresh_when_stale after dead.stale
no_memory_fresh before after (Make start rows) dead fresh = fresh_when_stale after dead.stale

-- an edit, made or refused, leaves a workbook fresh
pub edit_fresh : {T : Type 0} (result : Result T EditFault) (before after : State) (edit : Edit) → OnOk result (WasBook before.book edit) → OnOk result (Made before edit after) → ((cause : EditCause) → IsErrOf result (fault.Refused cause) → IsRefused (mended before) edit cause after) → (IsErrOf result fault.NoMemory → AfterNoMemory before edit after) → (IsErrOf result fault.Dead → ⊥) → IsFresh before → IsFresh after
unfolding stale_of
edit_fresh (Ok x) before after edit was made refused no_memory dead fresh = still_fresh before after edit (leaves_of before.book after.book made.book edit was made.step) made fresh
edit_fresh (Err (fault.Refused cause)) before after edit was made refused no_memory dead fresh = subst IsFresh (sym (refused cause refl).kept) fresh
edit_fresh (Err fault.NoMemory) before after edit was made refused no_memory dead fresh = no_memory_fresh before after edit (no_memory refl) fresh
edit_fresh (Err fault.Dead) before after edit was made refused no_memory dead fresh = absurd (dead refl)
