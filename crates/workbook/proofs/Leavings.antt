-- What each edit leaves in the cells that it doesn't touch.
use Rattle.std.proofs.Common.{◌≡◌, ℕ, Bool, true, false, ◌||◌, ◌&&◌, not, cond, List, Option, Some, None, refl, sym, ap, ◌∙◌}
use Rattle.std.specs.Prelude.{◌==◌, option_map}
use Rattle.std.specs.List.{list_any}
use Rattle.std.specs.Str.{str_to_ascii_uppercase}
use Rattle.std.specs.FinMap.Entries.{find}
use Rattle.calc_addr.specs.Places.{Place, Rectangle}
use Rattle.calc_model.specs.declared.content.Content.TheVariants.{Formula}
use Rattle.calc_model.specs.declared.edit.Edit.{Edit}
use Rattle.calc_model.specs.declared.tree.Tree.{Tree}
use Rattle.calc_model.specs.Books.{Book, NameEntries, Target, area_named, content_at, entry_named, looked_up}
use Rattle.calc_model.specs.Eval.{eval}
use Rattle.calc_model.specs.Meanings.{Meaning}
use Rattle.calc_model.specs.NamedAreas.{name_cmp, names_on_sheet, target_on_sheet}
use Rattle.calc_model.specs.Reads.{Names, areas, areas_step, named_areas}
use Rattle.calc_model.specs.Scalars.{CellValues}
use Rattle.calc_model.specs.declared.looked.Looked.TheVariants.{At}
use Rattle.calc_model.specs.RowEdits.{has_rows_of, is_changed}
use Rattle.calc_model.specs.Stale.{is_formula_cell}
use Rattle.calc_model.specs.Touched.{origin, touched, users}
use Rattle.calc_model.specs.UsedNames.{is_same_name, names_in, names_step, uses_name}
use Rattle.calc_model.proofs.EntriesFound.{find-valued}
use Rattle.calc_model.proofs.ShiftedReads.{GoesByRows, neither, not_false}
use Rattle.workbook.proofs.EvalNames.{Gathers, means_same}
use Rattle.workbook.proofs.Fresh.{Leaves}
use Rattle.workbook.proofs.RowChanges.{reads_by_names}
use Rattle.workbook.proofs.Staleness.{reads_kept}

-- edits of cells, which leave all names
module _ (before after : Book) (edit : Edit) (names : after.names ≡ before.names) (content : (q : Place) → touched before edit after q ≡ false → content_at after q ≡ content_at before q) (stays : (q : Place) → origin edit q ≡ Some q) where
  pub cells_leave : Leaves before after edit
  cells_leave = record {
    content = content;
    read = reads_kept before after names (touched before edit after) content;
    meant = λ q apart tree holds v. ap (λ entries. eval q (entry_named entries) v tree) names;
    stays = λ q formula apart. stays q;
  }

-- names and areas are gathered from a tree's children
names_gathered : Gathers (List ℕ) names_step
names_gathered = record {
  call = λ name args. refl;
  paren = λ child. refl;
  plus = λ child. refl;
  minus = λ child. refl;
  percent = λ child. refl;
  joins = λ op left right. refl;
}

pub areas_gathered : (home : Place) (names : Names) → Gathers Rectangle (areas_step home names)
areas_gathered home names = record {
  call = λ name args. refl;
  paren = λ child. refl;
  plus = λ child. refl;
  minus = λ child. refl;
  percent = λ child. refl;
  joins = λ op left right. refl;
}

-- edits of one name, which leave all cells and what other names stand for
module _ (before after : Book) (edit : Edit) (name : List ℕ) (cells : after.cells ≡ before.cells) (edited : (q : Place) → touched before edit after q ≡ users after name q) (others : (other : List ℕ) → is_same_name name other ≡ false → area_named after other ≡ area_named before other) (trees : (home : Place) (tree : Tree) → list_any (is_same_name name) (names_in tree) ≡ false → areas home (area_named after) tree ≡ areas home (area_named before) tree) (stays : (q : Place) → origin edit q ≡ Some q) where
  same_content : (q : Place) → content_at after q ≡ content_at before q
  unfolding content_at
  same_content q = ap (λ es. content_at (record after { cells = es }) q) cells

  unused : (q : Place) (tree : Tree) → touched before edit after q ≡ false → content_at after q ≡ Formula tree → list_any (is_same_name name) (names_in tree) ≡ false
  unused q tree apart holds = ap (uses_name name) (sym holds) ∙ sym (edited q) ∙ apart

  by_names : (q : Place) (tree : Tree) (v : CellValues) → list_any (is_same_name name) (names_in tree) ≡ false → eval q (area_named after) v tree ≡ eval q (area_named before) v tree
  unfolding names_in
  by_names q tree v none =
      ap (λ (m : Meaning). m.scalar)
      (means_same q (area_named before) (area_named after) v (List ℕ) (is_same_name name) names_step names_gathered (λ other apart. others other (alone (is_same_name name other) apart)) tree none)
    where
      alone : (b : Bool) → (b || false) ≡ false → b ≡ false
      alone true h = cc
      alone false h = refl

  pub name_leaves : Leaves before after edit
  name_leaves = record {
    content = λ q apart. same_content q;
    read = λ q apart. reads_by_names before after after.names q refl (same_content q) (λ tree holds. trees q tree (unused q tree apart (same_content q ∙ holds)));
    meant = λ q apart tree holds v. by_names q tree v (unused q tree apart holds);
    stays = λ q formula apart. stays q;
  }

-- edits of rows, which leave the formulas that read no area that changes
module _ (before after : Book) (edit : Edit) (changed : Rectangle → Bool) (named : NameEntries) (names : after.names ≡ named) (content : (q : Place) → touched before edit after q ≡ false → content_at after q ≡ content_at before q) (reads_none : (q : Place) (tree : Tree) → touched before edit after q ≡ false → content_at before q ≡ Formula tree → list_any changed (areas q (area_named before) tree) ≡ false) (trees : (home : Place) (tree : Tree) → list_any changed (areas home (area_named before) tree) ≡ false → areas home (entry_named named) tree ≡ areas home (area_named before) tree) (others : (name : List ℕ) → list_any changed (named_areas (area_named before name)) ≡ false → entry_named named name ≡ area_named before name) (stays : (q : Place) → is_formula_cell after q ≡ true → touched before edit after q ≡ false → origin edit q ≡ Some q) where
  pub rows_leave : Leaves before after edit
  rows_leave = record {
    content = content;
    read = λ q apart. reads_by_names before after named q names (content q apart) (λ tree holds. trees q tree (reads_none q tree apart holds));
    meant = λ q apart tree holds v.
        ap (λ entries. eval q (entry_named entries) v tree) names
        ∙ ap (λ (m : Meaning). m.scalar)
        (means_same q (area_named before) (entry_named named) v Rectangle changed (areas_step q (area_named before)) (areas_gathered q (area_named before))
        (λ name apart. others name apart) tree (reads_none q tree apart (sym (content q apart) ∙ holds)));
    stays = stays;
  }

-- the areas of names go with the rows of a sheet
module _ (entries : NameEntries) (sheet : ℕ) (change : Rectangle → Option Rectangle) (goes : GoesByRows change) where
  target_stays : (found : Option Target) → list_any (is_changed sheet change) (named_areas (looked_up found)) ≡ false → looked_up (option_map (target_on_sheet sheet change) found) ≡ looked_up found
  target_stays None h = refl
  target_stays (Some None) h = refl
  target_stays (Some (Some area)) h =
      elim (area.sheet == sheet) as (λ b. (b && not (has_rows_of area (change area))) ≡ false → looked_up (Some (cond b (change area) (Some area))) ≡ At area) [
        | true ↦ λ kept. ap (λ target. looked_up (Some target)) (goes.stay area (not_false _ kept))
        | false ↦ λ _. refl
      ] (neither (is_changed sheet change area) false h).0

  pub others_shifted : (name : List ℕ) → list_any (is_changed sheet change) (named_areas (entry_named entries name)) ≡ false → entry_named (names_on_sheet sheet change entries) name ≡ entry_named entries name
  unfolding entry_named
  others_shifted name apart =
      ap looked_up (find-valued name_cmp (target_on_sheet sheet change) (str_to_ascii_uppercase name) entries)
      ∙ target_stays (find name_cmp (str_to_ascii_uppercase name) entries) apart
