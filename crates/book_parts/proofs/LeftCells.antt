-- What an edit leaves in the cells that it doesn't touch.
use Rattle.std.proofs.Common.{◌≡◌, Bool, true, false, not, cond, map, List, [], ◌∷◌, Some, None, unwrap_or, refl, sym, ap, subst, ◌∙◌}
use Rattle.std.specs.List.{list_all}
use Rattle.std.specs.Map.{remove_entry}
use Rattle.std.specs.BTreeMap.{insert_entry, is_at}
use Rattle.std.specs.Ordering.{eq_by_cmp, is_eq, match_ordering}
use Rattle.std.specs.FinMap.Entries.{find}
use Rattle.std.specs.declared.cmp.Ordering.TheVariants.{Less, Equal, Greater}
use Rattle.std.proofs.lemmas.Bool.{both_ways, cond-false, false_from_ne_true}
use Rattle.std.proofs.lemmas.Map.Entries.{lookup-filter-keys}
use Rattle.calc_addr.specs.Places.{Place, Rectangle, covers, place_cmp}
use Rattle.calc_model.specs.declared.content.Content.{Content}
use Rattle.calc_model.specs.declared.content.Content.TheVariants.{Empty}
use Rattle.calc_model.specs.Books.{Book, content_at, is_held, with_content}
use Rattle.calc_model.specs.CellEdits.{CellEntries, after_copy, after_fill, area_at, copied_entry, filled_entries, with_entries, within_area, without_area}
use Rattle.calc_model.proofs.Areas.{both_true}
use Rattle.calc_model.proofs.EntriesKept.{both_so}
use Rattle.calc_model.proofs.Places.{same_places}
use Rattle.calc_model.proofs.Reached.{same_cell}
use Rattle.book_parts.proofs.Copied.{copies_land, copy_is, fills_land}
use Rattle.book_parts.proofs.Lookups.{find-lookup}

-- cells that differ differ in either order
apart_from : (cell q : Place) → eq_by_cmp place_cmp cell q ≡ false → (other : Place) → cell ≡ other → eq_by_cmp place_cmp q other ≡ false
apart_from cell q apart other is =
    false_from_ne_true _ (λ same. both_ways (eq_by_cmp place_cmp cell q) apart (subst (λ p. eq_by_cmp place_cmp cell p ≡ true) (sym (same_places q other same ∙ sym is)) (same_cell cell)))

equal_cells : (cell other : Place) → place_cmp cell other ≡ Equal → cell ≡ other
equal_cells cell other h = same_places cell other (ap is_eq h)

pub find-insert_entry : (cells : List (Place × Content)) (cell q : Place) (content : Content) → eq_by_cmp place_cmp cell q ≡ false → find place_cmp q (insert_entry place_cmp cells cell content) ≡ find place_cmp q cells
find-insert_entry [] cell q content apart = cond-false (eq_by_cmp place_cmp q cell) (Some content) None (apart_from cell q apart cell refl)
find-insert_entry (e ∷ es) cell q content apart =
    elim (place_cmp cell e.0) as (λ o. place_cmp cell e.0 ≡ o → find place_cmp q (match_ordering o ((cell, content) ∷ e ∷ es) ((e.0, content) ∷ es) (e ∷ insert_entry place_cmp es cell content)) ≡ find place_cmp q (e ∷ es)) [
      | Less ↦ λ below. cond-false (eq_by_cmp place_cmp q cell) (Some content) (find place_cmp q (e ∷ es)) (apart_from cell q apart cell refl)
      | Equal ↦ λ same.
          let other = apart_from cell q apart e.0 (equal_cells cell e.0 same) in
          cond-false (eq_by_cmp place_cmp q e.0) (Some content) (find place_cmp q es) other ∙ sym (cond-false (eq_by_cmp place_cmp q e.0) (Some e.1) (find place_cmp q es) other)
      | Greater ↦ λ above. ap (cond (eq_by_cmp place_cmp q e.0) (Some e.1)) (find-insert_entry es cell q content apart)
    ] refl

pub find-remove_entry : (cells : List (Place × Content)) (cell q : Place) → eq_by_cmp place_cmp cell q ≡ false → find place_cmp q (remove_entry (is_at (place_cmp cell)) cells) ≡ find place_cmp q cells
find-remove_entry [] cell q apart = refl
find-remove_entry (e ∷ es) cell q apart =
    elim (is_at (place_cmp cell) e.0) as (λ b. is_at (place_cmp cell) e.0 ≡ b → find place_cmp q (cond b es (e ∷ remove_entry (is_at (place_cmp cell)) es)) ≡ find place_cmp q (e ∷ es)) [
      | true ↦ λ same. sym (cond-false (eq_by_cmp place_cmp q e.0) (Some e.1) (find place_cmp q es) (apart_from cell q apart e.0 (same_places cell e.0 same)))
      | false ↦ λ other. ap (cond (eq_by_cmp place_cmp q e.0) (Some e.1)) (find-remove_entry es cell q apart)
    ] refl

pub set_leaves : (before after : Book) (cell : Place) (content : Content) → after.cells ≡ with_content before.cells cell content → (q : Place) → eq_by_cmp place_cmp cell q ≡ false → content_at after q ≡ content_at before q
unfolding content_at
set_leaves before after cell content same q apart =
    ap (λ cells. unwrap_or (find place_cmp q cells) Empty) same
    ∙ ap (λ o. unwrap_or o Empty)
    (elim (is_held content) as (λ b. find place_cmp q (cond b (insert_entry place_cmp before.cells cell content) (remove_entry (is_at (place_cmp cell)) before.cells)) ≡ find place_cmp q before.cells) [
      | true ↦ find-insert_entry before.cells cell q content apart
      | false ↦ find-remove_entry before.cells cell q apart
    ])

pub clear_leaves : (before after : Book) (area : Rectangle) → after.cells ≡ without_area before.cells area → (q : Place) → covers area q ≡ false → content_at after q ≡ content_at before q
unfolding content_at
clear_leaves before after area same q apart =
    ap (λ cells. unwrap_or (find place_cmp q cells) Empty) same
    ∙ ap (λ o. unwrap_or o Empty)
    (find-lookup place_cmp q (without_area before.cells area)
    ∙ lookup-filter-keys (is_at (place_cmp q)) (λ p. not (covers area p)) true (λ k is. ap not (subst (λ p. covers area p ≡ false) (same_places q k is) apart)) before.cells
    ∙ sym (find-lookup place_cmp q before.cells))

-- what is put into cells of an area leaves those outside it
find-with_entries : (news es : CellEntries) (q : Place) → list_all (λ n. not (eq_by_cmp place_cmp n.0 q)) news ≡ true → find place_cmp q (with_entries es news) ≡ find place_cmp q es
find-with_entries [] es q h = refl
find-with_entries (n ∷ news) es q h =
    let parts = both_true (not (eq_by_cmp place_cmp n.0 q)) (list_all (λ n. not (eq_by_cmp place_cmp n.0 q)) news) h in
    find-with_entries news (insert_entry place_cmp es n.0 n.1) q parts.1 ∙ find-insert_entry es n.0 q n.1 (not_true (eq_by_cmp place_cmp n.0 q) parts.0)
  where
    not_true : (b : Bool) → not b ≡ true → b ≡ false
    not_true true h = cc
    not_true false h = refl

none_outside : (area : Rectangle) (q : Place) → covers area q ≡ false → (news : CellEntries) → list_all (λ n. covers area n.0) news ≡ true → list_all (λ n. not (eq_by_cmp place_cmp n.0 q)) news ≡ true
none_outside area q apart [] h = refl
none_outside area q apart (n ∷ news) h =
    let parts = both_true (covers area n.0) (list_all (λ n. covers area n.0) news) h in
    both_so _ _ (other (eq_by_cmp place_cmp n.0 q) refl parts.0) (none_outside area q apart news parts.1)
  where
    other : (b : Bool) → eq_by_cmp place_cmp n.0 q ≡ b → covers area n.0 ≡ true → not b ≡ true
    other true same inside = let in_area : covers area q ≡ true = subst (λ p. covers area p ≡ true) (same_places n.0 q same) inside in cc
    other false same inside = refl

put_leaves : (before after : Book) (area : Rectangle) (news : CellEntries) → list_all (λ n. covers area n.0) news ≡ true → after.cells ≡ with_entries (without_area before.cells area) news → (q : Place) → covers area q ≡ false → content_at after q ≡ content_at before q
unfolding content_at
put_leaves before after area news inside same q apart =
    ap (λ cells. unwrap_or (find place_cmp q cells) Empty) same
    ∙ ap (λ o. unwrap_or o Empty) (find-with_entries news (without_area before.cells area) q (none_outside area q apart news inside))
    ∙ clear_leaves before (record before { cells = without_area before.cells area }) area refl q apart

pub copy_leaves : (before after : Book) (area : Rectangle) (to : Place) → after.cells ≡ after_copy before.cells area to → (q : Place) → covers (area_at area to) q ≡ false → content_at after q ≡ content_at before q
copy_leaves before after area to same =
    put_leaves before after (area_at area to) (map (copied_entry area to) (within_area before.cells area)) (copies_land area to before.cells) (same ∙ copy_is before.cells area to)

pub fill_leaves : (before after : Book) (from : Place) (content : Content) (area : Rectangle) → after.cells ≡ after_fill before.cells from content area → (q : Place) → covers area q ≡ false → content_at after q ≡ content_at before q
unfolding after_fill
fill_leaves before after from content area same =
    put_leaves before after area (filled_entries from content area) (fills_land from content area) same
