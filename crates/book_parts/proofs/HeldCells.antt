-- The contents of an area, cell by cell.
use Rattle.std.proofs.Common.{◌≡◌, Bool, true, false, not, ◌&&◌, cond, T, List, [], ◌∷◌, ◌++◌, map, Option, Some, None, unwrap_or, refl, sym, ap, subst, ◌∙◌}
use Rattle.std.specs.List.{filter, list_all}
use Rattle.std.specs.Ordering.{eq_by_cmp}
use Rattle.std.specs.FinMap.Entries.{find, find-where_key, is_sorted, same_entries}
use Rattle.calc_addr.specs.Places.{Place, Rectangle, covers, place_cmp, places}
use Rattle.calc_addr.proofs.Walking.Places.{places_rise}
use Rattle.calc_model.specs.declared.content.Content.{Content}
use Rattle.calc_model.specs.declared.content.Content.TheVariants.{Empty}
use Rattle.calc_model.specs.Books.{content_at, is_cell_entry, is_held}
use Rattle.calc_model.specs.CellEdits.{CellEntries, copied_entry, within_area}
use Rattle.calc_model.proofs.Areas.{all_places, both_true, places_all}
use Rattle.calc_model.proofs.EntriesMoved.{sorted-filter}
use Rattle.calc_model.proofs.Places.{exact_places, places_total, same_places}
use Rattle.calc_model.proofs.Reached.{same_cell}
use Rattle.cell_columns.specs.Cells.{cells_only}
use Rattle.cell_columns.specs.Filled.{entries_at}
use Rattle.book_parts.specs.Pieces.{copied_cells}
use Rattle.book_parts.proofs.Inserted.{rising-sorted}
use Rattle.book_parts.proofs.Lengths.{found_held}

of_test : (b : Bool) → b ≡ true → T b
of_test b h = subst T (sym h) tt

abbrev is_other : Place → Place → Bool
is_other q p = not (eq_by_cmp place_cmp q p)

-- what is found where each of some cells has an entry
found_other : (at : Place → Content) (q : Place) (ps : List Place) → list_all (is_other q) ps ≡ true → find place_cmp q (entries_at at ps) ≡ None
found_other at q [] others = refl
found_other at q (p ∷ ps) others =
    let parts = both_true (is_other q p) (list_all (is_other q) ps) others in
    elim (eq_by_cmp place_cmp q p) as (λ b. not b ≡ true → cond b (Some (at p)) (find place_cmp q (entries_at at ps)) ≡ None) [
      | true ↦ λ clash. cc
      | false ↦ λ _. found_other at q ps parts.1
    ] parts.0

found_same : (at : Place → Content) (q : Place) (ps : List Place) → list_all (is_other q) ps ≡ false → find place_cmp q (entries_at at ps) ≡ Some (at q)
found_same at q [] same = cc
found_same at q (p ∷ ps) same =
    elim (eq_by_cmp place_cmp q p) as (λ b. eq_by_cmp place_cmp q p ≡ b → (not b && list_all (is_other q) ps) ≡ false → cond b (Some (at p)) (find place_cmp q (entries_at at ps)) ≡ Some (at q)) [
      | true ↦ λ is _. ap (λ p. Some (at p)) (sym (same_places q p is))
      | false ↦ λ _ rest. found_same at q ps rest
    ] refl same

module _ (area : Rectangle) (q : Place) where
  inside_same : covers area q ≡ true → (b : Bool) → list_all (is_other q) (places area) ≡ b → b ≡ false
  inside_same inside true others =
      let itself : is_other q q ≡ true = places_all (is_other q) area others q inside in
      let clash : is_other q q ≡ false = ap not (same_cell q) in
      cc
  inside_same inside false others = refl

  outside_other : covers area q ≡ false → list_all (is_other q) (places area) ≡ true
  outside_other outside = all_places (is_other q) area (λ p inside. apart p inside (eq_by_cmp place_cmp q p) refl)
    where
      apart : (p : Place) → covers area p ≡ true → (b : Bool) → eq_by_cmp place_cmp q p ≡ b → not b ≡ true
      apart p inside true same = let clash : covers area q ≡ true = subst (λ r. covers area r ≡ true) (sym (same_places q p same)) inside in cc
      apart p inside false same = refl

  found_in_area : (at : Place → Content) → find place_cmp q (entries_at at (places area)) ≡ cond (covers area q) (Some (at q)) None
  found_in_area at =
      elim (covers area q) as (λ b. covers area q ≡ b → find place_cmp q (entries_at at (places area)) ≡ cond b (Some (at q)) None) [
        | true ↦ λ inside. found_same at q (places area) (inside_same inside (list_all (is_other q) (places area)) refl)
        | false ↦ λ outside. found_other at q (places area) (outside_other outside)
      ] refl

module _ (es : CellEntries) (sorted : is_sorted place_cmp es ≡ true) (held : list_all is_cell_entry es ≡ true) (area : Rectangle) where
  abbrev at : Place → Content
  at q = content_at (cells_only es) q

  -- the cells of the area, each with what it holds, and those that hold something
  abbrev all_cells : CellEntries
  all_cells = entries_at at (places area)

  abbrev held_cells : CellEntries
  held_cells = filter (λ e. is_held (at e.0)) all_cells

  one_found : (q : Place) (o : Option Content) → find place_cmp q es ≡ o → (inside : Bool) → cond inside o None ≡ cond (is_held (unwrap_or o Empty)) (cond inside (Some (unwrap_or o Empty)) None) None
  one_found q (Some c) is true = sym (ap (λ b. cond b (Some c) None) (found_held es held q c is))
  one_found q (Some c) is false = sym (ap (λ b. cond b None None) (found_held es held q c is))
  one_found q None is true = refl
  one_found q None is false = refl

  same_found : (q : Place) → find place_cmp q (within_area es area) ≡ find place_cmp q held_cells
  unfolding content_at
  same_found q =
      find-where_key place_cmp (covers area) q (λ p tied. ap (covers area) (sym (exact_places q p tied))) es
      ∙ one_found q (find place_cmp q es) refl (covers area q)
      ∙ ap (λ o. cond (is_held (at q)) o None) (sym (found_in_area area q at))
      ∙ sym (find-where_key place_cmp (λ p. is_held (at p)) q (λ p tied. ap (λ r. is_held (at r)) (sym (exact_places q p tied))) all_cells)

  within_is : within_area es area ≡ held_cells
  within_is =
      same_entries place_cmp places_total exact_places (within_area es area) held_cells
      (of_test _ (sorted-filter place_cmp (covers area) es sorted))
      (of_test _ (sorted-filter place_cmp (λ q. is_held (at q)) all_cells (rising-sorted at (places area) (places_rise area))))
      same_found

  module _ (to : Place) where
    cell_by_cell : (ps : List Place) → map (copied_entry area to) (filter (λ e. is_held (at e.0)) (entries_at at ps)) ≡ copied_cells (cells_only es) area to ps
    cell_by_cell [] = refl
    cell_by_cell (p ∷ ps) =
        let rest : CellEntries = filter (λ e. is_held (at e.0)) (entries_at at ps) in
        elim (is_held (at p)) as (λ b. map (copied_entry area to) (cond b ((p, at p) ∷ rest) rest) ≡ cond b (copied_entry area to (p, at p) ∷ []) [] ++ copied_cells (cells_only es) area to ps) [
          | true ↦ ap (λ (news : CellEntries). copied_entry area to (p, at p) ∷ news) (cell_by_cell ps)
          | false ↦ cell_by_cell ps
        ]

    -- the contents of an area are copied cell by cell
    pub copied_within : copied_cells (cells_only es) area to (places area) ≡ map (copied_entry area to) (within_area es area)
    copied_within = sym (cell_by_cell (places area)) ∙ ap (map (copied_entry area to)) (sym within_is)
