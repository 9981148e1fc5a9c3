-- Copied and filled contents: they aren't empty, and how many cells there are with them.
use Rattle.std.proofs.Common.{◌≡◌, ◌<◌, ◌+◌, ◌-◌, ℕ, true, false, cond, [], length, map, refl, sym, ap, ◌∙◌, arith}
use Rattle.std.specs.List.{list_all}
use Rattle.std.specs.BTreeMap.{insert_entry, is_at}
use Rattle.std.specs.Map.{remove_entry}
use Rattle.std.specs.Ordering.{is_lt, nat_cmp, ordering_then}
use Rattle.std.specs.FinMap.Entries.{is_sorted}
use Rattle.std.proofs.lemmas.Bool.Decides.{nat_tests}
use Rattle.std.proofs.lemmas.List.{length-map}
use Rattle.calc_addr.specs.Places.{Place, Rectangle, covers, place_cmp, places}
use Rattle.calc_addr.proofs.Walking.Places.{places_rise}
use Rattle.calc_model.specs.declared.content.Content.{Content}
use Rattle.calc_model.specs.declared.content.Content.TheVariants.{Empty, Constant, Formula, Raw}
use Rattle.calc_model.specs.Books.{is_content, is_held, with_content}
use Rattle.calc_model.specs.CellEdits.{CellEntries, after_copy, after_fill, area_at, copied_entry, equal_place, filled_entries, moved_content, with_entries, within_area, without_area}
use Rattle.calc_model.proofs.Areas.{Inside, all_places, covered, inside}
use Rattle.calc_model.proofs.EntriesMoved.{all-filtered, all-map, sorted-filter, sorted-moved}
use Rattle.cell_columns.specs.Filled.{moved_entries}
use Rattle.book_parts.proofs.Inserted.{area_fresh, length-inserts, rising-sorted}

-- a content that isn't empty is put in its place
pub put_one : (es : CellEntries) (cell : Place) (content : Content) → is_held content ≡ true → with_content es cell content ≡ insert_entry place_cmp es cell content
put_one es cell content held = ap (λ b. cond b (insert_entry place_cmp es cell content) (remove_entry (is_at (place_cmp cell)) es)) held

pub content_held : (content : Content) → is_content content ≡ true → is_held content ≡ true
content_held Empty is = is
content_held (Constant value) is = refl
content_held (Formula tree) is = refl
content_held (Raw text) is = refl

-- equal places lie in the area that begins at the cell, in the same order
lands : (area : Rectangle) (to p : Place) → covers area p ≡ true → covers (area_at area to) (equal_place area to p) ≡ true
lands area to p h =
    let at : Inside area p = inside area p h in
    covered (area_at area to) (equal_place area to p) (record {
      same_sheet = refl;
      col_from = omega arith;
      col_to = omega (arith, at.col_to, at.col_from);
      row_from = omega arith;
      row_to = omega (arith, at.row_to, at.row_from);
    })

same_order : (area : Rectangle) (to p q : Place) → covers area p ≡ true → covers area q ≡ true → is_lt (place_cmp p q) ≡ true → is_lt (place_cmp (equal_place area to p) (equal_place area to q)) ≡ true
same_order area to p q h k less =
    let at : Inside area p = inside area p h in
    let other : Inside area q = inside area q k in
    let sheets : p.sheet ≡ q.sheet = at.same_sheet ∙ sym other.same_sheet in
    by_numbers p.sheet q.sheet p.col q.col p.row q.row (to.col + (p.col - area.first_col)) (to.col + (q.col - area.first_col)) (to.row + (p.row - area.first_row)) (to.row + (q.row - area.first_row)) to.sheet sheets
    (λ h. omega (arith, h, at.col_from, other.col_from)) (λ h. ap (λ n. to.col + (n - area.first_col)) h) (λ h. omega (arith, h, at.row_from, other.row_from)) less
  where
    by_numbers : (s t c d r u x y v w sheet : ℕ) → s ≡ t → (c < d → x < y) → (c ≡ d → x ≡ y) → (r < u → v < w) → is_lt (ordering_then (nat_cmp s t) (ordering_then (nat_cmp c d) (nat_cmp r u))) ≡ true → is_lt (ordering_then (nat_cmp sheet sheet) (ordering_then (nat_cmp x y) (nat_cmp v w))) ≡ true
    by_numbers s t c d r u x y v w sheet sheets less same below h = grind (arith, nat_tests)

pub copies_land : (area : Rectangle) (to : Place) (es : CellEntries) → list_all (λ n. covers (area_at area to) n.0) (map (copied_entry area to) (within_area es area)) ≡ true
copies_land area to es =
    let inside_all = all-filtered (λ (e : Place × Content). covers area e.0) es in
    all-map (λ (e : Place × Content). covers area e.0) (λ (e : Place × Content). covers area e.0) (λ n. covers (area_at area to) n.0) (copied_entry area to) (λ e h _. lands area to e.0 h) (within_area es area) inside_all inside_all

pub fills_land : (from : Place) (content : Content) (area : Rectangle) → list_all (λ n. covers area n.0) (filled_entries from content area) ≡ true
fills_land from content area =
    let every = all_places (covers area) area (λ q c. c) in
    elim (is_held content) as (λ b. list_all (λ n. covers area n.0) (cond b (moved_entries from content (places area)) []) ≡ true) [
      | true ↦ all-map (covers area) (covers area) (λ (n : Place × Content). covers area n.0) (λ q. (q, moved_content from q content)) (λ q h _. h) (places area) every every
      | false ↦ refl
    ]

pub length-copy : (area : Rectangle) (to : Place) (es : CellEntries) → is_sorted place_cmp es ≡ true → length (after_copy es area to) ≡ length (without_area es (area_at area to)) + length (within_area es area)
unfolding after_copy
length-copy area to es sorted =
    let from : CellEntries = within_area es area in
    let inside_all = all-filtered (λ (e : Place × Content). covers area e.0) es in
    let news : CellEntries = map (copied_entry area to) from in
    let order : is_sorted place_cmp news ≡ true = sorted-moved place_cmp (covers area) (equal_place area to) (λ e. moved_content e.0 (equal_place area to e.0) e.1) (same_order area to) from inside_all (sorted-filter place_cmp (covers area) es sorted) in
    let land : list_all (λ n. covers (area_at area to) n.0) news ≡ true = copies_land area to es in
    length-inserts news (without_area es (area_at area to)) order (area_fresh (area_at area to) news es land)
    ∙ ap (λ n. length (without_area es (area_at area to)) + n) (length-map from (copied_entry area to))

pub copy_is : (es : CellEntries) (area : Rectangle) (to : Place) → after_copy es area to ≡ with_entries (without_area es (area_at area to)) (map (copied_entry area to) (within_area es area))
unfolding after_copy
copy_is es area to = refl

pub fill_is : (es : CellEntries) (from : Place) (content : Content) (area : Rectangle) → is_held content ≡ true → after_fill es from content area ≡ with_entries (without_area es area) (moved_entries from content (places area))
unfolding after_fill
fill_is es from content area held = ap (λ b. with_entries (without_area es area) (cond b (moved_entries from content (places area)) [])) held

pub empty_fill_is : (es : CellEntries) (from : Place) (content : Content) (area : Rectangle) → is_held content ≡ false → after_fill es from content area ≡ without_area es area
unfolding after_fill
empty_fill_is es from content area empty = ap (λ b. with_entries (without_area es area) (cond b (moved_entries from content (places area)) [])) empty

pub length-fill : (es : CellEntries) (from : Place) (content : Content) (area : Rectangle) → is_held content ≡ true → length (after_fill es from content area) ≡ length (without_area es area) + length (places area)
length-fill es from content area held =
    let at : Place → Content = λ q. moved_content from q content in
    let news : CellEntries = moved_entries from content (places area) in
    let every = all_places (covers area) area (λ q c. c) in
    let land : list_all (λ n. covers area n.0) news ≡ true = all-map (covers area) (covers area) (λ (n : Place × Content). covers area n.0) (λ q. (q, at q)) (λ q h _. h) (places area) every every in
    ap (λ (es : CellEntries). length es) (fill_is es from content area held)
    ∙ length-inserts news (without_area es area) (rising-sorted at (places area) (places_rise area)) (area_fresh area news es land)
    ∙ ap (λ n. length (without_area es area) + n) (length-map (places area) (λ q. (q, at q)))
