-- What cells hold after one is set, and after an area is emptied.
use Rattle.std.proofs.Common.{◌≡◌, Bool, true, false, not, cond, None, unwrap_or, refl, sym, ap, subst, ◌∙◌, arith}
use Rattle.std.specs.BTreeMap.{is_at}
use Rattle.std.specs.Ordering.{eq_by_cmp}
use Rattle.std.specs.FinMap.Entries.{find, is_sorted}
use Rattle.std.proofs.lemmas.Bool.{false_from_ne_true}
use Rattle.std.proofs.lemmas.Bool.Decides.{nat_tests}
use Rattle.std.proofs.lemmas.Map.Entries.{lookup-filter-keys}
use Rattle.calc_addr.specs.Places.{Place, Rectangle, covers, place_cmp, single}
use Rattle.calc_model.specs.declared.content.Content.{Content}
use Rattle.calc_model.specs.declared.content.Content.TheVariants.{Empty}
use Rattle.calc_model.specs.Books.{Book, content_at, is_formula, with_content}
use Rattle.calc_model.specs.CellEdits.{without_area}
use Rattle.calc_model.proofs.Places.{same_places}
use Rattle.calc_model.proofs.Reached.{same_cell}
use Rattle.cell_columns.specs.Cells.{cells_only}
use Rattle.cell_columns.proofs.Contents.{set_content}
use Rattle.book_parts.proofs.Contents.{same_content}
use Rattle.book_parts.proofs.LeftCells.{set_leaves}
use Rattle.book_parts.proofs.Lookups.{find-lookup}

covers_itself : (cell : Place) → covers (single cell) cell ≡ true
covers_itself cell = grind (arith, nat_tests)

apart : (cell q : Place) → covers (single cell) q ≡ false → eq_by_cmp place_cmp cell q ≡ false
apart cell q outside =
    false_from_ne_true _ (λ same.
    let inside : covers (single cell) q ≡ true = subst (λ p. covers (single cell) p ≡ true) (same_places cell q same) (covers_itself cell) in
    cc)

pub set_elsewhere : (before after : Book) (cell : Place) (content : Content) → after.cells ≡ with_content before.cells cell content → (q : Place) → covers (single cell) q ≡ false → content_at after q ≡ content_at before q
set_elsewhere before after cell content same q outside = set_leaves before after cell content same q (apart cell q outside)

pub set_here : (before after : Book) (cell : Place) (content : Content) → is_sorted place_cmp before.cells ≡ true → after.cells ≡ with_content before.cells cell content → content_at after cell ≡ content
set_here before after cell content sorted same =
    sym (same_content after cell)
    ∙ ap (λ cells. content_at (cells_only cells) cell) same
    ∙ set_content before.cells cell cell content sorted
    ∙ ap (λ b. cond b content (content_at (cells_only before.cells) cell)) (same_cell cell)

pub emptied : (before after : Book) (area : Rectangle) → after.cells ≡ without_area before.cells area → (q : Place) → covers area q ≡ true → is_formula (content_at after q) ≡ false
unfolding content_at
emptied before after area same q inside =
    ap (λ cells. is_formula (unwrap_or (find place_cmp q cells) Empty)) same
    ∙ ap (λ o. is_formula (unwrap_or o Empty))
    (find-lookup place_cmp q (without_area before.cells area)
    ∙ lookup-filter-keys (is_at (place_cmp q)) (λ p. not (covers area p)) false (λ k is. ap not (subst (λ p. covers area p ≡ true) (same_places q k is) inside)) before.cells)
