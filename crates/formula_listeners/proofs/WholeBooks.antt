-- A hub of all formulas of a book holds the book: where no cell can be, nothing stands.
use Rattle.std.proofs.Common.{◌≡◌, Bool, true, false, cond, [], ◌∷◌, None, Some, unwrap_or, refl, sym, ap, ◌∙◌}
use Rattle.std.specs.List.{list_all}
use Rattle.std.specs.FinMap.Entries.{find}
use Rattle.std.specs.Ordering.{eq_by_cmp}
use Rattle.calc_addr.specs.Places.{IsPlace, Place, place_cmp}
use Rattle.calc_model.specs.declared.content.Content.TheVariants.{Empty}
use Rattle.calc_model.specs.Books.{Book, IsBook, NameEntries, area_named, content_at, is_cell_entry, is_content, is_formula, is_place}
use Rattle.calc_model.specs.CellEdits.{CellEntries}
use Rattle.calc_model.specs.Listeners.{ReadAreas}
use Rattle.calc_model.specs.Reads.{content_areas}
use Rattle.calc_model.proofs.Areas.{both_true}
use Rattle.calc_model.proofs.Places.{same_places}
use Rattle.calc_model.proofs.RowsKept.{rectangle_from}
use Rattle.formula_code.specs.Codes.{Codes}
use Rattle.formula_code.specs.Coded.{AreFormulasOf, CodeColumns, coded_areas, formula_in}
use Rattle.formula_listeners.specs.Held.{HoldsReads, areas_in}
use Rattle.formula_listeners.proofs.BookReads.{book_reads}

none_found : (q : Place) → is_place q ≡ false → (es : CellEntries) → list_all is_cell_entry es ≡ true → find place_cmp q es ≡ None
none_found q out [] all = refl
none_found q out (e ∷ es) all =
    let parts = both_true (is_cell_entry e) (list_all is_cell_entry es) all in
    skip (eq_by_cmp place_cmp q e.0) (λ is. clash (ap is_place (same_places q e.0 is) ∙ (both_true (is_place e.0) (is_content e.1) parts.0).0)) (none_found q out es parts.1)
  where
    clash : is_place q ≡ true → ⊥
    clash there = let both : false ≡ true = sym out ∙ there in cc

    skip : (b : Bool) → (b ≡ true → ⊥) → find place_cmp q es ≡ None → cond b (Some e.1) (find place_cmp q es) ≡ None
    skip true never rest = absurd (never refl)
    skip false never rest = rest

none_outside : (book : Book) → list_all is_cell_entry book.cells ≡ true → (q : Place) → is_place q ≡ false → areas_in book q ≡ None
unfolding content_at
none_outside book is q out =
    ap (λ o. cond (is_formula (unwrap_or o Empty)) (Some (content_areas q (area_named book) (unwrap_or o Empty))) None) (none_found q out book.cells is)

place_from : (q : Place) → is_place q ≡ true → IsPlace q
place_from q is =
    let lies = rectangle_from _ is in
    record { sheet_in = lies.sheet_in; col_from = lies.cols_from; col_to = lies.cols_to; row_from = lies.rows_from; row_to = lies.rows_to }

either : {X : Type 0} (b : Bool) {x y o : X} → (b ≡ true → x ≡ y) → (b ≡ false → o ≡ y) → cond b x o ≡ y
either true there out = there refl
either false there out = out refl

pub holds_book : (codes : Codes) (names : NameEntries) (columns : CodeColumns) (book : Book) (read : ReadAreas) → ((q : Place) → read q ≡ cond (is_place q) (coded_areas codes names columns q) None) → IsBook book → AreFormulasOf codes columns book → book.names ≡ names → HoldsReads read book
holds_book codes names columns book read reads is are named q =
    reads q ∙ either (is_place q) (λ there. book_reads codes names columns book are named q (place_from q there)) (λ out. sym (none_outside book is.cells_held q out))

same_content : (book after : Book) → after.cells ≡ book.cells → (p : Place) → content_at after p ≡ content_at book p
unfolding content_at
same_content book after cells p = ap (λ (es : CellEntries). unwrap_or (find place_cmp p es) Empty) cells

-- a book whose names changed, of which a hub holds what its formulas read now
pub holds_renamed : (codes : Codes) (names : NameEntries) (columns : CodeColumns) (book after : Book) (old new : ReadAreas) → IsBook book → AreFormulasOf codes columns book → after.cells ≡ book.cells → after.names ≡ names → HoldsReads old book
    → (((q : Place) → is_place q ≡ true → old q ≡ coded_areas codes book.names columns q) → (q : Place) → new q ≡ cond (is_place q) (coded_areas codes names columns q) (old q)) → HoldsReads new after
holds_renamed codes names columns book after old new is are cells named holds renewed q =
    renewed (λ p h. holds p ∙ sym (book_reads codes book.names columns book are refl p (place_from p h))) q
    ∙ either (is_place q) (λ there. book_reads codes names columns after after_are named q (place_from q there))
    (λ out. holds q ∙ none_outside book is.cells_held q out ∙ sym (none_outside after (ap (list_all is_cell_entry) cells ∙ is.cells_held) q out))
  where
    after_are : AreFormulasOf codes columns after
    after_are p place = ap formula_in (same_content book after cells p) ∙ are p place
