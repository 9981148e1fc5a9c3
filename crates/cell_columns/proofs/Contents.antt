-- What the cells of a book hold after one is set.
use Rattle.std.proofs.Common.{◌≡◌, Bool, true, false, cond, [], ◌∷◌, Option, Some, None, unwrap_or, refl, sym, ap, subst, ◌∙◌}
use Rattle.std.specs.Map.{remove_entry}
use Rattle.std.specs.BTreeMap.{insert_entry, is_at}
use Rattle.std.specs.Ordering.{eq_by_cmp, match_ordering}
use Rattle.std.specs.FinMap.Entries.{below_all, by_order, find, find-put, is_sorted, put}
use Rattle.std.specs.declared.cmp.Ordering.TheVariants.{Less, Equal, Greater}
use Rattle.calc_addr.specs.Places.{Place, place_cmp}
use Rattle.calc_model.specs.declared.content.Content.{Content}
use Rattle.calc_model.specs.declared.content.Content.TheVariants.{Empty, Constant, Formula, Raw}
use Rattle.calc_model.specs.Books.{content_at, with_content}
use Rattle.calc_model.specs.CellEdits.{CellEntries}
use Rattle.calc_model.proofs.Areas.{both_true}
use Rattle.calc_model.proofs.Places.{places_total, same_places}
use Rattle.calc_model.proofs.Reached.{same_cell}
use Rattle.cell_columns.specs.Cells.{cells_only}
use Rattle.cell_columns.proofs.Found.{not_before}

insert_is_put : (es : CellEntries) (cell : Place) (content : Content) → insert_entry place_cmp es cell content ≡ put place_cmp cell content es
insert_is_put [] cell content = refl
insert_is_put (e ∷ es) cell content =
    elim (place_cmp cell e.0) as (λ o. match_ordering o ((cell, content) ∷ e ∷ es) ((e.0, content) ∷ es) (e ∷ insert_entry place_cmp es cell content) ≡ by_order o ((cell, content) ∷ e ∷ es) ((e.0, content) ∷ es) (e ∷ put place_cmp cell content es)) [
      | Less ↦ refl
      | Equal ↦ refl
      | Greater ↦ ap (λ t. e ∷ t) (insert_is_put es cell content)
    ]

pub find_inserted : (es : CellEntries) (cell q : Place) (content : Content) → find place_cmp q (insert_entry place_cmp es cell content) ≡ cond (eq_by_cmp place_cmp q cell) (Some content) (find place_cmp q es)
find_inserted es cell q content = ap (find place_cmp q) (insert_is_put es cell content) ∙ find-put place_cmp places_total q cell content es

abbrev nothing : Option Content
nothing = None

none : (b : Bool) → cond b nothing nothing ≡ nothing
none true = refl
none false = refl

pub find_removed : (es : CellEntries) (cell q : Place) → is_sorted place_cmp es ≡ true → find place_cmp q (remove_entry (is_at (place_cmp cell)) es) ≡ cond (eq_by_cmp place_cmp q cell) None (find place_cmp q es)
find_removed [] cell q sorted = sym (none (eq_by_cmp place_cmp q cell))
find_removed (e ∷ es) cell q sorted =
    let parts = both_true (below_all place_cmp e.0 es) (is_sorted place_cmp es) sorted in
    elim (is_at (place_cmp cell) e.0) as (λ b. is_at (place_cmp cell) e.0 ≡ b → find place_cmp q (cond b es (e ∷ remove_entry (is_at (place_cmp cell)) es)) ≡ cond (eq_by_cmp place_cmp q cell) None (cond (eq_by_cmp place_cmp q e.0) (Some e.1) (find place_cmp q es))) [
      | true ↦ λ same.
          let here : cell ≡ e.0 = same_places cell e.0 same in
          subst (λ p. find place_cmp q es ≡ cond (eq_by_cmp place_cmp q p) None (cond (eq_by_cmp place_cmp q e.0) (Some e.1) (find place_cmp q es))) (sym here)
          (elim (eq_by_cmp place_cmp q e.0) as (λ b. eq_by_cmp place_cmp q e.0 ≡ b → find place_cmp q es ≡ cond b None (cond b (Some e.1) (find place_cmp q es))) [
            | true ↦ λ is. ap (λ p. find place_cmp p es) (same_places q e.0 is) ∙ not_before e.0 es parts.0
            | false ↦ λ _. refl
          ] refl)
      | false ↦ λ other.
          elim (eq_by_cmp place_cmp q e.0) as (λ b. eq_by_cmp place_cmp q e.0 ≡ b → cond b (Some e.1) (find place_cmp q (remove_entry (is_at (place_cmp cell)) es)) ≡ cond (eq_by_cmp place_cmp q cell) None (cond b (Some e.1) (find place_cmp q es))) [
            | true ↦ λ is.
                elim (eq_by_cmp place_cmp q cell) as (λ c. eq_by_cmp place_cmp q cell ≡ c → Some e.1 ≡ cond c None (Some e.1)) [
                  | true ↦ λ too.
                      let both : cell ≡ e.0 = sym (same_places q cell too) ∙ same_places q e.0 is in
                      let at : is_at (place_cmp cell) e.0 ≡ true = subst (λ p. is_at (place_cmp cell) p ≡ true) both (same_cell cell) in
                      cc
                  | false ↦ λ _. refl
                ] refl
            | false ↦ λ _. find_removed es cell q parts.1
          ] refl
    ] refl

-- a cell that is set holds the content, and the others what they held
pub set_content : (cells : CellEntries) (cell q : Place) (content : Content) → is_sorted place_cmp cells ≡ true → content_at (cells_only (with_content cells cell content)) q ≡ cond (eq_by_cmp place_cmp q cell) content (content_at (cells_only cells) q)
unfolding content_at
set_content cells cell q content sorted =
    elim content as (λ (content : Content). unwrap_or (find place_cmp q (with_content cells cell content)) Empty ≡ cond (eq_by_cmp place_cmp q cell) content (unwrap_or (find place_cmp q cells) Empty)) [
      | Empty ↦ ap (λ o. unwrap_or o Empty) (find_removed cells cell q sorted) ∙ pushed None Empty refl
      | Constant value ↦ ap (λ o. unwrap_or o Empty) (find_inserted cells cell q (Constant value)) ∙ pushed (Some (Constant value)) (Constant value) refl
      | Formula tree ↦ ap (λ o. unwrap_or o Empty) (find_inserted cells cell q (Formula tree)) ∙ pushed (Some (Formula tree)) (Formula tree) refl
      | Raw text ↦ ap (λ o. unwrap_or o Empty) (find_inserted cells cell q (Raw text)) ∙ pushed (Some (Raw text)) (Raw text) refl
    ]
  where
    pushed : (o : Option Content) (c : Content) → unwrap_or o Empty ≡ c → unwrap_or (cond (eq_by_cmp place_cmp q cell) o (find place_cmp q cells)) Empty ≡ cond (eq_by_cmp place_cmp q cell) c (unwrap_or (find place_cmp q cells) Empty)
    pushed o c is = elim (eq_by_cmp place_cmp q cell) as (λ b. unwrap_or (cond b o (find place_cmp q cells)) Empty ≡ cond b c (unwrap_or (find place_cmp q cells) Empty)) [ true ↦ is | false ↦ refl ]
