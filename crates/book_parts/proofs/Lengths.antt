-- Whether a sorted list has room for a content.
use Rattle.std.proofs.Common.{◌≡◌, ℕ, suc, ◌+◌, not, Bool, true, false, cond, nat_le, ◌<◌, ◌≤◌, List, [], ◌∷◌, length, Some, None, is_some, unwrap_or, refl, sym, ap, subst, ◌∙◌, arith}
use Rattle.std.specs.List.{list_all}
use Rattle.std.specs.Map.{lookup, remove_entry}
use Rattle.std.specs.BTreeMap.{insert_entry, is_at}
use Rattle.std.specs.Ordering.{eq_by_cmp, is_eq, is_lt, match_ordering}
use Rattle.std.specs.FinMap.Entries.{below_all, find, is_sorted}
use Rattle.std.specs.declared.cmp.Ordering.TheVariants.{Less, Equal, Greater}
use Rattle.std.proofs.lemmas.Bool.Decides.{nat_tests}
use Rattle.std.proofs.lemmas.Bool.{le-leb}
use Rattle.calc_addr.specs.Places.{Place, place_cmp}
use Rattle.calc_model.specs.declared.content.Content.{Content}
use Rattle.calc_model.specs.declared.content.Content.TheVariants as content
use Rattle.calc_model.specs.Books.{Book, content_at, is_cell_entry, is_content, is_held, is_place, with_content}
use Rattle.calc_model.specs.CellEdits.{CellEntries}
use Rattle.calc_model.proofs.Areas.{both_true}
use Rattle.calc_model.proofs.BooksKept.{longer_by_one}
use Rattle.calc_model.proofs.EntriesKept.{both_so}
use Rattle.calc_model.proofs.Places.{same_places}
use Rattle.book_parts.proofs.Copied.{content_held}
use Rattle.book_parts.proofs.Inserted.{is_fresh, length-fresh}

abbrev once : Bool → ℕ
once b = cond b 1 0

-- an entry less where one was there
length-remove_entry : {K X : Type 0} (test : K → Bool) (es : List (K × X)) → length (remove_entry test es) + once (is_some (lookup test es)) ≡ length es
length-remove_entry test [] = refl
length-remove_entry test (e ∷ es) =
    elim (test e.0) as (λ b. length (cond b es (e ∷ remove_entry test es)) + once (is_some (cond b (Some e.1) (lookup test es))) ≡ length (e ∷ es)) [
      | true ↦ omega arith
      | false ↦ omega (arith, length-remove_entry test es)
    ]

-- what is found comes behind what is below all
found_behind : (p q : Place) (es : CellEntries) → below_all place_cmp p es ≡ true → (c : Content) → find place_cmp q es ≡ Some c → is_lt (place_cmp p q) ≡ true
found_behind p q [] below c is = cc
found_behind p q (e ∷ es) below c is =
    let parts = both_true (is_lt (place_cmp p e.0)) (below_all place_cmp p es) below in
    elim (eq_by_cmp place_cmp q e.0) as (λ b. eq_by_cmp place_cmp q e.0 ≡ b → cond b (Some e.1) (find place_cmp q es) ≡ Some c → is_lt (place_cmp p q) ≡ true) [
      | true ↦ λ same _. subst (λ r. is_lt (place_cmp p r) ≡ true) (sym (same_places q e.0 same)) parts.0
      | false ↦ λ _ is. found_behind p q es parts.1 c is
    ] refl is

not_before : (p q : Place) → place_cmp q p ≡ Less → is_lt (place_cmp p q) ≡ true → ⊥
not_before p q less h = grind (arith, nat_tests, less, h)

-- as many where one is found
length-found : (es : CellEntries) → is_sorted place_cmp es ≡ true → (q : Place) (x c : Content) → find place_cmp q es ≡ Some c → length (insert_entry place_cmp es q x) ≡ length es
length-found [] sorted q x c is = cc
length-found (e ∷ es) sorted q x c is =
    let parts = both_true (below_all place_cmp e.0 es) (is_sorted place_cmp es) sorted in
    elim (place_cmp q e.0) as (λ o. place_cmp q e.0 ≡ o → cond (is_eq o) (Some e.1) (find place_cmp q es) ≡ Some c → length (match_ordering o ((q, x) ∷ e ∷ es) ((e.0, x) ∷ es) (e ∷ insert_entry place_cmp es q x)) ≡ length (e ∷ es)) [
      | Less ↦ λ less is. absurd (not_before e.0 q less (found_behind e.0 q es parts.0 c is))
      | Equal ↦ λ _ _. refl
      | Greater ↦ λ _ is. ap suc (length-found es parts.1 q x c is)
    ] refl is

fresh : (es : CellEntries) (q : Place) → find place_cmp q es ≡ None → is_fresh q es ≡ true
fresh [] q none = refl
fresh (e ∷ es) q none =
    elim (eq_by_cmp place_cmp q e.0) as (λ b. eq_by_cmp place_cmp q e.0 ≡ b → cond b (Some e.1) (find place_cmp q es) ≡ None → is_fresh q (e ∷ es) ≡ true) [
      | true ↦ λ _ none. cc
      | false ↦ λ apart none. both_so (not (eq_by_cmp place_cmp q e.0)) (is_fresh q es) (ap (λ b. not b) apart) (fresh es q none)
    ] refl none

-- what is found is held
pub found_held : (es : CellEntries) → list_all is_cell_entry es ≡ true → (q : Place) (c : Content) → find place_cmp q es ≡ Some c → is_held c ≡ true
found_held [] h q c is = cc
found_held (e ∷ es) h q c is =
    let parts = both_true (is_cell_entry e) (list_all is_cell_entry es) h in
    elim (eq_by_cmp place_cmp q e.0) as (λ b. cond b (Some e.1) (find place_cmp q es) ≡ Some c → is_held c ≡ true) [
      | true ↦ λ is. subst (λ x. is_held x ≡ true) (ap (λ o. unwrap_or o e.1) is) (content_held e.1 (both_true (is_place e.0) (is_content e.1) parts.0).1)
      | false ↦ λ is. found_held es parts.1 q c is
    ] is

module _ (cells : CellEntries) (cell : Place) (content : Content) where
  -- whether there is room for a content
  abbrev fits : ℕ → Bool
  fits limit = nat_le (length (with_content cells cell content)) limit

  pub fits_empty : (limit : ℕ) → is_held content ≡ false → length cells ≤ limit → true ≡ fits limit
  fits_empty limit empty few =
      let shorter : length (remove_entry (is_at (place_cmp cell)) cells) ≤ limit = omega (arith, length-remove_entry (is_at (place_cmp cell)) cells) in
      rw empty (sym (le-leb _ limit shorter))

  pub fits_below : (limit : ℕ) → length cells < limit → true ≡ fits limit
  fits_below limit below = sym (le-leb _ limit (omega (arith, longer_by_one cells cell content, below)))

-- a list at the limit has room for a content where the cell isn't empty
pub fits_at : (book : Book) (cell : Place) (x : Content) → is_sorted place_cmp book.cells ≡ true → list_all is_cell_entry book.cells ≡ true → is_held x ≡ true → (limit : ℕ) → length book.cells ≤ limit → limit ≤ length book.cells → is_held (content_at book cell) ≡ nat_le (length (with_content book.cells cell x)) limit
unfolding content_at
fits_at book cell x sorted held some limit few many =
    elim (find place_cmp cell book.cells) as (λ o. find place_cmp cell book.cells ≡ o → is_held (unwrap_or o content.Empty) ≡ nat_le (length (with_content book.cells cell x)) limit) [
      | Some c ↦ λ is. found_held book.cells held cell c is ∙ sym (le-leb _ limit (omega (arith, put, length-found book.cells sorted cell x c is, few)))
      | None ↦ λ none. over (length (with_content book.cells cell x)) (omega (arith, put, length-fresh cell x book.cells (fresh book.cells cell none), many))
    ] refl
  where
    put : length (with_content book.cells cell x) ≡ length (insert_entry place_cmp book.cells cell x)
    put = ap (λ b. length (cond b (insert_entry place_cmp book.cells cell x) (remove_entry (is_at (place_cmp cell)) book.cells))) some

    over : (n : ℕ) → limit < n → false ≡ nat_le n limit
    over n h = grind (arith, nat_tests, h)
