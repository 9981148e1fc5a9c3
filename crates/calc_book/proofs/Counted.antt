-- What one item more adds to a count or a sum, and to cells.
use Rattle.std.proofs.Common.{◌≡◌, ℕ, ◌+◌, ◌<◌, ◌≤◌, Bool, true, false, cond, List, [], ◌∷◌, length, map, take, drop, get_or, sym, ap, ◌∙◌, arith}
use Rattle.std.specs.Prelude.{count_by}
use Rattle.std.proofs.lemmas.List.Sums.{sum_by-append, sum_by-cons, sum_by_push}
use Rattle.std.proofs.lemmas.List.{map-append, take-append-drop, take_more}
use Rattle.calc_addr.specs.Places.{Place, place_cmp}
use Rattle.calc_model.specs.declared.content.Content.{Content}
use Rattle.calc_model.specs.Books.{is_held, with_content}
use Rattle.calc_model.proofs.EntriesKept.{length-inserted, length-removed}
use Rattle.calc_book.specs.BookCells.{Entries, Fields, filled, has_bytes}
use Rattle.calc_book.specs.Placed.{held_in}
use Rattle.std.specs.BTreeMap.{insert_entry, is_at}
use Rattle.std.specs.Map.{remove_entry}

pub count_first : {X : Type 0} (p : X → Bool) (x : X) (xs : List X) → count_by p (x ∷ xs) ≡ cond (p x) 1 0 + count_by p xs
count_first p x xs = sum_by-cons (λ x. cond (p x) 1 0) x xs

-- one cell more is one entry more at most, and none where its content is empty
one_longer : (cells : Entries) (cell : Place) (content : Content) → length (with_content cells cell content) ≤ length cells + cond (is_held content) 1 0
one_longer cells cell content =
    elim (is_held content) as (λ b. length (cond b (insert_entry place_cmp cells cell content) (remove_entry (is_at (place_cmp cell)) cells)) ≤ length cells + cond b 1 0) [
      | true ↦ length-inserted place_cmp cell content cells
      | false ↦ omega (arith, length-removed (is_at (place_cmp cell)) cells)
    ]

-- the room for contents is enough behind the first of them
pub room_behind : (cells : Entries) (cell : Place) (content : Content) (contents : List Content) (most : ℕ) → length cells + held_in (content ∷ contents) ≤ most → length (with_content cells cell content) + held_in contents ≤ most
room_behind cells cell content contents most room = omega (arith, room, one_longer cells cell content, count_first is_held content contents)

pub room_for_one : (cells : Entries) (cell : Place) (content : Content) (contents : List Content) (most : ℕ) → length cells + held_in (content ∷ contents) ≤ most → length (with_content cells cell content) ≤ most
room_for_one cells cell content contents most room = omega (arith, room_behind cells cell content contents most room)

module _ {X : Type 0} (f : X → Fields) where
  -- how many fields of the records have a byte, with one record more
  pub filled_more : (xs : List X) (at : ℕ) (d : X) → at < length xs → filled (map f (take (at + 1) xs)) ≡ filled (map f (take at xs)) + count_by has_bytes (f (get_or xs at d))
  filled_more xs at d within =
      ap (λ front. filled (map f front)) (take_more xs at d within)
      ∙ ap filled (map-append f (take at xs) (get_or xs at d ∷ []))
      ∙ sum_by_push (λ fields. count_by has_bytes fields) (map f (take at xs)) (f (get_or xs at d))

  pub filled_front : (xs : List X) (at : ℕ) → filled (map f (take (at + 1) xs)) ≤ filled (map f xs)
  filled_front xs at =
      let front = map f (take (at + 1) xs) in
      let back = map f (drop (at + 1) xs) in
      let whole : filled (map f xs) ≡ filled front + filled back =
      ap (λ all. filled (map f all)) (sym (take-append-drop (at + 1) xs)) ∙ ap filled (map-append f (take (at + 1) xs) (drop (at + 1) xs)) ∙ sum_by-append (λ fields. count_by has_bytes fields) front back
      in omega (arith, whole)
