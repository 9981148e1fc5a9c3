-- The columns of a sheet go with a change of its rows: columns and codes stay those of a book, and the cells go.
use Rattle.std.proofs.Common.{◌≡◌, ℕ, suc, ◌+◌, ◌-◌, ◌<◌, true, false, List, [], ◌∷◌, length, refl, sym, ap, subst, ◌∙◌, arith}
use Rattle.std.specs.Prelude.{slice_index_or, sum_by}
use Rattle.std.proofs.lemmas.List.Sums.{sum_by-cons}
use Rattle.calc_addr.specs.declared.cell.TheConstants.{LAST_ROW}
use Rattle.calc_addr.specs.Places.{IsPlace, Place}
use Rattle.calc_model.specs.declared.change.Change.{Change}
use Rattle.calc_model.specs.declared.content.Content.{Content}
use Rattle.calc_model.specs.declared.content.Content.TheVariants as content
use Rattle.calc_model.specs.Books.{is_content, is_held}
use Rattle.calc_model.specs.CellEdits.{with_tree}
use Rattle.calc_model.specs.Changes.{IsChange}
use Rattle.calc_model.specs.Formed.{is_formed}
use Rattle.calc_model.proofs.FormedShifts.{changed_is_formed}
use Rattle.formula_code.specs.Codes.{Codes, has_valid_references, tree_at}
use Rattle.formula_code.proofs.Forms.{formed_is_valid}
use Rattle.block_column.specs.declared.slot.Slot.{Slot}
use Rattle.block_column.specs.declared.slot.Slot.TheVariants as slot
use Rattle.block_column.specs.Kinds.{is_filled}
use Rattle.kept_codes.specs.declared.cells.TheConstants.{COLUMNS}
use Rattle.kept_codes.specs.Columns.{cell_in}
use Rattle.cell_columns.specs.Cells.{Column, cells_below, column_at, content_of, slot_at}
use Rattle.cell_columns.specs.Sheets.{AreSheets}
use Rattle.kept_codes.specs.RowChanges.{StaysIn, goes, tree_after}
use Rattle.cell_columns.specs.Shifted.{shifted}
use Rattle.cell_columns.specs.Uses.{summed}
use Rattle.cell_columns.specs.Sheets.{IsFit}
use Rattle.cell_columns.proofs.RowParts.{Fits, GoesWell, Meets, Rows, cells_there, rows_from}
use Rattle.cell_columns.proofs.RowsMoved.{Holds, cells_moved, fits_moved, sums_moved}
use Rattle.cell_columns.proofs.Told.{number_of, place_in, row_behind}

pub empty_slot : (x : Slot) → is_filled x ≡ false → x ≡ slot.Empty
empty_slot slot.Empty h = refl
empty_slot (slot.Number n) h = cc
empty_slot (slot.Words text) h = cc
empty_slot (slot.Bad fault) h = cc
empty_slot (slot.Raw text) h = cc
empty_slot (slot.Formula id) h = cc

pub held_filled : (codes : Codes) (q : Place) (x : Slot) → is_held (content_of codes q x) ≡ is_filled x
held_filled codes q slot.Empty = refl
held_filled codes q (slot.Number n) = refl
held_filled codes q (slot.Words text) = refl
held_filled codes q (slot.Bad fault) = refl
held_filled codes q (slot.Raw text) = refl
held_filled codes q (slot.Formula id) = refl

content_after : (change : Change) → IsChange change → (q : Place) (c : Content) → is_content c ≡ true → is_content (with_tree (tree_after change q) c) ≡ true
content_after change rows q content.Empty h = h
content_after change rows q (content.Constant value) h = h
content_after change rows q (content.Formula tree) h = changed_is_formed change q tree rows h
content_after change rows q (content.Raw text) h = h

empty_fits : (codes : Codes) (q : Place) → IsFit codes q slot.Empty
empty_fits codes q = record { coded = λ id here. cc; fit = λ filled. cc }

pub summed_alike : (f : Slot → ℕ) (xs ys : List Column) → length ys ≡ length xs → ((n : ℕ) → n < length xs → sum_by f (column_at ys n) ≡ sum_by f (column_at xs n)) → summed f ys ≡ summed f xs
summed_alike f [] [] long each = refl
summed_alike f [] (y ∷ ys) long each = absurd (omega (arith, long))
summed_alike f (x ∷ xs) [] long each = absurd (omega (arith, long))
summed_alike f (x ∷ xs) (y ∷ ys) long each =
    omega (arith, sum_by-cons (λ c. sum_by f c) x xs, sum_by-cons (λ c. sum_by f c) y ys, each 0 (omega arith), summed_alike f xs ys (omega (arith, long)) (λ n h. each (suc n) (omega (arith, h))))

module _ (codes : Codes) (change : Change) (rows : IsChange change) (before : List Column) (was : AreSheets codes before) (stays : (q : Place) → IsPlace q → is_filled (slot_at before q) ≡ true → StaysIn change q) (keeps : (q : Place) → IsPlace q → (id : ℕ) → slot_at before q ≡ slot.Formula id → tree_at codes id (goes change q) ≡ tree_after change q (tree_at codes id q)) where
  content_there : (q : Place) → IsPlace q → content_of codes (goes change q) (slot_at before q) ≡ with_tree (tree_after change q) (content_of codes q (slot_at before q))
  content_there q is =
      elim (slot_at before q) as (λ x. slot_at before q ≡ x → content_of codes (goes change q) x ≡ with_tree (tree_after change q) (content_of codes q x)) [
        | slot.Empty ↦ λ _. refl
        | slot.Number n ↦ λ _. refl
        | slot.Words text ↦ λ _. refl
        | slot.Bad fault ↦ λ _. refl
        | slot.Raw text ↦ λ _. refl
        | slot.Formula id ↦ λ here. ap content.Formula (keeps q is id here)
      ] refl

  formed_at : (q : Place) → IsPlace q → (id : ℕ) → slot_at before q ≡ slot.Formula id → is_formed (tree_at codes id q) ≡ true
  formed_at q is id here = subst (λ x. is_content (content_of codes q x) ≡ true) here (was.fit q is (ap is_filled here))

  fit_there : (q : Place) → IsPlace q → IsFit codes (goes change q) (slot_at before q)
  fit_there q is = record {
    coded = λ id here. record {
      live = (was.coded q is id here).live;
      valid = subst (λ t. has_valid_references t ≡ true) (sym (keeps q is id here)) (formed_is_valid _ (changed_is_formed change q (tree_at codes id q) rows (formed_at q is id here)));
    };
    fit = λ filled. subst (λ c. is_content c ≡ true) (sym (content_there q is)) (content_after change rows q _ (was.fit q is filled));
  }

  slot_here : (n i : ℕ) → slot_at before (cell_in n (1 + i)) ≡ slice_index_or (column_at before n) i slot.Empty
  slot_here n i = ap (λ k. slice_index_or (column_at before k) (1 + i - 1) slot.Empty) (number_of n i) ∙ ap (λ r. slice_index_or (column_at before n) r slot.Empty) (row_behind i)

  module _ (n : ℕ) (among : n < COLUMNS) where
    abbrev c : Column
    c = column_at before n

    inside : (i : ℕ) → i < length (column_at before n) → IsPlace (cell_in n (1 + i))
    inside i h = place_in n i among (subst (λ k. i < k) (was.all_rows n among) h)

    all_well : Rows (GoesWell codes n change) 1 (column_at before n)
    all_well = rows_from (GoesWell codes n change) 1 (column_at before n) (λ i h. record {
      fit = subst (IsFit codes (goes change (cell_in n (1 + i)))) (slot_here n i) (fit_there (cell_in n (1 + i)) (inside i h));
      content = subst (λ x. content_of codes (goes change (cell_in n (1 + i))) x ≡ with_tree (tree_after change (cell_in n (1 + i))) (content_of codes (cell_in n (1 + i)) x)) (slot_here n i) (content_there (cell_in n (1 + i)) (inside i h));
    })

    pub all_fit : Rows (Fits codes n change) 1 (column_at before n)
    all_fit = rows_from (Fits codes n change) 1 (column_at before n) (λ i h. record {
      coded = λ id here. was.coded (cell_in n (1 + i)) (inside i h) id (slot_here n i ∙ here);
      fit = λ filled. subst (λ x. is_content (content_of codes (cell_in n (1 + i)) x) ≡ true) (slot_here n i) (was.fit (cell_in n (1 + i)) (inside i h) (subst (λ x. is_filled x ≡ true) (sym (slot_here n i)) filled));
    })

    -- what holds of the column that takes the place of this one
    pub record MovesWell (d : Column) : Type 1 where
      pub cells : cells_below codes n 1 d ≡ shifted change (cells_below codes n 1 (column_at before n))
      pub fits : Rows (Fits codes n change) 1 d
      pub sums : (f : Slot → ℕ) → f slot.Empty ≡ 0 → sum_by f d ≡ sum_by f (column_at before n)
      pub long : length d ≡ length (column_at before n)

    -- a row that doesn't stay is empty
    pub gone : (i : ℕ) → i < LAST_ROW → (StaysIn change (cell_in n (1 + i)) → ⊥) → slice_index_or (column_at before n) i slot.Empty ≡ slot.Empty
    gone i h leaves =
        sym (slot_here n i)
        ∙ elim (is_filled (slot_at before (cell_in n (1 + i)))) as (λ b. is_filled (slot_at before (cell_in n (1 + i))) ≡ b → slot_at before (cell_in n (1 + i)) ≡ slot.Empty) [
          | true ↦ λ filled. absurd (leaves (stays (cell_in n (1 + i)) (place_in n i among h) filled))
          | false ↦ λ none. empty_slot (slot_at before (cell_in n (1 + i))) none
        ] refl

    -- where no row goes elsewhere
    pub moves_nowhere : ((r : ℕ) → goes change (cell_in n r) ≡ cell_in n r) → MovesWell (column_at before n)
    moves_nowhere same = record {
      cells = cells_there codes n change 1 1 (column_at before n) all_well (λ r s low high is. same r ∙ ap (cell_in n) (omega (arith, is)));
      fits = all_fit;
      sums = λ f none. refl;
      long = refl;
    }

    module _ (d front back : Column) (from to : ℕ) (held : Holds (column_at before n) front back from) (now : Holds d front back to) (front_stays : Meets codes n change 1 1 (length front)) (back_goes : Meets codes n change from to (length back)) (many : length d ≡ length (column_at before n)) where
      pub moves_parts : MovesWell d
      moves_parts = record {
        cells = cells_moved codes n change (column_at before n) d front back from to held now all_well front_stays back_goes;
        fits = fits_moved codes n change (column_at before n) d front back from to held now all_well front_stays back_goes (λ r. empty_fits codes (cell_in n r));
        sums = sums_moved (column_at before n) d front back from to held now;
        long = many;
      }
