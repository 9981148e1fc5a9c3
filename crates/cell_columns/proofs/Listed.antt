-- Cells that are listed with what they hold.
use Rattle.std.proofs.Common.{◌≡◌, ℕ, suc, zero, ◌<◌, Bool, true, false, cond, [], ◌∷◌, length, Some, unwrap_or, refl, ap, subst, ◌∙◌, arith}
use Rattle.std.specs.Prelude.{slice_index_or}
use Rattle.std.specs.List.{filter}
use Rattle.std.specs.Ordering.{eq_by_cmp, is_lt}
use Rattle.std.specs.FinMap.Entries.{below_all, find, is_sorted}
use Rattle.calc_addr.specs.Places.{Place, place_cmp}
use Rattle.calc_model.specs.declared.content.Content.{Content}
use Rattle.calc_model.specs.declared.content.Content.TheVariants as content
use Rattle.calc_model.specs.Books.{content_at}
use Rattle.calc_model.specs.CellEdits.{CellEntries}
use Rattle.calc_model.proofs.Areas.{both_true}
use Rattle.calc_model.proofs.Places.{same_places}
use Rattle.calc_model.proofs.Reached.{same_cell}
use Rattle.cell_columns.specs.Cells.{cells_only}
use Rattle.cell_columns.specs.Looks.{with_contents}
use Rattle.cell_columns.specs.Walks.{places_of}

-- the entries hold what the whole holds
abbrev Hold : CellEntries → CellEntries → Type 0
Hold whole es = (k : ℕ) (d : Place × Content) → k < length es → content_at (cells_only whole) (slice_index_or es k d).0 ≡ (slice_index_or es k d).1

-- an entry whose cell comes before those of others
behind : (p : Place) (es : CellEntries) → below_all place_cmp p es ≡ true → (k : ℕ) (d : Place × Content) → k < length es → is_lt (place_cmp p (slice_index_or es k d).0) ≡ true
behind p [] below k d h = absurd (omega (arith, h))
behind p (e ∷ es) below zero d h = (both_true (is_lt (place_cmp p e.0)) (below_all place_cmp p es) below).0
behind p (e ∷ es) below (suc k) d h = behind p es (both_true (is_lt (place_cmp p e.0)) (below_all place_cmp p es) below).1 k d (omega (arith, h))

other_cell : (p q : Place) → is_lt (place_cmp p q) ≡ true → eq_by_cmp place_cmp q p ≡ false
other_cell p q less =
    elim (eq_by_cmp place_cmp q p) as (λ b. eq_by_cmp place_cmp q p ≡ b → b ≡ false) [
      | true ↦ λ same. absurd (itself p (subst (λ r. is_lt (place_cmp p r) ≡ true) (same_places q p same) less))
      | false ↦ λ _. refl
    ] refl
  where
    itself : (p : Place) → is_lt (place_cmp p p) ≡ true → ⊥
    itself p less = grind (arith, less)

pub found_here : (es : CellEntries) → is_sorted place_cmp es ≡ true → (k : ℕ) (d : Place × Content) → k < length es → find place_cmp (slice_index_or es k d).0 es ≡ Some (slice_index_or es k d).1
found_here [] sorted k d h = absurd (omega (arith, h))
found_here (e ∷ es) sorted zero d h = ap (λ b. cond b (Some e.1) (find place_cmp e.0 es)) (same_cell e.0)
found_here (e ∷ es) sorted (suc k) d h =
    let parts = both_true (below_all place_cmp e.0 es) (is_sorted place_cmp es) sorted in
    let q : Place = (slice_index_or es k d).0 in
    ap (λ b. cond b (Some e.1) (find place_cmp q es)) (other_cell e.0 q (behind e.0 es parts.0 k d (omega (arith, h))))
    ∙ found_here es parts.1 k d (omega (arith, h))

pub all_hold : (es : CellEntries) → is_sorted place_cmp es ≡ true → Hold es es
unfolding content_at
all_hold es sorted k d h = ap (λ o. unwrap_or o content.Empty) (found_here es sorted k d h)

module _ (whole : CellEntries) where
  pub listed : (pass : Place → Bool) (es : CellEntries) → Hold whole es → with_contents whole (places_of (filter (λ e. pass e.0) es)) ≡ filter (λ e. pass e.0) es
  listed pass [] hold = refl
  listed pass (e ∷ es) hold =
      let rest : CellEntries = filter (λ e. pass e.0) es in
      let behind : with_contents whole (places_of rest) ≡ rest = listed pass es (λ k d h. hold (suc k) d (omega (arith, h))) in
      elim (pass e.0) as (λ b. with_contents whole (places_of (cond b (e ∷ rest) rest)) ≡ cond b (e ∷ rest) rest) [
        | true ↦ ap (λ (c : Content). (e.0, c) ∷ with_contents whole (places_of rest)) (hold 0 e (omega arith)) ∙ ap (λ t. e ∷ t) behind
        | false ↦ behind
      ]

  pub all_listed : (es : CellEntries) → Hold whole es → with_contents whole (places_of es) ≡ es
  all_listed [] hold = refl
  all_listed (e ∷ es) hold = ap (λ (c : Content). (e.0, c) ∷ with_contents whole (places_of es)) (hold 0 e (omega arith)) ∙ ap (λ t. e ∷ t) (all_listed es (λ k d h. hold (suc k) d (omega (arith, h))))
