-- What the formulas of a book read after rows of a sheet went, and the cells with them.
use Rattle.std.proofs.Common.{◌≡◌, Bool, true, false, cond, not, List, [], ◌∷◌, map, Option, Some, None, unwrap_or, ◌⊎◌, inl, inr, refl, sym, ap, subst, ◌∙◌, arith}
use Rattle.std.specs.Prelude.{option_map}
use Rattle.std.specs.List.{filter, filter_map}
use Rattle.std.specs.FinMap.Entries.{find}
use Rattle.std.specs.Ordering.{eq_by_cmp}
use Rattle.std.proofs.lemmas.Bool.Decides.{nat_tests}
use Rattle.calc_addr.specs.Places.{Place, Rectangle, place_cmp}
use Rattle.calc_model.specs.declared.tree.Tree.{Tree}
use Rattle.calc_model.specs.declared.content.Content.{Content}
use Rattle.calc_model.specs.declared.content.Content.TheVariants.{Empty, Constant, Formula, Raw}
use Rattle.calc_model.specs.Books.{Book, area_named, content_at, is_formula}
use Rattle.calc_model.specs.CellEdits.{CellEntries, with_tree}
use Rattle.calc_model.specs.Listeners.{ReadAreas}
use Rattle.calc_model.specs.Reads.{areas, content_areas}
use Rattle.calc_model.specs.RowEdits.{shifted_entry}
use Rattle.calc_model.proofs.Places.{same_places}
use Rattle.ears.proofs.Meetings.{both_ways}
use Rattle.formula_listeners.specs.Held.{HoldsReads, areas_in}

same_cell : (q : Place) → eq_by_cmp place_cmp q q ≡ true
same_cell q = grind (arith, nat_tests)

-- the cell comes from one that stays, or from none
abbrev pub HasOrigin : (Place → Place) → (Place → Bool) → Place → Type 0
HasOrigin goes gone d = ((q : Place) × (gone q ≡ false) × (goes q ≡ d)) ⊎ ((q : Place) → gone q ≡ false → goes q ≡ d → ⊥)

module _ (goes : Place → Place) (gone : Place → Bool) (change : Place → Tree → Tree) (one : (p q : Place) → gone p ≡ false → gone q ≡ false → goes p ≡ goes q → p ≡ q) where
  abbrev moved : CellEntries → CellEntries
  moved es = map (shifted_entry goes change) (filter (λ e. not (gone e.0)) es)

  same_there : (p q : Place) → gone p ≡ false → gone q ≡ false → eq_by_cmp place_cmp (goes q) (goes p) ≡ eq_by_cmp place_cmp q p
  same_there p q stays there = both_ways _ _
      (λ h. subst (λ z. eq_by_cmp place_cmp q z ≡ true) (one q p there stays (same_places (goes q) (goes p) h)) (same_cell q))
      (λ h. subst (λ z. eq_by_cmp place_cmp (goes q) (goes z) ≡ true) (same_places q p h) (same_cell (goes q)))

  -- what is found where a cell goes
  found_there : (q : Place) → gone q ≡ false → (es : CellEntries) → find place_cmp (goes q) (moved es) ≡ option_map (with_tree (change q)) (find place_cmp q es)
  found_there q there [] = refl
  found_there q there (e ∷ es) =
      elim (gone e.0) as (λ b. gone e.0 ≡ b → find place_cmp (goes q) (map (shifted_entry goes change) (cond (not b) (e ∷ filter (λ x. not (gone x.0)) es) (filter (λ x. not (gone x.0)) es))) ≡ option_map (with_tree (change q)) (cond (eq_by_cmp place_cmp q e.0) (Some e.1) (find place_cmp q es))) [
        | true ↦ λ is. found_there q there es ∙ skip (eq_by_cmp place_cmp q e.0) (find place_cmp q es) (λ h. clash (ap gone (same_places q e.0 h) ∙ is))
        | false ↦ λ is.
            ap (λ b. cond b (Some (with_tree (change e.0) e.1)) (find place_cmp (goes q) (moved es))) (same_there e.0 q is there)
            ∙ first (eq_by_cmp place_cmp q e.0) (λ h. same_places q e.0 h) (found_there q there es)
      ] refl
    where
      clash : gone q ≡ true → ⊥
      clash h = let no_bool : false ≡ true = sym there ∙ h in cc

      skip : (b : Bool) (o : Option Content) → (b ≡ true → ⊥) → option_map (with_tree (change q)) o ≡ option_map (with_tree (change q)) (cond b (Some e.1) o)
      skip true o never = absurd (never refl)
      skip false o never = refl

      first : (b : Bool) → (b ≡ true → q ≡ e.0) → find place_cmp (goes q) (moved es) ≡ option_map (with_tree (change q)) (find place_cmp q es) → cond b (Some (with_tree (change e.0) e.1)) (find place_cmp (goes q) (moved es)) ≡ option_map (with_tree (change q)) (cond b (Some e.1) (find place_cmp q es))
      first true same rest = ap (λ p. Some (with_tree (change p) e.1)) (sym (same refl))
      first false same rest = rest

  -- and where none goes
  found_nowhere : (d : Place) → ((q : Place) → gone q ≡ false → goes q ≡ d → ⊥) → (es : CellEntries) → find place_cmp d (moved es) ≡ None
  found_nowhere d never [] = refl
  found_nowhere d never (e ∷ es) =
      elim (gone e.0) as (λ b. gone e.0 ≡ b → find place_cmp d (map (shifted_entry goes change) (cond (not b) (e ∷ filter (λ x. not (gone x.0)) es) (filter (λ x. not (gone x.0)) es))) ≡ None) [
        | true ↦ λ is. found_nowhere d never es
        | false ↦ λ is. skip (eq_by_cmp place_cmp d (goes e.0)) (λ h. never e.0 is (sym (same_places d (goes e.0) h))) (found_nowhere d never es)
      ] refl
    where
      skip : (b : Bool) → (b ≡ true → ⊥) → find place_cmp d (moved es) ≡ None → cond b (Some (with_tree (change e.0) e.1)) (find place_cmp d (moved es)) ≡ None
      skip true other rest = absurd (other refl)
      skip false other rest = rest

  module _ (old new : Book) (cells_are : new.cells ≡ moved old.cells) where
    unwrapped : (f : Tree → Tree) (o : Option Content) → unwrap_or (option_map (with_tree f) o) Empty ≡ with_tree f (unwrap_or o Empty)
    unwrapped f None = refl
    unwrapped f (Some content) = refl

    content_there : (q : Place) → gone q ≡ false → content_at new (goes q) ≡ with_tree (change q) (content_at old q)
    unfolding content_at
    content_there q there =
        ap (λ cells. unwrap_or (find place_cmp (goes q) cells) Empty) cells_are
        ∙ ap (λ o. unwrap_or o Empty) (found_there q there old.cells)
        ∙ unwrapped (change q) (find place_cmp q old.cells)

    content_nowhere : (d : Place) → ((q : Place) → gone q ≡ false → goes q ≡ d → ⊥) → content_at new d ≡ Empty
    unfolding content_at
    content_nowhere d never =
        ap (λ cells. unwrap_or (find place_cmp d cells) Empty) cells_are
        ∙ ap (λ o. unwrap_or o Empty) (found_nowhere d never old.cells)

    -- a hub whose cells went with the rows, and whose areas went, holds the book whose cells and formulas did
    module _ (after : Rectangle → Option Rectangle) (trees : (q : Place) → gone q ≡ false → (tree : Tree) → areas (goes q) (area_named new) (change q tree) ≡ filter_map after (areas q (area_named old) tree)) where
      reads_there : (q : Place) → gone q ≡ false → areas_in new (goes q) ≡ option_map (filter_map after) (areas_in old q)
      reads_there q there = ap content_reads (content_there q there) ∙ by_content (content_at old q)
        where
          content_reads : Content → Option (List Rectangle)
          content_reads x = cond (is_formula x) (Some (content_areas (goes q) (area_named new) x)) None

          by_content : (x : Content) → content_reads (with_tree (change q) x) ≡ option_map (filter_map after) (cond (is_formula x) (Some (content_areas q (area_named old) x)) None)
          by_content Empty = refl
          by_content (Constant value) = refl
          by_content (Formula tree) = ap Some (trees q there tree)
          by_content (Raw text) = refl

      pub goes_with_rows : (was now : ReadAreas) → ((d : Place) → HasOrigin goes gone d) → ((q : Place) → gone q ≡ false → now (goes q) ≡ option_map (filter_map after) (was q)) → ((d : Place) → ((q : Place) → gone q ≡ false → goes q ≡ d → ⊥) → now d ≡ None) → HoldsReads was old → HoldsReads now new
      goes_with_rows was now origin here elsewhere holds d = elim (origin d) [
        | inl at ↦
            let q : Place = at.0 in
            ap now (sym at.2) ∙ here q at.1 ∙ ap (option_map (filter_map after)) (holds q) ∙ sym (reads_there q at.1) ∙ ap (areas_in new) at.2
        | inr never ↦
            elsewhere d never ∙ ap (λ x. cond (is_formula x) (Some (content_areas d (area_named new) x)) None) (sym (content_nowhere d never))
      ]
