-- Rows of a column of which no formula uses a name read what they did when the name changes.
use Rattle.std.proofs.Common.{◌≡◌, ℕ, Bool, true, false, cond, List, Option, None, Some, get_or, refl, sym, ap, ◌∙◌, arith}
use Rattle.std.specs.Option.{option_map}
use Rattle.std.specs.List.{All}
use Rattle.calc_addr.specs.Places.{IsRows, Place, Rows}
use Rattle.calc_model.specs.Books.{NameEntries}
use Rattle.calc_model.specs.Listeners.{ReadAreas}
use Rattle.formula_code.specs.Codes.{Codes, form_at}
use Rattle.formula_code.specs.Names.{UsesName}
use Rattle.formula_groups.specs.declared.group.Group.{Group}
use Rattle.formula_groups.specs.GroupRows.{GroupRows, columns_of}
use Rattle.formula_groups.specs.Groups.{groups_of}
use Rattle.registration_slab.specs.Slab.{is_in}
use Rattle.formula_code.specs.Coded.{AreCoded, areas_by_code, code_in_row, code_of, coded_areas, number_of}
use Rattle.formula_listeners.specs.Renamed.{AgreeElsewhere}
use Rattle.formula_listeners.proofs.ColumnCodes.{code_here, codes_are, table}
use Rattle.formula_listeners.proofs.InRuns.{is_place_of, lies_in}
use Rattle.formula_listeners.proofs.NameUsers.{by_row, code_same}

module _ (codes : Codes) (name : List ℕ) (before after : NameEntries) (agree : AgreeElsewhere name before after) (groups : List GroupRows) (coded : AreCoded codes (columns_of groups)) (run : Rows) (valid : IsRows run) (n : ℕ) (number : n ≡ number_of run.sheet run.col) (column : GroupRows) (is : column ≡ get_or groups n column) (gs : List Group) (are : gs ≡ groups_of column.entries) (unused : All (λ (g : Group). UsesName (form_at codes g.code) name → ⊥) gs) where
  same : (q : Place) → is_in run q ≡ true → (o : Option ℕ) → code_of (columns_of groups) q ≡ o → option_map (areas_by_code codes before q) o ≡ option_map (areas_by_code codes after q) o
  same q h None there = refl
  same q h (Some id) there =
      let at = lies_in run q h in
      ap Some (code_same name before after agree q codes id (coded.coded q (is_place_of run q valid h) id there)
      (by_row (λ k. UsesName (form_at codes k) name → ⊥) gs (table codes before groups coded run valid n number column is gs are) unused q.row id (omega (arith, at.from, valid.from)) (omega (arith, at.to, valid.to))
      (ap (λ es. code_in_row es q.row) (codes_are codes before groups coded run valid n number column is gs are) ∙ sym (code_here codes before groups coded run valid n number column is q h) ∙ there)))

  pub kept : (read : ReadAreas) → ((q : Place) → is_in run q ≡ true → read q ≡ coded_areas codes before (columns_of groups) q) → (q : Place) → read q ≡ cond (is_in run q) (coded_areas codes after (columns_of groups) q) (read q)
  kept read holds q = stays (is_in run q) (coded_areas codes after (columns_of groups) q) (read q) (λ h. holds q h ∙ same q h (code_of (columns_of groups) q) refl)
    where
      stays : {X : Type 0} (b : Bool) (x y : X) → (b ≡ true → y ≡ x) → y ≡ cond b x y
      stays true x y to = to refl
      stays false x y to = refl
