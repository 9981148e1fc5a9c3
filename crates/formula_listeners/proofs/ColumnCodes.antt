-- The codes of one column among those of all.
use Rattle.std.proofs.Common.{◌≡◌, ◌<◌, ℕ, ◌-◌, cond, true, List, [], length, get_or, slice_get, Option, None, Some, unwrap_or, sym, ap, subst, ◌∙◌, arith}
use Rattle.std.specs.Option.{option_map}
use Rattle.std.specs.List.{All}
use Rattle.std.proofs.lemmas.List.{get_or-map, length-map}
use Rattle.std.proofs.lemmas.Option.{get_or_from_slice_get, slice_get-get_or}
use Rattle.calc_addr.specs.declared.cell.TheConstants.{LAST_ROW}
use Rattle.calc_addr.specs.Places.{IsPlace, IsRows, Place, Rectangle, Rows}
use Rattle.calc_model.specs.Books.{NameEntries}
use Rattle.formula_code.specs.Codes.{Codes, IsCodeAt, IsLive}
use Rattle.formula_groups.specs.declared.group.Group.{Group}
use Rattle.formula_groups.specs.GroupRows.{GroupRows, columns_of}
use Rattle.formula_groups.specs.Groups.{codes_of, groups_of}
use Rattle.formula_groups.proofs.Kept.{codes-kept}
use Rattle.registration_slab.specs.Slab.{is_in}
use Rattle.formula_code.specs.Coded.{AreCoded, areas_by_code, code_in_row, code_of, coded_areas, number_of}
use Rattle.formula_listeners.proofs.GroupWalks.{first_code}
use Rattle.formula_listeners.proofs.InRuns.{is_place_of, lies_in, under}

module _ (codes : Codes) (names : NameEntries) (groups : List GroupRows) (coded : AreCoded codes (columns_of groups)) (run : Rows) (valid : IsRows run) (n : ℕ) (number : n ≡ number_of run.sheet run.col) (column : GroupRows) (is : column ≡ get_or groups n column) where
  among : n < length (columns_of groups)
  among = omega (arith, number, coded.all_columns, valid.sheet_in, valid.col_from, valid.col_to)

  within : n < length groups
  within = subst (λ k. n < k) (length-map groups (λ (g : GroupRows). g.entries)) among

  entries_are : get_or (columns_of groups) n [] ≡ column.entries
  entries_are = get_or-map (λ (g : GroupRows). g.entries) groups n column [] within ∙ ap (λ (g : GroupRows). g.entries) (sym is)

  long : length column.entries ≡ LAST_ROW
  long = ap length (sym entries_are) ∙ coded.all_rows n among

  -- the code of a cell of the run
  pub code_here : (q : Place) → is_in run q ≡ true → code_of (columns_of groups) q ≡ code_in_row column.entries q.row
  code_here q h =
      let at = lies_in run q h in
      ap (λ k. code_in_row (get_or (columns_of groups) k []) q.row) (ap (λ s. number_of s q.col) at.sheet ∙ ap (number_of run.sheet) at.col ∙ sym number)
      ∙ ap (λ es. code_in_row es q.row) entries_are

  pub coded_here : (q : Place) → is_in run q ≡ true → (id : ℕ) → code_in_row column.entries q.row ≡ Some id → IsCodeAt codes id q
  coded_here q h id there = coded.coded q (is_place_of run q valid h) id (code_here q h ∙ there)

  module _ (gs : List Group) (are : gs ≡ groups_of column.entries) where
    pub codes_are : codes_of gs ≡ column.entries
    codes_are = codes-kept gs column.entries long are

    pub table : gs ≡ groups_of (codes_of gs)
    table = are ∙ ap groups_of (sym codes_are)

    -- each group's code is live
    pub all_live : All (λ (g : Group). IsLive codes g.code) gs
    all_live k d inside =
        let g = get_or gs k d in
        let first = first_code gs table k g inside (default_same gs k d g inside) in
        let q : Place = record { sheet = run.sheet; col = run.col; row = g.first } in
        let place : IsPlace q = record { sheet_in = valid.sheet_in; col_from = valid.col_from; col_to = valid.col_to; row_from = first.0; row_to = first.1 } in
        (coded.coded q place g.code
        (ap (λ k. code_in_row (get_or (columns_of groups) k []) g.first) (sym number)
        ∙ ap (λ es. code_in_row es g.first) (entries_are ∙ sym codes_are) ∙ first.2)).live
      where
        default_same : {X : Type 0} (xs : List X) (k : ℕ) (d e : X) → k < length xs → get_or xs k d ≡ get_or xs k e
        default_same xs k d e h = ap (λ o. unwrap_or o d) (sym (slice_get-get_or xs k d h) ∙ slice_get-get_or xs k e h)

    pub coded_there : (q : Place) → is_in run q ≡ true → (id : ℕ) → code_in_row (codes_of gs) q.row ≡ Some id → IsCodeAt codes id q
    coded_there q h id there = coded_here q h id (ap (λ es. code_in_row es q.row) (sym codes_are) ∙ there)

    pub reads_there : (q : Place) (o : Option (List Rectangle)) → cond (is_in run q) (option_map (areas_by_code codes names q) (code_in_row (codes_of gs) q.row)) o ≡ cond (is_in run q) (coded_areas codes names (columns_of groups) q) o
    reads_there q o =
        under (is_in run q) (option_map (areas_by_code codes names q) (code_in_row (codes_of gs) q.row)) (coded_areas codes names (columns_of groups) q) o
        (λ h. ap (λ es. option_map (areas_by_code codes names q) (code_in_row es q.row)) codes_are ∙ ap (option_map (areas_by_code codes names q)) (sym (code_here q h)))
