use Rattle.std.proofs.Common.{◌≡◌, ℕ, ◌+◌, ◌<◌, List, [], ◌++◌, length, take, sym, ap, subst, ◌∙◌, arith}
use Rattle.std.specs.Prelude.{slice_index_or}
use Rattle.std.specs.List.{All, AllPairs}
use Rattle.calc_addr.specs.Places.{IsBefore, Place}
use Rattle.formula_groups.specs.declared.group.Group.{Group}
use Rattle.formula_groups.specs.GroupRows.{GroupRows}
use Rattle.formula_groups.specs.Groups.{groups_of}
use Rattle.run_tables.specs.Rows.{AreRows}
use Rattle.kept_codes.specs.FormulaCells.{all_coded, cells_of_groups}
use Rattle.formula_groups.specs.GroupRows.{columns_of}
use Rattle.kept_codes.proofs.FormulaRows.{all_in_order, column_more, group_rows}
use Rattle.std.proofs.lemmas.List.{get_or-map, length-map}
use Rattle.kept_codes.proofs.grouped.grouped_cells.Goals as goal

-- what the groups of one column are
seen : (groups : List GroupRows) (n : ℕ) (g : GroupRows) → n < length groups → g ≡ slice_index_or groups n g → g.entries ≡ slice_index_or (columns_of groups) n []
seen groups n g inside is = ap (λ (c : GroupRows). c.entries) is ∙ sym (get_or-map (λ (c : GroupRows). c.entries) groups n g [] inside)

-- the groups of a column behind those of which the cells are there
module _ (groups : List GroupRows) (n : ℕ) (g : GroupRows) (inside : n < length groups) (is : g ≡ slice_index_or groups n g) (gs : List Group) (are : gs ≡ groups_of g.entries) (cells : List Place) (so_far : cells ≡ all_coded 0 (take n (columns_of groups))) where
  the_groups : gs ≡ groups_of (slice_index_or (columns_of groups) n [])
  the_groups = are ∙ ap groups_of (seen groups n g inside is)

  one_more : all_coded 0 (take (n + 1) (columns_of groups)) ≡ cells ++ cells_of_groups n gs
  one_more =
      column_more n (columns_of groups) (subst (λ k. n < k) (sym (length-map groups (λ (g : GroupRows). g.entries))) inside)
      ∙ ap (λ (ps : List Place). ps ++ cells_of_groups n (groups_of (slice_index_or (columns_of groups) n []))) (sym so_far)
      ∙ ap (λ hs. cells ++ cells_of_groups n hs) (sym the_groups)

pub push_groups-requires-clause-rows : goal.push_groups-requires-clause-rows
push_groups-requires-clause-rows c =
    let n : ℕ = c.loop-number.number in
    let inside : n < length c.args.groups.now = omega (arith, c.loop-number-test.true, c.requires.all) in
    subst (λ (gs : List Group). All (λ (g : Group). AreRows g.first g.last) gs)
    (sym (the_groups c.args.groups.now n c.index-groups-number.result inside c.index-groups-number.is c.groups.result.now c.groups.ensures c.loop-number.cells c.loop-number.invariant))
    (group_rows (slice_index_or (columns_of c.args.groups.now) n []) (c.requires.long n c.loop-number-test.true))

pub push_groups-requires-clause-in_order : goal.push_groups-requires-clause-in_order
push_groups-requires-clause-in_order c =
    let n : ℕ = c.loop-number.number in
    let inside : n < length c.args.groups.now = omega (arith, c.loop-number-test.true, c.requires.all) in
    subst (λ (ps : List Place). AllPairs IsBefore ps)
    (one_more c.args.groups.now n c.index-groups-number.result inside c.index-groups-number.is c.groups.result.now c.groups.ensures c.loop-number.cells c.loop-number.invariant)
    (all_in_order (take (n + 1) (columns_of c.args.groups.now)))

pub loop-number-preserved : goal.loop-number-preserved
loop-number-preserved c =
    let n : ℕ = c.loop-number.number in
    let inside : n < length c.args.groups.now = omega (arith, c.loop-number-test.true, c.requires.all) in
    c.in_ok-push_groups.ensures
    ∙ sym (one_more c.args.groups.now n c.index-groups-number.result inside c.index-groups-number.is c.groups.result.now c.groups.ensures c.loop-number.cells c.loop-number.invariant)
