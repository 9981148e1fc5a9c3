use Rattle.std.proofs.Common.{◌≡◌, ℕ, ◌<◌, List, length, inr, sym, ap, ◌∙◌, arith}
use Rattle.std.specs.Prelude.{slice_index_or}
use Rattle.block_column.specs.SlotRows.{SlotRows}
use Rattle.calc_model.specs.declared.change.Change.{Change}
use Rattle.formula_groups.specs.GroupRows.{GroupRows}
use Rattle.cell_columns.specs.Cells.{column_at}
use Rattle.cell_columns.specs.Lent.{slots_of}
use Rattle.block_column.specs.declared.slot.Slot.TheVariants.{Empty}
use Rattle.cell_columns.specs.Shifted.{rows_moved}
use Rattle.cell_columns.specs.Uses.{codes_in}
use Rattle.cell_columns.proofs.Clearing.{column_is, entries_are_codes}
use Rattle.cell_columns.proofs.ColumnsMoved.{Moving, none_more, one_more}
use Rattle.cell_columns.proofs.Maps.{length_map}
use Rattle.cell_columns.proofs.shifting.move_columns.Goals as goal

-- the column that is next, and its groups
module _ (change : Change) (columns now : List SlotRows) (groups : List GroupRows) (from number : ℕ) (so_far : Moving change columns now groups from number) (within : number < length columns) where
  inside : number < length now
  inside = omega (arith, within, so_far.part.all, length_map (λ (c : SlotRows). c.slots) columns, length_map (λ (c : SlotRows). c.slots) now)

  slots_are : (d : SlotRows) → d ≡ slice_index_or now number d → d.slots ≡ column_at (slots_of now) number
  slots_are d is = column_is now number d inside is

  groups_inside : number < length groups
  groups_inside = omega (arith, inside, length_map (λ (g : GroupRows). g.entries) groups, ap length so_far.grouped, length_map codes_in (slots_of now), length_map (λ (c : SlotRows). c.slots) now)

  codes_are : (d : SlotRows) → d ≡ slice_index_or now number d → (g : GroupRows) → g ≡ slice_index_or groups number g → g.entries ≡ codes_in d.slots
  codes_are d is g g_is = entries_are_codes (slots_of now) groups number g groups_inside so_far.grouped g_is ∙ ap codes_in (sym (slots_are d is))

pub move_column-requires-clause-long : goal.move_column-requires-clause-long
move_column-requires-clause-long c =
    let n : ℕ = c.loop-number.number in
    let within : n < length c.args.columns.now.items = omega (arith, c.loop-number-test.true, c.requires.among, c.requires.all) in
    ap length (slots_are c.args.change c.args.columns.now.items c.loop-number.columns.items c.loop-number.groups.items c.args.from n c.loop-number.invariant within c.index_mut.result.now c.index_mut.ensures.value ∙ c.loop-number.invariant.part.others n (inr (omega arith)))
    ∙ c.requires.long n (omega (arith, c.loop-number-test.true, c.requires.among))

pub move_column-requires-clause-grouped : goal.move_column-requires-clause-grouped
move_column-requires-clause-grouped c =
    let n : ℕ = c.loop-number.number in
    let within : n < length c.args.columns.now.items = omega (arith, c.loop-number-test.true, c.requires.among, c.requires.all) in
    codes_are c.args.change c.args.columns.now.items c.loop-number.columns.items c.loop-number.groups.items c.args.from n c.loop-number.invariant within c.index_mut.result.now c.index_mut.ensures.value c.index_mut-in-loop-number.result.now c.index_mut-in-loop-number.ensures.value

pub returns-in_err-move_column-clause-grouped : goal.returns-in_err-move_column-clause-grouped
returns-in_err-move_column-clause-grouped c =
    let n : ℕ = c.loop-number.number in
    let within : n < length c.args.columns.now.items = omega (arith, c.loop-number-test.true, c.requires.among, c.requires.all) in
    let is = slots_are c.args.change c.args.columns.now.items c.loop-number.columns.items c.loop-number.groups.items c.args.from n c.loop-number.invariant within c.index_mut.result.now c.index_mut.ensures.value in
    (none_more c.args.change c.args.columns.now.items c.loop-number.columns.items c.loop-number.groups.items c.args.from n c.loop-number.invariant c.loop-number.auto.number within c.move_column.new.column c.move_column.new.groups c.move_column.ensures.grouped (c.in_err-move_column.ensures.err ∙ is)).grouped

pub returns-in_err-move_column-clause-partly : goal.returns-in_err-move_column-clause-partly
returns-in_err-move_column-clause-partly c =
    let n : ℕ = c.loop-number.number in
    let within : n < length c.args.columns.now.items = omega (arith, c.loop-number-test.true, c.requires.among, c.requires.all) in
    let is = slots_are c.args.change c.args.columns.now.items c.loop-number.columns.items c.loop-number.groups.items c.args.from n c.loop-number.invariant within c.index_mut.result.now c.index_mut.ensures.value in
    (n, omega (arith, c.loop-number-test.true), (none_more c.args.change c.args.columns.now.items c.loop-number.columns.items c.loop-number.groups.items c.args.from n c.loop-number.invariant c.loop-number.auto.number within c.move_column.new.column c.move_column.new.groups c.move_column.ensures.grouped (c.in_err-move_column.ensures.err ∙ is)).part)

pub loop-number-preserved : goal.loop-number-preserved
loop-number-preserved c =
    let n : ℕ = c.loop-number.number in
    let within : n < length c.args.columns.now.items = omega (arith, c.loop-number-test.true, c.requires.among, c.requires.all) in
    let is = slots_are c.args.change c.args.columns.now.items c.loop-number.columns.items c.loop-number.groups.items c.args.from n c.loop-number.invariant within c.index_mut.result.now c.index_mut.ensures.value in
    one_more c.args.change c.args.columns.now.items c.loop-number.columns.items c.loop-number.groups.items c.args.from n c.loop-number.invariant c.loop-number.auto.number within c.move_column.new.column c.move_column.new.groups c.move_column.ensures.grouped
    (c.in_ok-move_column.ensures.ok ∙ ap (rows_moved c.args.change Empty) is)
