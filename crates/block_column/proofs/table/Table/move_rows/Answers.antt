use Rattle.std.proofs.Common.{◌+◌, length, ap, subst, refl, arith}
use Rattle.std.proofs.lemmas.Result.{on_ok_weaker}
use Rattle.run_tables.specs.Rows.{spliced}
use Rattle.block_column.specs.declared.slot.Slot.TheVariants.{Empty}
use Rattle.block_column.specs.Tables.{IsTableOf, slots_of}
use Rattle.block_column.proofs.Columns.{step, length-step, on-err, no-err}
use Rattle.block_column.proofs.Kept.{slots-back, table-again}
use Rattle.block_column.proofs.table.Table.move_rows.Goals as goal

pub fill-requires-clause-table : goal.fill-requires-clause-table
fill-requires-clause-table c = table-again c.reserve_places.new.self (slots_of c.args.self.now) c.reserve_places.ensures.table

pub fill-requires-clause-to : goal.fill-requires-clause-to
fill-requires-clause-to c =
    let back = slots-back c.reserve_places.new.self (slots_of c.args.self.now) c.reserve_places.ensures.table in
    omega (arith, ap length back, c.requires.column.whole, c.requires.cut, c.requires.gap)

pub fill-requires-clause-rows : goal.fill-requires-clause-rows
fill-requires-clause-rows c =
    let back = slots-back c.reserve_places.new.self (slots_of c.args.self.now) c.reserve_places.ensures.table in
    omega (arith, ap length back, c.requires.column.whole, c.requires.cut, c.requires.gap)

pub fill-requires-2-clause-table : goal.fill-requires-2-clause-table
fill-requires-2-clause-table c =
    (step c.args.self.now c.reserve_places.new.self c.fill.new.self c.args.cut (c.args.cut + c.args.count) Empty c.reserve_places.ensures.table c.in_ok-fill.ensures.ok).table

pub fill-requires-2-clause-to : goal.fill-requires-2-clause-to
fill-requires-2-clause-to c =
    let first = step c.args.self.now c.reserve_places.new.self c.fill.new.self c.args.cut (c.args.cut + c.args.count) Empty c.reserve_places.ensures.table c.in_ok-fill.ensures.ok in
    let len = length-step c.args.self.now c.fill.new.self c.args.cut (c.args.cut + c.args.count) Empty c.requires.column (omega (arith, c.requires.cut)) (omega arith) first in
    omega (arith, len, c.requires.cut, c.requires.gap)

pub fill-requires-2-clause-rows : goal.fill-requires-2-clause-rows
fill-requires-2-clause-rows c =
    let first = step c.args.self.now c.reserve_places.new.self c.fill.new.self c.args.cut (c.args.cut + c.args.count) Empty c.reserve_places.ensures.table c.in_ok-fill.ensures.ok in
    let len = length-step c.args.self.now c.fill.new.self c.args.cut (c.args.cut + c.args.count) Empty c.requires.column (omega (arith, c.requires.cut)) (omega arith) first in
    omega (arith, len, c.requires.cut, c.requires.gap)

pub returns-in_err-fill-clause-err : goal.returns-in_err-fill-clause-err
returns-in_err-fill-clause-err c =
    on-err c.from_residual-in_err-fill.result
    (subst (IsTableOf c.fill.new.self) (slots-back c.reserve_places.new.self (slots_of c.args.self.now) c.reserve_places.ensures.table) c.in_err-fill.ensures.err)

pub returns-clause-ok : goal.returns-clause-ok
returns-clause-ok c =
    let first = step c.args.self.now c.reserve_places.new.self c.fill.new.self c.args.cut (c.args.cut + c.args.count) Empty c.reserve_places.ensures.table c.in_ok-fill.ensures.ok in
    on_ok_weaker c.fill-2.result (λ h. subst (λ s. IsTableOf c.fill-2.new.self (spliced c.args.gap c.args.gap c.args.count Empty s)) first.slots h) c.fill-2.ensures.ok

pub returns-clause-err : goal.returns-clause-err
returns-clause-err c = no-err (IsTableOf c.fill-2.new.self (slots_of c.args.self.now)) c.fill-2.result (c.fill-2.ensures.reserved refl (c.fill.ensures.places 3 c.in_ok-reserve_places.ensures.places))
