-- The field behind the place is the next one that is tested.
use Rattle.std.proofs.Common.{◌≡◌, ◌+◌, Some, None, cond, drop, sym, ap, subst, arith, ◌∙◌}
use Rattle.calc_addr.specs.Places.{Place}
use Rattle.csv.specs.Records.{field_at, fields_of}
use Rattle.calc_book.specs.BookCells.{bad_cell}
use Rattle.calc_book.proofs.FieldsLeft.{inside, next_field, no_field}
use Rattle.calc_book.proofs.rows.bad_cell.Goals as goal

pub invariant_of-result : goal.invariant_of-result
invariant_of-result c =
    let inv = c.loop-field.invariant in
    let field = subst (λ row. field_at (fields_of row) c.loop-field.field-iterator.at ≡ Some c.in-Some.field.now) inv.same (sym c.in-Some.ensures.steps.1) in
    let at = inside (fields_of c.args.fields.now) c.loop-field.field-iterator.at c.in-Some.field.now field in
    record { sheet_in = omega arith; col_from = omega arith; col_to = omega (arith, at, inv.col, inv.few); row_from = c.requires.first; row_to = c.requires.last }

pub returns-then-not-is_utf8 : goal.returns-then-not-is_utf8
returns-then-not-is_utf8 c =
    let inv = c.loop-field.invariant in
    let at = c.loop-field.field-iterator.at in
    let fields = fields_of c.args.fields.now in
    let place : Place = record { sheet = 0; col = c.loop-field.col; row = c.args.row } in
    let field = subst (λ row. field_at (fields_of row) at ≡ Some c.in-Some.field.now) inv.same (sym c.in-Some.ensures.steps.1) in
    let next = next_field fields at c.in-Some.field.now field in
    let rest = bad_cell c.args.row (c.loop-field.col + 1) (drop (at + 1) fields) in
    ap (λ text. cond text rest (Some place)) c.if-not-is_utf8.ensures
    ∙ sym (ap (bad_cell c.args.row c.loop-field.col) next)
    ∙ inv.left

pub overflow_add-col : goal.overflow_add-col
overflow_add-col c =
    let inv = c.loop-field.invariant in
    let field = subst (λ row. field_at (fields_of row) c.loop-field.field-iterator.at ≡ Some c.in-Some.field.now) inv.same (sym c.in-Some.ensures.steps.1) in
    let at = inside (fields_of c.args.fields.now) c.loop-field.field-iterator.at c.in-Some.field.now field in
    omega (arith, at, inv.col, inv.few)

pub loop-field-preserved : goal.loop-field-preserved
loop-field-preserved c =
    let inv = c.loop-field.invariant in
    let at = c.loop-field.field-iterator.at in
    let fields = fields_of c.args.fields.now in
    let place : Place = record { sheet = 0; col = c.loop-field.col; row = c.args.row } in
    let field = subst (λ row. field_at (fields_of row) at ≡ Some c.in-Some.field.now) inv.same (sym c.in-Some.ensures.steps.1) in
    let next = next_field fields at c.in-Some.field.now field in
    let goes = c.in-Some.ensures.steps.2 in
    let rest = bad_cell c.args.row (c.loop-field.col + 1) (drop (at + 1) fields) in
    record {
      same = ap (λ row. row.now) c.in-Some.ensures.steps.0 ∙ inv.same;
      col = omega (arith, goes, inv.col);
      left = ap (λ n. bad_cell c.args.row (c.loop-field.col + 1) (drop n fields)) goes
          ∙ ap (λ text. cond text rest (Some place)) c.if-not-is_utf8.ensures
          ∙ sym (ap (bad_cell c.args.row c.loop-field.col) next)
          ∙ inv.left;
      few = inv.few;
    }

pub returns : goal.returns
returns c =
    let inv = c.loop-field.invariant in
    let at = c.loop-field.field-iterator.at in
    let none = subst (λ row. field_at (fields_of row) at ≡ None) inv.same (sym c.in-None.ensures.steps.1) in
    sym (ap (bad_cell c.args.row c.loop-field.col) (no_field (fields_of c.args.fields.now) at none)) ∙ inv.left
