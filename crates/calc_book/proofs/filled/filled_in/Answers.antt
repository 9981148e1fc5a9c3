-- The field behind the place is the next one that is looked at.
use mir.Val.{bool_byte}
use Rattle.std.proofs.Common.{◌≡◌, ◌≤◌, Bool, true, false, refl, ◌+◌, not, cond, Some, None, drop, ap, subst, sym, arith, ◌∙◌}
use Rattle.std.specs.Prelude.{count_by}
use Rattle.csv.specs.Records.{field_at, fields_of}
use Rattle.calc_book.specs.BookCells.{has_bytes}
use Rattle.calc_book.proofs.Counted.{count_first}
use Rattle.calc_book.proofs.FieldsLeft.{next_field, no_field}
use Rattle.calc_book.proofs.filled.filled_in.Goals as goal

one_or_none : (some : Bool) → bool_byte some ≡ cond some 1 0
one_or_none true = refl
one_or_none false = refl

one_at_most : (some : Bool) → cond some 1 0 ≤ 1
one_at_most true = omega arith
one_at_most false = omega arith

pub loop-field-preserved : goal.loop-field-preserved
loop-field-preserved c =
    let inv = c.loop-field.invariant in
    let at = c.loop-field.field-iterator.at in
    let fields = fields_of c.args.fields.now in
    let field = c.in-Some.field.now in
    let next = next_field fields at field (subst (λ row. field_at (fields_of row) at ≡ Some field) inv.same (sym c.in-Some.ensures.steps.1)) in
    let goes = c.in-Some.ensures.steps.2 in
    let one = c.from-count.ensures ∙ one_or_none (not c.is_empty.result) ∙ ap (λ none. cond (not none) 1 0) c.is_empty.ensures in
    let all = ap (count_by has_bytes) next ∙ count_first has_bytes field (drop (at + 1) fields) in
    let rest = ap (λ n. count_by has_bytes (drop n fields)) goes in
    record {
      same = ap (λ row. row.now) c.in-Some.ensures.steps.0 ∙ inv.same;
      left = omega (arith, one, all, rest, inv.left);
      few = omega (arith, goes, inv.few, one, one_at_most (has_bytes field));
      short = inv.short;
    }

pub returns : goal.returns
returns c =
    let inv = c.loop-field.invariant in
    let at = c.loop-field.field-iterator.at in
    let fields = fields_of c.args.fields.now in
    let none = ap (count_by has_bytes) (no_field fields at (subst (λ row. field_at (fields_of row) at ≡ None) inv.same (sym c.in-None.ensures.steps.1))) in
    omega (arith, none, inv.left)
