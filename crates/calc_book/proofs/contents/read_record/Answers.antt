-- The field behind the place is the next one that is read.
use Rattle.std.proofs.Common.{rules, ◌≡◌, ℕ, ◌∷◌, [], ◌++◌, Some, None, drop, map, sym, ap, subst, ◌∙◌, append_assoc, append-nil}
use Rattle.csv.specs.Records.{AllText, field_at, fields_of}
use Rattle.formula_reader.specs.Fields.{field_of}
use Rattle.formula_reader.proofs.Meaning.{field_reads}
use Rattle.calc_book.proofs.FieldsLeft.{next_field, no_field}
use Rattle.calc_book.proofs.contents.read_record.Goals as goal

pub read_field-requires : goal.read_field-requires
unfolding AllText
read_field-requires c =
    let inv = c.loop-field.invariant in
    let at = c.loop-field.field-iterator.at in
    let field = subst (λ row. field_at (fields_of row) at ≡ Some c.in-Some.field.now) inv.same (sym c.in-Some.ensures.steps.1) in
    let next = next_field (fields_of c.args.fields.now) at c.in-Some.field.now field in
    let text = subst AllText next inv.text in
    text.0

pub loop-field-preserved : goal.loop-field-preserved
unfolding AllText
loop-field-preserved c =
    let inv = c.loop-field.invariant in
    let at = c.loop-field.field-iterator.at in
    let fields = fields_of c.args.fields.now in
    let field = c.in-Some.field.now in
    let is = subst (λ row. field_at (fields_of row) at ≡ Some field) inv.same (sym c.in-Some.ensures.steps.1) in
    let next = next_field fields at field is in
    let goes = c.in-Some.ensures.steps.2 in
    let rest = λ (n : ℕ). map field_of (drop n fields) in
    let content : c.in_ok-read_field.field-0 ≡ field_of field = c.in_ok-read_field.ensures.only (field_of field) (field_reads field) in
    let pushed : c.push.new.self.items ≡ c.loop-field.contents.items ++ (c.in_ok-read_field.field-0 ∷ []) = search rules in
    let text = subst AllText next inv.text in
    record {
      same = ap (λ row. row.now) c.in-Some.ensures.steps.0 ∙ inv.same;
      left = ap (λ items. items ++ rest c.next.new.self.at) pushed
          ∙ append_assoc c.loop-field.contents.items (c.in_ok-read_field.field-0 ∷ []) (rest c.next.new.self.at)
          ∙ ap (λ content. c.loop-field.contents.items ++ (content ∷ rest c.next.new.self.at)) content
          ∙ ap (λ n. c.loop-field.contents.items ++ (field_of field ∷ rest n)) goes
          ∙ sym (ap (λ fs. c.loop-field.contents.items ++ map field_of fs) next)
          ∙ inv.left;
      text = subst (λ n. AllText (drop n fields)) (sym goes) text.1;
    }

pub returns : goal.returns
returns c =
    let inv = c.loop-field.invariant in
    let at = c.loop-field.field-iterator.at in
    let none = subst (λ row. field_at (fields_of row) at ≡ None) inv.same (sym c.in-None.ensures.steps.1) in
    sym (append-nil c.loop-field.contents.items)
    ∙ sym (ap (λ fs. c.loop-field.contents.items ++ map field_of fs) (no_field (fields_of c.args.fields.now) at none))
    ∙ inv.left
