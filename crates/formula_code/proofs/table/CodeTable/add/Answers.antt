use Rattle.std.proofs.Common.{Some, subst, ◌∙◌}
use Rattle.formula_code.specs.Codes.{Changes, Code, Codes, HasForm}
use Rattle.formula_code.specs.Relative.{relative}
use Rattle.formula_code.proofs.FormDigests.{digest_is}
use Rattle.formula_code.proofs.TableLemmas.{added_table}
use Rattle.formula_code.proofs.table.CodeTable.add.Goals as goal

pub invariant_of-self-in_default : goal.invariant_of-self-in_default
invariant_of-self-in_default c =
    let form = relative c.args.home c.args.tree.now in
    let Changed : Code → Type 0 = λ code. Changes c.self.inside.slots c.insert.new.self c.in_ok-number.number (Some code) in
    added_table c.self.inside.slots c.insert.new.self c.self.inside.index c.add.new.self c.args.digest c.in_ok-number.number form c.self.invariant
    (subst Changed c.in_ok-code.ensures c.in_ok-number.ensures.changes) c.in_default.ensures.ok (c.requires.digest ∙ digest_is c.args.home c.args.tree.now)
    (λ other has. c.requires.missing other (subst (λ (codes : Codes). HasForm codes other form) c.self.view_is has))
