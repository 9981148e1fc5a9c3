use Rattle.std.proofs.Common.{◌≡◌, true, subst, sym, ap, ◌∙◌, arith}
use Rattle.formula_code.specs.Codes.{Codes, HasForm, form_at}
use Rattle.formula_code.specs.Digests.{form_digest}
use Rattle.formula_code.specs.Listed.{has_id, ids_under}
use Rattle.formula_code.specs.Relative.{relative}
use Rattle.formula_code.proofs.FormDigests.{digest_is}
use Rattle.formula_code.proofs.TableLemmas.{stands_in}
use Rattle.formula_code.proofs.table.CodeTable.find.Goals as goal

pub returns-clause-missed : goal.returns-clause-missed
returns-clause-missed c id has =
    let form = relative c.args.home c.args.tree.now in
    let own = subst (λ (codes : Codes). HasForm codes id form) (sym c.self.view_is) has in
    let same : form_digest (form_at c.self.inside.slots id) ≡ c.args.digest = ap form_digest own.same ∙ sym (digest_is c.args.home c.args.tree.now) ∙ sym c.requires in
    let listed = c.self.invariant.indexed id own.live in
    let there : has_id c.ids-number-items.result.now id ≡ true =
    ap (λ ids. has_id ids id) (c.ids-number-items.ensures ∙ ap (ids_under c.self.inside.index) (sym same)) ∙ listed in
    let at = stands_in c.ids-number-items.result.now id there in
    c.loop-number.invariant at.place (omega (arith, at.inside)) (subst (λ n. HasForm c.args.self.now n form) (sym at.is) has)
