use Rattle.std.proofs.Common.{◌≡◌, ap, subst, sym, ◌∙◌}
use Rattle.std.specs.List.{flat_map}
use Rattle.std.specs.Result.{IfOk}
use Rattle.calc_model.specs.Arguments.{meanings_of}
use Rattle.calc_model.specs.Operators.{kept_words}
use Rattle.fn_args.specs.Lent.{words_in}
use Rattle.fn_text.specs.Joined.{texts_lent}
use Rattle.fn_text.proofs.Joining.{joined-is}
use Rattle.fn_text.proofs.joins.fn_concatenate.Goals as goal

pub returns-in-Ok : goal.returns-in-Ok
returns-in-Ok g c =
    let told = ap texts_lent (sym c.in-Ok.is) ∙ c.in_ok-fault.ensures {u = tt} in
    subst (λ x. IfOk c.joined.result (λ v. v ≡ x)) (joined-is (meanings_of c.args.home (g.V.Values.values c.args.values.now) c.args.args.now) c.in-Ok.parts.items told)
    (subst (λ parts. IfOk c.joined.result (λ v. v ≡ kept_words (flat_map words_in parts))) c.deref.ensures.value c.joined.ensures)
