use Rattle.std.proofs.Common.{◌∙◌, ap, sym}
use Rattle.calc_model.proofs.FunctionNames.{fits_call}
use Rattle.calc_model.specs.Functions.{form_named}
use Rattle.cell_interpreter.proofs.calls.call.Goals as goal

pub apply-requires : goal.apply-requires
apply-requires g c =
    record { few = fits_call c.args.name.now c.in-Some.form _ (ap form_named (sym c.as_str.ensures) ∙ sym c.form_named.ensures ∙ c.in-Some.is) (sym c.takes.ensures ∙ c.if-takes.true) }
