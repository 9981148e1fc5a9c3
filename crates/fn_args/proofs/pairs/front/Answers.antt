use Rattle.std.proofs.Common.{ap, length, sym, take, ◌∙◌, arith}
use Rattle.std.proofs.lemmas.List.{length-replicate, take-map}
use Rattle.calc_model.specs.UsedCells.{values_of}
use Rattle.calc_model.specs.declared.value.Value.TheVariants.{Number, Blank}
use Rattle.fn_args.proofs.Stepping.{take-replicate}
use Rattle.fn_args.proofs.pairs.front.Goals as goal

pub overflow_cast-result : goal.overflow_cast-result
overflow_cast-result c =
    let size = ap (λ p. length (values_of p)) c.in-Blank.is ∙ length-replicate c.in-Blank.len Blank in
    omega (arith, size, c.requires.within)

pub returns-in-Small : goal.returns-in-Small
returns-in-Small c =
    sym (ap (λ p. take c.args.count (values_of p)) c.in-Small.is ∙ take-map Number c.args.count c.in-Small.items.now)

pub returns-in-Blank : goal.returns-in-Blank
returns-in-Blank c =
    let size = ap (λ p. length (values_of p)) c.in-Blank.is ∙ length-replicate c.in-Blank.len Blank in
    sym (ap (λ p. take c.args.count (values_of p)) c.in-Blank.is ∙ take-replicate c.args.count c.in-Blank.len Blank (omega (arith, size, c.requires.within)))
