use Rattle.std.proofs.Common.{ap, map, sym, ◌∙◌}
use Rattle.std.specs.Prelude.{fold}
use Rattle.calc_model.specs.UsedCells.{values_of}
use Rattle.calc_model.specs.declared.value.Value.TheVariants.{Number}
use Rattle.fn_args.specs.Lent.{wanted_value}
use Rattle.fn_lookup.specs.Scans.{with_value}
use Rattle.fn_lookup.proofs.Running.{blank-passed, numbers-passed}
use Rattle.fn_lookup.proofs.scan.Scan.take.Goals as goal

pub returns-in-Words : goal.returns-in-Words
returns-in-Words c =
    let items = c.in-Small.items.now in
    c.pass.ensures ∙ numbers-passed c.args.search _ items c.args.self.now c.requires.running
    ∙ sym (ap (λ p. fold (with_value c.args.search (wanted_value c.args.sought.now)) c.args.self.now (values_of p)) c.in-Small.is
    ∙ ap (λ w. fold (with_value c.args.search (wanted_value w)) c.args.self.now (map Number items)) c.in-Words.is)

pub returns-in-Blank : goal.returns-in-Blank
returns-in-Blank c =
    c.pass-in-Blank.ensures ∙ blank-passed c.args.search (wanted_value c.args.sought.now) c.in-Blank.count c.args.self.now c.requires.running
    ∙ sym (ap (λ p. fold (with_value c.args.search (wanted_value c.args.sought.now)) c.args.self.now (values_of p)) c.in-Blank.is)
