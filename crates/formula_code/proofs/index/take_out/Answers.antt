use Rattle.std.proofs.Common.{rules, true, not, nat_eq, ap, ◌∙◌, arith}
use Rattle.std.specs.Prelude.{◌==◌}
use Rattle.std.proofs.lemmas.Bool.Decides.{nat_tests}
use Rattle.std.proofs.lemmas.Fn.{filter_same}
use Rattle.std.proofs.lemmas.Map.Views.{any-filter_same}
use Rattle.formula_code.specs.Listed.{has_id}
use Rattle.formula_code.proofs.index.take_out.Goals as goal

pub returns-clause-items : goal.returns-clause-items
returns-clause-items c = filter_same _ (λ other. not (other == c.args.id)) _ (λ x b f called. search rules) _ _ c.retain.ensures.filtered

pub returns-clause-others : goal.returns-clause-others
returns-clause-others c other differs =
    ap (λ ids. has_id ids other) (returns-clause-items c)
    ∙ any-filter_same (nat_eq other) (λ x. not (x == c.args.id)) true (λ k same. grind (arith, nat_tests, differs)) c.args.ids.now.items
