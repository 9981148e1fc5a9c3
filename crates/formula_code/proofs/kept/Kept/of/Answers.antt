use Rattle.std.proofs.Common.{◌++◌, ap, ◌∙◌}
use Rattle.formula_code.specs.Building.{relative_nodes}
use Rattle.formula_code.specs.Codes.{Code}
use Rattle.formula_code.proofs.KeptForms.{written_kept, written_tree}
use Rattle.formula_code.proofs.kept.Kept.of.Goals as goal

pub invariant_of-result : goal.invariant_of-result
invariant_of-result c =
    written_kept c.args.home c.args.tree.now c.args.digest _ c.requires.formed c.requires.digest
    (c.in_ok-write_nodes.ensures ∙ ap (λ ns. ns ++ relative_nodes c.args.home c.args.tree.now) c.new-nodes.ensures.items)

pub returns : goal.returns
returns c =
    ap (λ form. let code : Code = record { form = form; uses = 1 } in code)
    (written_tree c.args.home c.args.tree.now _ (c.in_ok-write_nodes.ensures ∙ ap (λ ns. ns ++ relative_nodes c.args.home c.args.tree.now) c.new-nodes.ensures.items))
