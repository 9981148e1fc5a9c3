use Rattle.std.proofs.Common.{◌≡◌, List, ap, map, subst, sym, ◌∙◌}
use Rattle.std.specs.List.{AllByRecursion, list_all}
use Rattle.std.proofs.lemmas.List.{drop_all}
use Rattle.calc_model.specs.declared.tree.Tree.{Tree}
use Rattle.calc_model.specs.TreeShifts.{replaced}
use Rattle.formula_code.specs.declared.node.Node.{Node}
use Rattle.formula_code.specs.Building.{tree_of}
use Rattle.calc_model.specs.Changes.{changed}
use Rattle.formula_code.specs.Codes.{Code, has_valid_references}
use Rattle.formula_code.specs.Relative.{absolute, relative}
use Rattle.formula_code.specs.Staying.{StaysAfter}
use Rattle.formula_code.specs.Tokens.{absolute_node, is_valid_node}
use Rattle.formula_code.proofs.Forms.{nodes_of_tree}
use Rattle.formula_code.proofs.StayingForms.{form_stays}
use Rattle.formula_code.proofs.kept.Kept.stays.Goals as goal

pub loop-node-init : goal.loop-node-init
loop-node-init c =
    let form = ap (λ (k : Code). k.form) c.self.view_is in
    let valid = ap (list_all is_valid_node) (nodes_of_tree c.args.home (tree_of c.self.inside.nodes.items)) ∙ ap (λ x. has_valid_references (absolute c.args.home x)) form ∙ c.requires.valid in (
      ap (λ nodes. list_all is_valid_node (map (absolute_node c.args.home) nodes)) (c.as_slice-node-items.ensures.value ∙ sym c.self.invariant.listed) ∙ valid,
      λ all. all,
    )

pub returns : goal.returns
returns c _ =
    let form = ap (λ (k : Code). k.form) c.self.view_is in
    let Stay : List Node → Type 0 = AllByRecursion (StaysAfter c.args.change c.args.home c.args.to) in
    let all = c.loop-node.invariant.1 (subst Stay (sym (drop_all c.loop-node.node-index c.as_slice-node-items.result.now c.loop-node-test.false)) tt) in
    let Keeps : Tree → Type 0 = λ x. relative c.args.to (replaced (changed c.args.change c.args.home) (absolute c.args.home x)) ≡ x in
    subst Keeps form
    (form_stays c.args.change c.args.home c.args.to (tree_of c.self.inside.nodes.items) (subst Stay (c.as_slice-node-items.ensures.value ∙ sym c.self.invariant.listed) all))
