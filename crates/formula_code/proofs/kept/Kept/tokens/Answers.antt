use Rattle.std.proofs.Common.{length, ap, sym, ◌∙◌, ◌≡◌, arith}
use Rattle.std.proofs.lemmas.List.{length-map}
use Rattle.formula_code.specs.Codes.{Code, has_valid_references}
use Rattle.calc_model.specs.Formed.{is_formed}
use Rattle.formula_code.specs.Nodes.{postfix}
use Rattle.formula_code.specs.Relative.{absolute}
use Rattle.formula_code.specs.Tokens.{absolute_node, are_tokens, nodes_at}
use Rattle.formula_code.proofs.Forms.{form_is_formed, few_nodes, form_tokens, nodes_of_tree}
use Rattle.formula_code.proofs.kept.Kept.tokens.Goals as goal

pub of-requires : goal.of-requires
of-requires c =
    let form = ap (λ (k : Code). k.form) c.self.view_is in
    let nodes = c.self.invariant.listed ∙ sym c.as_slice.ensures.value in
    ap (λ ns. are_tokens (nodes_at c.args.home ns)) (sym nodes)
    ∙ form_tokens c.args.home _ c.self.invariant.formed (ap (λ x. has_valid_references (absolute c.args.home x)) form ∙ c.requires)

pub returns-clause-nodes : goal.returns-clause-nodes
returns-clause-nodes c =
    let form = ap (λ (k : Code). k.form) c.self.view_is in
    let nodes = c.self.invariant.listed ∙ sym c.as_slice.ensures.value in
    c.of.ensures ∙ ap (nodes_at c.args.home) (sym nodes) ∙ nodes_of_tree c.args.home _ ∙ ap (λ x. postfix (absolute c.args.home x)) form

pub returns-clause-few : goal.returns-clause-few
returns-clause-few c =
    let nodes = c.self.invariant.listed ∙ sym c.as_slice.ensures.value in
    let same : length c.of.result ≡ length c.as_slice.result.now = ap length c.of.ensures ∙ length-map c.as_slice.result.now (absolute_node c.args.home) in
    omega (arith, same, ap length nodes, few_nodes _ c.self.invariant.formed)

pub returns-clause-formed : goal.returns-clause-formed
returns-clause-formed c =
    let form = ap (λ (k : Code). k.form) c.self.view_is in
    ap (λ x. is_formed (absolute c.args.home x)) (sym form)
    ∙ form_is_formed c.args.home _ c.self.invariant.formed (ap (λ x. has_valid_references (absolute c.args.home x)) form ∙ c.requires)
