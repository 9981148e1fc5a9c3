use Rattle.std.proofs.lemmas.Bool.Decides.{nat_tests}
use Rattle.std.proofs.lemmas.List.{append-nil, nil_from_length}
use Rattle.std.proofs.Common.{arith, ◌≡◌, [], length, ap, sym, ◌∙◌}
use Rattle.formula_code.specs.Building.{relative_nodes}
use Rattle.formula_code.specs.Codes.{Code}
use Rattle.formula_code.proofs.KeptForms.{nothing_left, same_nodes, whole_form}
use Rattle.formula_code.proofs.kept.Kept.has_form.Goals as goal

pub returns-in-Some : goal.returns-in-Some
returns-in-Some c =
    let form = ap (λ (k : Code). k.form) c.self.view_is in
    let nodes = sym c.as_slice.ensures.value ∙ c.in-Some.ensures in (
      λ yes. sym form ∙ whole_form c.args.home c.args.tree.now _ c.in-Some.rest.now c.self.invariant.listed nodes
          (let empty : length c.in-Some.rest.now ≡ 0 = grind (arith, nat_tests) in nil_from_length c.in-Some.rest.now empty),
      λ same. let none = nothing_left c.args.home c.args.tree.now _ c.in-Some.rest.now c.self.invariant.listed nodes (form ∙ same) in
          let empty : length c.in-Some.rest.now ≡ 0 = ap length none in
          grind (arith, nat_tests),
    )

pub returns-in-None : goal.returns-in-None
returns-in-None c =
    let form = ap (λ (k : Code). k.form) c.self.view_is in (
      λ yes. cc,
      λ same. absurd (c.in-None.ensures [] (c.as_slice.ensures.value ∙ same_nodes c.args.home c.args.tree.now _ _ c.self.invariant.listed (form ∙ same) ∙ sym (append-nil (relative_nodes c.args.home c.args.tree.now)))),
    )
