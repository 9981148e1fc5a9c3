use Rattle.std.proofs.Common.{◌≡◌, true, false, sym, subst, ◌∙◌}
use Rattle.std.specs.List.{All}
use Rattle.std.proofs.lemmas.List.{take_all}
use Rattle.std.proofs.lemmas.List.Elements.{All-more}
use Rattle.formula_code.specs.Codes.{form_at}
use Rattle.formula_code.specs.Names.{UsesName}
use Rattle.formula_groups.specs.declared.group.Group.{Group}
use Rattle.formula_listeners.proofs.users.any_uses.Goals as goal

pub loop-group-preserved : goal.loop-group-preserved
loop-group-preserved c =
    All-more (λ (g : Group). UsesName (form_at c.args.codes.now g.code) c.args.name.now → ⊥) c.args.groups.now c.loop-group.group-index c.group-item.result c.loop-group-test.true c.loop-group.invariant
    (subst (λ (g : Group). UsesName (form_at c.args.codes.now g.code) c.args.name.now → ⊥) c.group-item.is
    (λ used. let both : true ≡ false = sym (c.uses_name.ensures.1 used) ∙ c.if-uses_name.false in cc))

pub returns : goal.returns
returns c _ = subst (All (λ (g : Group). UsesName (form_at c.args.codes.now g.code) c.args.name.now → ⊥)) (take_all c.loop-group.group-index c.args.groups.now c.loop-group-test.false) c.loop-group.invariant
