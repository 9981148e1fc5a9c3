use Rattle.std.proofs.Common.{subst}
use Rattle.formula_groups.specs.declared.group.Group.{Group}
use Rattle.kept_codes.specs.Gathered.{Gathers, InRows, behind_of}
use Rattle.kept_codes.proofs.Gathering.{group_more, in_all_groups}
use Rattle.kept_codes.proofs.changing.push_groups.Goals as goal

pub push_group-requires-clause-formulas : goal.push_group-requires-clause-formulas
push_group-requires-clause-formulas c q id within =
    c.requires.formulas q id (in_all_groups c.args.codes.now c.args.change c.args.number c.args.groups.now c.loop-group.group-index c.group-item.result c.loop-group-test.true q id
    (subst (λ (g : Group). InRows c.args.number g.first (behind_of g) g.code q id) c.group-item.is within))

pub loop-group-preserved : goal.loop-group-preserved
loop-group-preserved c =
    group_more c.args.codes.now c.args.change c.args.number c.args.groups.now c.loop-group.group-index c.group-item.result c.loop-group-test.true c.args.out.now.items c.loop-group.out.items c.push_group.new.out.items c.loop-group.invariant
    (subst (λ (g : Group). Gathers c.args.codes.now c.args.change (InRows c.args.number g.first (behind_of g) g.code) c.loop-group.out.items c.push_group.new.out.items) c.group-item.is c.in_ok-push_group.ensures)
