use Rattle.std.proofs.Common.{◌+◌, ◌-◌, arith}
use Rattle.kept_codes.proofs.SidesGathered.{all_sides, none_left}
use Rattle.kept_codes.proofs.Gathering.{some_formulas}
use Rattle.kept_codes.proofs.changing.push_side.Goals as goal

pub returns-then-behind-kept-le1 : goal.returns-then-behind-kept-le1
returns-then-behind-kept-le1 c =
    none_left c.args.codes.now c.args.change c.requires.change c.args.number c.args.code c.args.first c.args.behind c.requires.side c.requires.formulas c.args.out.now.items c.push_down.new.out.items c.in_ok-kept.kept c.in_ok-kept.ensures
    (omega (arith, c.if-behind-kept-le1.true, c.in_ok-kept.ensures.to))

pub push_down-requires-2-clause-formulas : goal.push_down-requires-2-clause-formulas
push_down-requires-2-clause-formulas c =
    some_formulas c.args.codes.now c.args.change c.args.number c.args.code c.args.first c.args.behind (c.args.behind - 1) c.args.behind c.requires.formulas
    (omega (arith, c.if-behind-kept-le1.false, c.in_ok-kept.ensures.from)) (omega arith)

pub push_up-requires-clause-formulas : goal.push_up-requires-clause-formulas
push_up-requires-clause-formulas c =
    some_formulas c.args.codes.now c.args.change c.args.number c.args.code c.args.first c.args.behind (c.in_ok-kept.kept + 1) (c.args.behind - 1) c.requires.formulas
    (omega (arith, c.in_ok-kept.ensures.from)) (omega arith)

pub returns : goal.returns
returns c =
    all_sides c.args.codes.now c.args.change c.requires.change c.args.number c.args.code c.args.first c.args.behind c.requires.side c.requires.formulas c.args.out.now.items c.push_down.new.out.items c.push_down-2.new.out.items c.push_up.new.out.items c.in_ok-kept.kept c.in_ok-push_down.field-0 c.in_ok-push_up.field-0
    c.in_ok-kept.ensures (omega (arith, c.if-behind-kept-le1.false, c.in_ok-kept.ensures.to)) c.in_ok-push_down.ensures c.in_ok-push_up.ensures
