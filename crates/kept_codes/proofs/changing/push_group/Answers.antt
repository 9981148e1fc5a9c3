use Rattle.std.proofs.Common.{◌≡◌, ◌+◌, ℕ, ap, subst, arith}
use Rattle.std.proofs.lemmas.Result.{on_ok_weaker}
use Rattle.kept_codes.specs.Gathered.{Gathers, InRows, behind_of}
use Rattle.kept_codes.proofs.Gathering.{rows_then, some_formulas}
use Rattle.kept_codes.proofs.changing.push_group.Goals as goal

pub push_side-requires-clause-formulas : goal.push_side-requires-clause-formulas
push_side-requires-clause-formulas c =
    some_formulas c.args.codes.now c.args.change c.args.number c.args.group.code c.args.group.first (behind_of c.args.group) c.args.group.first c.min-middle.result c.requires.formulas
    (omega arith) (omega (arith, c.min-middle.ensures, c.min-behind.ensures))

pub push_side-requires-2-clause-formulas : goal.push_side-requires-2-clause-formulas
push_side-requires-2-clause-formulas c =
    some_formulas c.args.codes.now c.args.change c.args.number c.args.group.code c.args.group.first (behind_of c.args.group) c.min-middle.result (c.min-behind.result + 1) c.requires.formulas
    (omega (arith, c.min-middle.ensures, c.max.ensures, c.if-behind-group.false)) (omega (arith, c.min-behind.ensures))

pub returns : goal.returns
returns c =
    let behind : c.min-behind.result + 1 ≡ behind_of c.args.group = ap (λ n. n + 1) c.min-behind.ensures in
    on_ok_weaker c.push_side-2.result
    (λ here.
    rows_then c.args.codes.now c.args.change c.args.number c.args.group.code c.args.group.first c.min-middle.result (behind_of c.args.group) (omega (arith, c.min-middle.ensures, c.max.ensures, c.if-behind-group.false)) (omega (arith, c.min-middle.ensures, behind))
    c.args.out.now.items c.push_side.new.out.items c.push_side-2.new.out.items c.in_ok-push_side.ensures
    (subst (λ (n : ℕ). Gathers c.args.codes.now c.args.change (InRows c.args.number c.min-middle.result n c.args.group.code) c.push_side.new.out.items c.push_side-2.new.out.items) behind here))
    c.push_side-2.ensures
