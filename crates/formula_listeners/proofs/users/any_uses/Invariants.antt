use Rattle.std.proofs.Common.{take}
use Rattle.std.specs.List.{All}
use Rattle.formula_code.specs.Codes.{form_at}
use Rattle.formula_code.specs.Names.{UsesName}
use Rattle.formula_groups.specs.declared.group.Group.{Group}
use Rattle.formula_listeners.proofs.users.any_uses.Given as goal

abbrev pub invariant-loop-group : goal.invariant-loop-group
invariant-loop-group l = All (λ (g : Group). UsesName (form_at l.codes g.code) l.name → ⊥) (take l.group-index l.groups)
