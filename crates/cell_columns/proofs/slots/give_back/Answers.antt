use Rattle.std.proofs.Common.{◌∙◌}
use Rattle.cell_columns.proofs.Uses.{returned_one}
use Rattle.cell_columns.proofs.slots.give_back.Goals as goal

pub returns-in-Some : goal.returns-in-Some
returns-in-Some c =
    λ x is. returned_one c.args.codes.now c.give_back.new.self c.in-Some.id (c.requires c.in-Some.id c.in-Some.is) c.give_back.ensures x (is ∙ c.in-Some.is)
