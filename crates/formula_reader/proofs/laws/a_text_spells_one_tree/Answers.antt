use Rattle.formula_reader.proofs.laws.a_text_spells_one_tree.Goals as goal
use Rattle.formula_reader.proofs.Formed.{spelled_well_formed}
use Rattle.formula_reader.proofs.Complete.Formulas.{one_tree}

pub returns : goal.returns
returns c = record { one = one_tree; formed = spelled_well_formed }
