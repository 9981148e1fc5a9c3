use Rattle.formula_printer.proofs.SpelledTrees.{printed_tree-spelled}
use Rattle.formula_printer.proofs.laws.printed_formulas_spell_their_tree.Goals as goal

pub returns : goal.returns
returns c = record { spelled = printed_tree-spelled }
