use Rattle.calc_model.proofs.FormedShifts.{deleted_is_formed, inserted_is_formed, moved_is_formed}
use Rattle.calc_model.proofs.laws.formulas_stay_formed.Goals as goal

pub returns : goal.returns
returns c = record {
  moved = moved_is_formed;
  inserted = inserted_is_formed;
  deleted = λ home sheet place count tree from. deleted_is_formed home sheet place count from tree;
}
