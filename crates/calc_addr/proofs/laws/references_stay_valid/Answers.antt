use Rattle.calc_addr.proofs.Moving.MoveLaws.{moved_stays_valid}
use Rattle.calc_addr.proofs.Shifting.ShiftLaws.{deleted_stays_valid, inserted_stays_valid}
use Rattle.calc_addr.proofs.laws.references_stay_valid.Goals as goal

pub returns : goal.returns
returns c = record { inserted = inserted_stays_valid; deleted = deleted_stays_valid; moved = moved_stays_valid }
