use Rattle.ears.proofs.Meetings.{meets-covers}
use Rattle.ears.proofs.laws.areas_meet_in_a_cell.Goals as goal

pub returns : goal.returns
returns c = meets-covers
