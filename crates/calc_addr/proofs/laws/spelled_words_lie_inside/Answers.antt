use Rattle.calc_addr.proofs.References.Inside.{spelled_references_lie_inside}
use Rattle.calc_addr.proofs.Spelling.Inside.{spelled_areas_lie_inside, spelled_cells_lie_inside}
use Rattle.calc_addr.proofs.laws.spelled_words_lie_inside.Goals as goal

pub returns : goal.returns
returns c = record { cells = spelled_cells_lie_inside; areas = spelled_areas_lie_inside; references = spelled_references_lie_inside }
