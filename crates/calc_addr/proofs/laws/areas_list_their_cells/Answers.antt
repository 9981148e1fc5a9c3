use Rattle.calc_addr.specs.Places.{places}
use Rattle.calc_addr.proofs.Walking.Places.{AllPairs-from_rises, Contains-places, covers-contained, length-places, places_rise}
use Rattle.calc_addr.proofs.laws.areas_list_their_cells.Goals as goal

pub returns : goal.returns
returns c = record {
  covered = λ a p. (Contains-places a p, covers-contained a p);
  in_order = λ a. AllPairs-from_rises (places a) (places_rise a);
  count = length-places;
}
