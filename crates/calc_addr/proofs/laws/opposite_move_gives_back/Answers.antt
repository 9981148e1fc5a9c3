use Rattle.calc_addr.proofs.Moving.MoveLaws.{moved_reference-opposite}
use Rattle.calc_addr.proofs.laws.opposite_move_gives_back.Goals as goal

pub returns : goal.returns
returns c = λ cols rows r s lies to.
    let back = moved_reference-opposite cols rows r s lies to in
    (back.reference, back.back, back.same)
