use Rattle.std.proofs.Common.{length, ap, ◌∙◌, arith, length-append}
use Rattle.std.proofs.lemmas.Fmt.{length-decimal-le}
use Rattle.calc_addr.proofs.write.AddrText.push_row.Goals as goal
use Rattle.calc_addr.proofs.write.AddrText.push_row.Goals.{then-row, else-row}

pub push_number-requires : goal.push_number-requires
push_number-requires c =
    let digits = length-decimal-le 7 c.args.row.at (omega arith) (omega (arith, c.requires.to)) (omega (arith, c.requires.to)) in
    elim c.if-row.branch [
      | then-row w ↦ omega (arith, digits, simp length-append at (ap length (w.self-is ∙ w.push.ensures)))
      | else-row w ↦ omega (arith, digits, ap length w.self-is)
    ]

pub returns-clause-room : goal.returns-clause-room
returns-clause-room c =
    let digits = length-decimal-le 7 c.args.row.at (omega arith) (omega (arith, c.requires.to)) (omega (arith, c.requires.to)) in
    let pushed = simp length-append at (ap length c.push_number.ensures) in
    elim c.if-row.branch [
      | then-row w ↦ omega (arith, digits, pushed, simp length-append at (ap length (w.self-is ∙ w.push.ensures)))
      | else-row w ↦ omega (arith, digits, pushed, ap length w.self-is)
    ]
