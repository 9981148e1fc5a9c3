use Rattle.std.proofs.Common.{◌+◌, length, ap, arith, length-append}
use Rattle.std.proofs.lemmas.Fmt.{length-decimal-le}
use Rattle.calc_addr.proofs.write.AddrText.push_sheet.Goals as goal

pub push_number-requires : goal.push_number-requires
push_number-requires c =
    let letters = simp length-append at (ap length c.push_text.ensures) in
    omega (arith, letters, length-decimal-le 2 (c.from.result + 1) (omega arith) (omega arith) (omega arith))

pub returns-clause-room : goal.returns-clause-room
returns-clause-room c =
    let letters = simp length-append at (ap length c.push_text.ensures) in
    let number = simp length-append at (ap length c.push_number.ensures) in
    omega (arith, letters, number, length-decimal-le 2 (c.from.result + 1) (omega arith) (omega arith) (omega arith))
