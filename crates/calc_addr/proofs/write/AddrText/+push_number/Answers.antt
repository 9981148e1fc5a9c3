use Rattle.std.proofs.Common.{◌≡◌, ◌%◌, length, arith, ap, append_assoc, ◌∙◌, refl, length-append}
use Rattle.std.proofs.lemmas.Fmt.{decimal_digit, decimal_step}
use Rattle.calc_addr.proofs.write.AddrText.+push_number.Goals as goal
use Rattle.calc_addr.proofs.write.AddrText.+push_number.Goals.{then-number-ge10, else-number-ge10}

pub push_number-requires : goal.push_number-requires
push_number-requires t c =
    let more = decimal_step c.args.number (omega arith) (omega arith) in
    let longer = simp length-append at (ap length more) in
    (omega arith, omega (arith, longer))

pub push-requires : goal.push-requires
push-requires t c =
    elim c.if-number-ge10.branch [
      | then-number-ge10 w ↦
          let more = decimal_step c.args.number (omega arith) (omega arith) in
          let longer = simp length-append at (ap length more) in
          let pushed = simp length-append at (ap length (w.self-is ∙ w.push_number.ensures)) in
          omega (arith, longer, pushed)
      | else-number-ge10 w ↦
          let one = ap length (decimal_digit c.args.number (omega arith)) in
          omega (arith, one, ap length w.self-is)
    ]

pub returns : goal.returns
returns t c =
    elim c.if-number-ge10.branch [
      | then-number-ge10 w ↦
          rw (c.push.ensures, w.self-is, w.push_number.ensures, decimal_step c.args.number (omega arith) (omega arith)) (simp append_assoc)
      | else-number-ge10 w ↦
          let small = decimal_digit c.args.number (omega arith) in
          let digit : c.args.number % 10 ≡ c.args.number = omega arith in
          rw (c.push.ensures, w.self-is, small, digit) refl
    ]
