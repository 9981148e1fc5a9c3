use Rattle.std.proofs.Common.{length, arith, ap, append_assoc, ◌∙◌, refl, length-append}
use Rattle.calc_addr.proofs.Spelling.Columns.{column_letters_one, column_letters_more}
use Rattle.calc_addr.proofs.write.AddrText.+push_letters.Goals as goal
use Rattle.calc_addr.proofs.write.AddrText.+push_letters.Goals.{then-col-gt26, else-col-gt26}

pub push_letters-requires : goal.push_letters-requires
push_letters-requires t c =
    let more = column_letters_more c.args.col (omega arith) c.requires.to in
    let longer = simp length-append at (ap length more) in
    (omega arith, (omega arith, (omega arith, omega (arith, longer))))

pub push-requires : goal.push-requires
push-requires t c =
    elim c.if-col-gt26.branch [
      | then-col-gt26 w ↦
          let more = column_letters_more c.args.col (omega arith) c.requires.to in
          let longer = simp length-append at (ap length more) in
          let pushed = simp length-append at (ap length (w.self-is ∙ w.push_letters.ensures)) in
          omega (arith, longer, pushed)
      | else-col-gt26 w ↦
          let one = ap length (column_letters_one c.args.col c.requires.from (omega arith)) in
          omega (arith, one, ap length w.self-is)
    ]

pub returns : goal.returns
returns t c =
    elim c.if-col-gt26.branch [
      | then-col-gt26 w ↦
          rw (c.push.ensures, w.self-is, w.push_letters.ensures, column_letters_more c.args.col (omega arith) c.requires.to) (simp append_assoc)
      | else-col-gt26 w ↦
          rw (c.push.ensures, w.self-is, column_letters_one c.args.col c.requires.from (omega arith)) refl
    ]
