use Rattle.std.proofs.Common.{length, ap, ◌∙◌, arith, length-append}
use Rattle.calc_addr.proofs.Spelling.Columns.{length-column_letters}
use Rattle.calc_addr.proofs.write.AddrText.push_column.Goals as goal
use Rattle.calc_addr.proofs.write.AddrText.push_column.Goals.{then-col, else-col}

pub push_letters-requires-clause-room : goal.push_letters-requires-clause-room
push_letters-requires-clause-room c =
    let letters = length-column_letters c.args.col.at c.requires.from c.requires.to in
    elim c.if-col.branch [
      | then-col w ↦ omega (arith, letters, simp length-append at (ap length (w.self-is ∙ w.push.ensures)))
      | else-col w ↦ omega (arith, letters, ap length w.self-is)
    ]

pub returns-clause-room : goal.returns-clause-room
returns-clause-room c =
    let letters = length-column_letters c.args.col.at c.requires.from c.requires.to in
    let pushed = simp length-append at (ap length c.push_letters.ensures) in
    elim c.if-col.branch [
      | then-col w ↦ omega (arith, letters, pushed, simp length-append at (ap length (w.self-is ∙ w.push.ensures)))
      | else-col w ↦ omega (arith, letters, pushed, ap length w.self-is)
    ]
