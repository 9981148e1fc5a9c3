-- A word of digits is read as a row of the first sheet.
use Rattle.std.proofs.Common.{ap, sym, ◌∙◌}
use Rattle.calc_script.proofs.Counts.{count_row, second}
use Rattle.calc_script.proofs.addresses.read_count.Goals as goal

pub returns-in-Is : goal.returns-in-Is
returns-in-Is c = ap second c.in-Is.ensures ∙ count_row c.args.word.now (sym c.if-not-are_digits.ensures)

pub returns-in-Outside : goal.returns-in-Outside
returns-in-Outside c = ap second c.in-Outside.ensures ∙ count_row c.args.word.now (sym c.if-not-are_digits.ensures)

pub returns-in-Not : goal.returns-in-Not
returns-in-Not c = ap second c.in-Not.ensures ∙ count_row c.args.word.now (sym c.if-not-are_digits.ensures)
