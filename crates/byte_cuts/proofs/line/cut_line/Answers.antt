-- A text begins with its first line.
use Rattle.byte_cuts.proofs.FirstLines.{cut_line}
use Rattle.byte_cuts.proofs.line.cut_line.Goals as goal

pub returns : goal.returns
returns c = rw (c.cut.ensures.before, c.cut.ensures.after) (cut_line c.args.text.now c.requires)
