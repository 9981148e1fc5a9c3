use Rattle.formula_reader.proofs.signs.take_signs.Given as goal
use Rattle.std.proofs.Common.{◌≡◌}
use Rattle.formula_reader.specs.Operands.{Inside, prefixed_at}
use Rattle.formula_reader.specs.Signs.{signs_read}
use Rattle.formula_reader.specs.Unread.{◌>>=◌, unread_of}

abbrev pub invariant-loop-signs : goal.invariant-loop-signs
invariant-loop-signs l = (nested : Inside) → (prefixed_at nested (unread_of l.cursor) >>= signs_read l.signs.items) ≡ prefixed_at nested (unread_of l.fn.cursor)

abbrev pub decreases-loop-signs : goal.decreases-loop-signs
decreases-loop-signs l = l.cursor.tokens
