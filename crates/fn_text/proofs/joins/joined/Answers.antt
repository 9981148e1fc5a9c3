use Rattle.std.proofs.Common.{ap, length, arith}
use Rattle.fn_text.proofs.Joining.{too-long}
use Rattle.fn_text.proofs.joins.joined.Goals as goal

pub returns-then-words-room : goal.returns-then-words-room
returns-then-words-room c =
    too-long c.args.parts.now c.loop-part.part-index c.part-item.result c.loop-part.whole c.loop-part.room c.loop-part-test.true c.part-item.is c.loop-part.invariant.0 c.loop-part.invariant.1 (omega (arith, ap length c.as_str-words.ensures, c.if-words-room.true))
