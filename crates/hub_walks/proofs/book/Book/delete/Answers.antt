use Rattle.std.proofs.Common.{sym, ◌∙◌, arith}
use Rattle.listener_hub.specs.Hubs.{areas_read}
use Rattle.hub_walks.proofs.Moved.{deleted}
use Rattle.hub_walks.proofs.book.Book.delete.Goals as goal

pub invariant_of-self-2 : goal.invariant_of-self-2
invariant_of-self-2 c ready q h =
    deleted c.args.sheet c.args.place c.args.count c.self.inside.bottom (areas_read c.self.inside.hub) (areas_read c.delete_rows.new.self) c.requires.some (omega (arith, c.if-place-self.false))
    (c.self.invariant (sym c.is_spent.ensures ∙ c.if-is_spent.false)) c.in_ok-delete_rows.ensures.moved q h
