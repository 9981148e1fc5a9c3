use Rattle.std.proofs.Common.{pos, ◌+◌, length, get_or, ◌∙◌, refl}
use Rattle.calc_model.specs.declared.value.Value.TheVariants as value
use Rattle.value_column.specs.Rows.{value_at}
use Rattle.value_column.proofs.Copied.{copied}
use Rattle.value_column.proofs.Written.{written-over}
use Rattle.value_column.proofs.lanes.Lanes.put_small.Goals as goal

pub returns-clause-ok : goal.returns-clause-ok
returns-clause-ok c =
    let items = c.args.items.now in
    let t = c.ready_small.new.self in
    λ r.
    copied t (record { tags = c.put_tags.new.tags; small = c.put_items.new.lane; wide = t.wide; words = t.words; bad = t.bad }) c.args.from (c.args.from + length items) items refl
    c.in_ok-ready_small.ensures.ok.tags.0 c.in_ok-ready_small.ensures.ok.small.0
    c.put_tags.ensures.tags c.put_items.ensures.items refl refl refl r
    ∙ written-over c.args.from (length items) r (λ k. value.Number (get_or items k (pos 0))) (value_at t) (value_at c.args.self.now) (c.ready_small.ensures.same r)
