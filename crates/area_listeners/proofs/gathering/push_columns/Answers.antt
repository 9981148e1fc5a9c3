use Rattle.std.proofs.Common.{◌≡◌, ◌&&◌, ◌||◌, not, List, sym, ap, ◌∙◌}
use Rattle.std.specs.List.{filter, list_any}
use Rattle.std.specs.Ordering.{is_le}
use Rattle.area_listeners.specs.Pairs.{has_id}
use Rattle.area_listeners.specs.Spots.{compared, corner, is_between, is_met}
use Rattle.area_listeners.specs.declared.spot.Spot.{Spot}
use Rattle.area_listeners.proofs.Walks.{all_passed, any_filter, passed}
use Rattle.area_listeners.proofs.gathering.push_columns.Goals as goal

pub loop-spot-preserved : goal.loop-spot-preserved
loop-spot-preserved c i =
    passed (is_met c.args.area.now i) (has_id c.loop-spot.out.items i) _ c.loop-spot.spot-iterator _ c.in-Some.spot.now c.in-Some.ensures.steps (c.in_ok-push_met.ensures i)
    ∙ c.loop-spot.invariant i

pub returns : goal.returns
returns c i =
    let met = is_met c.args.area.now i in
    let between = is_between c.args.window.now c.args.left c.args.right in
    let o = has_id c.args.out.now.items i in
    let items : ◌≡◌ {A = List Spot} c.into_iter-spot-iterator.result (filter between c.args.spots.now.keys) =
    c.into_iter-spot-iterator.ensures.into_iter_gives ∙ c.range-spot-items.ensures.between _
    ∙ ap (λ low. filter (λ s. is_le (compared low s) && not (is_le (compared c.corner-high.result s))) c.args.spots.now.keys) c.corner-low.ensures
    ∙ ap (λ high. filter (λ s. is_le (compared (corner c.args.window.now c.args.left c.args.window.now.first) s) && not (is_le (compared high s))) c.args.spots.now.keys) c.corner-high.ensures in
    sym (all_passed met (has_id c.loop-spot.out.items i) c.loop-spot.spot-iterator c.in-None.ensures.steps.0)
    ∙ c.loop-spot.invariant i
    ∙ ap (λ xs. o || list_any met xs) items
    ∙ ap (λ b. o || b) (any_filter between met c.args.spots.now.keys)
