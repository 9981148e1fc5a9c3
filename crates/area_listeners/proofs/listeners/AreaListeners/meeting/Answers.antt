use Rattle.std.proofs.Common.{◌≡◌, ◌||◌, ℕ, List, map, nat_eq, rules, sym, ap, subst, ◌∙◌}
use Rattle.std.specs.List.{dedup, list_any}
use Rattle.std.specs.List.Sorted.{IsPermutation}
use Rattle.smallvec.proofs.SmallVecLemmas.{items-with_items}
use Rattle.area_listeners.specs.declared.listener.Listener.{Listener}
use Rattle.area_listeners.specs.Pairs.{AreMeeting, has_id}
use Rattle.area_listeners.specs.Spots.{is_met, listener_of}
use Rattle.area_listeners.proofs.Meeting.{are_meeting}
use Rattle.area_listeners.proofs.listeners.AreaListeners.meeting.Goals as goal

pub returns : goal.returns
returns c =
    let keys = c.self.inside.spots.keys in
    let is : c.dedup.new.self.items ≡ dedup nat_eq c.sort_unstable.new.self =
    c.dedup.ensures.items ∙ ap (dedup nat_eq) (items-with_items c.push_all.new.out c.sort_unstable.new.self (search rules)) in
    let moved : IsPermutation c.push_all.new.out.items c.sort_unstable.new.self =
    subst (λ (xs : List ℕ). IsPermutation xs c.sort_unstable.new.self) c.deref_mut.ensures.value c.sort_unstable.ensures.permutation in
    let found : (i : ℕ) → has_id c.push_all.new.out.items i ≡ list_any (is_met c.args.area.now i) keys =
    λ i. c.in_ok-push_all.ensures i ∙ ap (λ (xs : List ℕ). has_id xs i || list_any (is_met c.args.area.now i) keys) c.new-ids.ensures.items in
    subst (λ (pairs : List Listener). AreMeeting pairs c.args.area.now c.dedup.new.self.items) c.self.view_is
    (subst (λ (xs : List ℕ). AreMeeting (map listener_of keys) c.args.area.now xs) (sym is)
    (are_meeting keys c.args.area.now c.push_all.new.out.items _ found moved c.sort_unstable.ensures.sorted))
