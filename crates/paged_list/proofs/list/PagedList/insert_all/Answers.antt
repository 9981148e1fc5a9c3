use Rattle.std.proofs.Common.{◌≡◌, suc, ◌+◌, ◌-◌, ◌++◌, take, drop, replicate, get_or, Some, ap, sym, ◌∙◌, arith, vec_len}
use Rattle.std.proofs.Math.ListN.{set}
use Rattle.std.proofs.lemmas.List.{get_or-take, take-take}
use Rattle.paged_list.proofs.Moves.{filled-one}
use Rattle.paged_list.proofs.list.PagedList.insert_all.Goals as goal

pub loop-item-preserved : goal.loop-item-preserved
loop-item-preserved g c =
    let kept = c.loop-item.invariant in
    let n = vec_len c.pop.new.self in
    let all = c.args.more.items in
    let popped : suc n ≡ vec_len c.loop-item.more = omega (arith, c.in-Some.ensures.cases) in
    let last : Some c.in-Some.item ≡ Some (get_or c.loop-item.more.items (vec_len c.loop-item.more - 1) c.in-Some.item) = sym c.in-Some.is ∙ c.pop.ensures.value c.in-Some.item (omega (arith, popped)) in
    let same : vec_len c.loop-item.more - 1 ≡ n = omega (arith, popped) in
    let read : c.in-Some.item ≡ get_or c.loop-item.more.items (vec_len c.loop-item.more - 1) c.in-Some.item = cc in
    let item : c.in-Some.item ≡ get_or all n c.in-Some.item =
    read ∙ ap (λ i. get_or c.loop-item.more.items i c.in-Some.item) same ∙ ap (λ v. get_or v n c.in-Some.item) kept.more ∙ get_or-take (vec_len c.loop-item.more) all n c.in-Some.item (omega (arith, popped)) in
    let place : c.loop-item.place - 1 ≡ c.args.at + n = omega (arith, kept.place, popped) in
    record {
      items = c.replace.ensures.items
          ∙ ap (λ i. set c.loop-item.self.items i c.in-Some.item) place
          ∙ ap (λ v. set v (c.args.at + n) c.in-Some.item) (kept.items ∙ ap (λ m. take c.args.at c.args.self.now.items ++ (replicate m g.T.Plain.plain ++ (drop m all ++ drop c.args.at c.args.self.now.items))) (sym popped))
          ∙ filled-one c.args.at n c.args.self.now.items all g.T.Plain.plain c.in-Some.item c.requires.at (omega (arith, popped, kept.fewer, c.args.more.ok)) item;
      more = c.pop.ensures.rest ∙ ap (λ m. take m c.loop-item.more.items) same ∙ ap (take n) kept.more ∙ take-take n (vec_len c.loop-item.more) all (omega (arith, popped));
      place = place;
      fewer = omega (arith, popped, kept.fewer);
      room = omega (arith, c.replace.ensures.room, kept.room);
    }
