use Rattle.std.proofs.Common.{◌≡◌, zero, suc, ◌+◌, ◌-◌, ◌<◌, ◌≤◌, ◌∷◌, [], ◌++◌, length, take, drop, get_or, ap, ◌∙◌, arith}
use Rattle.std.proofs.Math.ListN.{set}
use Rattle.std.proofs.lemmas.List.{length-append, length-set}
use Rattle.std.proofs.lemmas.List.Edits.{length-remove}
use Rattle.paged_list.specs.Pages.{flat}
use Rattle.paged_list.proofs.Packs.{roomy-set}
use Rattle.paged_list.proofs.Passed.{first-out, pulled, packed-less, packed-same, roomy-same, shape-same, shape-set, shape-step}
use Rattle.paged_list.proofs.through.pull_through.Goals as goal

pub loop-k-init : goal.loop-k-init
loop-k-init g c =
    let ps = c.args.pages.now in
    let q = c.index-pages-last.result in
    let some = c.requires.some q in
    record {
      items = first-out c.args.last ps c.remove-item.new.self q c.remove-item.result c.requires.within some
          c.remove-item.ensures.item c.remove-item.ensures.items;
      shape = shape-same (set ps c.args.last c.remove-item.new.self);
      to = omega arith;
      from = c.requires.order;
    }

pub loop-k-preserved : goal.loop-k-preserved
loop-k-preserved g c =
    let start = set c.args.pages.now c.args.last c.remove-item.new.self in
    let ps = c.loop-k.pages in
    let k = c.loop-k.k - 1 in
    let q = c.index-pages-k.result in
    let p = c.pull-item.new.self in
    let next : suc k ≡ c.loop-k.k = omega (arith, c.loop-k-test.true) in
    let within : k < length ps = omega (arith, next, c.loop-k.invariant.to, c.requires.within, c.loop-k.invariant.shape.pages, length-set c.args.pages.now c.args.last c.remove-item.new.self) in
    let items : c.pull-item.result ∷ p.items ≡ (get_or ps k q).items ++ c.loop-k.item ∷ [] = c.pull-item.ensures.items in
    let long : suc (length p.items) ≡ length (get_or ps k q).items + 1 = ap length items ∙ length-append (get_or ps k q).items (c.loop-k.item ∷ []) in
    let sizes : length p.items ≡ length (get_or ps k q).items = omega (arith, long) in
    let capacity : (get_or ps k q).capacity ≤ p.capacity = omega (arith, c.pull-item.ensures.capacity) in
    record {
      items = pulled k ps p q c.loop-k.item c.pull-item.result within items ∙ ap (λ n. flat (take n ps) ++ c.loop-k.item ∷ flat (drop n ps)) next ∙ c.loop-k.invariant.items;
      shape = shape-step start ps (set ps k p) c.loop-k.invariant.shape (shape-set k ps p q sizes capacity);
      to = omega (arith, c.loop-k.invariant.to);
      from = omega (arith, c.loop-k-test.true);
    }

pub returns-clause-fewer : goal.returns-clause-fewer
returns-clause-fewer g c =
    let ps = c.args.pages.now in
    let q = c.index-pages-last.result in
    let start = set ps c.args.last c.remove-item.new.self in
    let some = c.requires.some q in
    let less : suc (length c.remove-item.new.self.items) ≡ length (get_or ps c.args.last q).items = omega (arith, ap length c.remove-item.ensures.items, length-remove (get_or ps c.args.last q).items zero some) in
    λ n packed from to. packed-same (n - 1) start c.loop-k.pages c.loop-k.invariant.shape
    (packed-less c.args.last n ps c.remove-item.new.self q packed c.requires.within from (omega (arith, to)) less)

pub returns-clause-roomy : goal.returns-clause-roomy
returns-clause-roomy g c =
    let ps = c.args.pages.now in
    let q = c.index-pages-last.result in
    let start = set ps c.args.last c.remove-item.new.self in
    λ n roomy. roomy-same n start c.loop-k.pages c.loop-k.invariant.shape
    (roomy-set c.args.last n ps c.remove-item.new.self q roomy (omega (arith, c.remove-item.ensures.capacity)))
