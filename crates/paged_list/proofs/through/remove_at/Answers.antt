use Rattle.std.proofs.Common.{◌-◌, ◌/◌, ◌%◌, ◌<◌, ◌∷◌, [], length, get_or, remove, ap, arith}
use Rattle.std.proofs.lemmas.List.{length-append}
use Rattle.std.proofs.lemmas.List.Edits.{length-remove}
use Rattle.paged_list.specs.Pages.{flat}
use Rattle.paged_list.proofs.Packs.{packed-at, packed-reach, packed-set, roomy-set}
use Rattle.paged_list.proofs.Places.{placed}
use Rattle.paged_list.proofs.Passed.{packed-less}
use Rattle.paged_list.proofs.Edits.{gone, turned}
use Rattle.paged_list.proofs.through.remove_at.Goals as goal

pub bounds-pages-page : goal.bounds-pages-page
bounds-pages-page g c = packed-reach (c.args.at / 4096) c.args.len c.args.pages.now c.requires.packed (omega (arith, c.requires.at))

pub remove-requires : goal.remove-requires
remove-requires g c = (placed c.args.at c.args.len c.args.pages.now c.index-pages-page.result c.requires.packed c.requires.at).inside

pub pull_through-item-requires-clause-within : goal.pull_through-item-requires-clause-within
pull_through-item-requires-clause-within g c = packed-reach ((c.args.len - 1) / 4096) c.args.len c.args.pages.now c.requires.packed (omega (arith, c.requires.at))

pub pull_through-item-requires-clause-some : goal.pull_through-item-requires-clause-some
pull_through-item-requires-clause-some g c = λ d.
    let last = (c.args.len - 1) / 4096 in
    let there = packed-reach last c.args.len c.args.pages.now c.requires.packed (omega (arith, c.requires.at)) in
    omega (arith, c.requires.at, packed-at last c.args.len c.args.pages.now d c.requires.packed there)

pub bounds-pages-page-else-page-last : goal.bounds-pages-page-else-page-last
bounds-pages-page-else-page-last g c =
    omega (arith, c.pull_through-item.ensures.pages, packed-reach (c.args.at / 4096) c.args.len c.args.pages.now c.requires.packed (omega (arith, c.requires.at)))

pub returns-then-page-last-clause-items : goal.returns-then-page-last-clause-items
returns-then-page-last-clause-items g c = gone c.args.at c.args.len c.args.pages.now c.remove.new.self c.index-pages-page.result c.requires.packed c.requires.at c.remove.ensures.items

pub returns-then-page-last-clause-packed : goal.returns-then-page-last-clause-packed
returns-then-page-last-clause-packed g c =
    let p = placed c.args.at c.args.len c.args.pages.now c.index-pages-page.result c.requires.packed c.requires.at in
    let q = get_or c.args.pages.now (c.args.at / 4096) c.index-pages-page.result in
    packed-less (c.args.at / 4096) c.args.len c.args.pages.now c.remove.new.self c.index-pages-page.result c.requires.packed p.there (omega (arith, c.requires.at)) (omega (arith, c.requires.at, c.if-page-last.true))
    (omega (arith, ap length c.remove.ensures.items, length-remove q.items (c.args.at % 4096) p.inside))

pub returns-then-page-last-clause-roomy : goal.returns-then-page-last-clause-roomy
returns-then-page-last-clause-roomy g c = λ n h. roomy-set (c.args.at / 4096) n c.args.pages.now c.remove.new.self c.index-pages-page.result h (omega (arith, c.remove.ensures.capacity))

pub returns-else-page-last-clause-items : goal.returns-else-page-last-clause-items
returns-else-page-last-clause-items g c =
    let ps = c.pull_through-item.new.pages in
    let q = c.index-pages-page-else-page-last.result in
    let pulled = c.pull_through-item.ensures in
    let p = placed c.args.at c.args.len c.args.pages.now q c.requires.packed c.requires.at in
    let page : c.args.at / 4096 < (c.args.len - 1) / 4096 = omega (arith, c.requires.at, c.if-page-last.false) in
    let packed = pulled.fewer c.args.len c.requires.packed (omega (arith, c.requires.at)) (omega (arith, c.requires.at)) in
    turned c.args.at (c.args.len - 1) ps c.turn.new.self q c.pull_through-item.result (flat c.args.pages.now) packed (omega (arith, pulled.pages, p.there)) (omega (arith, page))
    (omega (arith, p.inside, pulled.front (c.args.at / 4096) q page)) c.turn.ensures.items pulled.items

pub returns-else-page-last-clause-packed : goal.returns-else-page-last-clause-packed
returns-else-page-last-clause-packed g c =
    let ps = c.pull_through-item.new.pages in
    let q = c.index-pages-page-else-page-last.result in
    let pulled = c.pull_through-item.ensures in
    let p = placed c.args.at c.args.len c.args.pages.now q c.requires.packed c.requires.at in
    let page : c.args.at / 4096 < (c.args.len - 1) / 4096 = omega (arith, c.requires.at, c.if-page-last.false) in
    let packed = pulled.fewer c.args.len c.requires.packed (omega (arith, c.requires.at)) (omega (arith, c.requires.at)) in
    let r = get_or ps (c.args.at / 4096) q in
    let inside : c.args.at % 4096 < length r.items = omega (arith, p.inside, pulled.front (c.args.at / 4096) q page) in
    packed-set (c.args.at / 4096) (c.args.len - 1) ps c.turn.new.self q packed
    (omega (arith, ap length c.turn.ensures.items, length-append (remove r.items (c.args.at % 4096)) (c.pull_through-item.result ∷ []), length-remove r.items (c.args.at % 4096) inside))

pub returns-else-page-last-clause-roomy : goal.returns-else-page-last-clause-roomy
returns-else-page-last-clause-roomy g c = λ n h. roomy-set (c.args.at / 4096) n c.pull_through-item.new.pages c.turn.new.self c.index-pages-page-else-page-last.result (c.pull_through-item.ensures.roomy n h) c.turn.ensures.capacity
