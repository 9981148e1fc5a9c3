use Rattle.std.proofs.Common.{◌≡◌, suc, ◌+◌, ◌/◌, ◌<◌, length, get_or, ap, subst, ◌∙◌, arith}
use Rattle.std.proofs.Math.ListN.{set}
use Rattle.std.proofs.lemmas.List.Edits.{length-insert}
use Rattle.paged_list.specs.Pages.{Packed}
use Rattle.paged_list.proofs.Packs.{packed-at, packed-more, roomy-set}
use Rattle.paged_list.proofs.Passed.{packed-same, roomy-same}
use Rattle.paged_list.proofs.Edits.{inserted-in, put-there, put-place}
use Rattle.paged_list.proofs.through.insert_at.Goals as goal

pub insert-requires-clause-at : goal.insert-requires-clause-at
insert-requires-clause-at g c =
    let pushed = c.push_through-place.ensures in
    let ps = c.push_through-place.new.pages in
    let q = c.index-pages-last.result in
    let packed = packed-same c.args.len c.args.pages.now ps pushed.shape c.requires.packed in
    let size = packed-at (c.args.len / 4096) c.args.len ps q packed (omega (arith, c.requires.place.within, pushed.shape.pages)) in
    put-place c.args.at c.args.len c.push_through-place.result.0 (length (get_or ps (c.args.len / 4096) q).items) c.requires.at size pushed.at pushed.turned

pub returns-clause-items : goal.returns-clause-items
returns-clause-items g c =
    let pushed = c.push_through-place.ensures in
    let ps = c.push_through-place.new.pages in
    let q = c.index-pages-last.result in
    let packed = packed-same c.args.len c.args.pages.now ps pushed.shape c.requires.packed in
    let there : c.args.len / 4096 < length ps = omega (arith, c.requires.place.within, pushed.shape.pages) in
    let size = packed-at (c.args.len / 4096) c.args.len ps q packed there in
    let at = put-place c.args.at c.args.len c.push_through-place.result.0 (length (get_or ps (c.args.len / 4096) q).items) c.requires.at size pushed.at pushed.turned in
    inserted-in (c.args.len / 4096) ps c.insert.new.self q c.push_through-place.result.0 c.push_through-place.result.1 there at c.insert.ensures.items
    ∙ pushed.items ∙ put-there c.args.at c.args.len c.args.pages.now c.args.item c.requires.packed c.requires.at

pub returns-clause-packed : goal.returns-clause-packed
returns-clause-packed g c =
    let pushed = c.push_through-place.ensures in
    let ps = c.push_through-place.new.pages in
    let q = c.index-pages-last.result in
    let packed = packed-same c.args.len c.args.pages.now ps pushed.shape c.requires.packed in
    let there : c.args.len / 4096 < length ps = omega (arith, c.requires.place.within, pushed.shape.pages) in
    let size = packed-at (c.args.len / 4096) c.args.len ps q packed there in
    let at = put-place c.args.at c.args.len c.push_through-place.result.0 (length (get_or ps (c.args.len / 4096) q).items) c.requires.at size pushed.at pushed.turned in
    let next : suc c.args.len ≡ c.args.len + 1 = omega arith in
    let long : length c.insert.new.self.items ≡ suc (length (get_or ps (c.args.len / 4096) q).items) = omega (arith, ap length c.insert.ensures.items, length-insert (get_or ps (c.args.len / 4096) q).items c.push_through-place.result.0 c.push_through-place.result.1 at) in
    subst (λ n. Packed n (set ps (c.args.len / 4096) c.insert.new.self)) next
    (packed-more (c.args.len / 4096) c.args.len ps c.insert.new.self q packed there (omega arith) (omega arith) long)

pub returns-clause-roomy : goal.returns-clause-roomy
returns-clause-roomy g c =
    let ps = c.push_through-place.new.pages in
    λ n h. roomy-set (c.args.len / 4096) n ps c.insert.new.self c.index-pages-last.result (roomy-same n c.args.pages.now ps c.push_through-place.ensures.shape h) c.insert.ensures.capacity
