use Rattle.std.proofs.Common.{◌≡◌, zero, suc, ◌+◌, ◌<◌, ◌≤◌, ◌∷◌, [], ◌++◌, length, get_or, insert, refl, ap, ◌∙◌, arith, sym}
use Rattle.std.proofs.Math.ListN.{set}
use Rattle.std.proofs.lemmas.List.{length-append}
use Rattle.std.proofs.lemmas.List.Edits.{length-insert}
use Rattle.paged_list.specs.Pages.{put_behind}
use Rattle.paged_list.proofs.Passed.{squeezed, shape-set, shape-step}
use Rattle.paged_list.proofs.through.push_through.Goals as goal

pub loop-k-preserved : goal.loop-k-preserved
loop-k-preserved g c =
    let ps = c.loop-k.pages in
    let k = c.loop-k.k in
    let q = c.index-pages-k.result in
    let p = c.squeeze-item.new.self in
    let full = c.requires.full k q c.loop-k.invariant.from c.loop-k-test.true in
    let size : length (get_or ps k q).items ≡ 4096 = c.loop-k.invariant.shape.sizes k q ∙ full.0 in
    let in_page : c.loop-k.at ≤ length (get_or ps k q).items = omega (arith, size, c.loop-k.invariant.at, c.requires.at) in
    let items : p.items ++ c.squeeze-item.result ∷ [] ≡ insert (get_or ps k q).items c.loop-k.at c.loop-k.item = c.squeeze-item.ensures.items in
    let long : length p.items + 1 ≡ length (get_or ps k q).items + 1 = sym (length-append p.items (c.squeeze-item.result ∷ [])) ∙ ap length items ∙ length-insert (get_or ps k q).items c.loop-k.at c.loop-k.item in_page in
    let within : k < length ps = omega (arith, c.loop-k-test.true, c.requires.within, c.loop-k.invariant.shape.pages) in
    let next : c.loop-k.k + 1 ≡ suc c.loop-k.k = omega arith in
    let capacity : (get_or ps k q).capacity ≤ p.capacity = omega (arith, c.squeeze-item.ensures.capacity) in
    let sizes : length p.items ≡ length (get_or ps k q).items = omega (arith, long) in
    record {
      items = ap (λ n. put_behind (set ps k p) n zero c.squeeze-item.result) next ∙ squeezed k ps p q c.loop-k.at c.loop-k.item c.squeeze-item.result within in_page items ∙ c.loop-k.invariant.items;
      shape = shape-step c.args.pages.now ps (set ps k p) c.loop-k.invariant.shape (shape-set k ps p q sizes capacity);
      at = omega arith;
      turned = λ h. refl;
      from = omega (arith, c.loop-k.invariant.from);
    }
