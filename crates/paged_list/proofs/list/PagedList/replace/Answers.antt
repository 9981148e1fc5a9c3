use Rattle.std.proofs.Common.{◌/◌, ◌%◌, length, get_or, ap, sym, ◌∙◌, arith}
use Rattle.std.proofs.Math.ListN.{set}
use Rattle.std.proofs.lemmas.List.{length-set}
use Rattle.paged_list.proofs.Packs.{packed-reach, packed-set, roomy-set}
use Rattle.paged_list.proofs.Places.{placed, item-at, item-set, within}
use Rattle.paged_list.proofs.list.PagedList.replace.Goals as goal

pub index_mut-requires : goal.index_mut-requires
index_mut-requires g c =
    let page = c.self.inside.pages in
    let short = within c.args.at c.self.inside.len page.items c.args.self.now.items c.self.invariant.packed (ap (λ v. v.items) c.self.view_is) c.requires in
    omega (arith, short, page.ok, packed-reach (c.args.at / 4096) c.self.inside.len page.items c.self.invariant.packed (omega (arith, short)))

pub replace-requires : goal.replace-requires
replace-requires g c =
    let pages = c.self.inside.pages.items in
    let short = within c.args.at c.self.inside.len pages c.args.self.now.items c.self.invariant.packed (ap (λ v. v.items) c.self.view_is) c.requires in
    let inside = (placed c.args.at c.self.inside.len pages c.index_mut.result.now c.self.invariant.packed short).inside in
    omega (arith, inside, ap (λ p. length p.items) c.index_mut.ensures.value)

pub invariant_of-self : goal.invariant_of-self
invariant_of-self g c =
    let pages = c.self.inside.pages.items in
    let page = c.index_mut.result.now in
    let long = ap length c.replace.ensures.items ∙ length-set page.items (c.args.at % 4096) c.args.item ∙ ap (λ p. length p.items) c.index_mut.ensures.value in
    record {
      packed = packed-set (c.args.at / 4096) c.self.inside.len pages c.replace.new.self page c.self.invariant.packed long;
      roomy = roomy-set (c.args.at / 4096) c.self.inside.capacity pages c.replace.new.self page c.self.invariant.roomy (omega (arith, c.replace.ensures.capacity, ap (λ p. p.capacity) c.index_mut.ensures.value));
      within = c.self.invariant.within;
    }

pub returns-clause-items : goal.returns-clause-items
returns-clause-items g c =
    let pages = c.self.inside.pages.items in
    let page = c.index_mut.result.now in
    let short = within c.args.at c.self.inside.len pages c.args.self.now.items c.self.invariant.packed (ap (λ v. v.items) c.self.view_is) c.requires in
    item-set c.args.at c.self.inside.len pages c.replace.new.self page c.args.item c.self.invariant.packed short
    (c.replace.ensures.items ∙ ap (λ p. set p.items (c.args.at % 4096) c.args.item) c.index_mut.ensures.value)
    ∙ ap (λ v. set v.items c.args.at c.args.item) c.self.view_is

pub returns-clause-item : goal.returns-clause-item
returns-clause-item g c =
    let pages = c.self.inside.pages.items in
    let short = within c.args.at c.self.inside.len pages c.args.self.now.items c.self.invariant.packed (ap (λ v. v.items) c.self.view_is) c.requires in
    c.replace.ensures.item
    ∙ ap (λ p. get_or p.items (c.args.at % 4096) c.replace.result) c.index_mut.ensures.value
    ∙ sym (item-at c.args.at c.self.inside.len pages c.index_mut.result.now c.replace.result c.self.invariant.packed short)
    ∙ ap (λ v. get_or v.items c.args.at c.replace.result) c.self.view_is
