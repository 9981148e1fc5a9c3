use Rattle.std.proofs.Common.{◌/◌, ◌%◌, length, get_or, ap, sym, ◌∙◌, arith}
use Rattle.paged_list.proofs.Packs.{packed-reach}
use Rattle.paged_list.proofs.Places.{placed, item-at, within}
use Rattle.paged_list.proofs.list.PagedList.get.Goals as goal

pub index-requires : goal.index-requires
index-requires g c =
    let page = c.self.inside.pages in
    let short = within c.args.at c.self.inside.len page.items c.args.self.now.items c.self.invariant.packed (ap (λ v. v.items) c.self.view_is) c.requires in
    omega (arith, short, page.ok, packed-reach (c.args.at / 4096) c.self.inside.len page.items c.self.invariant.packed (omega (arith, short)))

pub get-requires : goal.get-requires
get-requires g c =
    let pages = c.self.inside.pages.items in
    let short = within c.args.at c.self.inside.len pages c.args.self.now.items c.self.invariant.packed (ap (λ v. v.items) c.self.view_is) c.requires in
    let inside = (placed c.args.at c.self.inside.len pages c.index.result.now c.self.invariant.packed short).inside in
    omega (arith, inside, ap (λ p. length p.items) c.index.ensures)

pub returns : goal.returns
returns g c =
    let pages = c.self.inside.pages.items in
    let x = c.get.result.now in
    let short = within c.args.at c.self.inside.len pages c.args.self.now.items c.self.invariant.packed (ap (λ v. v.items) c.self.view_is) c.requires in
    c.get.ensures
    ∙ ap (λ p. get_or p.items (c.args.at % 4096) x) c.index.ensures
    ∙ sym (item-at c.args.at c.self.inside.len pages c.index.result.now x c.self.invariant.packed short)
    ∙ ap (λ v. get_or v.items c.args.at x) c.self.view_is
