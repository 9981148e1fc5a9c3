use Rattle.std.proofs.Common.{length, ap, subst, sym, ◌<◌, arith}
use Rattle.paged_list.specs.Pages.{HasPlace}
use Rattle.paged_list.proofs.Packs.{packed-length}
use Rattle.paged_list.proofs.Edits.{has-place}
use Rattle.paged_list.proofs.list.PagedList.insert.Goals as goal

pub insert_at-requires-clause-at : goal.insert_at-requires-clause-at
insert_at-requires-clause-at g c =
    let ps = c.self.inside.pages.items in
    omega (arith, c.requires.at, ap (λ v. length v.items) c.self.view_is, packed-length c.self.inside.len ps c.self.invariant.packed)

pub insert_at-requires-clause-place : goal.insert_at-requires-clause-place
insert_at-requires-clause-place g c =
    let short : c.self.inside.len < c.self.inside.capacity = omega (arith, c.requires.room, ap (λ v. v.room) c.self.view_is) in
    subst (λ ps. HasPlace ps c.self.inside.len) (sym c.deref_mut.ensures.value) (has-place c.self.inside.len c.self.inside.capacity c.self.inside.pages.items c.self.invariant short)
