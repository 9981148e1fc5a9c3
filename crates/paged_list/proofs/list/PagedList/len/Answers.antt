use Rattle.std.proofs.Common.{length, ap, sym, ◌∙◌}
use Rattle.paged_list.proofs.Packs.{packed-length}
use Rattle.paged_list.proofs.list.PagedList.len.Goals as goal

pub returns : goal.returns
returns g c = sym (packed-length c.self.inside.len c.self.inside.pages.items c.self.invariant.packed) ∙ ap (λ v. length v.items) c.self.view_is
