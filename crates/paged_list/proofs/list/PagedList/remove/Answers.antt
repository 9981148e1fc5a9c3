use Rattle.std.proofs.Common.{ap, subst, sym, ◌-◌, ◌/◌, arith, zero}
use Rattle.paged_list.specs.Pages.{AreFull}
use Rattle.paged_list.proofs.Places.{within}
use Rattle.paged_list.proofs.Edits.{full-pages}
use Rattle.paged_list.proofs.list.PagedList.remove.Goals as goal

pub remove_at-requires-clause-at : goal.remove_at-requires-clause-at
remove_at-requires-clause-at g c =
    within c.args.at c.self.inside.len c.self.inside.pages.items c.args.self.now.items c.self.invariant.packed (ap (λ v. v.items) c.self.view_is) c.requires.at

pub remove_at-requires-clause-full : goal.remove_at-requires-clause-full
remove_at-requires-clause-full g c =
    let short = within c.args.at c.self.inside.len c.self.inside.pages.items c.args.self.now.items c.self.invariant.packed (ap (λ v. v.items) c.self.view_is) c.requires.at in
    subst (λ ps. AreFull ps zero ((c.self.inside.len - 1) / 4096)) (sym c.deref_mut.ensures.value)
    (full-pages c.self.inside.len c.self.inside.capacity c.self.inside.pages.items c.self.invariant ((c.self.inside.len - 1) / 4096) (omega (arith, short, c.self.invariant.within)) (omega (arith, short)))

pub overflow_sub-self : goal.overflow_sub-self
overflow_sub-self g c =
    let short = within c.args.at c.self.inside.len c.self.inside.pages.items c.args.self.now.items c.self.invariant.packed (ap (λ v. v.items) c.self.view_is) c.requires.at in
    omega (arith, short)
