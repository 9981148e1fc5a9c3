use Rattle.std.proofs.Common.{length, ap, subst, sym, ◌∙◌, arith}
use Rattle.paged_list.specs.Pages.{Packed, Roomy}
use Rattle.paged_list.proofs.Passed.{packed-same, roomy-same}
use Rattle.paged_list.proofs.Edits.{written-back}
use Rattle.paged_list.proofs.through.make_room.Goals as goal

pub returns-clause-packed : goal.returns-clause-packed
returns-clause-packed g c =
    let old = c.add_pages.new.pages in
    let new = c.widen.new.pages in
    let same = c.widen.ensures.shape.pages ∙ ap length c.deref_mut.ensures.value in
    λ n h. subst (Packed n) (sym (written-back old.len new old.items (omega (arith, old.ok)) same))
    (packed-same n c.deref_mut.result.now new c.widen.ensures.shape (subst (Packed n) (sym c.deref_mut.ensures.value) (c.add_pages.ensures.packed n h)))

pub returns-clause-roomy : goal.returns-clause-roomy
returns-clause-roomy g c =
    let old = c.add_pages.new.pages in
    let new = c.widen.new.pages in
    let same = c.widen.ensures.shape.pages ∙ ap length c.deref_mut.ensures.value in
    λ n h. subst (Roomy n) (sym (written-back old.len new old.items (omega (arith, old.ok)) same))
    (roomy-same n c.deref_mut.result.now new c.widen.ensures.shape (subst (Roomy n) (sym c.deref_mut.ensures.value) (c.add_pages.ensures.roomy n h)))
