use Rattle.std.proofs.Common.{ap, subst, sym, ◌∙◌, arith}
use Rattle.paged_list.specs.Pages.{Packed, Roomy, flat}
use Rattle.paged_list.proofs.Widened.{flat-more, packed-longer, roomy-longer}
use Rattle.paged_list.proofs.through.add_pages.Goals as goal

pub loop-preserved : goal.loop-preserved
loop-preserved g c =
    let ps = c.loop.pages.items in
    let p = c.new.result in
    let more = c.push_reserved.ensures.items in
    record {
      len = omega (arith, c.push_reserved.ensures.len, c.loop.invariant.len);
      room = omega (arith, c.push_reserved.ensures.capacity, c.loop.invariant.room);
      items = ap flat more ∙ flat-more ps p c.new.ensures ∙ c.loop.invariant.items;
      packed = λ n h. subst (Packed n) (sym more) (packed-longer n ps p c.new.ensures (c.loop.invariant.packed n h));
      roomy = λ n h. subst (Roomy n) (sym more) (roomy-longer n ps p (c.loop.invariant.roomy n h));
    }
