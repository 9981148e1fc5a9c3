use Rattle.std.proofs.Common.{List, ℕ, sym, subst}
use Rattle.calc_addr.specs.Places.{Rectangle}
use Rattle.area_listeners.specs.Pairs.{AreMeeting}
use Rattle.registration_slab.specs.declared.cuts.Cut.{Cut}
use Rattle.registration_slab.specs.Cuts.{AreCandidates, cut_of}
use Rattle.registration_slab.proofs.Standing.{candidates, removed}
use Rattle.registration_slab.proofs.cuts.remove_run.Goals as goal

pub returns-clause-areas : goal.returns-clause-areas
returns-clause-areas c =
    let rs = c.args.slab.now.registrations.items in
    let meeting = subst (λ (a : Rectangle). AreMeeting c.args.slab.now.homes a c.in_ok-places.places.items) c.area_of.ensures c.in_ok-places.ensures in
    let here = candidates rs c.args.slab.now.ears c.args.slab.now.homes c.requires c.args.run.now c.in_ok-places.places.items meeting in
    let cut = c.cut_of-cut.ensures.cut in
    removed rs c.trim_all.new.slab.registrations.items c.args.run.now c.cut_of-cut.result cut c.in_ok-trim_all.ensures.outside
    (c.in_ok-trim_all.ensures.inside (subst (λ (x : Cut). AreCandidates rs x c.deref.result.now) (sym cut) (subst (λ (xs : List ℕ). AreCandidates rs (cut_of c.args.run.now) xs) (sym c.deref.ensures) here)))
