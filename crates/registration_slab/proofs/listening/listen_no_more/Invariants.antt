use Rattle.std.proofs.Common.{◌≡◌, ◌&&◌, not, take}
use Rattle.std.specs.Prelude.{◌==◌}
use Rattle.area_listeners.specs.declared.listener.Listener.{Listener}
use Rattle.area_listeners.specs.Pairs.{holds}
use Rattle.registration_slab.specs.Slab.{is_heard}
use Rattle.registration_slab.proofs.listening.listen_no_more.Given as goal

abbrev pub invariant-loop-ear : goal.invariant-loop-ear
invariant-loop-ear l = (x : Listener) → holds l.listeners x ≡ (holds l.fn.listeners x && not ((x.id == l.id) && is_heard (take l.ear-index l.ears) l.steps x.area))
