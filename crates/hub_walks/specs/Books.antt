-- Hubs whose cells all lie above a known row.
use Rattle.std.specs.Prelude.{◌≡◌, ◌<◌, ℕ, false, None}
use Rattle.calc_addr.specs.Places.{Place}
use Rattle.listener_hub.specs.Hubs.{areas_read}
use Rattle.listener_hub.specs.Known.{Known}

abbrev pub EndsAt : Known → ℕ → Type 0
EndsAt hub bottom = hub.spent ≡ false → (q : Place) → bottom < q.row → areas_read hub q ≡ None
