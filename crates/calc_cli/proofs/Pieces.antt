-- Writing the rest of some bytes, piece after piece.
use Rattle.std.proofs.Common.{◌≡◌, ℕ, ◌+◌, ◌-◌, ◌≤◌, List, length, take, drop, sym, ap, subst, ◌∙◌, arith, length-drop, Option, Result, Ok, Err}
use Rattle.std.specs.Result.{OnErr}
use Rattle.std.proofs.lemmas.List.{take_all, take-append-drop}
use Rattle.std.specs.Io.KnownBytes.{Appends, Keeps}
use Rattle.std.proofs.KnownBytes.{Appends-kept}
use Rattle.calc_io.specs.Sink.{HasRoom, RoomFalls}
use Rattle.calc_io.proofs.KnownBytes.{Appends-taken}
use Rattle.calc_io.proofs.Rooms.{HasRoom-rest}
use Rattle.calc_cli.specs.Runs.{GrowsWithin}

-- what holds anyway holds at an error
pub at_error : {T E : Type 0} (r : Result T E) (P : Type 0) → P → OnErr r P
at_error (Ok x) P p = tt
at_error (Err e) P p = p

-- all that is behind a place
pub behind : (bytes : List ℕ) (at : ℕ) → take (length bytes - at) (drop at bytes) ≡ drop at bytes
behind bytes at = take_all (length bytes - at) (drop at bytes) (omega (arith, length-drop at bytes))

-- one more piece of the rest
pub written_more : (first then last : Option (List ℕ)) (bytes : List ℕ) (at taken : ℕ) → Appends first then (take at bytes) → Appends then last (take taken (take (length bytes - at) (drop at bytes))) → Appends first last (take (at + taken) bytes)
written_more first then last bytes at taken before now =
    Appends-taken first then last bytes at taken before (subst (λ piece. Appends then last (take taken piece)) (behind bytes at) now)

-- what was written before a failure
pub written_before : (first then last : Option (List ℕ)) (bytes : List ℕ) (at : ℕ) → Appends first then (take at bytes) → Keeps then last → GrowsWithin first last bytes
written_before first then last bytes at before kept =
    (take at bytes, drop at bytes, sym (take-append-drop at bytes), Appends-kept first then last (take at bytes) before kept)

-- where there is room for all there is room for the rest
pub room_for_rest : (first then : Option ℕ) (bytes : List ℕ) (at : ℕ) → at ≤ length bytes → HasRoom first (length bytes) → RoomFalls first then at → HasRoom then (length (take (length bytes - at) (drop at bytes)))
room_for_rest first then bytes at within has falls =
    let all : length bytes ≡ at + (length bytes - at) = omega arith in
    let rest : length bytes - at ≡ length (take (length bytes - at) (drop at bytes)) = sym (ap length (behind bytes at) ∙ length-drop at bytes) in
    subst (HasRoom then) rest (HasRoom-rest first then at (length bytes - at) (subst (HasRoom first) all has) falls)
