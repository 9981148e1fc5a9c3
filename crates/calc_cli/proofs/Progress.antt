-- What was written of a whole, and what is still to come.
use Rattle.std.proofs.Common.{◌≡◌, ℕ, ◌||◌, Bool, true, false, List, ◌++◌, length, sym, ap, subst, ◌∙◌, append_assoc, Option, arith}
use Rattle.std.specs.Io.KnownBytes.{Appends}
use Rattle.std.proofs.KnownBytes.{Appends-trans}
use Rattle.std.proofs.lemmas.List.{length-append}
use Rattle.calc_io.specs.Sink.{HasRoom, RoomFalls}
use Rattle.calc_io.proofs.Rooms.{HasRoom-rest, HasRoom-less}
use Rattle.calc_cli.specs.Runs.{GrowsWithin}

-- what stands before the rest was written
abbrev pub IsWrittenTo : Option (List ℕ) → Option (List ℕ) → List ℕ → List ℕ → Type 0
IsWrittenTo old new whole rest = (front : List ℕ) × (whole ≡ front ++ rest) × Appends old new front

pub part_written : (old then new : Option (List ℕ)) (whole part rest : List ℕ) → IsWrittenTo old then whole (part ++ rest) → Appends then new part → IsWrittenTo old new whole rest
part_written old then new whole part rest (front, whole_is, before) now =
    (front ++ part, whole_is ∙ sym (append_assoc front part rest), Appends-trans old then new front part before now)

pub stopped : (old new : Option (List ℕ)) (whole rest : List ℕ) → IsWrittenTo old new whole rest → GrowsWithin old new whole
stopped old new whole rest (front, whole_is, before) = (front, rest, whole_is, before)

pub stopped_inside : (old then new : Option (List ℕ)) (whole part rest : List ℕ) → IsWrittenTo old then whole (part ++ rest) → GrowsWithin then new part → GrowsWithin old new whole
stopped_inside old then new whole part rest (front, whole_is, before) (more, left, part_is, now) = (
  front ++ more,
  left ++ rest,
  whole_is ∙ ap (λ p. front ++ (p ++ rest)) part_is ∙ ap (λ p. front ++ p) (append_assoc more left rest) ∙ sym (append_assoc front more (left ++ rest)),
  Appends-trans old then new front more before now,
)

pub room_for_part : (room : Option ℕ) (part rest : List ℕ) → HasRoom room (length (part ++ rest)) → HasRoom room (length part)
room_for_part room part rest has = HasRoom-less room (length part) (length (part ++ rest)) (omega (arith, length-append part rest)) has

pub room_behind_part : (first then : Option ℕ) (part rest : List ℕ) → HasRoom first (length (part ++ rest)) → RoomFalls first then (length part) → HasRoom then (length rest)
room_behind_part first then part rest has falls =
    HasRoom-rest first then (length part) (length rest) (subst (HasRoom first) (length-append part rest) has) falls

-- whether a line is refused so far or behind
pub refused_more : (so_far flag here behind rest all : Bool) → flag ≡ here → behind ≡ rest → (so_far || (here || rest)) ≡ all → ((so_far || flag) || behind) ≡ all
refused_more true flag here behind rest all is same whole = whole
refused_more false flag here behind rest all is same whole = ap (λ b. b || behind) is ∙ ap (λ b. here || b) same ∙ whole
