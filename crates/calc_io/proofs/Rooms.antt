-- How the room of a sink goes on over several writes.
use Rattle.std.proofs.Common.{ℕ, ◌+◌, ◌≤◌, Option, None, Some, arith}
use Rattle.calc_io.specs.Sink.{HasRoom, RoomFalls}

-- two writes take what both took
pub RoomFalls-trans : (first then last : Option ℕ) (n k : ℕ) → RoomFalls first then n → RoomFalls then last k → RoomFalls first last (n + k)
RoomFalls-trans None then last n k p q = tt
RoomFalls-trans (Some room) None last n k p q = absurd p
RoomFalls-trans (Some room) (Some left) None n k p q = absurd q
RoomFalls-trans (Some room) (Some left) (Some rest) n k p q = omega arith

-- no write takes nothing
pub RoomFalls-nothing : (room : Option ℕ) → RoomFalls room room 0
RoomFalls-nothing None = tt
RoomFalls-nothing (Some room) = omega arith

-- where there was room for n bytes and k more, there is room for k after n were taken
pub HasRoom-rest : (first then : Option ℕ) (n k : ℕ) → HasRoom first (n + k) → RoomFalls first then n → HasRoom then k
HasRoom-rest None then n k room falls = absurd room
HasRoom-rest (Some whole) None n k room falls = absurd falls
HasRoom-rest (Some whole) (Some left) n k room falls = omega arith

-- where there is room for more bytes, there is room for fewer
pub HasRoom-less : (room : Option ℕ) (n k : ℕ) → n ≤ k → HasRoom room k → HasRoom room n
HasRoom-less None n k less has = absurd has
HasRoom-less (Some room) n k less has = omega arith
