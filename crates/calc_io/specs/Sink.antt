-- A sink takes bytes. It may tell what was written to it, and how many bytes it still has room for: what isn't told
-- is `None`.
use Rattle.std.specs.Prelude.{ℕ, ◌+◌, ◌≡◌, ◌≤◌, ⊤, Option, None, Some}

-- it is told that there is room for this many bytes
abbrev pub HasRoom : Option ℕ → ℕ → Type 0
HasRoom None size = ⊥
HasRoom (Some room) size = size ≤ room

-- where the room is told, it is now smaller by this many bytes
abbrev pub RoomFalls : Option ℕ → Option ℕ → ℕ → Type 0
RoomFalls None new taken = ⊤
RoomFalls (Some room) None taken = ⊥
RoomFalls (Some room) (Some left) taken = left + taken ≡ room
