-- Room for edits of single rows.
use Rattle.std.proofs.Common.{◌≡◌, ℕ, ◌+◌, ◌-◌, ◌/◌, ◌≤◌, min, Result, Err, IsOk, arith}

-- places in two tables and in the stores, where a row takes three of each table
abbrev pub rooms : ℕ → ℕ → ℕ → ℕ → ℕ
rooms blocks counts used stores = min ((blocks - used) / 3) (min ((counts - used) / 3) stores)

pub some-room : (blocks counts used stores : ℕ) → 1 ≤ rooms blocks counts used stores → (used + 3 ≤ blocks) × (used + 3 ≤ counts) × (1 ≤ stores)
some-room blocks counts used stores h = (omega arith, omega arith, omega arith)

thirds : (a b a2 b2 : ℕ) → a ≤ a2 → b2 ≤ b + 3 → (a - b) / 3 ≤ (a2 - b2) / 3 + 1
thirds a b a2 b2 h k = omega arith

pub room-left : (blocks counts used stores blocks2 counts2 used2 stores2 : ℕ) → blocks ≤ blocks2 → counts ≤ counts2 → used2 ≤ used + 3 → stores ≤ stores2 + 1 → rooms blocks counts used stores ≤ rooms blocks2 counts2 used2 stores2 + 1
room-left blocks counts used stores blocks2 counts2 used2 stores2 b c u s =
    let first = thirds blocks used blocks2 used2 b u in
    let second = thirds counts used counts2 used2 c u in
    omega arith

pub not-err : {T E : Type 0} {Q : Type 0} (r : Result T E) (e : E) → r ≡ Err e → IsOk r → Q
not-err r e is h = absurd cc
