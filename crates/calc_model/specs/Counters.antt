-- A counter of steps: how many were counted, and how many parts of its ledger it holds.
use Rattle.std.specs.Prelude.{ℕ, ◌-◌, ◌^◌, ◌<◌}

pub record Counter : Type 0 where
  pub count : ℕ
  pub parts : ℕ

-- there is room for so many steps as one call may take
abbrev pub HasRoom : Counter → Type 0
HasRoom steps = steps.count < 2 ^ 64 - 2048
