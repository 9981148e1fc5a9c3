-- What contracts see in a pass, what each call makes of it, and what it is when the board ends.
use Rattle.std.specs.Prelude.{◌≡◌, ℕ, ◌+◌, ◌-◌, ◌<◌, ◌≤◌, List, [], ◌∷◌, ◌++◌, length}
use Rattle.work_board.specs.declared.pass_view.PassView.{PassView}
use Rattle.work_board.specs.Counts.{times, once_below}
use Rattle.work_board.specs.BoardMachine.{gather, one_thread}

abbrev pub view : ℕ → ℕ → ℕ → List ℕ → List ℕ → PassView
view size rights passes listed missed =
    record { size = size; rights = rights; passes = passes; listed = listed; missed = missed }

-- the pass of `open`, a pass that was split off, and what is left of one that was joined into another
abbrev pub first_view : ℕ → PassView
first_view size = view size 64 1 [] []

abbrev pub new_view : ℕ → PassView
new_view size = view size 0 1 [] []

abbrev pub spent_view : PassView
spent_view = view 0 0 0 [] []

abbrev pub with_listed : ℕ → PassView → PassView
with_listed x v = view v.size v.rights v.passes (v.listed ++ x ∷ []) v.missed

abbrev pub with_missed : ℕ → PassView → PassView
with_missed x v = view v.size v.rights v.passes v.listed (v.missed ++ x ∷ [])

-- one more draw was answered None
abbrev pub with_none : PassView → PassView
with_none v = with_missed v.size v

-- how many draws were answered None
abbrev pub nones : PassView → ℕ
nones v = length v.missed

abbrev pub one_right_less : PassView → PassView
one_right_less v = view v.size (v.rights - 1) v.passes v.listed v.missed

abbrev pub both : PassView → PassView → PassView
both v w = view v.size (v.rights + w.rights) (v.passes + w.passes)
    (v.listed ++ w.listed) (v.missed ++ w.missed)

-- the numbers below some bound were drawn, each once; the bound is `units` where a draw was
-- answered None
pub record IsDrawEnd (units : ℕ) (end : PassView) : Type 0 where
  pub bound : ℕ
  pub within : bound ≤ units
  pub once : (x : ℕ) → times x end.listed ≡ once_below x bound
  pub whole : 0 < nones end → bound ≡ units

-- where a draw was answered None, results at the places of the drawn numbers are one thread's
abbrev pub GathersAll : ℕ → PassView → Type 0
GathersAll units end =
    0 < nones end → (blank : ℕ) (f : ℕ → ℕ) → gather blank f units end.listed ≡ one_thread f units

-- no bit is listed twice, each is one of the board, and each that was met is listed
pub record IsMarkEnd (bits : ℕ) (end : PassView) : Type 0 where
  pub once : (bit : ℕ) → times bit end.listed ≤ 1
  pub below : (bit : ℕ) → 0 < times bit end.listed → bit < bits
  pub met : (bit : ℕ) → 0 < times bit end.missed → times bit end.listed ≡ 1
