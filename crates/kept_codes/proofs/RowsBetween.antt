-- The ends of a reference keep their distances at each row between two rows at which they do.
use Rattle.std.proofs.Common.{◌≡◌, ℕ, ◌+◌, ◌-◌, ◌≤◌, ◌==◌, ◌&&◌, ◌||◌, not, nat_le, nat_lt, min, Bool, true, false, cond, Option, Some, None, ◌⊎◌, inl, inr, sym, subst, arith}
use Rattle.std.proofs.lemmas.Bool.Decides.{nat_tests}
use Rattle.calc_addr.specs.declared.cell.TheConstants.{LAST_ROW}
use Rattle.calc_addr.specs.Shifts.{is_deleted, row_after_deletion, row_after_insertion}

-- an end that moves with a formula goes as far as the formula does, and another one stays
abbrev pub goes_along : Bool → ℕ → ℕ → ℕ → ℕ → Bool
goes_along true home to e after = (after + home) == (e + to)
goes_along false home to e after = after == e

-- both ends go along
abbrev pub both_go : Bool → Bool → ℕ → ℕ → ℕ → ℕ → ℕ → ℕ → Bool
both_go mf ml home to a b first last = goes_along mf home to a first && goes_along ml home to b last

-- what becomes of the rows of an area of the sheet
abbrev pub inserted_rows : ℕ → ℕ → ℕ → ℕ → Option (ℕ × ℕ)
inserted_rows p c a b =
    cond ((a == 1) && (b == LAST_ROW)) (Some (a, b))
    (cond (nat_le (row_after_insertion p c a) LAST_ROW) (Some (row_after_insertion p c a, min (row_after_insertion p c b) LAST_ROW)) None)

abbrev pub end_deleted : ℕ → ℕ → ℕ → ℕ → ℕ
end_deleted p c to row = cond (is_deleted p c row) to (row_after_deletion p c row)

abbrev pub deleted_rows : ℕ → ℕ → ℕ → ℕ → Option (ℕ × ℕ)
deleted_rows p c a b =
    cond ((a == 1) && (b == LAST_ROW)) (Some (a, b))
    (cond (is_deleted p c a && is_deleted p c b) None (Some (end_deleted p c p a, end_deleted p c (p - 1) b)))

-- there are rows afterwards, and both ends go along
abbrev pub rows_test : Bool → Bool → ℕ → ℕ → ℕ → ℕ → Option (ℕ × ℕ) → Bool
rows_test mf ml home to a b None = false
rows_test mf ml home to a b (Some p) = both_go mf ml home to a b p.0 p.1

abbrev pub kept_inserted : Bool → Bool → ℕ → ℕ → ℕ → ℕ → ℕ → ℕ → Bool
kept_inserted mf ml p c home to a b = rows_test mf ml home to a b (inserted_rows p c a b)

abbrev pub kept_deleted : Bool → Bool → ℕ → ℕ → ℕ → ℕ → ℕ → ℕ → Bool
kept_deleted mf ml p c home to a b = rows_test mf ml home to a b (deleted_rows p c a b)

-- the rows of an area in a sheet
pub record Lie (a b : ℕ) : Type 0 where
  pub from : 1 ≤ a
  pub order : a ≤ b
  pub to : b ≤ LAST_ROW

-- the end lies as far from the one row as from the other, or stays
abbrev pub Along : Bool → ℕ → ℕ → ℕ → ℕ → Type 0
Along moves home other e f = goes_along moves home other e f ≡ true

-- The ends of an area at three rows, the first before the second and that before the third, below which there is one
-- more row.
pub record AreBetween (mf ml : Bool) (x h y ax bx ah bh ay by : ℕ) : Type 0 where
  pub first : x ≤ h
  pub last : h ≤ y
  pub lie_x : Lie ax bx
  pub lie_h : Lie ah bh
  pub lie_y : Lie ay by
  pub first_x : Along mf x h ax ah
  pub last_x : Along ml x h bx bh
  pub first_y : Along mf h y ah ay
  pub last_y : Along ml h y bh by
  pub lower : cond ml (by + 1) by ≤ LAST_ROW

-- three rows go to these
abbrev pub AllGo : ℕ → ℕ → ℕ → (ℕ → ℕ) → ℕ → ℕ → ℕ → Type 0
AllGo x h y to tx th ty = (tx ≡ to x) × ((th ≡ to h) × (ty ≡ to y))

-- an end that moves is lower in a lower row
end_low : {x h e f : ℕ} → Along true x h e f → x ≤ h → e ≤ f
end_low along lower = grind (arith, nat_tests, along, lower)

module _ (p c : ℕ) (begun : 1 ≤ p) (some : 1 ≤ c) where
  -- where a formula goes up with both ends, they lie below the deleted rows
  moved_low : (home to a b : ℕ) → Lie a b → to + c ≡ home → kept_deleted true true p c home to a b ≡ true → p + c ≤ a
  moved_low home to a b lie at h = grind (arith, nat_tests, lie.from, lie.order, at, begun, some, h)

  moved_keeps : (home to a b : ℕ) → to + c ≡ home → p + c ≤ a → a ≤ b → kept_deleted true true p c home to a b ≡ true
  moved_keeps home to a b at low order = grind (arith, nat_tests, at, low, order, begun, some)

  -- where it stays, its area lies above those rows, or has all rows
  abbrev is_high : ℕ → ℕ → Bool
  is_high a b = nat_lt b p || ((a == 1) && (b == LAST_ROW))

  high : (mf ml : Bool) (home a b : ℕ) → Lie a b → kept_deleted mf ml p c home home a b ≡ true → is_high a b ≡ true
  high true true home a b lie h = grind (arith, nat_tests, lie.from, lie.order, lie.to, some, h)
  high true false home a b lie h = grind (arith, nat_tests, lie.from, lie.order, lie.to, some, h)
  high false true home a b lie h = grind (arith, nat_tests, lie.from, lie.order, lie.to, some, h)
  high false false home a b lie h = grind (arith, nat_tests, lie.from, lie.order, lie.to, some, h)

  high_keeps : (mf ml : Bool) (home a b : ℕ) → Lie a b → is_high a b ≡ true → kept_deleted mf ml p c home home a b ≡ true
  high_keeps true true home a b lie h = grind (arith, nat_tests, lie.from, lie.order, lie.to, some, h)
  high_keeps true false home a b lie h = grind (arith, nat_tests, lie.from, lie.order, lie.to, some, h)
  high_keeps false true home a b lie h = grind (arith, nat_tests, lie.from, lie.order, lie.to, some, h)
  high_keeps false false home a b lie h = grind (arith, nat_tests, lie.from, lie.order, lie.to, some, h)

  -- where its last end alone goes up
  abbrev is_round : ℕ → ℕ → Bool
  is_round a b = nat_le a p && nat_le (p + c) (b + 1) && not ((a == p) && (b + 1 == p + c)) && not ((a == 1) && (b == LAST_ROW))

  round : (home to a b : ℕ) → Lie a b → to + c ≡ home → kept_deleted false true p c home to a b ≡ true → is_round a b ≡ true
  round home to a b lie at h = grind (arith, nat_tests, lie.from, lie.order, lie.to, at, begun, some, h)

  round_keeps : (home to a b : ℕ) → Lie a b → to + c ≡ home → is_round a b ≡ true → kept_deleted false true p c home to a b ≡ true
  round_keeps home to a b lie at h = grind (arith, nat_tests, lie.from, lie.order, lie.to, at, begun, some, h)

  never : (home to a b : ℕ) → Lie a b → to + c ≡ home → kept_deleted true false p c home to a b ≡ true → ⊥
  never home to a b lie at h = grind (arith, nat_tests, lie.from, lie.order, lie.to, at, begun, some, h)

module _ (p c : ℕ) (begun : 1 ≤ p) (some : 1 ≤ c) (x h y ax bx ah bh ay by : ℕ) where
  inserted_still : (mf ml : Bool) → AreBetween mf ml x h y ax bx ah bh ay by → kept_inserted mf ml p c y y ay by ≡ true → kept_inserted mf ml p c h h ah bh ≡ true
  inserted_still true true lie keeps = grind (arith, nat_tests, lie.first, lie.last, lie.lie_h.from, lie.lie_h.order, lie.lie_y.from, lie.lie_y.order, lie.first_y, lie.last_y, lie.lower, some, keeps)
  inserted_still true false lie keeps = grind (arith, nat_tests, lie.first, lie.last, lie.lie_h.from, lie.lie_h.order, lie.lie_y.from, lie.lie_y.order, lie.first_y, lie.last_y, lie.lower, some, keeps)
  inserted_still false true lie keeps = grind (arith, nat_tests, lie.first, lie.last, lie.lie_h.from, lie.lie_h.order, lie.lie_y.from, lie.lie_y.order, lie.first_y, lie.last_y, lie.lower, some, keeps)
  inserted_still false false lie keeps = grind (arith, nat_tests, lie.first, lie.last, lie.lie_h.from, lie.lie_h.order, lie.lie_y.from, lie.lie_y.order, lie.first_y, lie.last_y, lie.lower, some, keeps)

  inserted_moved : (mf ml : Bool) → AreBetween mf ml x h y ax bx ah bh ay by → kept_inserted mf ml p c x (x + c) ax bx ≡ true → kept_inserted mf ml p c y (y + c) ay by ≡ true → kept_inserted mf ml p c h (h + c) ah bh ≡ true
  inserted_moved true true lie above below = grind (arith, nat_tests, lie.first, lie.last, lie.lie_x.from, lie.lie_x.order, lie.lie_h.from, lie.lie_h.order, lie.lie_y.from, lie.lie_y.order, lie.first_x, lie.last_x, lie.first_y, lie.last_y, lie.lower, begun, some, above, below)
  inserted_moved true false lie above below = grind (arith, nat_tests, lie.first, lie.last, lie.lie_x.from, lie.lie_x.order, lie.lie_h.from, lie.lie_h.order, lie.lie_y.from, lie.lie_y.order, lie.first_x, lie.last_x, lie.first_y, lie.last_y, lie.lower, begun, some, above, below)
  inserted_moved false true lie above below = grind (arith, nat_tests, lie.first, lie.last, lie.lie_x.from, lie.lie_x.order, lie.lie_h.from, lie.lie_h.order, lie.lie_y.from, lie.lie_y.order, lie.first_x, lie.last_x, lie.first_y, lie.last_y, lie.lower, begun, some, above, below)
  inserted_moved false false lie above below = grind (arith, nat_tests, lie.first, lie.last, lie.lie_x.from, lie.lie_x.order, lie.lie_h.from, lie.lie_h.order, lie.lie_y.from, lie.lie_y.order, lie.first_x, lie.last_x, lie.first_y, lie.last_y, lie.lower, begun, some, above, below)

  still_high : (mf ml : Bool) → AreBetween mf ml x h y ax bx ah bh ay by → is_high p c begun some ay by ≡ true → is_high p c begun some ah bh ≡ true
  still_high true true lie above = grind (arith, nat_tests, lie.first, lie.last, lie.lie_h.from, lie.lie_h.order, lie.lie_y.from, lie.lie_y.order, lie.first_y, lie.last_y, lie.lower, above)
  still_high true false lie above = grind (arith, nat_tests, lie.first, lie.last, lie.lie_h.from, lie.lie_h.order, lie.lie_y.from, lie.lie_y.order, lie.first_y, lie.last_y, lie.lower, above)
  still_high false true lie above = grind (arith, nat_tests, lie.first, lie.last, lie.lie_h.from, lie.lie_h.order, lie.lie_y.from, lie.lie_y.order, lie.first_y, lie.last_y, lie.lower, above)
  still_high false false lie above = grind (arith, nat_tests, lie.first, lie.last, lie.lie_h.from, lie.lie_h.order, lie.lie_y.from, lie.lie_y.order, lie.first_y, lie.last_y, lie.lower, above)

  deleted_still : (mf ml : Bool) → AreBetween mf ml x h y ax bx ah bh ay by → kept_deleted mf ml p c y y ay by ≡ true → kept_deleted mf ml p c h h ah bh ≡ true
  deleted_still mf ml lie keeps = high_keeps p c begun some mf ml h ah bh lie.lie_h (still_high mf ml lie (high p c begun some mf ml y ay by lie.lie_y keeps))

  deleted_moved : (mf ml : Bool) → AreBetween mf ml x h y ax bx ah bh ay by → c ≤ x → kept_deleted mf ml p c x (x - c) ax bx ≡ true → kept_deleted mf ml p c y (y - c) ay by ≡ true → kept_deleted mf ml p c h (h - c) ah bh ≡ true
  deleted_moved true true lie room above below =
      let low : p + c ≤ ax = moved_low p c begun some x (x - c) ax bx lie.lie_x (omega (arith, room)) above in
      moved_keeps p c begun some h (h - c) ah bh (omega (arith, room, lie.first)) (omega (arith, low, end_low lie.first_x lie.first)) lie.lie_h.order
  deleted_moved true false lie room above below = absurd (never p c begun some x (x - c) ax bx lie.lie_x (omega (arith, room)) above)
  deleted_moved false true lie room above below =
      let upper = round p c begun some x (x - c) ax bx lie.lie_x (omega (arith, room)) above in
      let lower = round p c begun some y (y - c) ay by lie.lie_y (omega (arith, room, lie.first, lie.last)) below in
      round_keeps p c begun some h (h - c) ah bh lie.lie_h (omega (arith, room, lie.first)) (grind (arith, nat_tests, lie.first, lie.last, lie.first_x, lie.last_x, lie.first_y, lie.last_y, upper, lower))
  deleted_moved false false lie room above below =
      let first : ah ≡ ax = grind (arith, nat_tests, lie.first_x) in
      let last : bh ≡ bx = grind (arith, nat_tests, lie.last_x) in
      subst (λ a. kept_deleted false false p c h (h - c) a bh ≡ true) (sym first) (subst (λ b. kept_deleted false false p c h (h - c) ax b ≡ true) (sym last) above)

  -- an area elsewhere stays
  elsewhere : (mf ml : Bool) (tx th : ℕ) → AreBetween mf ml x h y ax bx ah bh ay by → Along true x h tx th → both_go mf ml x tx ax bx ax bx ≡ true → both_go mf ml h th ah bh ah bh ≡ true
  elsewhere true true tx th lie shift keeps = grind (arith, nat_tests, lie.first, shift, keeps)
  elsewhere true false tx th lie shift keeps = grind (arith, nat_tests, lie.first, shift, keeps)
  elsewhere false true tx th lie shift keeps = grind (arith, nat_tests, lie.first, shift, keeps)
  elsewhere false false tx th lie shift keeps = grind (arith, nat_tests)

  as_far : (c : ℕ) → Along true x h (x + c) (h + c)
  as_far c = grind (arith, nat_tests)

  as_near : (c : ℕ) → c ≤ x → x ≤ h → Along true x h (x - c) (h - c)
  as_near c room first = grind (arith, nat_tests, room, first)

  unmoved : Along true x h x h
  unmoved = grind (arith, nat_tests)

  pub inserted_between : (on mf ml : Bool) (tx th ty : ℕ) → AreBetween mf ml x h y ax bx ah bh ay by → AllGo x h y (λ n. n) tx th ty ⊎ AllGo x h y (λ n. n + c) tx th ty → rows_test mf ml x tx ax bx (cond on (inserted_rows p c ax bx) (Some (ax, bx))) ≡ true → rows_test mf ml y ty ay by (cond on (inserted_rows p c ay by) (Some (ay, by))) ≡ true → rows_test mf ml h th ah bh (cond on (inserted_rows p c ah bh) (Some (ah, bh))) ≡ true
  inserted_between true mf ml tx th ty lie (inl go) above below = subst (λ n. kept_inserted mf ml p c h n ah bh ≡ true) (sym go.1.0) (inserted_still mf ml lie (subst (λ n. kept_inserted mf ml p c y n ay by ≡ true) go.1.1 below))
  inserted_between true mf ml tx th ty lie (inr go) above below = subst (λ n. kept_inserted mf ml p c h n ah bh ≡ true) (sym go.1.0) (inserted_moved mf ml lie (subst (λ n. kept_inserted mf ml p c x n ax bx ≡ true) go.0 above) (subst (λ n. kept_inserted mf ml p c y n ay by ≡ true) go.1.1 below))
  inserted_between false mf ml tx th ty lie (inl go) above below = elsewhere mf ml tx th lie (subst (λ n. Along true x h n th) (sym go.0) (subst (Along true x h x) (sym go.1.0) unmoved)) above
  inserted_between false mf ml tx th ty lie (inr go) above below = elsewhere mf ml tx th lie (subst (λ n. Along true x h n th) (sym go.0) (subst (Along true x h (x + c)) (sym go.1.0) (as_far c))) above

  pub deleted_between : (on mf ml : Bool) (tx th ty : ℕ) → AreBetween mf ml x h y ax bx ah bh ay by → AllGo x h y (λ n. n) tx th ty ⊎ ((c ≤ x) × AllGo x h y (λ n. n - c) tx th ty) → rows_test mf ml x tx ax bx (cond on (deleted_rows p c ax bx) (Some (ax, bx))) ≡ true → rows_test mf ml y ty ay by (cond on (deleted_rows p c ay by) (Some (ay, by))) ≡ true → rows_test mf ml h th ah bh (cond on (deleted_rows p c ah bh) (Some (ah, bh))) ≡ true
  deleted_between true mf ml tx th ty lie (inl go) above below = subst (λ n. kept_deleted mf ml p c h n ah bh ≡ true) (sym go.1.0) (deleted_still mf ml lie (subst (λ n. kept_deleted mf ml p c y n ay by ≡ true) go.1.1 below))
  deleted_between true mf ml tx th ty lie (inr go) above below = subst (λ n. kept_deleted mf ml p c h n ah bh ≡ true) (sym go.1.1.0) (deleted_moved mf ml lie go.0 (subst (λ n. kept_deleted mf ml p c x n ax bx ≡ true) go.1.0 above) (subst (λ n. kept_deleted mf ml p c y n ay by ≡ true) go.1.1.1 below))
  deleted_between false mf ml tx th ty lie (inl go) above below = elsewhere mf ml tx th lie (subst (λ n. Along true x h n th) (sym go.0) (subst (Along true x h x) (sym go.1.0) unmoved)) above
  deleted_between false mf ml tx th ty lie (inr go) above below = elsewhere mf ml tx th lie (subst (λ n. Along true x h n th) (sym go.1.0) (subst (Along true x h (x - c)) (sym go.1.1.0) (as_near c go.0 lie.first))) above
