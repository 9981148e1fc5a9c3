use Rattle.std.proofs.Common.{◌≡◌, ℕ, ◌<◌, ◌≤◌, get_or, vec_len, sym, ap, ◌∙◌, inl, inr, ◌⊎◌, arith}
use Rattle.std.proofs.lemmas.Bool.{cases_lt}
use Rattle.std.proofs.lemmas.List.{get_or_past}
use Rattle.calc_addr.specs.declared.cell.TheConstants.{LAST_ROW}
use Rattle.calc_model.specs.declared.value.Value.TheVariants as value
use Rattle.value_column.specs.declared.lanes.Lanes.{Lanes}
use Rattle.value_column.specs.Rows.{column_of, value_at}
use Rattle.value_column.proofs.Spare.{past-reach}
use Rattle.value_column.proofs.Tabs.{tab, tab-at, tab-length}
use Rattle.value_column.proofs.column.ValueColumn.reach.Goals as goal

blank-past : (t : Lanes) (n r : ℕ) → vec_len t.tags ≤ r → (r < n) ⊎ (n ≤ r) → get_or (tab value.Blank n (value_at t)) r value.Blank ≡ value.Blank
blank-past t n r h (inl m) = tab-at value.Blank n (value_at t) r m ∙ past-reach t r h
blank-past t n r h (inr m) = get_or_past (tab value.Blank n (value_at t)) r value.Blank (omega (arith, tab-length value.Blank n (value_at t)))

pub returns : goal.returns
unfolding column_of
returns c =
    λ r h. ap (λ v. get_or v.values r value.Blank) (sym c.self.view_is) ∙ blank-past c.self.inside.lanes LAST_ROW r (omega (arith, c.len.ensures)) (cases_lt r LAST_ROW)
