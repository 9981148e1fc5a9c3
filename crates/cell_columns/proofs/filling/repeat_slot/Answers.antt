use Rattle.std.proofs.Common.{◌≡◌, ℕ, ◌+◌, ◌-◌, Option, None, Some, Result, Ok, Err, false, sym, ap, ◌∙◌}
use Rattle.std.specs.Prelude.{OnOk}
use Rattle.std.specs.Result.{is_err}
use Rattle.run_tables.specs.Rows.{rows_set}
use Rattle.formula_groups.specs.GroupRows.{GroupRows}
use Rattle.formula_groups.specs.Groups.{groups_of}
use Rattle.cell_columns.specs.Uses.{code_in, codes_in}
use Rattle.cell_columns.proofs.Repeating.{codes_repeated, no_code, returned_rows, uses_enough}
use Rattle.cell_columns.proofs.filling.repeat_slot.Goals.{in-Formula, in_default}
use Rattle.cell_columns.proofs.filling.repeat_slot.Goals as goal

pub release-requires-clause-uses : goal.release-requires-clause-uses
release-requires-clause-uses c =
    uses_enough c.args.column.now.slots c.groups.result.now (c.groups.ensures ∙ ap groups_of (c.reserve.ensures.entries ∙ c.requires.grouped)) c.args.first c.args.last c.requires.rows
    c.args.codes.now c.take_uses.new.codes _ c.take_uses.ensures c.requires.uses

pub returns-clause-codes : goal.returns-clause-codes
returns-clause-codes c = record {
  between = c.take_uses.new.codes;
  taken = c.take_uses.ensures;
  returned =
      returned_rows c.args.column.now.slots c.groups.result.now (c.groups.ensures ∙ ap groups_of (c.reserve.ensures.entries ∙ c.requires.grouped)) c.args.first c.args.last c.requires.rows
      c.take_uses.new.codes c.release.new.codes c.release.ensures;
}

gave : {T E : Type 0} (r : Result T E) (P : Type 0) → false ≡ is_err r → OnOk r P → P
gave (Ok x) P h ok = ok
gave (Err e) P h ok = cc

pub returns-clause-grouped : goal.returns-clause-grouped
returns-clause-grouped c =
    let a : ℕ = c.args.first - 1 in
    let n : ℕ = c.args.last + 1 - c.args.first in
    let slots = c.args.column.now.slots in
    let entries = c.reserve.ensures.entries ∙ c.requires.grouped in
    let after : rows_set a n (code_in c.args.slot.now) (codes_in slots) ≡ codes_in c.set_range.new.self.slots = sym (codes_repeated a n c.args.slot.now slots) ∙ ap codes_in (sym c.in_ok-set_range.ensures.ok) in
    elim c.match-slot.branch [
      | in-Formula w ↦
          ap (λ (g : GroupRows). g.entries) w.groups-is
          ∙ gave w.set_run-put.result _ (c.if-is_err.ensures.value ∙ ap is_err w.put-is) w.set_run-put.ensures.ok
          ∙ ap (rows_set a n (Some w.in-Formula.id)) entries
          ∙ ap (λ (code : Option ℕ). rows_set a n code (codes_in slots)) (sym (ap code_in w.in-Formula.is))
          ∙ after
      | in_default w ↦
          ap (λ (g : GroupRows). g.entries) w.groups-is
          ∙ gave w.remove-put.result _ (c.if-is_err.ensures.value ∙ ap is_err w.put-is) w.remove-put.ensures.ok
          ∙ ap (rows_set a n None) entries
          ∙ ap (λ (code : Option ℕ). rows_set a n code (codes_in slots)) (sym (no_code c.args.slot.now w.in_default.not-Formula))
          ∙ after
    ]
