use Rattle.std.proofs.Common.{◌≡◌, false, sym, subst, ap, ◌∙◌}
use Rattle.std.specs.Prelude.{OnOk}
use Rattle.workbook.specs.Workbook.{AfterNoMemory, IsRefused, State, WasBook, mended}
use Rattle.workbook.proofs.EditsLeave.{edit_fresh, no_memory_fresh}
use Rattle.workbook.proofs.Recalculating.{fresh_same}
use Rattle.workbook.proofs.Mended.{made_by, refused_before, where_no_error}
use Rattle.workbook.proofs.workbook.Workbook.edit.Goals as goal

-- the workbook with its hub
abbrev now : goal.After-make → State
now c = record { book = c.mend.new.self.book; spent = c.mend.new.self.spent; results = c.self.inside.results; touched = c.self.inside.touched; dead = c.self.inside.dead }

is_mended : (c : goal.After-make) → now c ≡ mended c.args.self.now
is_mended c =
    let ready : c.mend.new.self.spent ≡ false = where_no_error c.mend.result (c.mend.new.self.spent ≡ false) (sym c.is_err.ensures.value ∙ c.if-is_err.false) c.mend.ensures.ready in
    (λ i. record { book = c.mend.ensures.book i; spent = ready i; results = c.self.inside.results; touched = c.self.inside.touched; dead = c.self.inside.dead })
    ∙ ap mended c.self.view_is

pub returns-clause-done : goal.returns-clause-done
returns-clause-done c = made_by c.make.result c.args.self.now (now c) c.make.new.self c.args.edit.now (is_mended c) c.make.ensures.done

pub returns-clause-refused : goal.returns-clause-refused
returns-clause-refused c = λ cause is. subst (λ (s : State). IsRefused s c.args.edit.now cause c.make.new.self) (is_mended c) (c.make.ensures.refused cause is)

pub returns-clause-no_memory : goal.returns-clause-no_memory
returns-clause-no_memory c = λ is.
    refused_before c.args.self.now c.make.new.self c.args.edit.now
    (subst (λ (s : State). AfterNoMemory s c.args.edit.now c.make.new.self) (is_mended c) (c.make.ensures.no_memory is))

pub returns-clause-fresh : goal.returns-clause-fresh
returns-clause-fresh c = λ fresh.
    edit_fresh c.make.result c.args.self.now c.make.new.self c.args.edit.now
    (subst (λ (s : State). OnOk c.make.result (WasBook s.book c.args.edit.now)) (is_mended c) c.make.ensures.was_book)
    (returns-clause-done c) (returns-clause-refused c) (returns-clause-no_memory c) c.make.ensures.not_dead fresh

pub returns-then-is_err-clause-fresh : goal.returns-then-is_err-clause-fresh
returns-then-is_err-clause-fresh c = λ fresh.
    let before : State = record { book = c.mend.new.self.book; spent = c.mend.new.self.spent; results = c.self.inside.results; touched = c.self.inside.touched; dead = c.self.inside.dead } in
    no_memory_fresh before c.give_up.new.self c.args.edit.now c.give_up.ensures.after
    (fresh_same c.args.self.now before (sym (c.mend.ensures.book ∙ ap (λ (s : State). s.book) c.self.view_is)) (sym (ap (λ (s : State). s.results) c.self.view_is)) (sym (ap (λ (s : State). s.touched) c.self.view_is)) fresh)
