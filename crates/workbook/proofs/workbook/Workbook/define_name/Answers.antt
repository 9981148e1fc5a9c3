use Rattle.std.proofs.Common.{◌≡◌, ap, refl, subst, ◌∙◌}
use Rattle.std.specs.Prelude.{Err}
use Rattle.calc_model.specs.declared.edit.Edit.TheVariants.{Name}
use Rattle.calc_model.specs.declared.edit.EditCause.TheVariants.{NamesFull}
use Rattle.calc_model.specs.Step.{step}
use Rattle.calc_model.specs.Tokens.{is_name}
use Rattle.linked_book.specs.Linked.{Linked}
use Rattle.workbook.specs.Workbook.{Made, State}
use Rattle.workbook.proofs.NameChanges.{defined_stale, not_false}
use Rattle.workbook.proofs.Steps.{define_full, define_step}
use Rattle.workbook.proofs.workbook.Workbook.define_name.Goals as goal

pub returns-in-Ok-add_name-clause-done : goal.returns-in-Ok-add_name-clause-done
returns-in-Ok-add_name-clause-done c =
    let name = c.args.name.now in
    let area = c.args.area in
    let before : State = record { book = c.self.inside.book.book; spent = c.self.inside.book.spent; results = c.self.inside.results; touched = c.self.inside.touched; dead = c.self.inside.dead } in
    let after : State = record { book = c.define_name.new.self.book; spent = c.define_name.new.self.spent; results = c.self.inside.results; touched = c.add_name.new.self; dead = c.self.inside.dead } in
    let spelled = not_false (is_name name) (λ misspelled. let none = c.in-Ok.ensures.bad_name.1 misspelled in cc) in
    subst (λ state. Made state (Name name area) after) c.self.view_is (record {
      step = define_step before.book name area spelled after.book c.in-Ok.ensures.cells c.in-Ok.ensures.names c.in-Ok.ensures.book.names_in_limit;
      book = c.in-Ok.ensures.book;
      stale = defined_stale before after name area c.in-Ok.ensures.cells c.in-Ok.ensures.names c.add_name.ensures.cells c.in-Ok-add_name.ensures.names;
      alive = refl;
      ready = c.in-Ok.ensures.ready;
      results = refl;
    })

pub returns-in-Err-Full-clause-refused : goal.returns-in-Err-Full-clause-refused
returns-in-Err-Full-clause-refused c = λ cause is.
    let same : NamesFull ≡ cause = cc in
    let full = c.in-Err-Full.ensures.full.0 (ap Err c.in-Err-Full.field-0-is) in
    let before : State = record { book = c.self.inside.book.book; spent = c.self.inside.book.spent; results = c.self.inside.results; touched = c.self.inside.touched; dead = c.self.inside.dead } in
    record {
      step = subst (λ (state : State). step state.book (Name c.args.name.now c.args.area) ≡ Err cause) c.self.view_is
          (define_full before.book c.args.name.now c.args.area full.spelled full.new full.full ∙ ap Err same);
      kept = ap (λ (l : Linked). record before { book = l.book; spent = l.spent }) (c.in-Err-Full.ensures.full_keeps (ap Err c.in-Err-Full.field-0-is)) ∙ c.self.view_is;
    }
