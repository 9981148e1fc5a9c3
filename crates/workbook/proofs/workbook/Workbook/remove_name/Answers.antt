use Rattle.std.proofs.Common.{refl, subst}
use Rattle.calc_model.specs.NamedAreas.{is_defined}
use Rattle.calc_model.specs.declared.edit.Edit.TheVariants.{Unname}
use Rattle.workbook.specs.Workbook.{Made, State}
use Rattle.workbook.proofs.NameChanges.{not_false, removed_stale}
use Rattle.workbook.proofs.Steps.{remove_step}
use Rattle.workbook.proofs.workbook.Workbook.remove_name.Goals as goal

pub returns-in-Ok-add_name-clause-done : goal.returns-in-Ok-add_name-clause-done
returns-in-Ok-add_name-clause-done c =
    let name = c.args.name.now in
    let before : State = record { book = c.self.inside.book.book; spent = c.self.inside.book.spent; results = c.self.inside.results; touched = c.self.inside.touched; dead = c.self.inside.dead } in
    let after : State = record { book = c.remove_name.new.self.book; spent = c.remove_name.new.self.spent; results = c.self.inside.results; touched = c.add_name.new.self; dead = c.self.inside.dead } in
    let there = not_false (is_defined before.book.names name) (λ missing. let none = c.in-Ok.ensures.no_name.1 missing in cc) in
    subst (λ state. Made state (Unname name) after) c.self.view_is (record {
      step = remove_step before.book after.book name there c.in-Ok.ensures.cells c.in-Ok.ensures.names;
      book = c.in-Ok.ensures.book;
      stale = removed_stale before after name c.in-Ok.ensures.cells c.in-Ok.ensures.names c.add_name.ensures.cells c.in-Ok-add_name.ensures.names;
      alive = refl;
      ready = c.in-Ok.ensures.ready;
      results = refl;
    })
