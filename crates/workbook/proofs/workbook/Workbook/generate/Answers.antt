use Rattle.std.proofs.Common.{ap, refl, subst, sym}
use Rattle.std.specs.Prelude.{Ok}
use Rattle.calc_model.specs.declared.edit.Edit.TheVariants.{Make}
use Rattle.workbook.specs.Workbook.{Made, State}
use Rattle.workbook.proofs.NameChanges.{generated_stale}
use Rattle.workbook.proofs.workbook.Workbook.generate.Goals as goal

pub returns-in-Ok-clause-done : goal.returns-in-Ok-clause-done
returns-in-Ok-clause-done c =
    let before : State = record { book = c.self.inside.book.book; spent = c.self.inside.book.spent; results = c.self.inside.results; touched = c.self.inside.touched; dead = c.self.inside.dead } in
    let after : State = record { book = c.in-Ok.book.book; spent = c.in-Ok.book.spent; results = c.self.inside.results; touched = c.all.result; dead = c.self.inside.dead } in
    subst (λ state. Made state (Make c.args.start c.args.rows) after) c.self.view_is (record {
      step = ap Ok (sym c.in-Ok.ensures.book);
      book = c.in-Ok.ensures.is;
      stale = generated_stale before after c.args.start c.args.rows c.all.ensures.cells;
      alive = refl;
      ready = c.in-Ok.ensures.ready;
      results = refl;
    })
