use Rattle.std.proofs.Common.{◌≡◌, false, subst}
use Rattle.calc_addr.specs.Places.{Place}
use Rattle.calc_model.specs.Books.{Book}
use Rattle.calc_model.specs.Stale.{is_formula_cell}
use Rattle.workbook.specs.Workbook.{State, stale_of}
use Rattle.workbook.proofs.Fresh.{fresh_when_stale}
use Rattle.workbook.proofs.Staleness.{all_stale}
use Rattle.workbook.proofs.workbook.Workbook.load.Goals as goal

pub returns-clause-stale : goal.returns-clause-stale
returns-clause-stale c =
    let state : State = record { book = c.in_ok-book.book.book; spent = c.in_ok-book.book.spent; results = c.new.result; touched = c.all.result; dead = false } in
    subst (λ (book : Book). (q : Place) → stale_of state q ≡ is_formula_cell book q) c.in_ok-book.ensures.book (all_stale state c.all.ensures.cells)

pub returns-clause-fresh : goal.returns-clause-fresh
returns-clause-fresh c = fresh_when_stale _ (all_stale _ c.all.ensures.cells)
