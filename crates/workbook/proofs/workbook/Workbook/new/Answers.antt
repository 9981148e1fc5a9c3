use Rattle.std.proofs.Common.{ap, ◌∙◌}
use Rattle.calc_model.specs.Books.{Book}
use Rattle.workbook.proofs.Fresh.{fresh_unwritten}
use Rattle.workbook.proofs.Staleness.{none_stale}
use Rattle.workbook.proofs.workbook.Workbook.new.Goals as goal

pub returns-clause-stale : goal.returns-clause-stale
returns-clause-stale c = none_stale _ c.none.ensures.cells c.none.ensures.names

pub returns-clause-fresh : goal.returns-clause-fresh
returns-clause-fresh c = fresh_unwritten _ (ap (λ (book : Book). book.cells) c.in_ok-book.ensures.book ∙ c.in_ok-parts.ensures.cells)
