use Rattle.formula_groups.specs.GroupRows.{columns_of}
use Rattle.listener_hub.specs.Hubs.{areas_read}
use Rattle.formula_listeners.proofs.WholeBooks.{holds_book}
use Rattle.formula_listeners.proofs.whole.listen_all.Goals as goal

pub returns-clause-held : goal.returns-clause-held
returns-clause-held g c book = holds_book c.args.codes.now (g.N.NameTable.entries c.args.names.now) (columns_of c.args.groups.now) book (areas_read c.listen_sheets.new.hub) c.in_ok-listen_sheets.ensures.areas
