use Rattle.formula_listeners.proofs.MovedRows.{goes_deleted, goes_inserted, keeps_all}
use Rattle.formula_listeners.proofs.laws.reads_go_with_rows.Goals as goal

pub returns-clause-inserted : goal.returns-clause-inserted
returns-clause-inserted c book after sheet place count read now = goes_inserted sheet place count book after read now

pub returns-clause-deleted : goal.returns-clause-deleted
returns-clause-deleted c book after sheet place count read now = goes_deleted sheet place count book after read now

pub returns-clause-kept : goal.returns-clause-kept
returns-clause-kept c book sheet place count read = keeps_all sheet place count book read
