use Rattle.calc_model.proofs.NamedReads.{deleted_reads, inserted_reads}
use Rattle.calc_model.proofs.ShiftedReads.{deletion_stays, insertion_stays}
use Rattle.calc_model.proofs.laws.rows_change_their_readers.Goals as goal

pub returns : goal.returns
returns c = record { inserted = insertion_stays; deleted = deletion_stays; names_inserted = inserted_reads; names_deleted = deleted_reads }
