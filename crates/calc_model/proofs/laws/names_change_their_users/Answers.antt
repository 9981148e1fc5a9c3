use Rattle.calc_model.proofs.NamedReads.{named_reads, unnamed_reads}
use Rattle.calc_model.proofs.laws.names_change_their_users.Goals as goal

pub returns : goal.returns
returns c = record { named = named_reads; unnamed = unnamed_reads }
