use Rattle.formula_reader.specs.Fields.{field_of}
use Rattle.formula_reader.proofs.Meaning.{field_reads}
use Rattle.calc_cli.proofs.inputs.book_of.Goals as goal

pub returns-in-Ok-clause-read : goal.returns-in-Ok-clause-read
returns-in-Ok-clause-read g c = (c.in-Ok.ensures.fault, c.in-Ok.ensures.book field_of field_reads)
