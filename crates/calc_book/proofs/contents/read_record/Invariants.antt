-- the contents so far, and those of the fields that are left
use Rattle.std.proofs.Common.{◌≡◌, ◌++◌, drop, map}
use Rattle.csv.specs.Records.{AllText, fields_of}
use Rattle.formula_reader.specs.Fields.{field_of}
use Rattle.calc_book.proofs.contents.read_record.Given as goal

abbrev pub invariant-loop-field : goal.invariant-loop-field
invariant-loop-field l = record {
  same : l.field-iterator.row.now ≡ l.fields;
  left : l.contents.items ++ map field_of (drop l.field-iterator.at (fields_of l.fields)) ≡ map field_of (fields_of l.fields);
  text : AllText (drop l.field-iterator.at (fields_of l.fields));
}
