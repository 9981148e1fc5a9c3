-- What a writer of records holds.
use Rattle.std.specs.Prelude.{◌≡◌, ℕ, false, List, Some, Vec}
use Rattle.std.specs.declared.alloc.Global.{Global}
use Rattle.csv.specs.declared.writer.Writer.{Writer}
use Rattle.csv.specs.Writing.{default_writer, fields_written, has_written, text_written, writer_setup}

-- The writer stands before a record, and holds these bytes.
pub record Holds (writer : Writer (Vec ℕ Global)) (bytes : List ℕ) : Type 0 where
  pub text : text_written (λ (v : Vec ℕ Global). Some v.items) writer ≡ Some bytes
  pub setup : writer_setup writer ≡ default_writer
  pub no_field : fields_written writer ≡ 0
  pub nothing : has_written writer ≡ false
