use Rattle.formula_reader.proofs.field.read_field.Goals as goal
use Rattle.formula_reader.proofs.Meaning.{read_only, read_spelled}

pub returns : goal.returns
returns c =
    let field = c.args.field.now in
    let read = c.read_content.ensures in
    record {
      spelled = read_spelled c.read_content.result field read;
      only = λ content is. read_only c.read_content.result field content is read;
    }
