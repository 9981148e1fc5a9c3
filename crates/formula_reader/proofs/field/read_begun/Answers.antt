use Rattle.formula_reader.proofs.field.read_begun.Goals as goal
use Rattle.std.proofs.Common.{◌≡◌, Some, ap, ◌∙◌}
use Rattle.calc_model.specs.Formed.{is_formed}
use Rattle.formula_reader.specs.Reading.{formula_of}
use Rattle.formula_reader.proofs.Formed.{spelled_formed}
use Rattle.formula_reader.proofs.Sound.Formulas.{formula_spelled}

pub of-requires : goal.of-requires
of-requires c =
    let text = c.args.text.now in
    let tree = c.in-Ok.tree in
    let read : formula_of text ≡ Some tree = c.in-Ok.ensures in
    let spelled = formula_spelled text tree read in
    ap is_formed c.into_inner.ensures ∙ spelled_formed text tree spelled.0 spelled.1
