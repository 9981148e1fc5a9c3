-- The contents of the records, one after the other.
use Rattle.std.proofs.Common.{◌≡◌, ap, map, ◌∙◌}
use Rattle.std.specs.Prelude.{IfOk}
use Rattle.csv.specs.Records.{fields_of}
use Rattle.formula_reader.specs.Fields.{field_of}
use Rattle.rayon.proofs.ToStd.{slice-AllZip}
use Rattle.calc_book.proofs.AllRead.{read_in_all}
use Rattle.calc_book.proofs.contents.read_contents.Goals as goal

pub returns : goal.returns
returns g c =
    let slice = ap (λ it. it.base.slice.now) c.map.ensures.base ∙ ap (λ it. it.slice.now) c.with_min_len.ensures.base ∙ c.par_iter.ensures in
    let done = c.in_ok-collect.ensures in
    let chain = done.1 in
    read_in_all (λ row. map field_of (fields_of row)) (λ contents. contents.items) (λ all. all.items) c.in_ok-collect.field-0 c.args.rows.now done.0
    (slice-AllZip chain.0 c.args.rows.now (chain.1 ∙ slice) (λ row r. IfOk r (λ contents. contents.items ≡ map field_of (fields_of row))) done.0 chain.2)
    done.2
