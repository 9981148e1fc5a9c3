-- One record more behind those that were taken.
use Rattle.std.proofs.Common.{◌≡◌, ℕ, ◌+◌, ◌++◌, [], ◌∷◌, length, sym, ap, ◌∙◌, arith}
use Rattle.std.specs.Prelude.{count_by}
use Rattle.std.proofs.lemmas.List.Sums.{sum_by-cons, sum_by_push}
use Rattle.formula_reader.specs.Fields.{field_of}
use Rattle.calc_book.specs.BookCells.{Entries, Fields, Records, filled, has_bytes, with_fields, with_records}

pub filled_first : (fields : Fields) (rest : Records) → filled (fields ∷ rest) ≡ count_by has_bytes fields + filled rest
filled_first fields rest = sum_by-cons (λ fields. count_by has_bytes fields) fields rest

pub filled_last : (all : Records) (fields : Fields) → filled (all ++ fields ∷ []) ≡ filled all + count_by has_bytes fields
filled_last all fields = sum_by_push (λ fields. count_by has_bytes fields) all fields

pub one_longer : (all : Records) (fields : Fields) → length (all ++ fields ∷ []) ≡ length all + 1
one_longer [] fields = omega arith
one_longer (first ∷ rest) fields = omega (arith, one_longer rest fields)

pub one_more : (row : ℕ) (cells : Entries) (all : Records) (fields : Fields) → with_records field_of row cells (all ++ fields ∷ []) ≡ with_fields field_of (row + length all) 1 (with_records field_of row cells all) fields
one_more row cells [] fields =
    let here : row ≡ row + 0 = omega arith in
    ap (λ n. with_fields field_of n 1 cells fields) here
one_more row cells (first ∷ rest) fields =
    let after = with_fields field_of row 1 cells first in
    let here : (row + 1) + length rest ≡ row + length (first ∷ rest) = omega arith in
    one_more (row + 1) after rest fields ∙ ap (λ n. with_fields field_of n 1 (with_records field_of (row + 1) after rest) fields) here
