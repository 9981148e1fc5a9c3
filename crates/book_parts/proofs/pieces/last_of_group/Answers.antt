use Rattle.std.proofs.Common.{◌≡◌, ℕ, suc, zero, ◌<◌, List, [], ◌∷◌, length, Option, refl, sym, ap, subst, ◌∙◌, arith}
use Rattle.std.specs.Prelude.{slice_index_or}
use Rattle.std.specs.List.{Contains}
use Rattle.std.proofs.lemmas.List.{length-map}
use Rattle.calc_addr.specs.Places.{Place}
use Rattle.formula_code.specs.Coded.{number_of}
use Rattle.formula_groups.specs.declared.group.Group.{Group}
use Rattle.formula_groups.specs.GroupRows.{GroupRows, columns_of}
use Rattle.formula_groups.specs.Groups.{groups_of}
use Rattle.cell_columns.specs.Cells.{cells_only}
use Rattle.book_parts.proofs.Alike.{group_alike}
use Rattle.book_parts.proofs.pieces.last_of_group.Goals as goal

column_at : (gs : List GroupRows) (n : ℕ) (d : GroupRows) → n < length gs → slice_index_or (columns_of gs) n [] ≡ (slice_index_or gs n d).entries
column_at [] n d h = absurd (omega (arith, h))
column_at (g ∷ gs) zero d h = refl
column_at (g ∷ gs) (suc n) d h = column_at gs n d (omega (arith, h))

pub returns-in-Some-clause-alike : goal.returns-in-Some-clause-alike
returns-in-Some-clause-alike c =
    let cell : Place = c.args.cell in
    let g : Group = c.in-Some.group in
    let gs : List GroupRows = c.coded.result.groups.now in
    let n : ℕ = c.column_number.result in
    let lies = c.column_number.ensures.place in
    let row_is = ap (λ (q : Place). q.row) c.cell.view_is in
    let within : n < length gs = omega (arith, c.column_number.ensures.number, lies.sheet_in, lies.col_from, lies.col_to, c.coded.ensures.coded.all_columns, length-map gs (λ (g : GroupRows). g.entries)) in
    let column : (slice_index_or gs n c.index-coded-column_number.result).entries ≡ slice_index_or (columns_of gs) (number_of cell.sheet cell.col) [] =
    sym (column_at gs n c.index-coded-column_number.result within) ∙ ap (λ k. slice_index_or (columns_of gs) k []) c.column_number.ensures.number in
    group_alike (cells_only c.args.cells.now) c.coded.result.codes.now (columns_of gs) c.coded.ensures.coded c.coded.ensures.formulas cell lies g c.min.result
    (subst (λ (codes : List (Option ℕ)). Contains (groups_of codes) g) column c.in-Some.ensures.group)
    (omega (arith, c.in-Some.ensures.from, row_is))
    (omega (arith, c.min.ensures))
    (omega (arith, c.min.ensures, c.requires.to))
