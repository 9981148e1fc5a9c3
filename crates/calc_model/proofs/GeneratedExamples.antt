-- Worked examples of the generated book.
use Rattle.std.proofs.Common.{◌≡◌, [], ◌∷◌, map, codes, pos, refl}
use Rattle.std.specs.Prelude.{Ok, true, drop}
use Rattle.calc_addr.specs.Places.{Place}
use Rattle.calc_addr.specs.declared.reference.Span.TheVariants.{Cells}
use Rattle.calc_model.specs.declared.content.Content.TheVariants.{Formula}
use Rattle.calc_model.specs.declared.edit.Edit.TheVariants.{Make}
use Rattle.calc_model.specs.declared.tree.Op.TheVariants.{Add, Mul}
use Rattle.calc_model.specs.declared.tree.Tree.TheVariants as t
use Rattle.calc_model.specs.GeneratedBook.{cell_reference, column_reference, generated_entries, generated_number, whole}
use Rattle.calc_model.specs.Step.{step}
use Rattle.calc_model.specs.Touched.{touched}
use Rattle.calc_model.proofs.StepExamples.{at, book_of, three_cells}
use Rattle.calc_model.proofs.StepExamples.{whole as number}

the_numbers_from_7 : map (generated_number 7) (1 ∷ 2 ∷ 3 ∷ 4 ∷ 5 ∷ 6 ∷ 7 ∷ 8 ∷ 9 ∷ []) ≡ map number (44 ∷ 81 ∷ 118 ∷ 155 ∷ 192 ∷ 229 ∷ 266 ∷ 303 ∷ 340 ∷ [])
the_numbers_from_7 = refl

-- two rows have no window yet, and what stood before is gone
two_rows : step three_cells (Make 7 2) ≡ Ok (book_of (
    (at 1 1, number 44) ∷ (at 1 2, number 81)
    ∷ (at 2 1, Formula (t.Binary Mul (cell_reference 1 1) (t.Number (pos (whole 2))))) ∷ (at 2 2, Formula (t.Binary Mul (cell_reference 1 2) (t.Number (pos (whole 2)))))
    ∷ (at 3 1, Formula (cell_reference 2 1)) ∷ (at 3 2, Formula (t.Binary Add (cell_reference 3 1) (cell_reference 2 2))) ∷ []))
unfolding generated_entries
two_rows = refl

the_window_of_the_eighth_row : drop 24 (generated_entries 7 8) ≡ (at 4 8, Formula (t.Call (codes "SUM") (t.Ref (column_reference Cells 1 1 8) ∷ []))) ∷ []
unfolding generated_entries
the_window_of_the_eighth_row = refl

every_cell_is_touched : (q : Place) → touched three_cells (Make 7 2) three_cells q ≡ true
every_cell_is_touched q = refl
