-- The law of what cells show: a formula that reaches no circle shows its value over what the cells
-- that it reads show, and one that reaches a circle shows that.
use Rattle.std.specs.Prelude.{◌≡◌, true, false}
use Rattle.calc_addr.specs.Places.{Place}
use Rattle.calc_model.specs.declared.fault.Fault.TheVariants.{Circular}
use Rattle.calc_model.specs.declared.value.Value.TheVariants.{Bad}
use Rattle.calc_model.specs.declared.content.Content.TheVariants.{Formula}
use Rattle.calc_model.specs.declared.tree.Tree.{Tree}
use Rattle.calc_model.specs.Books.{Book, content_at, area_named}
use Rattle.calc_model.specs.Grounded.{is_circular}
use Rattle.calc_model.specs.Eval.{eval, top}
use Rattle.calc_model.specs.Val.{val}

abbrev pub ShowsItsValue : Type 0
ShowsItsValue = (book : Book) (cell : Place) (tree : Tree) → content_at book cell ≡ Formula tree → is_circular book cell ≡ false → val book cell ≡ top (eval cell (area_named book) (val book) tree)

abbrev pub ShowsItsCircle : Type 0
ShowsItsCircle = (book : Book) (cell : Place) (tree : Tree) → content_at book cell ≡ Formula tree → is_circular book cell ≡ true → val book cell ≡ Bad Circular
