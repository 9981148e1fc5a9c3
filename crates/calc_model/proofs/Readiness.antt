-- A cell that holds a formula is ready where all that its formula reads is known.
use Rattle.std.proofs.Common.{◌≡◌, ap}
use Rattle.calc_addr.specs.Places.{Place}
use Rattle.calc_model.specs.declared.content.Content.TheVariants.{Formula}
use Rattle.calc_model.specs.declared.tree.Tree.{Tree}
use Rattle.calc_model.specs.Books.{Book, content_at, area_named}
use Rattle.calc_model.specs.Reads.{content_areas}
use Rattle.calc_model.specs.Grounded.{all_cells}
use Rattle.calc_model.specs.Results.{Results, is_known, is_ready, is_tree_ready}

pub ready-Formula : (book : Book) (results : Results) (home : Place) (tree : Tree) → content_at book home ≡ Formula tree → is_ready book results home ≡ is_tree_ready book results home tree
unfolding is_tree_ready
ready-Formula book results home tree at = ap (λ x. all_cells (is_known book results) (content_areas home (area_named book) x)) at
