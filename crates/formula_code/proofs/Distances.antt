-- A relative reference at its cell is the reference, and a relative form at its cell is the tree.
use Rattle.std.proofs.Common.{◌≡◌, ℕ, ◌≤◌, Bool, true, false, refl, ap, ◌∙◌, arith}
use Rattle.calc_addr.specs.Places.{Place, IsPlace}
use Rattle.calc_addr.specs.References.{Reference}
use Rattle.calc_model.specs.declared.tree.Tree.{Tree}
use Rattle.calc_model.specs.declared.tree.Tree.TheVariants as t
use Rattle.calc_model.proofs.Replaced.{replaced_same, replaced_twice}
use Rattle.formula_code.specs.Relative.{absolute, relative, to_distance, from_distance, relative_reference, absolute_reference}

back : (moves : Bool) (last home at : ℕ) → home ≤ last → from_distance moves last home (to_distance moves last home at) ≡ at
back true last home at h = omega arith
back false last home at h = refl

col_back : (home : Place) → IsPlace home → (moves : Bool) (at : ℕ) → from_distance moves 1024 home.col (to_distance moves 1024 home.col at) ≡ at
col_back home lies moves at = back moves 1024 home.col at lies.col_to

row_back : (home : Place) → IsPlace home → (moves : Bool) (at : ℕ) → from_distance moves 1048576 home.row (to_distance moves 1048576 home.row at) ≡ at
row_back home lies moves at = back moves 1048576 home.row at lies.row_to

pub reference_back : (home : Place) (r : Reference) → IsPlace home → absolute_reference home (relative_reference home r) ≡ r
reference_back home r lies = simp (col_back home lies, row_back home lies)

pub tree_back : (home : Place) (x : Tree) → IsPlace home → absolute home (relative home x) ≡ x
tree_back home x lies =
    replaced_twice (relative_reference home) (λ r. t.Ref (absolute_reference home r)) x
    ∙ replaced_same (λ r. t.Ref (absolute_reference home (relative_reference home r))) (λ r. ap t.Ref (reference_back home r lies)) x
