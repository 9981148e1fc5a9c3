-- A relative form at two cells, moved on from either to a third cell, is one formula there.
use Rattle.std.proofs.Common.{◌≡◌, ℕ, ◌+◌, ◌-◌, ◌≤◌, pos, ◌+ℤ◌, Bool, true, false, ◌&&◌, not, cond, List, [], ◌∷◌, map, Option, Some, None, refl, sym, ap, ◌∙◌, arith}
use Rattle.std.specs.Prelude.{◌-ℤ◌, int_le, unsigned_abs}
use Rattle.std.specs.List.{list_all}
use Rattle.std.specs.Option.{option_map}
use Rattle.std.proofs.lemmas.Int.{ints}
use Rattle.calc_addr.specs.declared.cell.TheConstants.{LAST_COL, LAST_ROW}
use Rattle.calc_addr.specs.declared.reference.Marks.{Marks}
use Rattle.calc_addr.specs.declared.reference.Span.{Span}
use Rattle.calc_addr.specs.declared.reference.Span.TheVariants as span
use Rattle.calc_addr.specs.Bracketed.{together}
use Rattle.calc_addr.specs.Ends.{cols_of, in_order, rows_of}
use Rattle.calc_addr.specs.Moves.{moved_cols, moved_end, moved_ends, moved_reference, moved_rows, with_ends}
use Rattle.calc_addr.specs.Places.{IsRectangle, Place, Rectangle}
use Rattle.calc_addr.specs.References.{Reference}
use Rattle.calc_addr.proofs.References.Tests.{tested-valid}
use Rattle.calc_model.specs.declared.tree.Tree.{Tree}
use Rattle.calc_model.specs.Homes.{cols_between, rows_between}
use Rattle.calc_model.specs.TreeShifts.{moved_tree, or_deleted}
use Rattle.calc_model.proofs.Areas.{both_true}
use Rattle.calc_model.proofs.Replaced.{replaced_twice}
use Rattle.formula_code.specs.declared.node.Node.{Node}
use Rattle.formula_code.specs.declared.node.Node.TheVariants.{Number, Words, Bad, Ref, Name, Call, Paren, Plus, Minus, Percent, Binary}
use Rattle.formula_code.specs.Codes.{has_valid_references}
use Rattle.formula_code.specs.Nodes.{postfix}
use Rattle.formula_code.specs.Relative.{absolute, absolute_reference, from_distance}
use Rattle.formula_code.specs.Tokens.{absolute_node, is_valid_node, nodes_at}
use Rattle.formula_code.proofs.Built.{one_tree}
use Rattle.formula_code.proofs.Forms.{nodes_of_tree}
use Rattle.moved_forms.proofs.EndSteps.{End, Ends}
use Rattle.moved_forms.proofs.Forms.{node_by, nodes_by, other}

-- the end at that distance from a home
abbrev end_from : Bool → ℕ → ℕ → ℕ → End
end_from marked last home at = record { at = from_distance (not marked) last home at; marked = marked }

end_onward : (marked : Bool) (last at p q to : ℕ) → 1 ≤ from_distance (not marked) last p at → 1 ≤ from_distance (not marked) last q at → moved_end last (pos to -ℤ pos p) (end_from marked last p at) ≡ moved_end last (pos to -ℤ pos q) (end_from marked last q at)
end_onward true last at p q to low high = refl
end_onward false last at p q to low high =
    let same : pos (p + at - last) +ℤ (pos to -ℤ pos p) ≡ pos (q + at - last) +ℤ (pos to -ℤ pos q) = grind (arith, ints, low, high) in
    ap (λ z. option_map (λ (n : ℕ). let e : End = record { at = n; marked = false } in e) (cond (int_le (pos 1) z && int_le z (pos last)) (Some (unsigned_abs z)) None)) same

abbrev ends_from : Bool → Bool → ℕ → ℕ → ℕ → ℕ → Ends
ends_from m n last home a b = record { first = end_from m last home a; last = end_from n last home b }

ends_onward : (m n : Bool) (last a b p q to : ℕ) → 1 ≤ from_distance (not m) last p a → from_distance (not m) last p a ≤ from_distance (not n) last p b → 1 ≤ from_distance (not m) last q a → from_distance (not m) last q a ≤ from_distance (not n) last q b → moved_ends last (pos to -ℤ pos p) (ends_from m n last p a b) ≡ moved_ends last (pos to -ℤ pos q) (ends_from m n last q a b)
ends_onward m n last a b p q to from ordered begins orders =
    ap (λ o. together in_order o (moved_end last (pos to -ℤ pos p) (end_from n last p b))) (end_onward m last a p q to from begins)
    ∙ ap (together in_order (moved_end last (pos to -ℤ pos q) (end_from m last q a))) (end_onward n last b p q to (omega (arith, from, ordered)) (omega (arith, begins, orders)))

module _ (p q to : Place) where
  -- what becomes of a relative reference of home
  abbrev after : Place → Reference → Option Reference
  after home r = moved_reference (cols_between home to) (rows_between home to) (absolute_reference home r)

  abbrev a_reference : Rectangle → Span → Marks → Reference
  a_reference area s marks = record { area = area; span = s; marks = marks }

  by_span : (s : Span) (area : Rectangle) (marks : Marks) → IsRectangle (absolute_reference p (a_reference area s marks)).area → IsRectangle (absolute_reference q (a_reference area s marks)).area → after p (a_reference area s marks) ≡ after q (a_reference area s marks)
  by_span span.One area marks here there =
      let r : Reference = a_reference area span.One marks in
      ap (λ o. together (with_ends (absolute_reference p r)) o (moved_rows span.One (rows_between p to) (rows_of (absolute_reference p r))))
      (ends_onward marks.first_col marks.last_col LAST_COL area.first_col area.last_col p.col q.col to.col here.cols_from here.cols_in_order there.cols_from there.cols_in_order)
      ∙ ap (together (with_ends (absolute_reference q r)) (moved_cols span.One (cols_between q to) (cols_of (absolute_reference q r))))
      (ends_onward marks.first_row marks.last_row LAST_ROW area.first_row area.last_row p.row q.row to.row here.rows_from here.rows_in_order there.rows_from there.rows_in_order)
  by_span span.Cells area marks here there =
      let r : Reference = a_reference area span.Cells marks in
      ap (λ o. together (with_ends (absolute_reference p r)) o (moved_rows span.Cells (rows_between p to) (rows_of (absolute_reference p r))))
      (ends_onward marks.first_col marks.last_col LAST_COL area.first_col area.last_col p.col q.col to.col here.cols_from here.cols_in_order there.cols_from there.cols_in_order)
      ∙ ap (together (with_ends (absolute_reference q r)) (moved_cols span.Cells (cols_between q to) (cols_of (absolute_reference q r))))
      (ends_onward marks.first_row marks.last_row LAST_ROW area.first_row area.last_row p.row q.row to.row here.rows_from here.rows_in_order there.rows_from there.rows_in_order)
  by_span span.Columns area marks here there =
      let r : Reference = a_reference area span.Columns marks in
      ap (λ o. together (with_ends (absolute_reference p r)) o (Some (rows_of (absolute_reference p r))))
      (ends_onward marks.first_col marks.last_col LAST_COL area.first_col area.last_col p.col q.col to.col here.cols_from here.cols_in_order there.cols_from there.cols_in_order)
  by_span span.Rows area marks here there =
      let r : Reference = a_reference area span.Rows marks in
      ap (together (with_ends (absolute_reference q r)) (Some (cols_of (absolute_reference q r))))
      (ends_onward marks.first_row marks.last_row LAST_ROW area.first_row area.last_row p.row q.row to.row here.rows_from here.rows_in_order there.rows_from there.rows_in_order)

  node_onward : (node : Node) → is_valid_node (absolute_node p node) ≡ true → is_valid_node (absolute_node q node) ≡ true → node_by (after p) node ≡ node_by (after q) node
  node_onward (Ref r) here there = ap (λ o. node_by (λ _. o) (Ref r)) (by_span r.span r.area r.marks (tested-valid (absolute_reference p r) here).lies (tested-valid (absolute_reference q r) there).lies)
  node_onward (Number n) here there = refl
  node_onward (Words text) here there = refl
  node_onward (Bad fault) here there = refl
  node_onward (Name name) here there = refl
  node_onward (Call name args) here there = refl
  node_onward Paren here there = refl
  node_onward Plus here there = refl
  node_onward Minus here there = refl
  node_onward Percent here there = refl
  node_onward (Binary op) here there = refl

  nodes_onward : (nodes : List Node) → list_all is_valid_node (nodes_at p nodes) ≡ true → list_all is_valid_node (nodes_at q nodes) ≡ true → map (node_by (after p)) nodes ≡ map (node_by (after q)) nodes
  nodes_onward [] here there = refl
  nodes_onward (node ∷ nodes) here there =
      let first = both_true (is_valid_node (absolute_node p node)) (list_all is_valid_node (nodes_at p nodes)) here in
      let second = both_true (is_valid_node (absolute_node q node)) (list_all is_valid_node (nodes_at q nodes)) there in
      ap (λ n. n ∷ map (node_by (after p)) nodes) (node_onward node first.0 second.0)
      ∙ ap (λ ns. node_by (after q) node ∷ ns) (nodes_onward nodes first.1 second.1)

  pub tree_onward : (form : Tree) → has_valid_references (absolute p form) ≡ true → has_valid_references (absolute q form) ≡ true → moved_tree (cols_between p to) (rows_between p to) (absolute p form) ≡ moved_tree (cols_between q to) (rows_between q to) (absolute q form)
  tree_onward form here there =
      replaced_twice (absolute_reference p) (λ r. or_deleted (moved_reference (cols_between p to) (rows_between p to) r)) form
      ∙ one_tree (other (after p) form) (other (after q) form)
      (sym (nodes_by (after p) form)
      ∙ nodes_onward (postfix form) (ap (list_all is_valid_node) (nodes_of_tree p form) ∙ here) (ap (list_all is_valid_node) (nodes_of_tree q form) ∙ there)
      ∙ nodes_by (after q) form)
      ∙ sym (replaced_twice (absolute_reference q) (λ r. or_deleted (moved_reference (cols_between q to) (rows_between q to) r)) form)
