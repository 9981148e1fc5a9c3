-- Ears of nodes, one after another.
use Rattle.std.proofs.Common.{◌≡◌, ◌≤◌, List, [], ◌∷◌, ◌++◌, length, take, ap, sym, ◌∙◌, arith}
use Rattle.std.proofs.lemmas.List.{append-nil, append_assoc, length-take, take-append-le}
use Rattle.calc_addr.specs.Places.{Place}
use Rattle.calc_model.specs.Books.{NameEntries}
use Rattle.calc_model.specs.Ears.{ReadArea}
use Rattle.formula_code.specs.declared.node.Node.{Node}
use Rattle.formula_code.specs.Ears.{ears_of, node_ears}

module _ (home : Place) (names : NameEntries) where
  pub ears_step : (node : Node) (nodes left : List Node) (old new whole added : List ReadArea) → left ≡ node ∷ nodes → added ≡ node_ears home names node → new ≡ old ++ added → old ++ ears_of home names left ≡ whole → new ++ ears_of home names nodes ≡ whole
  unfolding ears_of
  ears_step node nodes left old new whole added is adds grown before =
      ap (λ es. es ++ ears_of home names nodes) (grown ∙ ap (λ es. old ++ es) adds)
      ∙ append_assoc old (node_ears home names node) (ears_of home names nodes)
      ∙ ap (λ ns. old ++ ears_of home names ns) (sym is)
      ∙ before

  pub ears_end : (left : List Node) (old whole : List ReadArea) → left ≡ [] → old ++ ears_of home names left ≡ whole → old ≡ whole
  unfolding ears_of
  ears_end left old whole none before = sym (append-nil old) ∙ ap (λ ns. old ++ ears_of home names ns) (sym none) ∙ before

pub front_more : (front old added new : List ReadArea) → new ≡ old ++ added → take (length front) old ≡ front → take (length front) new ≡ front
front_more front old added new grown is =
    let within : length front ≤ length old = omega (arith, length-take (length front) old, ap length is) in
    ap (take (length front)) grown ∙ take-append-le (length front) old added within ∙ is
