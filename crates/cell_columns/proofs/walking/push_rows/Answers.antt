use Rattle.std.proofs.Common.{◌≡◌, ℕ, ◌+◌, ◌-◌, List, [], ◌∷◌, ◌++◌, take, drop, refl, sym, ap, ◌∙◌, arith}
use Rattle.calc_addr.specs.Places.{Place}
use Rattle.kept_codes.specs.Columns.{cell_in}
use Rattle.cell_columns.specs.Walks.{places_below}
use Rattle.cell_columns.proofs.Filled.{empty_after, filled_after}
use Rattle.cell_columns.proofs.walking.push_rows.Goals as goal

joined : (a b : List Place) (p : Place) → (a ++ b) ++ p ∷ [] ≡ a ++ (b ++ p ∷ [])
joined [] b p = refl
joined (x ∷ a) b p = ap (λ t. x ∷ t) (joined a b p)

pub loop-filled-preserved : goal.loop-filled-preserved
loop-filled-preserved c =
    let row : ℕ = c.in-Some.filled in
    let now = c.loop-filled.invariant in
    let next = c.in-Some.ensures.found in
    let first : ℕ = c.args.first in
    let s = c.args.column.now.slots in
    record {
      from = omega (arith, now.from, next.from);
      to = omega (arith, next.to);
      places =
          c.in_ok-push.ensures.items
          ∙ ap (λ ps. ps ++ c.cell_in.result ∷ []) now.places
          ∙ ap (λ (p : Place). (c.args.out.now.items ++ places_below c.args.number first (take (c.loop-filled.row - first) (drop (first - 1) s))) ++ p ∷ []) c.cell_in.ensures
          ∙ joined c.args.out.now.items (places_below c.args.number first (take (c.loop-filled.row - first) (drop (first - 1) s))) (cell_in c.args.number row)
          ∙ ap (λ ps. c.args.out.now.items ++ (ps ++ cell_in c.args.number row ∷ [])) (sym (empty_after c.args.number first s c.requires.from c.loop-filled.row row now.from next.from next.before))
          ∙ ap (λ ps. c.args.out.now.items ++ ps) (sym (filled_after c.args.number first s c.requires.from row (omega (arith, now.from, next.from)) next.filled));
    }

pub returns : goal.returns
returns c =
    let now = c.loop-filled.invariant in
    let first : ℕ = c.args.first in
    now.places
    ∙ ap (λ ps. c.args.out.now.items ++ ps) (sym (empty_after c.args.number first c.args.column.now.slots c.requires.from c.loop-filled.row (c.args.last + 1) now.from now.to c.in_default.ensures.none))
