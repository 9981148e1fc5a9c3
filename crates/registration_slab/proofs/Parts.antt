-- What the parts of a registered run read, and where its cells are when rows are cut out.
use Rattle.std.proofs.Common.{◌≡◌, ℕ, ◌+◌, ◌-◌, ◌≤◌, Bool, true, false, cond, ◌&&◌, nat_le, nat_lt, List, [], ◌∷◌, map, Option, Some, None, refl, sym, ap, subst, ◌∙◌, ⊎_elim, arith}
use Rattle.std.specs.Prelude.{◌==◌}
use Rattle.std.specs.List.{All}
use Rattle.std.proofs.lemmas.List.Elements.{All-map}
use Rattle.std.proofs.lemmas.Bool.{and_parts, cases_Bool}
use Rattle.std.proofs.lemmas.Bool.Decides.{nat_tests}
use Rattle.calc_addr.specs.Places.{IsRectangle, Place, Rectangle, Rows}
use Rattle.calc_model.specs.Ears.{ReadArea, area_at, end_at}
use Rattle.ears.specs.RunAreas.{LieInSheet, ear_below}
use Rattle.ears.proofs.Meetings.{inside_hull}
use Rattle.area_listeners.specs.Pairs.{Pairs}
use Rattle.registration_slab.specs.Changes.{IsPut}
use Rattle.registration_slab.specs.Cuts.{is_part}
use Rattle.registration_slab.specs.Slab.{IsSlab, Registrations, areas_at, areas_of, is_in}
use Rattle.registration_slab.proofs.Changes.{put_reads}

end_below : (moves : Bool) (row k m n : ℕ) → k + m ≡ n → end_at moves (end_at moves row k) m ≡ end_at moves row n
end_below true row k m n e = omega arith
end_below false row k m n e = refl

-- what a row reads, by the ear of a row above it
pub area_below : (e : ReadArea) (k m n : ℕ) → k + m ≡ n → area_at (ear_below e k) m ≡ area_at e n
area_below e k m n is =
    ap (λ r. record e.area { first_row = r; last_row = end_at e.last_moves (end_at e.last_moves e.area.last_row k) m }) (end_below e.first_moves e.area.first_row k m n is)
    ∙ ap (λ r. record e.area { first_row = end_at e.first_moves e.area.first_row n; last_row = r }) (end_below e.last_moves e.area.last_row k m n is)

pub lies_below : (e : ReadArea) (steps k m : ℕ) → LieInSheet steps e → k + m ≤ steps → LieInSheet m (ear_below e k)
lies_below e steps k m h le = record {
  first = inside_hull e steps k h (omega arith);
  last = subst IsRectangle (sym (area_below e k m (k + m) refl)) (inside_hull e steps (k + m) h le);
}

pub areas_below : (ears : List ReadArea) (k m n : ℕ) → k + m ≡ n → map (λ e. area_at e m) (map (λ e. ear_below e k) ears) ≡ map (λ e. area_at e n) ears
areas_below [] k m n is = refl
areas_below (e ∷ es) k m n is = ap (λ a. a ∷ map (λ x. area_at x m) (map (λ x. ear_below x k) es)) (area_below e k m n is) ∙ ap (λ rest. area_at e n ∷ rest) (areas_below es k m n is)

-- the rows of a part
pub part_is : (run : Rows) (first last : ℕ) (q : Place) → is_in (record { sheet = run.sheet; col = run.col; first = first; last = last }) q ≡ is_part run first (last + 1) q
part_is run first last q = ap (λ b. ((q.sheet == run.sheet) && (q.col == run.col)) && (nat_le first q.row && b)) (up_to q.row last)
  where
    up_to : (row last : ℕ) → nat_le row last ≡ nat_lt row (last + 1)
    up_to row last = grind (arith, nat_tests)

-- a run that is registered
module _ (old new : Registrations) (ears homes : Pairs) (slab : IsSlab old ears homes) (run : Rows) (heard : List ReadArea) (put : IsPut old new run heard) (absent : (q : Place) → is_in run q ≡ true → areas_of old q ≡ None) where
  absent_there : (q : Place) → is_in put.registration.run q ≡ true → areas_of old q ≡ None
  absent_there q h = absent q (ap (λ (r : Rows). is_in r q) (sym put.run_is) ∙ h)

  pub registered : (q : Place) → areas_of new q ≡ cond (is_in run q) (Some (areas_at heard run.first q.row)) (areas_of old q)
  registered q =
      put_reads old new put.place put.registration put.was put.is absent_there slab.apart q
      ∙ ap (λ (r : Rows). cond (is_in r q) (Some (areas_at put.registration.ears.items r.first q.row)) (areas_of old q)) put.run_is
      ∙ ap (λ (es : List ReadArea). cond (is_in run q) (Some (areas_at es run.first q.row)) (areas_of old q)) put.ears_are

-- what a registered part reads
pub part_reads : (run : Rows) (ears : List ReadArea) (first last : ℕ) (q : Place) (other : Option (List Rectangle)) → run.first ≤ first
    → cond (is_part run first (last + 1) q) (Some (areas_at (map (λ e. ear_below e (first - run.first)) ears) first q.row)) other ≡ cond (is_part run first (last + 1) q) (Some (areas_at ears run.first q.row)) other
part_reads run ears first last q other from =
    ⊎_elim (λ (e : is_part run first (last + 1) q ≡ true).
    let rows = and_parts (nat_le first q.row) (nat_lt q.row (last + 1)) (and_parts _ _ e).1 in
    ap (λ (areas : List Rectangle). cond (is_part run first (last + 1) q) (Some areas) other) (areas_below ears (first - run.first) (q.row - first) (q.row - run.first) (below run.first first q.row from rows.0)))
    (λ (e : is_part run first (last + 1) q ≡ false). ap (λ b. cond b (Some (areas_at (map (λ x. ear_below x (first - run.first)) ears) first q.row)) other) e ∙ ap (λ b. cond b (Some (areas_at ears run.first q.row)) other) (sym e))
    (cases_Bool (is_part run first (last + 1) q))
  where
    below : (a b row : ℕ) → a ≤ b → nat_le b row ≡ true → (b - a) + (row - b) ≡ row - a
    below a b row h k = grind (arith, nat_tests)

-- the ears of a part's first row
pub part_lies : (run : Rows) (from first last : ℕ) (ears : List ReadArea) → from ≡ run.first → run.first ≤ first → first ≤ last → last ≤ run.last → All (LieInSheet (run.last - run.first)) ears
    → All (LieInSheet (last - first)) (map (λ e. ear_below e (first - from)) ears)
part_lies run from first last ears is low order high lie =
    All-map (LieInSheet (last - first)) (λ e. ear_below e (first - from)) ears
    (λ k d below. lies_below _ (run.last - run.first) (first - from) (last - first) (lie k d below) (omega arith))

-- a registered part
module _ (old new : Registrations) (ears homes : Pairs) (slab : IsSlab old ears homes) (inside run : Rows) (same : inside ≡ run) (first last : ℕ) (below heard : List ReadArea)
    (are_below : below ≡ map (λ e. ear_below e (first - inside.first)) heard) (put : IsPut old new (record { sheet = inside.sheet; col = inside.col; first = first; last = last }) below)
    (from : run.first ≤ first) (absent : (q : Place) → is_part run first (last + 1) q ≡ true → areas_of old q ≡ None) where
  pub part_registered : (q : Place) → areas_of new q ≡ cond (is_part run first (last + 1) q) (Some (areas_at heard run.first q.row)) (areas_of old q)
  part_registered q =
      let part : Rows = record { sheet = inside.sheet; col = inside.col; first = first; last = last } in
      registered old new ears homes slab part below put
      (λ p h. absent p (ap (λ (r : Rows). is_part r first (last + 1) p) (sym same) ∙ sym (part_is inside first last p) ∙ h)) q
      ∙ ap (λ b. cond b (Some (areas_at below first q.row)) (areas_of old q)) (part_is inside first last q)
      ∙ ap (λ (es : List ReadArea). cond (is_part inside first (last + 1) q) (Some (areas_at es first q.row)) (areas_of old q)) are_below
      ∙ part_reads inside heard first last q (areas_of old q) (subst (λ (r : Rows). r.first ≤ first) (sym same) from)
      ∙ ap (λ (r : Rows). cond (is_part r first (last + 1) q) (Some (areas_at heard r.first q.row)) (areas_of old q)) same
