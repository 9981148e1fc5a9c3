-- How far the rows of a run and their areas go together, ear by ear, and what becomes of the ears.
use Rattle.std.proofs.Common.{◌≡◌, ℕ, suc, ◌+◌, ◌≤◌, ◌<◌, min, List, [], ◌∷◌, ◌++◌, length, get_or, map, take, Option, Some, None, refl, sym, ap, subst, ◌∙◌, arith}
use Rattle.std.specs.Prelude.{option_map, option_to_list}
use Rattle.std.specs.List.{All, filter_map}
use Rattle.std.proofs.lemmas.List.{take_more}
use Rattle.std.proofs.lemmas.List.Elements.{All-more, filter_map-append}
use Rattle.calc_addr.specs.Places.{Rows}
use Rattle.calc_model.specs.Ears.{ReadArea, area_at}
use Rattle.ears.specs.declared.row_edit.RowEdit.{RowEdit}
use Rattle.ears.specs.RowEdits.{GoTogether, RowsGoTogether, area_after, areas_after, ear_after}

le_trans : (a b c : ℕ) → a ≤ b → b ≤ c → a ≤ c
le_trans a b c h k = omega arith

min_left : (a b : ℕ) → min a b ≤ a
min_left a b = omega arith

min_right : (a b : ℕ) → min a b ≤ b
min_right a b = omega arith

pub whole_more : (edit : RowEdit) (run : Rows) (ears : List ReadArea) (i n w s r : ℕ) (item : ReadArea) → r ≡ min w s → i < length ears → item ≡ get_or ears i item
    → (w ≤ n) × RowsGoTogether edit run w × All (λ e. GoTogether edit e w) (take i ears) → GoTogether edit item s
    → (r ≤ n) × RowsGoTogether edit run r × All (λ e. GoTogether edit e r) (take (i + 1) ears)
whole_more edit run ears i n w s r item is within item_is before here =
    let left : r ≤ w = subst (λ x. x ≤ w) (sym is) (min_left w s) in
    let right : r ≤ s = subst (λ x. x ≤ s) (sym is) (min_right w s) in (
      le_trans r w n left before.0,
      (λ step le. before.1 step (le_trans step r w le left)),
      All-more (λ e. GoTogether edit e r) ears i item within
          (λ k d below step le. before.2 k d below step (le_trans step r w le left))
          (subst (λ (e : ReadArea). GoTogether edit e r) item_is (λ step le. here step (le_trans step r s le right))),
    )

pub filter_more : (f : ReadArea → Option ReadArea) (xs : List ReadArea) (i : ℕ) (item : ReadArea) → i < length xs → item ≡ get_or xs i item → filter_map f (take (i + 1) xs) ≡ filter_map f (take i xs) ++ option_to_list (f item)
filter_more f xs i item within is =
    ap (filter_map f) (take_more xs i item within) ∙ filter_map-append f (take i xs) (get_or xs i item ∷ [])
    ∙ ap (λ (x : ReadArea). filter_map f (take i xs) ++ filter_map f (x ∷ [])) (sym is)
    ∙ ap (λ ys. filter_map f (take i xs) ++ ys) (one (f item) refl)
  where
    one : (o : Option ReadArea) → f item ≡ o → filter_map f (item ∷ []) ≡ option_to_list o
    one None e = rw e refl
    one (Some x) e = rw e refl

-- the areas of a row of a whole piece
pub areas_go : (edit : RowEdit) (w step : ℕ) (ears : List ReadArea) → step ≤ w → All (λ e. GoTogether edit e w) ears
    → map (λ e. area_at e step) (filter_map (ear_after edit) ears) ≡ areas_after edit (map (λ e. area_at e step) ears)
areas_go edit w step [] le h = refl
areas_go edit w step (e ∷ es) le h =
    let rest = areas_go edit w step es le (λ k d below. h (suc k) d (omega arith)) in
    let same : area_after edit (area_at e step) ≡ option_map (λ x. area_at x step) (ear_after edit e) = h 0 e (omega arith) step le in
    one (ear_after edit e) refl same rest
  where
    one : (o : Option ReadArea) → ear_after edit e ≡ o → area_after edit (area_at e step) ≡ option_map (λ x. area_at x step) (ear_after edit e)
        → map (λ x. area_at x step) (filter_map (ear_after edit) es) ≡ areas_after edit (map (λ x. area_at x step) es)
        → map (λ x. area_at x step) (filter_map (ear_after edit) (e ∷ es)) ≡ areas_after edit (area_at e step ∷ map (λ x. area_at x step) es)
    one None is same rest = rw (is, same ∙ ap (option_map (λ x. area_at x step)) is) rest
    one (Some x) is same rest = rw (is, same ∙ ap (option_map (λ x. area_at x step)) is) (ap (λ ys. area_at x step ∷ ys) rest)
