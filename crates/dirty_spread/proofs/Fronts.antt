-- Marks of the first rows of a run, one stretch of them more.
use Rattle.std.proofs.Common.{◌≡◌, ℕ, ◌+◌, ◌-◌, ◌<◌, ◌≤◌, Bool, true, false, ◌&&◌, ◌||◌, nat_le, nat_lt, List, [], ◌∷◌, ◌++◌, refl, sym, ap, subst, ◌∙◌, append_assoc, ⊎_elim, length-append, arith}
use Rattle.std.specs.Prelude.{◌==◌}
use Rattle.std.proofs.lemmas.Bool.{cases_lt, or_cases}
use Rattle.std.proofs.lemmas.Bool.Decides.{nat_tests}
use Rattle.std.proofs.lemmas.List.Folds.{list_any-append}
use Rattle.calc_addr.specs.Places.{Place, Rows}
use Rattle.run_unions.specs.Unions.{is_in}
use Rattle.dirty_spread.specs.Marking.{IsFront, MarksFront, has_mark, is_in_any}

pub or_right : (a b : Bool) → b ≡ true → (a || b) ≡ true
or_right true b h = refl
or_right false b h = h

pub or_left : (a b : Bool) → a ≡ true → (a || b) ≡ true
or_left a b h = ap (λ x. x || b) h

joined : (old : Bool) (i from next stop : ℕ) → from ≤ next → next ≤ stop → ((old || (nat_le from i && nat_lt i (from + (next - from)))) || (nat_le next i && nat_lt i stop)) ≡ (old || (nat_le from i && nat_lt i (from + (stop - from))))
joined true i from next stop h k = refl
joined false i from next stop h k = grind (arith, nat_tests)

in_part : (s c first low last row : ℕ) → low ≤ row → row ≤ last → (((s == s) && (c == c)) && (nat_le (first + low) (first + row) && nat_le (first + row) (first + last))) ≡ true
in_part s c first low last row h k = grind (arith, nat_tests)

part_in : (q : Place) (run : Rows) (low high : ℕ) → run.first + high ≤ run.last → is_in q (record run { first = run.first + low; last = run.first + high }) ≡ true → is_in q run ≡ true
part_in q run low high h is = grind (arith, nat_tests)

module _ (run : Rows) (from next stop : ℕ) (old mid new : List Bool) (before now after : List Rows) (part : Rows)
    (marks : MarksFront run from (next - from) old mid before now) (front : IsFront mid new next stop)
    (order : from ≤ next) (some : next < stop) (within : run.first + (stop - 1 - from) ≤ run.last)
    (part_is : part ≡ record run { first = run.first + (next - from); last = run.first + (stop - 1 - from) }) (pushed : after ≡ now ++ part ∷ []) where
  inside : (q : Place) → is_in_any q (marks.items ++ part ∷ []) ≡ true → is_in q run ≡ true
  inside q h =
      ⊎_elim (λ (e : is_in_any q marks.items ≡ true). marks.inside q e)
      (λ (e : is_in_any q (part ∷ []) ≡ true).
      ⊎_elim (λ (is : is_in q part ≡ true). part_in q run (next - from) (stop - 1 - from) within (subst (λ (r : Rows). is_in q r ≡ true) part_is is))
      (λ (no_more : false ≡ true). cc)
      (or_cases (is_in q part) false e))
      (or_cases (is_in_any q marks.items) (is_in_any q (part ∷ [])) (sym (list_any-append (is_in q) marks.items (part ∷ [])) ∙ h))

  found : (k : ℕ) → k < stop - from → has_mark old (from + k) ≡ false → is_in_any (record { sheet = run.sheet; col = run.col; row = run.first + k }) (marks.items ++ part ∷ []) ≡ true
  found k below was =
      let q : Place = record { sheet = run.sheet; col = run.col; row = run.first + k } in
      list_any-append (is_in q) marks.items (part ∷ [])
      ∙ ⊎_elim (λ (e : k < next - from). or_left (is_in_any q marks.items) (is_in_any q (part ∷ [])) (marks.found k e was))
      (λ (e : next - from ≤ k).
      or_right (is_in_any q marks.items) (is_in_any q (part ∷ []))
      (or_left (is_in q part) false
      (subst (λ (r : Rows). is_in q r ≡ true) (sym part_is) (in_part run.sheet run.col run.first (next - from) (stop - 1 - from) k e (omega arith)))))
      (cases_lt k (next - from))

  pub front_more : MarksFront run from (stop - from) old new before after
  front_more = record {
    size = front.size ∙ marks.size;
    each = λ i. front.each i ∙ ap (λ b. b || (nat_le next i && nat_lt i stop)) (marks.each i) ∙ joined (has_mark old i) i from next stop order (omega arith);
    items = marks.items ++ part ∷ [];
    grown = pushed ∙ ap (λ xs. xs ++ part ∷ []) marks.grown ∙ append_assoc before marks.items (part ∷ []);
    inside = inside;
    found = found;
    room = omega (arith, marks.room, front.room, length-append marks.items (part ∷ []));
  }
