-- A walk over the groups of a column: after each of them the rows of a run that it has, or one before it, are held.
use Rattle.std.proofs.Common.{◌≡◌, ◌≤◌, ◌<◌, ℕ, zero, suc, ◌+◌, ◌-◌, Bool, true, false, cond, ◌&&◌, nat_le, List, [], ◌∷◌, map, length, take, get_or, Option, None, Some, refl, sym, ap, subst, ◌∙◌, arith}
use Rattle.std.specs.Prelude.{◌==◌}
use Rattle.std.specs.Option.{option_map}
use Rattle.std.specs.List.{AllByRecursion}
use Rattle.std.proofs.lemmas.Bool.{and_parts, cond_both}
use Rattle.std.proofs.lemmas.Bool.Decides.{Decides-eqb, nat_tests}
use Rattle.std.proofs.lemmas.List.Elements.{All-from_recursion}
use Rattle.std.proofs.lemmas.List.{get_or-map, length-map, take-map, take_all}
use Rattle.std.proofs.lemmas.Option.{get_or_from_slice_get}
use Rattle.calc_addr.specs.declared.cell.TheConstants.{LAST_ROW}
use Rattle.calc_addr.specs.Places.{IsRows, Place, Rectangle, Rows}
use Rattle.calc_model.specs.Books.{NameEntries}
use Rattle.calc_model.specs.Listeners.{ReadAreas}
use Rattle.run_tables.specs.Runs.{Rises, Run, entry, meet, runs_from, touches}
use Rattle.run_tables.proofs.Entries.{entries-row, entry-past}
use Rattle.run_tables.proofs.RunLists.{runs-rise}
use Rattle.formula_code.specs.Codes.{Codes}
use Rattle.formula_groups.specs.declared.group.Group.{Group}
use Rattle.formula_groups.specs.Groups.{group_run, codes_of, groups_of}
use Rattle.formula_groups.proofs.Kept.{length-codes, runs-of-table}
use Rattle.registration_slab.specs.Slab.{is_in}
use Rattle.formula_code.specs.Coded.{areas_by_code, code_in_row}
use Rattle.formula_listeners.specs.GroupCells.{has_row, is_in_group}
use Rattle.formula_listeners.proofs.InRuns.{lies_in, under}

abbrev has : Run ℕ → ℕ → Bool
has r row = nat_le r.first row && nat_le row r.last

begins_past : (p j : ℕ) (t : List (Run ℕ)) (d : Run ℕ) → Rises p t → j < length t → p ≤ (get_or t j d).first
begins_past p j [] d rise h = absurd (omega (arith, h))
begins_past p zero (x ∷ t) d rise h = rise.0
begins_past p (suc j) (x ∷ t) d rise h = omega (arith, begins_past (x.last + 1) j t d rise.2 (omega (arith, h)), rise.0, rise.1)

past : (x g : Run ℕ) (row : ℕ) → x.last + 1 ≤ g.first → has g row ≡ true → x.last < row
past x g row behind h =
    let from = (and_parts (nat_le g.first row) (nat_le row g.last) h).0 in
    grind (arith, nat_tests, behind, from)

-- no run before another has a row of it
entry_before : (row p i : ℕ) (t : List (Run ℕ)) (d : Run ℕ) → Rises p t → i < length t → has (get_or t i d) row ≡ true → entry row (take i t) ≡ None
entry_before row p i [] d rise h there = absurd (omega (arith, h))
entry_before row p zero (x ∷ t) d rise h there = refl
entry_before row p (suc i) (x ∷ t) d rise h there =
    let behind = begins_past (x.last + 1) i t d rise.2 (omega (arith, h)) in
    entry-past row x (take i t) (past x (get_or t i d) row behind there) ∙ entry_before row (x.last + 1) i t d rise.2 (omega (arith, h)) there

entry_there : (row p i : ℕ) (t : List (Run ℕ)) (d : Run ℕ) → Rises p t → i < length t → has (get_or t i d) row ≡ true → entry row t ≡ Some (get_or t i d).key
entry_there row p i [] d rise h there = absurd (omega (arith, h))
entry_there row p zero (x ∷ t) d rise h there = ap (λ b. cond b (Some x.key) (entry row t)) there
entry_there row p (suc i) (x ∷ t) d rise h there =
    let behind = begins_past (x.last + 1) i t d rise.2 (omega (arith, h)) in
    entry-past row x t (past x (get_or t i d) row behind there) ∙ entry_there row (x.last + 1) i t d rise.2 (omega (arith, h)) there

in_order : (p j : ℕ) (t : List (Run ℕ)) (d : Run ℕ) → Rises p t → j < length t → (get_or t j d).first ≤ (get_or t j d).last
in_order p j [] d rise h = absurd (omega (arith, h))
in_order p zero (x ∷ t) d rise h = rise.1
in_order p (suc j) (x ∷ t) d rise h = in_order (x.last + 1) j t d rise.2 (omega (arith, h))

-- runs begin in the rows whose runs they are
module _ (same : ℕ → ℕ → Bool) (m : ℕ) where
  abbrev BeginWithin : List (Run ℕ) → Type 0
  BeginWithin t = AllByRecursion (λ (x : Run ℕ). x.first < m) t

  meets_within : (u : Run ℕ) (t : List (Run ℕ)) → u.first < m → BeginWithin t → BeginWithin (meet same u t)
  meets_within u [] h all = (h, tt)
  meets_within u (x ∷ t) h all = cond_both (touches same u x) (record u { last = x.last } ∷ t) (u ∷ x ∷ t) BeginWithin (λ e. (h, all.1)) (λ e. (h, all))

  begin_within : (p : ℕ) (s : List (Option ℕ)) → p + length s ≤ m → BeginWithin (runs_from same p s)
  begin_within p [] h = tt
  begin_within p (None ∷ s) h = begin_within (p + 1) s (omega (arith, h))
  begin_within p (Some k ∷ s) h = meets_within (record { first = p; last = p; key = k }) (runs_from same (p + 1) s) (omega (arith, h)) (begin_within (p + 1) s (omega (arith, h)))

swap : {X : Type 0} (a b : Bool) (u v w : X) → (b ≡ true → a ≡ false) → cond a u (cond b v w) ≡ cond b v (cond a u w)
swap true true u v w apart = let clash : true ≡ false = apart refl in cc
swap true false u v w apart = refl
swap false b u v w apart = refl

not_in : (x : Run ℕ) (row : ℕ) → x.last < row → has x row ≡ false
not_in x row h = grind (arith, nat_tests, h)

entry_more : (row p i : ℕ) (t : List (Run ℕ)) (d : Run ℕ) → Rises p t → i < length t → entry row (take (i + 1) t) ≡ cond (has (get_or t i d) row) (Some (get_or t i d).key) (entry row (take i t))
entry_more row p i [] d rise h = absurd (omega (arith, h))
entry_more row p zero (x ∷ t) d rise h = refl
entry_more row p (suc i) (x ∷ t) d rise h =
    let g = get_or t i d in
    let behind = begins_past (x.last + 1) i t d rise.2 (omega (arith, h)) in
    let next : suc i + 1 ≡ suc (i + 1) = omega arith in
    ap (λ n. entry row (take n (x ∷ t))) next
    ∙ ap (λ e. cond (has x row) (Some x.key) e) (entry_more row (x.last + 1) i t d rise.2 (omega (arith, h)))
    ∙ swap (has x row) (has g row) (Some x.key) (Some g.key) (entry row (take i t)) (λ there. not_in x row (past x g row behind there))

-- what is held when the first groups are
abbrev pub held_by : List Group → Codes → NameEntries → Rows → ReadAreas → ℕ → ReadAreas
held_by gs codes names rows old i q = cond (is_in rows q) (option_map (areas_by_code codes names q) (entry q.row (map group_run (take i gs)))) (old q)

module _ (gs : List Group) (are : gs ≡ groups_of (codes_of gs)) where
  abbrev entries : List (Option ℕ)
  entries = codes_of gs

  abbrev runs : List (Run ℕ)
  runs = map group_run gs

  rises : Rises 1 runs
  rises = subst (Rises 1) (sym (runs-of-table gs entries are)) (runs-rise (λ k l. k == l) Decides-eqb 1 entries)

  -- the groups give each row its code
  pub row_code : (row : ℕ) → 1 ≤ row → row ≤ LAST_ROW → entry row runs ≡ code_in_row entries row
  row_code row from to =
      sym (get_or_from_slice_get entries (row - 1) (entry row runs) None
      (entries-row LAST_ROW row runs from to))

  run_at : (i : ℕ) (g : Group) → i < length gs → g ≡ get_or gs i g → get_or runs i (group_run g) ≡ group_run g
  run_at i g within is = get_or-map group_run gs i g (group_run g) within ∙ ap group_run (sym is)

  among : (i : ℕ) → i < length gs → i < length runs
  among i within = subst (λ n. i < n) (sym (length-map gs group_run)) within

  -- a group's first row has its code
  pub first_code : (i : ℕ) (g : Group) → i < length gs → g ≡ get_or gs i g → (1 ≤ g.first) × (g.first ≤ LAST_ROW) × (code_in_row entries g.first ≡ Some g.code)
  first_code i g within is =
      let at = run_at i g within is in
      let low : 1 ≤ g.first = subst (λ (r : Run ℕ). 1 ≤ r.first) at (begins_past 1 i runs (group_run g) rises (among i within)) in
      let order : g.first ≤ g.last = subst (λ (r : Run ℕ). r.first ≤ r.last) at (in_order 1 i runs (group_run g) rises (among i within)) in
      let rows : BeginWithin (λ k l. k == l) (LAST_ROW + 1) runs = subst (BeginWithin (λ k l. k == l) (LAST_ROW + 1)) (sym (runs-of-table gs entries are)) (begin_within (λ k l. k == l) (LAST_ROW + 1) 1 entries (omega (arith, length-codes gs))) in
      let high : g.first < LAST_ROW + 1 = subst (λ (r : Run ℕ). r.first < LAST_ROW + 1) at (All-from_recursion (λ (r : Run ℕ). r.first < LAST_ROW + 1) runs rows i (group_run g) (among i within)) in
      let there : has (group_run g) g.first ≡ true = inside_itself g.first g.last order in (
        low,
        omega (arith, high),
        sym (row_code g.first low (omega (arith, high)))
            ∙ entry_there g.first 1 i runs (group_run g) rises (among i within) (ap (λ r. has r g.first) at ∙ there)
            ∙ ap (λ (r : Run ℕ). Some r.key) at,
      )
    where
      inside_itself : (a b : ℕ) → a ≤ b → (nat_le a a && nat_le a b) ≡ true
      inside_itself a b order = grind (arith, nat_tests, order)

  module _ (codes : Codes) (names : NameEntries) (rows : Rows) (old : ReadAreas) where
    module _ (i : ℕ) (g : Group) (within : i < length gs) (is : g ≡ get_or gs i g) where
      here : get_or runs i (group_run g) ≡ group_run g
      here = get_or-map group_run gs i g (group_run g) within ∙ ap group_run (sym is)

      inside : i < length runs
      inside = subst (λ n. i < n) (sym (length-map gs group_run)) within

      before : (q : Place) → is_in_group rows g q ≡ true → entry q.row (map group_run (take i gs)) ≡ None
      before q h =
          ap (entry q.row) (sym (take-map group_run i gs))
          ∙ entry_before q.row 1 i runs (group_run g) rises inside (ap (λ r. has r q.row) here ∙ (and_parts (is_in rows q) (has_row g q.row) h).1)

      pub free : (now : ReadAreas) → ((q : Place) → now q ≡ held_by gs codes names rows old i q) → (q : Place) → is_in_group rows g q ≡ true → now q ≡ None
      free now held q h =
          held q
          ∙ ap (λ b. cond b (option_map (areas_by_code codes names q) (entry q.row (map group_run (take i gs)))) (old q)) (and_parts (is_in rows q) (has_row g q.row) h).0
          ∙ ap (option_map (areas_by_code codes names q)) (before q h)

      pub code_there : IsRows rows → (q : Place) → is_in_group rows g q ≡ true → code_in_row entries q.row ≡ Some g.code
      code_there valid q h =
          let both = and_parts (is_in rows q) (has_row g q.row) h in
          let at = lies_in rows q both.0 in
          sym (row_code q.row (omega (arith, at.from, valid.from)) (omega (arith, at.to, valid.to)))
          ∙ entry_there q.row 1 i runs (group_run g) rises inside (ap (λ r. has r q.row) here ∙ both.1)
          ∙ ap (λ (r : Run ℕ). Some r.key) here

      pub more : (now new : ReadAreas) → ((q : Place) → now q ≡ held_by gs codes names rows old i q) → ((q : Place) → new q ≡ cond (is_in_group rows g q) (Some (areas_by_code codes names q g.code)) (now q)) → (q : Place) → new q ≡ held_by gs codes names rows old (i + 1) q
      more now new held adds q =
          adds q
          ∙ ap (λ o. cond (is_in_group rows g q) (Some (areas_by_code codes names q g.code)) o) (held q)
          ∙ merged (is_in rows q) (has_row g q.row) (areas_by_code codes names q) g.code (entry q.row (map group_run (take i gs))) (old q)
          ∙ ap (λ e. cond (is_in rows q) (option_map (areas_by_code codes names q) e) (old q)) grown
        where
          merged : (a b : Bool) (f : ℕ → List Rectangle) (k : ℕ) (e : Option ℕ) (o : Option (List Rectangle)) → cond (a && b) (Some (f k)) (cond a (option_map f e) o) ≡ cond a (option_map f (cond b (Some k) e)) o
          merged true true f k e o = refl
          merged true false f k e o = refl
          merged false b f k e o = refl

          grown : cond (has_row g q.row) (Some g.code) (entry q.row (map group_run (take i gs))) ≡ entry q.row (map group_run (take (i + 1) gs))
          grown =
              ap (λ ts. cond (has_row g q.row) (Some g.code) (entry q.row ts)) (sym (take-map group_run i gs))
              ∙ ap (λ (r : Run ℕ). cond (has r q.row) (Some r.key) (entry q.row (take i runs))) (sym here)
              ∙ sym (entry_more q.row 1 i runs (group_run g) rises inside)
              ∙ ap (entry q.row) (take-map group_run (i + 1) gs)

    pub all_held : (now : ReadAreas) → IsRows rows → (i : ℕ) → length gs ≤ i → ((q : Place) → now q ≡ held_by gs codes names rows old i q) → (q : Place) → now q ≡ cond (is_in rows q) (option_map (areas_by_code codes names q) (code_in_row entries q.row)) (old q)
    all_held now valid i all held q =
        held q
        ∙ ap (λ ts. cond (is_in rows q) (option_map (areas_by_code codes names q) (entry q.row (map group_run ts))) (old q)) (take_all i gs all)
        ∙ under (is_in rows q) (option_map (areas_by_code codes names q) (entry q.row runs)) _ (old q)
        (λ h. let at = lies_in rows q h in ap (option_map (areas_by_code codes names q)) (row_code q.row (omega (arith, at.from, valid.from)) (omega (arith, at.to, valid.to))))
