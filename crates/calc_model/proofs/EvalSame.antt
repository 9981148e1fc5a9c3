-- A formula's value depends on the values of the cells that it reads, and on no others.
use Rattle.std.proofs.Common.{◌≡◌, Bool, true, false, ◌&&◌, List, [], ◌∷◌, ◌++◌, refl, sym, ap, subst, ◌∙◌, cond, arith, map, Some}
use Rattle.std.specs.List.{AllByRecursion, flat_map, list_all}
use Rattle.calc_addr.specs.Places.{Place, Rectangle, covers, places}
use Rattle.calc_addr.specs.References.{here}
use Rattle.calc_model.specs.declared.value.Value.TheVariants.{Bad}
use Rattle.calc_model.specs.declared.fault.Fault.TheVariants.{BadValue}
use Rattle.std.proofs.lemmas.Bool.Decides.{nat_tests}
use Rattle.calc_model.specs.declared.tree.Tree.{Tree}
use Rattle.calc_model.specs.declared.tree.Tree.TheOpen.{Tree-F}
use Rattle.calc_model.specs.declared.looked.Looked.{Looked}
use Rattle.calc_model.specs.declared.looked.Looked.TheVariants.{Absent, Gone, At}
use Rattle.calc_model.specs.Reads.{Names, areas, areas_step, named_areas}
use Rattle.calc_model.specs.Scalars.{CellValues, scalar_at, if_covered, one_col, one_row}
use Rattle.calc_model.specs.Operators.{binary, hundredth, negated}
use Rattle.calc_model.specs.Functions.{function_value}
use Rattle.calc_model.specs.Meanings.{Meaning, meaning_of_area, scalar_alone, values_in}
use Rattle.calc_model.specs.Eval.{meaning, meaning_step, meaning_of_name, eval}
use Rattle.calc_model.proofs.Areas.{all_places, both_true}
use Rattle.calc_model.proofs.TreeFolds as fold
use Rattle.calc_model.proofs.TreeInduction.{Cases, tree_ind}

-- two books' values are the same in these areas
abbrev pub Agree : CellValues → CellValues → List Rectangle → Type 0
Agree v w = AllByRecursion (λ a. (q : Place) → covers a q ≡ true → v q ≡ w q)

agree_front : (v w : CellValues) (xs ys : List Rectangle) → Agree v w (xs ++ ys) → Agree v w xs
agree_front v w [] ys h = tt
agree_front v w (x ∷ xs) ys h = (h.0, agree_front v w xs ys h.1)

agree_back : (v w : CellValues) (xs ys : List Rectangle) → Agree v w (xs ++ ys) → Agree v w ys
agree_back v w [] ys h = h
agree_back v w (x ∷ xs) ys h = agree_back v w xs ys h.1

cond_same : {A : Type 0} (b : Bool) (x y z u : A) → (b ≡ true → x ≡ y) → (b ≡ false → z ≡ u) → cond b x z ≡ cond b y u
cond_same true x y z u h k = h refl
cond_same false x y z u h k = k refl

-- an area of one column and one row covers its corner
corner_covered : (a : Rectangle) → (one_col a && one_row a) ≡ true → covers a (record { sheet = a.sheet; col = a.first_col; row = a.first_row }) ≡ true
corner_covered a e = grind (arith, nat_tests)

module _ (v w : CellValues) where
  covered_same : (a : Rectangle) (p : Place) → ((q : Place) → covers a q ≡ true → v q ≡ w q) → if_covered a p v ≡ if_covered a p w
  covered_same a p h = cond_same (covers a p) (v p) (w p) (Bad BadValue) (Bad BadValue) (h p) (λ _. refl)

  -- what an area gives in a scalar place is one of its cells, or no value
  scalar_same : (a : Rectangle) (home : Place) → ((q : Place) → covers a q ≡ true → v q ≡ w q) → scalar_at a home v ≡ scalar_at a home w
  scalar_same a home h =
      let corner : Place = record { sheet = a.sheet; col = a.first_col; row = a.first_row } in
      let in_row : Place = record { sheet = a.sheet; col = a.first_col; row = home.row } in
      let in_col : Place = record { sheet = a.sheet; col = home.col; row = a.first_row } in
      cond_same (one_col a && one_row a) (v corner) (w corner) _ _ (λ e. h corner (corner_covered a e)) (λ _.
      cond_same (one_col a) (if_covered a in_row v) (if_covered a in_row w) _ _ (λ _. covered_same a in_row h) (λ _.
      cond_same (one_row a) (if_covered a in_col v) (if_covered a in_col w) (Bad BadValue) (Bad BadValue) (λ _. covered_same a in_col h) (λ _. refl)))

  map_same : (passes : Place → Bool) → ((q : Place) → passes q ≡ true → v q ≡ w q) → (qs : List Place) → list_all passes qs ≡ true → map v qs ≡ map w qs
  map_same passes same [] h = refl
  map_same passes same (q ∷ qs) h =
      let parts = both_true (passes q) (list_all passes qs) h in
      ap (λ x. x ∷ map v qs) (same q parts.0) ∙ ap (λ xs. w q ∷ xs) (map_same passes same qs parts.1)

  -- values that are the same in an area make the same list of it
  values_same : (a : Rectangle) → ((q : Place) → covers a q ≡ true → v q ≡ w q) → values_in v a ≡ values_in w a
  unfolding values_in
  values_same a h = map_same (covers a) h (places a) (all_places (covers a) a (λ q c. c))

module _ (home : Place) (names : Names) (v w : CellValues) where
  -- the meaning is the same where the values are the same in all that is read
  Claim : Tree → Type 0
  Claim x = Agree v w (areas home names x) → meaning home names v x ≡ meaning home names w x

  area_same : (a : Rectangle) → Agree v w (a ∷ []) → meaning_of_area home v a ≡ meaning_of_area home w a
  area_same a h =
      ap (λ x. record { scalar = x; area = Some (record { area = a; values = values_in v a }) }) (scalar_same v w a home h.0)
      ∙ ap (λ xs. record { scalar = scalar_at a home w; area = Some (record { area = a; values = xs }) }) (values_same v w a h.0)

  name_same : (looked : Looked) → Agree v w (named_areas looked) → meaning_of_name home names v looked ≡ meaning_of_name home names w looked
  name_same Absent h = refl
  name_same Gone h = refl
  name_same (At a) h = area_same a h

  -- the same of the areas that a node reads, from an equation on them
  along : {xs ys : List Rectangle} → xs ≡ ys → Agree v w xs → Agree v w ys
  along e h = subst (Agree v w) e h

  abbrev by : Tree-F (List Rectangle) → List Rectangle
  by = areas_step home names

  abbrev one : Tree-F Meaning → Meaning
  one = meaning_step home names v

  abbrev two : Tree-F Meaning → Meaning
  two = meaning_step home names w

  -- the same of a list of parameters
  all_same : (args : List Tree) → AllByRecursion Claim args → Agree v w (flat_map (λ areas. areas) (map (areas home names) args)) → map (meaning home names v) args ≡ map (meaning home names w) args
  unfolding Claim
  all_same [] all h = refl
  all_same (x ∷ xs) all h =
      let front = areas home names x in
      let rest = flat_map (λ areas. areas) (map (areas home names) xs) in
      ap (λ m. m ∷ map (meaning home names v) xs) (all.0 (agree_front v w front rest h))
      ∙ ap (λ ms. meaning home names w x ∷ ms) (all_same xs all.1 (agree_back v w front rest h))

  cases : Cases Claim
  unfolding Claim
  cases = record {
    number = λ n h. fold.at-Number Meaning one n ∙ sym (fold.at-Number Meaning two n);
    words = λ text h. fold.at-Words Meaning one text ∙ sym (fold.at-Words Meaning two text);
    bad = λ fault h. fold.at-Bad Meaning one fault ∙ sym (fold.at-Bad Meaning two fault);
    reference = λ r h. fold.at-Ref Meaning one r ∙ area_same (here r home) (along (fold.at-Ref (List Rectangle) by r) h) ∙ sym (fold.at-Ref Meaning two r);
    name = λ name h. fold.at-Name Meaning one name ∙ name_same (names name) (along (fold.at-Name (List Rectangle) by name) h) ∙ sym (fold.at-Name Meaning two name);
    call = λ name args is h.
        fold.at-Call Meaning one name args
        ∙ ap (λ ms. scalar_alone (function_value home name ms)) (all_same args is (along (fold.at-Call (List Rectangle) by name args) h))
        ∙ sym (fold.at-Call Meaning two name args);
    paren = λ x is h. fold.at-Paren Meaning one x ∙ is (along (fold.at-Paren (List Rectangle) by x) h) ∙ sym (fold.at-Paren Meaning two x);
    plus = λ x is h. fold.at-Plus Meaning one x ∙ ap (λ (m : Meaning). scalar_alone m.scalar) (is (along (fold.at-Plus (List Rectangle) by x) h)) ∙ sym (fold.at-Plus Meaning two x);
    minus = λ x is h. fold.at-Minus Meaning one x ∙ ap (λ (m : Meaning). scalar_alone (negated m.scalar)) (is (along (fold.at-Minus (List Rectangle) by x) h)) ∙ sym (fold.at-Minus Meaning two x);
    percent = λ x is h. fold.at-Percent Meaning one x ∙ ap (λ (m : Meaning). scalar_alone (hundredth m.scalar)) (is (along (fold.at-Percent (List Rectangle) by x) h)) ∙ sym (fold.at-Percent Meaning two x);
    binary = λ op x y is_x is_y h.
        let both : Agree v w (areas home names x ++ areas home names y) = along (fold.at-Binary (List Rectangle) by op x y) h in
        fold.at-Binary Meaning one op x y
        ∙ ap (λ (m : Meaning). scalar_alone (binary op m.scalar (meaning home names v y).scalar)) (is_x (agree_front v w (areas home names x) (areas home names y) both))
        ∙ ap (λ (m : Meaning). scalar_alone (binary op (meaning home names w x).scalar m.scalar)) (is_y (agree_back v w (areas home names x) (areas home names y) both))
        ∙ sym (fold.at-Binary Meaning two op x y);
  }

  pub meaning_same : (x : Tree) → Agree v w (areas home names x) → meaning home names v x ≡ meaning home names w x
  unfolding Claim
  meaning_same = tree_ind Claim cases

  pub eval_same : (x : Tree) → Agree v w (areas home names x) → eval home names v x ≡ eval home names w x
  eval_same x h = ap (λ (m : Meaning). m.scalar) (meaning_same x h)
