-- What a formula reads after rows of a sheet went: what becomes of the areas that it read.
use Rattle.std.proofs.Common.{◌≡◌, ℕ, true, false, cond, List, [], ◌∷◌, ◌++◌, map, Option, Some, None, refl, sym, ap, ◌∙◌}
use Rattle.std.specs.Prelude.{◌==◌, option_map}
use Rattle.std.specs.List.{AllByRecursion, filter_map, flat_map}
use Rattle.std.specs.FinMap.Entries.{find}
use Rattle.std.specs.Str.{str_to_ascii_uppercase}
use Rattle.std.proofs.lemmas.List.Elements.{filter_map-append}
use Rattle.calc_addr.specs.Places.{Place, Rectangle}
use Rattle.calc_addr.specs.References.{Reference, here}
use Rattle.calc_addr.specs.Shifts.{on_area}
use Rattle.calc_model.specs.declared.fault.Fault.TheVariants.{BadRef}
use Rattle.calc_model.specs.declared.tree.Tree.{Tree}
use Rattle.calc_model.specs.declared.tree.Tree.TheVariants as t
use Rattle.calc_model.specs.Books.{NameEntries, Target, entry_named, looked_up}
use Rattle.calc_model.specs.NamedAreas.{name_cmp, names_on_sheet, target_on_sheet}
use Rattle.calc_model.specs.Reads.{Names, areas, areas_step, named_areas}
use Rattle.calc_model.specs.TreeShifts.{on_sheet, or_deleted, replaced}
use Rattle.calc_model.proofs.EntriesFound.{find-valued}
use Rattle.calc_model.proofs.Replaced.{replaced-Number, replaced-Words, replaced-Bad, replaced-Ref, replaced-Name, replaced-Call, replaced-Paren, replaced-Plus, replaced-Minus, replaced-Percent, replaced-Binary}
use Rattle.calc_model.proofs.TreeFolds.{at-Number, at-Words, at-Bad, at-Ref, at-Name, at-Call, at-Paren, at-Plus, at-Minus, at-Percent, at-Binary}
use Rattle.calc_model.proofs.TreeInduction.{tree_ind}

-- an area goes alike on each sheet
abbrev pub GoesAlike : (Rectangle → Option Rectangle) → Type 0
GoesAlike change = (a : Rectangle) (sheet : ℕ) → change (record a { sheet = sheet }) ≡ option_map {T = Rectangle} (λ b. record b { sheet = sheet }) (change a)

module _ (sheet : ℕ) (change : Rectangle → Option Rectangle) (alike : GoesAlike change) where
  -- what becomes of an area of any sheet
  abbrev pub after : Rectangle → Option Rectangle
  after a = cond (a.sheet == sheet) (change a) (Some a)

  -- what a name stands for afterwards
  target_goes : (found : Option Target) → named_areas (looked_up (option_map (target_on_sheet sheet change) found)) ≡ filter_map after (named_areas (looked_up found))
  target_goes None = refl
  target_goes (Some None) = refl
  target_goes (Some (Some a)) = gone (after a)
    where
      gone : (o : Option Rectangle) → named_areas (looked_up (Some o)) ≡ filter_map (λ (a : Rectangle). o) (a ∷ [])
      gone None = refl
      gone (Some b) = refl

  pub name_goes : (entries : NameEntries) (name : List ℕ) → named_areas (entry_named (names_on_sheet sheet change entries) name) ≡ filter_map after (named_areas (entry_named entries name))
  unfolding entry_named
  name_goes entries name =
      ap (λ found. named_areas (looked_up found)) (find-valued name_cmp (target_on_sheet sheet change) (str_to_ascii_uppercase name) entries)
      ∙ target_goes (find name_cmp (str_to_ascii_uppercase name) entries)

  module _ (home to : Place) (same : to.sheet ≡ home.sheet) (names moved : Names) (named : (name : List ℕ) → named_areas (moved name) ≡ filter_map after (named_areas (names name))) where
    abbrev by : Reference → Tree
    by = on_sheet home sheet (λ r. option_map (on_area r) (change r.area))

    abbrev Goes : Tree → Type 0
    Goes x = areas to moved (replaced by x) ≡ filter_map after (areas home names x)

    bad_reads : areas to moved (t.Bad BadRef) ≡ []
    bad_reads = at-Bad _ (areas_step to moved) BadRef

    here_to : (r : Reference) → here r to ≡ here r home
    here_to r = ap (λ s. cond r.marks.sheet r.area (record r.area { sheet = s })) same

    -- the only area of a list, or none
    abbrev only : Rectangle → Option Rectangle → List Rectangle
    only a o = filter_map (λ (x : Rectangle). o) (a ∷ [])

    -- where the area of a reference goes on the sheet that is written or the formula's
    abbrev here_at : Reference → ℕ → Rectangle → Rectangle
    here_at r s b = cond r.marks.sheet b (record b { sheet = s })

    kept : (o : Option Rectangle) → o ≡ option_map (λ (b : Rectangle). b) o
    kept None = refl
    kept (Some b) = refl

    here_goes : (r : Reference) → change (here r home) ≡ option_map (here_at r home.sheet) (change r.area)
    here_goes r = elim r.marks.sheet as (λ w. change (cond w r.area (record r.area { sheet = home.sheet })) ≡ option_map {T = Rectangle} (λ b. cond w b (record b { sheet = home.sheet })) (change r.area)) [
      | true ↦ kept (change r.area)
      | false ↦ alike r.area home.sheet
    ]

    reference_reads : (r : Reference) (o : Option Rectangle) → areas to moved (or_deleted (option_map (on_area r) o)) ≡ only (here r home) (option_map (here_at r home.sheet) o)
    reference_reads r None = bad_reads
    reference_reads r (Some b) = at-Ref _ (areas_step to moved) (on_area r b) ∙ ap (λ s. here_at r s b ∷ []) same

    reference_goes : (r : Reference) → Goes (t.Ref r)
    reference_goes r =
        ap (areas to moved) (replaced-Ref by r)
        ∙ elim ((here r home).sheet == sheet) as (λ w. areas to moved (cond w (or_deleted (option_map (on_area r) (change r.area))) (t.Ref r)) ≡ only (here r home) (cond w (change (here r home)) (Some (here r home)))) [
          | true ↦ reference_reads r (change r.area) ∙ ap (only (here r home)) (sym (here_goes r))
          | false ↦ at-Ref _ (areas_step to moved) r ∙ ap (λ a. a ∷ []) (here_to r)
        ]
        ∙ ap (filter_map after) (sym (at-Ref _ (areas_step home names) r))

    child_goes : (x y : Tree) (node : Tree → Tree) → areas home names y ≡ areas home names x → replaced by y ≡ node (replaced by x) → areas to moved (node (replaced by x)) ≡ areas to moved (replaced by x) → Goes x → Goes y
    child_goes x y node reads is there known = ap (areas to moved) is ∙ there ∙ known ∙ ap (filter_map after) (sym reads)

    children_go : (xs : List Tree) → AllByRecursion Goes xs → flat_map (λ (found : List Rectangle). found) (map (areas to moved) (map (replaced by) xs)) ≡ filter_map after (flat_map (λ (found : List Rectangle). found) (map (areas home names) xs))
    children_go [] known = refl
    children_go (x ∷ xs) known =
        ap (λ first. first ++ flat_map (λ (found : List Rectangle). found) (map (areas to moved) (map (replaced by) xs))) known.0
        ∙ ap (λ rest. filter_map after (areas home names x) ++ rest) (children_go xs known.1)
        ∙ sym (filter_map-append after (areas home names x) (flat_map (λ (found : List Rectangle). found) (map (areas home names) xs)))

    pub tree_goes : (x : Tree) → Goes x
    tree_goes = tree_ind Goes (record {
      number = λ n. ap (areas to moved) (replaced-Number by n) ∙ at-Number _ (areas_step to moved) n ∙ ap (filter_map after) (sym (at-Number _ (areas_step home names) n));
      words = λ text. ap (areas to moved) (replaced-Words by text) ∙ at-Words _ (areas_step to moved) text ∙ ap (filter_map after) (sym (at-Words _ (areas_step home names) text));
      bad = λ fault. ap (areas to moved) (replaced-Bad by fault) ∙ at-Bad _ (areas_step to moved) fault ∙ ap (filter_map after) (sym (at-Bad _ (areas_step home names) fault));
      reference = reference_goes;
      name = λ name. ap (areas to moved) (replaced-Name by name) ∙ at-Name _ (areas_step to moved) name ∙ named name ∙ ap (filter_map after) (sym (at-Name _ (areas_step home names) name));
      call = λ name args known.
          ap (areas to moved) (replaced-Call by name args)
          ∙ at-Call _ (areas_step to moved) name (map (replaced by) args)
          ∙ children_go args known
          ∙ ap (filter_map after) (sym (at-Call _ (areas_step home names) name args));
      paren = λ x. child_goes x (t.Paren x) t.Paren (at-Paren _ (areas_step home names) x) (replaced-Paren by x) (at-Paren _ (areas_step to moved) (replaced by x));
      plus = λ x. child_goes x (t.Plus x) t.Plus (at-Plus _ (areas_step home names) x) (replaced-Plus by x) (at-Plus _ (areas_step to moved) (replaced by x));
      minus = λ x. child_goes x (t.Minus x) t.Minus (at-Minus _ (areas_step home names) x) (replaced-Minus by x) (at-Minus _ (areas_step to moved) (replaced by x));
      percent = λ x. child_goes x (t.Percent x) t.Percent (at-Percent _ (areas_step home names) x) (replaced-Percent by x) (at-Percent _ (areas_step to moved) (replaced by x));
      binary = λ op x y left right.
          ap (areas to moved) (replaced-Binary by op x y)
          ∙ at-Binary _ (areas_step to moved) op (replaced by x) (replaced by y)
          ∙ ap (λ first. first ++ areas to moved (replaced by y)) left
          ∙ ap (λ rest. filter_map after (areas home names x) ++ rest) right
          ∙ sym (filter_map-append after (areas home names x) (areas home names y))
          ∙ ap (filter_map after) (sym (at-Binary _ (areas_step home names) op x y));
    })
