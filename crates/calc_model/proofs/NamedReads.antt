-- What formulas read by names, where the names of a book change: those that use no name that changed read what they
-- read before.
use Rattle.std.proofs.Common.{◌≡◌, ℕ, true, false, ◌&&◌, ◌||◌, not, cond, List, [], ◌∷◌, ◌++◌, map, Option, Some, None, refl, sym, ap, ◌∙◌}
use Rattle.std.specs.Prelude.{◌==◌, option_map, Bool}
use Rattle.std.specs.List.{AllByRecursion, flat_map, list_any}
use Rattle.std.specs.Ordering.{is_eq}
use Rattle.std.specs.Str.{str_to_ascii_uppercase}
use Rattle.std.specs.FinMap.Entries.{find}
use Rattle.std.specs.declared.cmp.Ordering.{Ordering}
use Rattle.std.specs.declared.cmp.Ordering.TheVariants.{Less, Equal, Greater}
use Rattle.std.proofs.lemmas.Cmp.{nat_list_cmp_total, tied_itself}
use Rattle.std.proofs.lemmas.Map.Lookups.{exact_bytes}
use Rattle.calc_addr.specs.Places.{Place, Rectangle}
use Rattle.calc_addr.specs.Shifts.{area_after_deletion, area_after_insertion}
use Rattle.calc_model.specs.declared.tree.Tree.{Tree}
use Rattle.calc_model.specs.declared.tree.Tree.TheVariants as t
use Rattle.calc_model.specs.Books.{NameEntries, Target, entry_named, looked_up}
use Rattle.calc_model.specs.NamedAreas.{name_cmp, names_after_deletion, names_after_insertion, names_on_sheet, target_on_sheet, with_name, without_name}
use Rattle.calc_model.specs.Reads.{Names, areas, areas_step, named_areas}
use Rattle.calc_model.specs.RowEdits.{has_rows_of, is_changed, is_changed_by_deletion, is_changed_by_insertion}
use Rattle.calc_model.specs.UsedNames.{is_same_name, names_in, names_step}
use Rattle.calc_model.proofs.EntriesFound.{IsExact, find-insert_entry, find-remove_entry, find-valued}
use Rattle.calc_model.proofs.ShiftedReads.{GoesByRows, deletion_goes, insertion_goes, neither, none_of_both, not_false}
use Rattle.calc_model.proofs.TreeFolds.{at-Number, at-Words, at-Bad, at-Ref, at-Name, at-Call, at-Paren, at-Plus, at-Minus, at-Percent, at-Binary}
use Rattle.calc_model.proofs.TreeInduction.{tree_ind}

-- two tables of names that agree but on some
module _ (home : Place) (before after : Names) (differs : List ℕ → Bool) (same : (name : List ℕ) → differs name ≡ false → named_areas (after name) ≡ named_areas (before name)) where
  abbrev ReadsSame : Tree → Type 0
  ReadsSame x = list_any differs (names_in x) ≡ false → areas home after x ≡ areas home before x

  children_same : (xs : List Tree) → AllByRecursion ReadsSame xs → list_any differs (flat_map (λ names. names) (map names_in xs)) ≡ false → flat_map (λ areas. areas) (map (areas home after) xs) ≡ flat_map (λ areas. areas) (map (areas home before) xs)
  children_same [] known h = refl
  children_same (x ∷ xs) known h =
      let parts = none_of_both differs (names_in x) (flat_map (λ names. names) (map names_in xs)) h in
      ap (λ read. read ++ flat_map (λ areas. areas) (map (areas home after) xs)) (known.0 parts.0)
      ∙ ap (λ read. areas home before x ++ read) (children_same xs known.1 parts.1)

  child_same : (x y : Tree) → names_in y ≡ names_in x → areas home after y ≡ areas home after x → areas home before y ≡ areas home before x → ReadsSame x → ReadsSame y
  child_same x y named reads_after reads_before known h = reads_after ∙ known (ap (list_any differs) (sym named) ∙ h) ∙ sym reads_before

  pub reads_same : (x : Tree) → ReadsSame x
  unfolding names_in
  reads_same = tree_ind ReadsSame (record {
    number = λ n _. at-Number _ (areas_step home after) n ∙ sym (at-Number _ (areas_step home before) n);
    words = λ text _. at-Words _ (areas_step home after) text ∙ sym (at-Words _ (areas_step home before) text);
    bad = λ fault _. at-Bad _ (areas_step home after) fault ∙ sym (at-Bad _ (areas_step home before) fault);
    reference = λ r _. at-Ref _ (areas_step home after) r ∙ sym (at-Ref _ (areas_step home before) r);
    name = λ name h.
        at-Name _ (areas_step home after) name
        ∙ same name (neither (differs name) false (ap (list_any differs) (sym (at-Name _ names_step name)) ∙ h)).0
        ∙ sym (at-Name _ (areas_step home before) name);
    call = λ name args known h.
        at-Call _ (areas_step home after) name args
        ∙ children_same args known (ap (list_any differs) (sym (at-Call _ names_step name args)) ∙ h)
        ∙ sym (at-Call _ (areas_step home before) name args);
    paren = λ x. child_same x (t.Paren x) (at-Paren _ names_step x) (at-Paren _ (areas_step home after) x) (at-Paren _ (areas_step home before) x);
    plus = λ x. child_same x (t.Plus x) (at-Plus _ names_step x) (at-Plus _ (areas_step home after) x) (at-Plus _ (areas_step home before) x);
    minus = λ x. child_same x (t.Minus x) (at-Minus _ names_step x) (at-Minus _ (areas_step home after) x) (at-Minus _ (areas_step home before) x);
    percent = λ x. child_same x (t.Percent x) (at-Percent _ names_step x) (at-Percent _ (areas_step home after) x) (at-Percent _ (areas_step home before) x);
    binary = λ op x y left right h.
        let parts = none_of_both differs (names_in x) (names_in y) (ap (list_any differs) (sym (at-Binary _ names_step op x y)) ∙ h) in
        at-Binary _ (areas_step home after) op x y
        ∙ ap (λ read. read ++ areas home after y) (left parts.0)
        ∙ ap (λ read. areas home before x ++ read) (right parts.1)
        ∙ sym (at-Binary _ (areas_step home before) op x y);
  })

-- where none of the areas that a formula reads passes a test, none of those passes it that it reads by names
module _ (home : Place) (names : Names) (changed : Rectangle → Bool) where
  abbrev by_name : List ℕ → Bool
  by_name name = list_any changed (named_areas (names name))

  abbrev Within : Tree → Type 0
  Within x = list_any changed (areas home names x) ≡ false → list_any by_name (names_in x) ≡ false

  joined : {X : Type 0} (p : X → Bool) (xs ys : List X) → list_any p xs ≡ false → list_any p ys ≡ false → list_any p (xs ++ ys) ≡ false
  joined p [] ys first second = second
  joined p (x ∷ xs) ys first second =
      let parts = neither (p x) (list_any p xs) first in
      ap (λ b. b || list_any p (xs ++ ys)) parts.0 ∙ joined p xs ys parts.1 second

  children_within : (xs : List Tree) → AllByRecursion Within xs → list_any changed (flat_map (λ areas. areas) (map (areas home names) xs)) ≡ false → list_any by_name (flat_map (λ names. names) (map names_in xs)) ≡ false
  children_within [] known h = refl
  children_within (x ∷ xs) known h =
      let parts = none_of_both changed (areas home names x) (flat_map (λ areas. areas) (map (areas home names) xs)) h in
      joined by_name (names_in x) (flat_map (λ names. names) (map names_in xs)) (known.0 parts.0) (children_within xs known.1 parts.1)

  child_within : (x y : Tree) → names_in y ≡ names_in x → areas home names y ≡ areas home names x → Within x → Within y
  child_within x y named reads known h = ap (list_any by_name) named ∙ known (ap (list_any changed) (sym reads) ∙ h)

  names_within : (x : Tree) → Within x
  unfolding names_in
  names_within = tree_ind Within (record {
    number = λ n _. ap (list_any by_name) (at-Number _ names_step n);
    words = λ text _. ap (list_any by_name) (at-Words _ names_step text);
    bad = λ fault _. ap (list_any by_name) (at-Bad _ names_step fault);
    reference = λ r _. ap (list_any by_name) (at-Ref _ names_step r);
    name = λ name h.
        let read : by_name name ≡ false = ap (list_any changed) (sym (at-Name _ (areas_step home names) name)) ∙ h in
        ap (list_any by_name) (at-Name _ names_step name) ∙ ap (λ b. b || false) read;
    call = λ name args known h. ap (list_any by_name) (at-Call _ names_step name args) ∙ children_within args known (ap (list_any changed) (sym (at-Call _ (areas_step home names) name args)) ∙ h);
    paren = λ x. child_within x (t.Paren x) (at-Paren _ names_step x) (at-Paren _ (areas_step home names) x);
    plus = λ x. child_within x (t.Plus x) (at-Plus _ names_step x) (at-Plus _ (areas_step home names) x);
    minus = λ x. child_within x (t.Minus x) (at-Minus _ names_step x) (at-Minus _ (areas_step home names) x);
    percent = λ x. child_within x (t.Percent x) (at-Percent _ names_step x) (at-Percent _ (areas_step home names) x);
    binary = λ op x y left right h.
        let parts = none_of_both changed (areas home names x) (areas home names y) (ap (list_any changed) (sym (at-Binary _ (areas_step home names) op x y)) ∙ h) in
        ap (list_any by_name) (at-Binary _ names_step op x y) ∙ joined by_name (names_in x) (names_in y) (left parts.0) (right parts.1);
  })

-- names are in an order in which each is tied with itself alone
pub exact_names : IsExact name_cmp
exact_names = record {
  itself = λ name. ap is_eq (tied_itself nat_list_cmp_total name);
  alone = λ name other same. exact_bytes name other (equal (name_cmp name other) same);
}
  where
    equal : (o : Ordering) → is_eq o ≡ true → o ≡ Equal
    equal Less h = cc
    equal Equal h = refl
    equal Greater h = cc

pub named_reads : (home : Place) (entries : NameEntries) (name : List ℕ) (area : Rectangle) (x : Tree) → list_any (is_same_name name) (names_in x) ≡ false → areas home (entry_named (with_name entries name area)) x ≡ areas home (entry_named entries) x
unfolding entry_named
named_reads home entries name area =
    reads_same home (entry_named entries) (entry_named (with_name entries name area)) (is_same_name name)
    (λ other apart. ap (λ found. named_areas (looked_up found)) (find-insert_entry name_cmp exact_names (str_to_ascii_uppercase name) (str_to_ascii_uppercase other) apart entries (Some area)))

pub unnamed_reads : (home : Place) (entries : NameEntries) (name : List ℕ) (x : Tree) → list_any (is_same_name name) (names_in x) ≡ false → areas home (entry_named (without_name entries name)) x ≡ areas home (entry_named entries) x
unfolding entry_named
unnamed_reads home entries name =
    reads_same home (entry_named entries) (entry_named (without_name entries name)) (is_same_name name)
    (λ other apart. ap (λ found. named_areas (looked_up found)) (find-remove_entry name_cmp exact_names (str_to_ascii_uppercase name) (str_to_ascii_uppercase other) apart entries))

-- the areas of names go with the rows of a sheet
module _ (home : Place) (entries : NameEntries) (sheet : ℕ) (change : Rectangle → Option Rectangle) (goes : GoesByRows change) where
  target_stays : (found : Option Target) → list_any (is_changed sheet change) (named_areas (looked_up found)) ≡ false → named_areas (looked_up (option_map (target_on_sheet sheet change) found)) ≡ named_areas (looked_up found)
  target_stays None h = refl
  target_stays (Some None) h = refl
  target_stays (Some (Some area)) h =
      elim (area.sheet == sheet) as (λ b. (b && not (has_rows_of area (change area))) ≡ false → named_areas (looked_up (Some (cond b (change area) (Some area)))) ≡ area ∷ []) [
        | true ↦ λ kept. ap (λ target. named_areas (looked_up (Some target))) (goes.stay area (not_false _ kept))
        | false ↦ λ _. refl
      ] (neither (is_changed sheet change area) false h).0

  pub shifted_reads : (x : Tree) → list_any (is_changed sheet change) (areas home (entry_named entries) x) ≡ false → areas home (entry_named (names_on_sheet sheet change entries)) x ≡ areas home (entry_named entries) x
  unfolding entry_named
  shifted_reads x unchanged =
      reads_same home (entry_named entries) (entry_named (names_on_sheet sheet change entries)) (by_name home (entry_named entries) (is_changed sheet change))
      (λ name apart. ap (λ found. named_areas (looked_up found)) (find-valued name_cmp (target_on_sheet sheet change) (str_to_ascii_uppercase name) entries) ∙ target_stays (find name_cmp (str_to_ascii_uppercase name) entries) apart)
      x (names_within home (entry_named entries) (is_changed sheet change) x unchanged)

pub inserted_reads : (home : Place) (entries : NameEntries) (sheet place count : ℕ) (x : Tree) → list_any (is_changed_by_insertion sheet place count) (areas home (entry_named entries) x) ≡ false → areas home (entry_named (names_after_insertion sheet place count entries)) x ≡ areas home (entry_named entries) x
inserted_reads home entries sheet place count = shifted_reads home entries sheet (area_after_insertion place count) (insertion_goes place count)

pub deleted_reads : (home : Place) (entries : NameEntries) (sheet place count : ℕ) (x : Tree) → list_any (is_changed_by_deletion sheet place count) (areas home (entry_named entries) x) ≡ false → areas home (entry_named (names_after_deletion sheet place count entries)) x ≡ areas home (entry_named entries) x
deleted_reads home entries sheet place count = shifted_reads home entries sheet (area_after_deletion place count) (deletion_goes place count)
