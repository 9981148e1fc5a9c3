-- What is seen of entries that are kept: their order, and what a look-up gives.
use Rattle.std.proofs.Common.{◌≡◌, ℕ, true, false, List, [], length, get_or, Option, Some, None, is_some, refl, sym, ap, ◌∙◌, inl, inr}
use Rattle.std.specs.Prelude.{option_map}
use Rattle.std.specs.FinMap.Entries.{find, is_sorted}
use Rattle.std.specs.Str.{str_to_ascii_uppercase}
use Rattle.std.proofs.lemmas.Bool.{cases_lt}
use Rattle.std.proofs.lemmas.Cmp.{nat_list_cmp_total}
use Rattle.std.proofs.lemmas.List.{length-map}
use Rattle.calc_model.specs.Books.{Target, entry_named, looked_up}
use Rattle.calc_model.specs.NamedAreas.{is_defined, name_cmp}
use Rattle.calc_model.specs.declared.looked.Looked.{Looked}
use Rattle.calc_model.specs.declared.looked.Looked.TheVariants.{Absent}
use Rattle.calc_model.proofs.EntriesKept.{sorted-mapped}
use Rattle.calc_names.specs.LookUps.{answer_of}
use Rattle.calc_names.specs.Kept.{AreKept, GoesTo, KeptEntries, StandsAt, name_at, seen_entries, target_of}
use Rattle.calc_names.proofs.Sorted.{found_at, greater_apart, not_found, smaller_apart}
use Rattle.calc_model.proofs.EntriesFound.{find-valued}

pub length-seen : (kept : KeptEntries) → length (seen_entries kept) ≡ length kept
length-seen kept = length-map {B = List ℕ × Target} kept (λ e. (e.0, target_of e.1))

-- an answer that is found is that of a target
answer_found : (target : Option Target) (answer : Looked) → option_map answer_of target ≡ Some answer → (looked_up target ≡ answer) × (is_some target ≡ true)
answer_found None answer h = cc
answer_found (Some target) answer h = (cc, refl)

none_found : (target : Option Target) → option_map answer_of target ≡ None → (looked_up target ≡ Absent) × (is_some target ≡ false)
none_found None h = (refl, refl)
none_found (Some target) h = cc

module _ (kept : KeptEntries) (are : AreKept kept) where
  pub in_order : is_sorted name_cmp kept ≡ true
  in_order = sym (sorted-mapped name_cmp target_of kept) ∙ are.names.in_order

  module _ (name : List ℕ) where
    -- a look-up finds the answer of a target
    answers_found : find name_cmp (str_to_ascii_uppercase name) kept ≡ option_map answer_of (find name_cmp (str_to_ascii_uppercase name) (seen_entries kept))
    answers_found = ap (find name_cmp (str_to_ascii_uppercase name)) are.answers ∙ find-valued name_cmp answer_of (str_to_ascii_uppercase name) (seen_entries kept)

    at_place : (at : ℕ) → StandsAt kept (str_to_ascii_uppercase name) at → option_map answer_of (find name_cmp (str_to_ascii_uppercase name) (seen_entries kept)) ≡ Some (get_or kept at ([], Absent)).1
    at_place at stands = sym answers_found ∙ found_at nat_list_cmp_total kept (str_to_ascii_uppercase name) at ([], Absent) stands.smaller stands.within stands.is

    at_gap : (at : ℕ) → GoesTo kept (str_to_ascii_uppercase name) at → option_map answer_of (find name_cmp (str_to_ascii_uppercase name) (seen_entries kept)) ≡ None
    at_gap at goes = sym answers_found ∙ not_found nat_list_cmp_total kept (str_to_ascii_uppercase name) ([], Absent) (λ j within. elim (cases_lt j at) [
      | inl before ↦ smaller_apart nat_list_cmp_total (name_at kept j) (str_to_ascii_uppercase name) (goes.smaller j before)
      | inr from ↦ greater_apart nat_list_cmp_total (name_at kept j) (str_to_ascii_uppercase name) (goes.greater j from within)
    ])

    pub defined : (at : ℕ) → StandsAt kept (str_to_ascii_uppercase name) at → is_defined (seen_entries kept) name ≡ true
    defined at stands = (answer_found _ _ (at_place at stands)).1

    pub undefined : (at : ℕ) → GoesTo kept (str_to_ascii_uppercase name) at → is_defined (seen_entries kept) name ≡ false
    undefined at goes = (none_found _ (at_gap at goes)).1

    pub looked_at : (at : ℕ) → StandsAt kept (str_to_ascii_uppercase name) at → (get_or kept at ([], Absent)).1 ≡ entry_named (seen_entries kept) name
    unfolding entry_named
    looked_at at stands = sym (answer_found _ _ (at_place at stands)).0

    pub looked_absent : (at : ℕ) → GoesTo kept (str_to_ascii_uppercase name) at → Absent ≡ entry_named (seen_entries kept) name
    unfolding entry_named
    looked_absent at goes = sym (none_found _ (at_gap at goes)).0
