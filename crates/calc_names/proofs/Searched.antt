-- What a search among entries in order finds.
use Rattle.std.proofs.Common.{◌≡◌, ℕ, true, List, [], length, Ok, Err, IfOk, IfErr, Result, arith}
use Rattle.std.specs.FinMap.Entries.{is_sorted}
use Rattle.std.specs.List.Sorted.{IsBinarySearchResult, IsNonDecreasingBy, IsSearchInRange}
use Rattle.std.specs.Ordering.{ordering_index}
use Rattle.std.proofs.lemmas.Cmp.{nat_list_cmp_total}
use Rattle.std.proofs.lemmas.List.Sorted.{searchable_from_sorted}
use Rattle.std.proofs.lemmas.Map.Lookups.{exact_bytes}
use Rattle.calc_model.specs.NamedAreas.{name_cmp}
use Rattle.calc_model.specs.declared.looked.Looked.{Looked}
use Rattle.calc_model.specs.declared.looked.Looked.TheVariants.{Absent}
use Rattle.calc_names.specs.Kept.{GoesTo, KeptEntries, StandsAt, name_at}
use Rattle.calc_names.proofs.Sorted.{ordered_by_place, smaller_before}

module _ (kept : KeptEntries) (sorted : is_sorted name_cmp kept ≡ true) (name : List ℕ) where
  rises : IsNonDecreasingBy (λ entry. ordering_index (name_cmp entry.0 name)) kept
  rises = searchable_from_sorted nat_list_cmp_total (λ (entry : List ℕ × Looked). entry.0) kept name (λ k d _ within. ordered_by_place nat_list_cmp_total kept k d sorted within)

  pub found : (r : Result ℕ ℕ) → IsSearchInRange r (length kept) → IsBinarySearchResult (λ entry. name_cmp entry.0 name) kept r → IfOk r (StandsAt kept name)
  found (Ok at) within equal =
      let is : name_at kept at ≡ name = exact_bytes _ _ (equal ([], Absent)) in
      record { within = within; is = is; smaller = smaller_before nat_list_cmp_total kept name at ([], Absent) sorted within is }
  found (Err at) within parted = tt

  pub absent : (r : Result ℕ ℕ) → IsSearchInRange r (length kept) → IsBinarySearchResult (λ entry. name_cmp entry.0 name) kept r → IfErr r (GoesTo kept name)
  absent (Ok at) within equal = tt
  absent (Err at) within parted = record {
    within = within;
    smaller = λ j before. (parted rises).0 j ([], Absent) (omega arith) before;
    greater = λ j from before. (parted rises).1 j ([], Absent) from before;
  }
