-- The names of a book stay such under every edit of them.
use Rattle.std.proofs.Common.{◌≡◌, ◌≤◌, ℕ, Bool, true, false, ◌&&◌, cond, List, [], ◌∷◌, length, Option, Some, None, refl, ◌∙◌, arith}
use Rattle.std.specs.Prelude.{◌==◌}
use Rattle.std.specs.List.{list_all}
use Rattle.std.specs.BTreeMap.{is_at}
use Rattle.std.specs.Str.{str_to_ascii_uppercase}
use Rattle.std.proofs.lemmas.Cmp.{nat_list_cmp_total}
use Rattle.std.proofs.lemmas.List.{length-map}
use Rattle.calc_addr.specs.Places.{Rectangle}
use Rattle.calc_addr.specs.ValidReferences.{is_rectangle}
use Rattle.calc_model.specs.declared.limits.TheConstants.{MOST_NAMES}
use Rattle.calc_model.specs.Books.{NameEntries, Target, is_name_entry, is_target}
use Rattle.calc_model.specs.NamedAreas.{AreNames, name_cmp, names_on_sheet, target_on_sheet, with_name, without_name}
use Rattle.calc_model.specs.Tokens.{has_no_small_letter, is_name}
use Rattle.calc_model.proofs.Areas.{both_true}
use Rattle.calc_model.proofs.CapitalNames.{capitals, name_in_capitals}
use Rattle.calc_model.proofs.EntriesKept.{all-inserted, all-removed, both_so, length-removed, sorted-inserted, sorted-mapped, sorted-removed}

-- what a name in capitals can be
abbrev is_key : List ℕ → Bool
is_key key = is_name key && has_no_small_letter key

module _ (entries : NameEntries) (are : AreNames entries) where
  pub with_name_kept : (name : List ℕ) (area : Rectangle) → is_name name ≡ true → is_rectangle area ≡ true → length (with_name entries name area) ≤ MOST_NAMES → AreNames (with_name entries name area)
  with_name_kept name area spelled inside few = record {
    in_order = sorted-inserted name_cmp nat_list_cmp_total (str_to_ascii_uppercase name) (Some area) entries are.in_order;
    spelled = all-inserted name_cmp is_key is_target (str_to_ascii_uppercase name) (Some area) entries (both_so _ _ (name_in_capitals name spelled) (capitals name)) inside are.spelled;
    in_limit = few;
  }

  pub without_name_kept : (name : List ℕ) → AreNames (without_name entries name)
  without_name_kept name = record {
    in_order = sorted-removed name_cmp (is_at (name_cmp (str_to_ascii_uppercase name))) entries are.in_order;
    spelled = all-removed (is_at (name_cmp (str_to_ascii_uppercase name))) is_name_entry entries are.spelled;
    in_limit = omega (arith, length-removed (is_at (name_cmp (str_to_ascii_uppercase name))) entries, are.in_limit);
  }

module _ (sheet : ℕ) (change : Rectangle → Option Rectangle) (keeps : (a : Rectangle) → is_rectangle a ≡ true → is_target (change a) ≡ true) where
  target_kept : (target : Target) → is_target target ≡ true → is_target (target_on_sheet sheet change target) ≡ true
  target_kept None is = refl
  target_kept (Some area) is =
      elim (area.sheet == sheet) as (λ b. is_target (cond b (change area) (Some area)) ≡ true) [
        | true ↦ keeps area is
        | false ↦ is
      ]

  all_kept : (entries : NameEntries) → list_all is_name_entry entries ≡ true → list_all is_name_entry (names_on_sheet sheet change entries) ≡ true
  all_kept [] h = refl
  all_kept (e ∷ es) h =
      let parts = both_true (is_name_entry e) (list_all is_name_entry es) h in
      let first = both_true (is_key e.0) (is_target e.1) parts.0 in
      both_so _ _ (both_so _ _ first.0 (target_kept e.1 first.1)) (all_kept es parts.1)

  pub on_sheet_kept : (entries : NameEntries) → AreNames entries → AreNames (names_on_sheet sheet change entries)
  on_sheet_kept entries are = record {
    in_order = sorted-mapped name_cmp (target_on_sheet sheet change) entries ∙ are.in_order;
    spelled = all_kept entries are.spelled;
    in_limit = omega (arith, length-map {B = List ℕ × Target} entries (λ e. (e.0, target_on_sheet sheet change e.1)), are.in_limit);
  }
