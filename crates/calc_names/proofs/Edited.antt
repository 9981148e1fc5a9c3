-- Entries that are kept, under edits of them: what is seen changes as a book's names do, and they stay such.
use Rattle.std.proofs.Common.{◌≡◌, ℕ, ◌+◌, ◌≤◌, ◌≢◌, true, false, cond, List, [], ◌∷◌, length, set, Option, Some, None, refl, sym, ap, subst, ◌∙◌, arith}
use Rattle.std.specs.Prelude.{◌==◌}
use Rattle.std.specs.List.{insert, remove}
use Rattle.std.specs.BTreeMap.{insert_entry, is_at}
use Rattle.std.specs.Map.{remove_entry}
use Rattle.std.specs.Str.{str_to_ascii_uppercase}
use Rattle.std.proofs.lemmas.Bool.Decides.{leb_tells}
use Rattle.std.proofs.lemmas.Cmp.{nat_list_cmp_total}
use Rattle.std.proofs.lemmas.List.Edits.{length-insert}
use Rattle.std.proofs.Math.ListN.{length-set}
use Rattle.calc_addr.specs.Places.{IsRectangle, Rectangle}
use Rattle.calc_addr.specs.Shifts.{area_after_deletion, area_after_insertion}
use Rattle.calc_addr.specs.ValidReferences.{is_rectangle}
use Rattle.calc_addr.proofs.Shifting.ShiftLaws.{IsRectangle-deletion, IsRectangle-insertion}
use Rattle.calc_model.specs.declared.limits.TheConstants.{MOST_NAMES}
use Rattle.calc_model.specs.Books.{NameEntries, Target, is_target}
use Rattle.calc_model.specs.NamedAreas.{AreNames, name_cmp, names_after_deletion, names_after_insertion, names_on_sheet, target_on_sheet, with_name, without_name}
use Rattle.calc_model.specs.Tokens.{is_name}
use Rattle.calc_model.specs.declared.looked.Looked.{Looked}
use Rattle.calc_model.specs.declared.looked.Looked.TheVariants.{Absent, Gone, At}
use Rattle.calc_model.proofs.NamesKept.{on_sheet_kept, with_name_kept, without_name_kept}
use Rattle.calc_names.specs.LookUps.{answer_of, with_answers}
use Rattle.calc_names.specs.Kept.{AreKept, GoesTo, KeptEntries, StandsAt, answer_on_sheet, kept_on_sheet, seen_entries, target_of}
use Rattle.calc_names.proofs.Seen.{length-seen}
use Rattle.calc_names.proofs.Sorted.{insert_new, insert_over, remove_at}
use Rattle.calc_names.proofs.Valued.{valued-insert, valued-remove}

module _ (kept : KeptEntries) (are : AreKept kept) (name : List ℕ) where
  -- the name gets an area
  abbrev named : Rectangle → KeptEntries
  named area = insert_entry name_cmp kept (str_to_ascii_uppercase name) (At area)

  seen-named : (area : Rectangle) → seen_entries (named area) ≡ with_name (seen_entries kept) name area
  seen-named area = valued-insert name_cmp target_of (str_to_ascii_uppercase name) (At area) kept

  length-named : (area : Rectangle) → length (with_name (seen_entries kept) name area) ≡ length (named area)
  length-named area = ap length (sym (seen-named area)) ∙ length-seen (named area)

  named_kept : (area : Rectangle) → is_name name ≡ true → is_rectangle area ≡ true → length (named area) ≤ MOST_NAMES → AreKept (named area)
  named_kept area spelled inside few = record {
    names = subst AreNames (sym (seen-named area)) (with_name_kept (seen_entries kept) are.names name area spelled inside (omega (arith, length-named area)));
    answers = ap (λ es. insert_entry name_cmp es (str_to_ascii_uppercase name) (At area)) are.answers
        ∙ sym (valued-insert name_cmp answer_of (str_to_ascii_uppercase name) (Some area) (seen_entries kept))
        ∙ ap with_answers (sym (seen-named area));
  }

  -- where it stands
  module _ (at : ℕ) (stands : StandsAt kept (str_to_ascii_uppercase name) at) (area : Rectangle) where
    over : named area ≡ set kept at (str_to_ascii_uppercase name, At area)
    over = insert_over nat_list_cmp_total kept (str_to_ascii_uppercase name) (At area) at ([], Absent) stands.smaller stands.within stands.is

    pub seen_over : (after : KeptEntries) → after ≡ set kept at (str_to_ascii_uppercase name, At area) → seen_entries after ≡ with_name (seen_entries kept) name area
    seen_over after is = ap seen_entries (is ∙ sym over) ∙ seen-named area

    pub kept_over : (after : KeptEntries) → after ≡ set kept at (str_to_ascii_uppercase name, At area) → is_name name ≡ true → is_rectangle area ≡ true → AreKept after
    kept_over after is spelled inside =
        let long : length (named area) ≡ length kept = ap length over ∙ length-set kept at (str_to_ascii_uppercase name, At area) in
        subst AreKept (over ∙ sym is) (named_kept area spelled inside (omega (arith, length-seen kept, are.names.in_limit)))

  -- where it is to be put
  module _ (at : ℕ) (goes : GoesTo kept (str_to_ascii_uppercase name) at) (area : Rectangle) where
    new : named area ≡ insert kept at (str_to_ascii_uppercase name, At area)
    new = insert_new nat_list_cmp_total kept (str_to_ascii_uppercase name) (At area) at ([], Absent) goes.smaller goes.within (λ more. goes.greater at (omega arith) more)

    pub seen_new : (after : KeptEntries) → after ≡ insert kept at (str_to_ascii_uppercase name, At area) → seen_entries after ≡ with_name (seen_entries kept) name area
    seen_new after is = ap seen_entries (is ∙ sym new) ∙ seen-named area

    pub kept_new : (after : KeptEntries) → after ≡ insert kept at (str_to_ascii_uppercase name, At area) → is_name name ≡ true → is_rectangle area ≡ true → length kept ≢ MOST_NAMES → AreKept after
    kept_new after is spelled inside room =
        let long : length (named area) ≡ length kept + 1 = ap length new ∙ length-insert kept at (str_to_ascii_uppercase name, At area) goes.within in
        subst AreKept (new ∙ sym is) (named_kept area spelled inside (omega (arith, length-seen kept, are.names.in_limit)))

  -- the name goes
  module _ (at : ℕ) (stands : StandsAt kept (str_to_ascii_uppercase name) at) where
    gone : remove_entry (is_at (name_cmp (str_to_ascii_uppercase name))) kept ≡ remove kept at
    gone = remove_at nat_list_cmp_total kept (str_to_ascii_uppercase name) at ([], Absent) stands.smaller stands.within stands.is

    pub seen_gone : (after : KeptEntries) → after ≡ remove kept at → seen_entries after ≡ without_name (seen_entries kept) name
    seen_gone after is = ap seen_entries (is ∙ sym gone) ∙ valued-remove name_cmp target_of (str_to_ascii_uppercase name) kept

    pub kept_gone : (after : KeptEntries) → after ≡ remove kept at → AreKept after
    kept_gone after is = record {
      names = subst AreNames (sym (seen_gone after is)) (without_name_kept (seen_entries kept) are.names name);
      answers = is ∙ sym gone
          ∙ ap (remove_entry (is_at (name_cmp (str_to_ascii_uppercase name)))) are.answers
          ∙ sym (valued-remove name_cmp answer_of (str_to_ascii_uppercase name) (seen_entries kept))
          ∙ ap with_answers (sym (seen_gone after is));
    }

module _ (sheet : ℕ) (change : Rectangle → Option Rectangle) where
  target_after : (answer : Looked) → target_of (answer_on_sheet sheet change answer) ≡ target_on_sheet sheet change (target_of answer)
  target_after Absent = refl
  target_after Gone = refl
  target_after (At area) =
      elim (area.sheet == sheet) as (λ b. target_of (cond b (answer_of (change area)) (At area)) ≡ cond b (change area) (Some area)) [
        | true ↦ target_of_answer (change area)
        | false ↦ refl
      ]
    where
      target_of_answer : (target : Target) → target_of (answer_of target) ≡ target
      target_of_answer None = refl
      target_of_answer (Some area) = refl

  answer_after : (target : Target) → answer_on_sheet sheet change (answer_of target) ≡ answer_of (target_on_sheet sheet change target)
  answer_after None = refl
  answer_after (Some area) =
      elim (area.sheet == sheet) as (λ b. cond b (answer_of (change area)) (At area) ≡ answer_of (cond b (change area) (Some area))) [ true ↦ refl | false ↦ refl ]

  seen-on_sheet : (kept : KeptEntries) → seen_entries (kept_on_sheet sheet change kept) ≡ names_on_sheet sheet change (seen_entries kept)
  seen-on_sheet [] = refl
  seen-on_sheet (e ∷ es) = ap (λ t. (e.0, t) ∷ seen_entries (kept_on_sheet sheet change es)) (target_after e.1) ∙ ap (λ rest. (e.0, target_on_sheet sheet change (target_of e.1)) ∷ rest) (seen-on_sheet es)

  kept-on_sheet : (entries : NameEntries) → kept_on_sheet sheet change (with_answers entries) ≡ with_answers (names_on_sheet sheet change entries)
  kept-on_sheet [] = refl
  kept-on_sheet (e ∷ es) = ap (λ a. (e.0, a) ∷ kept_on_sheet sheet change (with_answers es)) (answer_after e.1) ∙ ap (λ rest. (e.0, answer_of (target_on_sheet sheet change e.1)) ∷ rest) (kept-on_sheet es)

  -- the areas of a sheet change
  module _ (kept after : KeptEntries) (is : after ≡ kept_on_sheet sheet change kept) where
    seen_on_sheet : seen_entries after ≡ names_on_sheet sheet change (seen_entries kept)
    seen_on_sheet = ap seen_entries is ∙ seen-on_sheet kept

    kept_after : ((a : Rectangle) → is_rectangle a ≡ true → is_target (change a) ≡ true) → AreKept kept → AreKept after
    kept_after keeps are = record {
      names = subst AreNames (sym seen_on_sheet) (on_sheet_kept sheet change keeps (seen_entries kept) are.names);
      answers = is ∙ ap (kept_on_sheet sheet change) are.answers ∙ kept-on_sheet (seen_entries kept) ∙ ap with_answers (sym seen_on_sheet);
    }

rectangle_from : (a : Rectangle) → is_rectangle a ≡ true → IsRectangle a
rectangle_from a is = grind (arith, leb_tells)

tested_rectangle : (a : Rectangle) → IsRectangle a → is_rectangle a ≡ true
tested_rectangle a is = grind (arith, leb_tells)

-- what an area becomes lies in its sheet
target_lies : (target : Target) → ((b : Rectangle) → target ≡ Some b → IsRectangle b) → is_target target ≡ true
target_lies None lies = refl
target_lies (Some b) lies = tested_rectangle b (lies b refl)

module _ (sheet place count : ℕ) (kept after : KeptEntries) where
  pub seen_inserted : after ≡ kept_on_sheet sheet (area_after_insertion place count) kept → seen_entries after ≡ names_after_insertion sheet place count (seen_entries kept)
  seen_inserted is = seen_on_sheet sheet (area_after_insertion place count) kept after is

  pub kept_inserted : after ≡ kept_on_sheet sheet (area_after_insertion place count) kept → AreKept kept → AreKept after
  kept_inserted is are = kept_after sheet (area_after_insertion place count) kept after is (λ a lies. target_lies (area_after_insertion place count a) (λ b. IsRectangle-insertion place count a b (rectangle_from a lies))) are

  pub seen_deleted : after ≡ kept_on_sheet sheet (area_after_deletion place count) kept → seen_entries after ≡ names_after_deletion sheet place count (seen_entries kept)
  seen_deleted is = seen_on_sheet sheet (area_after_deletion place count) kept after is

  pub kept_deleted : 1 ≤ place → after ≡ kept_on_sheet sheet (area_after_deletion place count) kept → AreKept kept → AreKept after
  kept_deleted from is are = kept_after sheet (area_after_deletion place count) kept after is (λ a lies. target_lies (area_after_deletion place count a) (λ b. IsRectangle-deletion place count a b from (rectangle_from a lies))) are
