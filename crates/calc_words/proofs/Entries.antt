-- What a parse gives of an argument that has an entry.
use Rattle.std.proofs.Common.{◌≡◌, ◌∙◌, ◌<◌, ◌≤◌, ℕ, Bool, true, false, zero, suc, List, [], ◌∷◌, length, Some, None, refl, sym, subst, ap, inl, inr, arith}
use Rattle.std.specs.List.{All, find, slice_index_or}
use Rattle.std.specs.Prelude.{option_and_then, option_map, slice_get}
use Rattle.std.specs.Borrow.{Bor}
use Rattle.std.specs.Str.{bytes_eq}
use Rattle.std.proofs.lemmas.Slice.Eq.{bytes_eq-Decides}
use Rattle.clap.specs.Facts.{Entry, EntryPasses, HasIn, least_values, groups_of, PassesArg, parser_of, parser_of_value}
use Rattle.clap.specs.Matches.{one_text}
use Rattle.clap.specs.Values.{Accepts, read_as, reading_of}
use Rattle.clap.specs.declared.builder.action.ArgAction.TheVariants.{Count, Set}
use Rattle.clap.specs.declared.builder.arg.Arg.{Arg}
use Rattle.clap.specs.declared.builder.command.Command.{Command}
use Rattle.clap.specs.declared.builder.value_parser.ValueParser.{ValueParser}
use Rattle.clap.specs.declared.parser.matches.Found.{Found}
use Rattle.clap.specs.Facts.{args_of}

-- the first entry of an id, where there is one
found_entry : (P : Entry → Type 0) (entries : List Entry) (id : List ℕ) → All P entries → HasIn entries id
    → (e : Entry) × (find (λ e. bytes_eq e.0.now id) entries ≡ Some e) × (e.0.now ≡ id) × P e
found_entry P [] id all has = absurd (omega (arith, has.1))
found_entry P (x ∷ xs) id all has =
    go (bytes_eq x.0.now id) refl has (λ rest. found_entry P xs id (λ k d below. all (suc k) d (omega arith)) rest)
  where
    go : (t : Bool) → bytes_eq x.0.now id ≡ t → HasIn (x ∷ xs) id
        → (HasIn xs id → (e : Entry) × (find (λ e. bytes_eq e.0.now id) xs ≡ Some e) × (e.0.now ≡ id) × P e)
        → (e : Entry) × (find (λ e. bytes_eq e.0.now id) (x ∷ xs) ≡ Some e) × (e.0.now ≡ id) × P e
    go true t h later = (x, rw t refl, (bytes_eq-Decides x.0.now id).0 t, all 0 x (omega arith))
    go false t (zero, lt, same) later =
        let bad : false ≡ true = sym t ∙ same x in
        cc
    go false t (suc i, lt, same) later =
        let rest = later (i, omega arith, same) in
        (rest.0, rw t rest.1, rest.2, rest.3)

-- what is asked of each argument of that id in the built command
pub record Takes (q : ValueParser) (arg : Arg) : Type 0 where
  pub action : arg.action ≡ Some Set
  pub whole : arg.val_delim ≡ None
  pub least : 1 ≤ least_values arg
  pub parser : arg.value_parser ≡ Some q

-- each argument of that id in the command takes values by that parser
abbrev pub AllTake : Command → List ℕ → ValueParser → Type 0
AllTake c id q = (k : ℕ) (arg : Arg) → k < length (args_of c) → slice_index_or (args_of c) k arg ≡ arg
    → bytes_eq arg.id.now id ≡ true → Takes q arg

module _ (c : Command) (q : ValueParser) (e : Entry) (takes : AllTake c e.0.now q) (no_group : e.1.is_group ≡ true → ⊥) (passes : EntryPasses c e) where
  is_filled : 0 < length e.1.vals.items
  is_filled = elim passes.1 [
    | inl h ↦ absurd (no_group h.0)
    | inr (inl some) ↦ some
    | inr (inr (inl h)) ↦
        let of = takes h.1.0 h.1.1 h.1.2 h.1.3 h.1.4.0 in
        let bad : Set ≡ Count = rw of.action at h.1.4.1 in
        cc
    | inr (inr (inr h)) ↦
        let of = takes h.0 h.1 h.2 h.3 h.4.0 in
        elim h.4.1 [
          | inl none ↦ absurd (omega (arith, none, of.least))
          | inr cut ↦
              let bad : false ≡ true = rw of.whole at cut in
              cc
        ]
  ]

  reading : e.1.reading ≡ reading_of q
  reading = elim passes.4 [
    | inl g ↦ absurd (no_group g)
    | inr h ↦ sym h.4.1 ∙ ap (λ p. reading_of (parser_of_value p)) (takes h.0 h.1 h.2 h.3 h.4.0).parser
  ]

  all_pass : All (λ v. PassesArg c e.0.now v.now) e.1.vals.items
  all_pass = elim passes.0 [ inl g ↦ absurd (no_group g) | inr h ↦ h ]

  accepted : (t : List ℕ) → PassesArg c e.0.now t → (b : Bool) × Accepts b q t
  accepted t h =
      let is_q : parser_of h.1 ≡ q = ap parser_of_value (takes h.0 h.1 h.2 h.3 h.4.0).parser in
      (h.1.ignore_case, subst (λ p. Accepts h.1.ignore_case p t) is_q h.4.1)

  first_passes : (vs : List (Bor (List ℕ))) → 0 < length vs → All (λ v. PassesArg c e.0.now v.now) vs
      → (t : List ℕ) × (option_map (λ s. read_as e.1.reading s.now) (slice_get vs 0) ≡ Some (read_as (reading_of q) t)) × ((b : Bool) × Accepts b q t)
  first_passes [] lt all = absurd (omega arith)
  first_passes (v ∷ vs) lt all = (v.now, ap (λ r. Some (read_as r v.now)) reading, accepted v.now (all 0 v (omega arith)))

  pub entry_text : (t : List ℕ) × (option_map (λ s. read_as e.1.reading s.now) (slice_get e.1.vals.items 0) ≡ Some (read_as (reading_of q) t)) × ((b : Bool) × Accepts b q t)
  entry_text = first_passes e.1.vals.items is_filled all_pass

-- where an id has an entry, its arguments take values by that parser and there are no groups, it has a value
-- that passed the parser
pub entry_value : (c : Command) (f : Found) (id : List ℕ) (q : ValueParser) → All (EntryPasses c) f.entries.items
    → HasIn f.entries.items id → groups_of c ≡ [] → (id ≡ [] → ⊥) → AllTake c id q
    → (t : List ℕ) × (one_text f id ≡ Some (read_as (reading_of q) t)) × ((b : Bool) × Accepts b q t)
entry_value c f id q all has ungrouped named takes =
    let found = found_entry (EntryPasses c) f.entries.items id all has in
    let e = found.0 in
    let no_group : e.1.is_group ≡ true → ⊥ = λ g. elim (found.3.3 g) [
      | inl empty ↦ named (sym found.2 ∙ empty)
      | inr lots ↦
          let bad : 0 < 0 = rw ungrouped at lots in
          absurd (omega arith)
    ] in
    let value = entry_text c q e (subst (λ t. AllTake c t q) (sym found.2) takes) no_group found.3 in
    (value.0, ap (λ o. option_and_then (λ a. option_map (λ s. read_as a.reading s.now) (slice_get a.vals.items 0)) (option_map (λ x. x.1) o)) found.1 ∙ value.1, value.2)
