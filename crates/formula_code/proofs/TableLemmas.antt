-- Tables of codes: a number that is listed stands at a place of its list; the tree of an interned code.
use Rattle.std.proofs.Common.{◌≡◌, ◌≢◌, ◌<◌, Option, Some, IsSome, ◌||◌, Bool, false, refl, subst, ℕ, suc, true, List, [], ◌∷◌, length, get_or, nat_eq, ⊎_elim, sym, ap, ◌∙◌, arith}
use Rattle.std.proofs.lemmas.Bool.{cases_Bool, cases_eq, eq-eqb, eqb-true}
use Rattle.std.proofs.lemmas.List.Folds.{list_any-append}
use Rattle.std.specs.Option.{option_map_or}
use Rattle.calc_addr.specs.Places.{Place, IsPlace}
use Rattle.calc_model.specs.declared.fault.Fault.TheVariants.{Syntax}
use Rattle.calc_model.specs.declared.tree.Tree.{Tree}
use Rattle.calc_model.specs.declared.tree.Tree.TheVariants as t
use Rattle.formula_code.specs.Codes.{Changes, Code, Codes, HasForm, IsInterned, IsLive, form_at, has_valid_references, tree_at, used_again, uses_at}
use Rattle.formula_code.specs.Relative.{absolute, relative}
use Rattle.calc_model.specs.Formed.{is_formed}
use Rattle.formula_code.proofs.Forms.{formed_is_valid}
use Rattle.formula_code.proofs.Distances.{tree_back}
use Rattle.formula_code.specs.declared.index.Index.{Index}
use Rattle.formula_code.specs.Digests.{form_digest}
use Rattle.formula_code.specs.Listed.{Adds, has_id, ids_under}
use Rattle.formula_code.specs.Table.{IsTable}

pub record StandsIn (ids : List ℕ) (id : ℕ) : Type 0 where
  pub place : ℕ
  pub inside : place < length ids
  pub is : get_or ids place 0 ≡ id

later : (first : ℕ) (ids : List ℕ) (id : ℕ) → StandsIn ids id → StandsIn (first ∷ ids) id
later first ids id at = record { place = suc at.place; inside = omega (arith, at.inside); is = at.is }

pub stands_in : (ids : List ℕ) (id : ℕ) → has_id ids id ≡ true → StandsIn ids id
stands_in [] id has = cc
stands_in (first ∷ ids) id has = ⊎_elim
    (λ here. record { place = 0; inside = omega arith; is = sym (eqb-true id first here) })
    (λ not_here. later first ids id (stands_in ids id (rw not_here at has)))
    (cases_Bool (nat_eq id first))

abbrev form_of_slot : Option Code → Tree
form_of_slot o = option_map_or (λ (code : Code). code.form) o (t.Bad Syntax)

abbrev uses_of_slot : Option Code → ℕ
uses_of_slot o = option_map_or (λ (code : Code). code.uses) o 0

-- the code that a tree was interned as has it at its home
interned_tree : (old new : Codes) (id : ℕ) (home : Place) (x form : Tree) → IsPlace home → Changes old new id (used_again old id form) → form ≡ relative home x → tree_at new id home ≡ x
interned_tree old new id home x form lies changes is =
    ap (λ o. absolute home (form_of_slot o)) changes.changed
    ∙ ap (absolute home) is
    ∙ tree_back home x lies

-- a number that stood under a digest still does
still_there : (index after : Index) (digest id other_digest other : ℕ) → Adds index after digest id → has_id (ids_under index other_digest) other ≡ true → has_id (ids_under after other_digest) other ≡ true
still_there index after digest id other_digest other adds has = ⊎_elim
    (λ same.
    let there : has_id (ids_under index digest) other ≡ true = ap (λ d. has_id (ids_under index d) other) (sym same) ∙ has in
    ap (λ d. has_id (ids_under after d) other) same
    ∙ ap (λ ids. has_id ids other) adds.added
    ∙ list_any-append (nat_eq other) (ids_under index digest) (id ∷ [])
    ∙ ap (λ b. b || has_id (id ∷ []) other) there)
    (λ differs. ap (λ ids. has_id ids other) (adds.others other_digest differs) ∙ has)
    (cases_eq other_digest digest)

or_true : (b : Bool) → (b || true) ≡ true
or_true true = refl
or_true false = refl

now_there : (index after : Index) (digest id : ℕ) → Adds index after digest id → has_id (ids_under after digest) id ≡ true
now_there index after digest id adds =
    ap (λ ids. has_id ids id) adds.added
    ∙ list_any-append (nat_eq id) (ids_under index digest) (id ∷ [])
    ∙ ap (λ b. has_id (ids_under index digest) id || (b || false)) (eq-eqb id id refl)
    ∙ or_true (has_id (ids_under index digest) id)

-- a table with one code more, whose form it didn't have
pub added_table : (codes after : Codes) (index indexed : Index) (digest id : ℕ) (form : Tree) → IsTable codes index → Changes codes after id (Some (record { form = form; uses = 1 })) → Adds index indexed digest id → digest ≡ form_digest form → ((other : ℕ) → HasForm codes other form → ⊥) → IsTable after indexed
added_table codes after index indexed digest id form table changes adds digested missing =
    let formed : form_at after id ≡ form = ap form_of_slot changes.changed in
    let used : uses_at after id ≡ 1 = ap uses_of_slot changes.changed in
    let live : (other : ℕ) → other ≢ id → IsLive after other → IsLive codes other = λ other differs is. subst IsSome (changes.others other differs) is in
    let same : (other : ℕ) → other ≢ id → form_at after other ≡ form_at codes other = λ other differs. ap form_of_slot (changes.others other differs) in
    record {
      indexed = λ other is. ⊎_elim
          (λ own.
          let listed : form_digest (form_at after other) ≡ digest = ap (λ n. form_digest (form_at after n)) own ∙ ap form_digest formed ∙ sym digested in
          ap (λ d. has_id (ids_under indexed d) other) listed ∙ ap (has_id (ids_under indexed digest)) own ∙ now_there index indexed digest id adds)
          (λ differs.
          ap (λ f. has_id (ids_under indexed (form_digest f)) other) (same other differs)
          ∙ still_there index indexed digest id (form_digest (form_at codes other)) other adds (table.indexed other (live other differs is)))
          (cases_eq other id);
      apart = λ one other live_one live_other alike. ⊎_elim
          (λ own. ⊎_elim (λ too. own ∙ sym too) (λ differs. absurd (missing other (record { live = live other differs live_other; same = sym (same other differs) ∙ sym alike ∙ ap (form_at after) own ∙ formed }))) (cases_eq other id))
          (λ differs. ⊎_elim (λ own. absurd (missing one (record { live = live one differs live_one; same = sym (same one differs) ∙ alike ∙ ap (form_at after) own ∙ formed }))) (λ too. table.apart one other (live one differs live_one) (live other too live_other) (sym (same one differs) ∙ alike ∙ same other too)) (cases_eq other id))
          (cases_eq one id);
      used = λ other is. ⊎_elim
          (λ own. subst (λ n. 0 < n) (sym (ap (uses_at after) own ∙ used)) (omega arith))
          (λ differs. subst (λ n. 0 < n) (sym (ap uses_of_slot (changes.others other differs))) (table.used other (live other differs is)))
          (cases_eq other id);
    }

pub interned : (old new : Codes) (id : ℕ) (home : Place) (x form : Tree) → IsPlace home → is_formed x ≡ true → Changes old new id (used_again old id form) → form ≡ relative home x → (IsLive old id → form_at old id ≡ relative home x) → IsInterned old new home x id
interned old new id home x form lies formed changes is kept = record {
  changes = subst (λ f. Changes old new id (used_again old id f)) is changes;
  kept = kept;
  tree_back = interned_tree old new id home x form lies changes is;
  at_home = record {
    live = subst IsSome (sym changes.changed) refl;
    valid = ap has_valid_references (interned_tree old new id home x form lies changes is) ∙ formed_is_valid x formed;
  };
}
