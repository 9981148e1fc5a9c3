-- The uses of codes as slots come and go.
use Rattle.std.proofs.Common.{◌≡◌, ℕ, ◌+◌, ◌-◌, ◌≤◌, ◌==◌, true, false, cond, [], ◌∷◌, Option, Some, None, unwrap_or, refl, sym, ap, subst, ◌∙◌, arith}
use Rattle.std.specs.Prelude.{IsSome, replicate, sum_by}
use Rattle.std.proofs.lemmas.List.Folds.{sum_by-replicate}
use Rattle.std.proofs.lemmas.Bool.Decides.{Decides-eqb, nat_tests}
use Rattle.calc_addr.specs.Places.{Place}
use Rattle.calc_model.specs.declared.tree.Tree.{Tree}
use Rattle.std.specs.Option.{option_map_or}
use Rattle.calc_model.specs.declared.content.Content.TheVariants.{Constant, Formula}
use Rattle.calc_model.specs.declared.tree.Tree.TheVariants.{Bad}
use Rattle.calc_model.specs.declared.fault.Fault.TheVariants.{Syntax}
use Rattle.calc_model.specs.declared.value.Value.{Value}
use Rattle.calc_model.specs.Formed.{is_formed}
use Rattle.formula_code.specs.Codes.{Changes, Code, Codes, IsCodeAt, IsInterned, IsLive, code_at, form_at, slot_uses, used_again, uses_at, with_uses}
use Rattle.formula_code.specs.Relative.{relative}
use Rattle.formula_code.proofs.Totals.{uses_changed}
use Rattle.block_column.specs.declared.slot.Slot.{Slot}
use Rattle.block_column.specs.declared.slot.Slot.TheVariants as slot
use Rattle.cell_columns.specs.Taken.{AreFreed, AreReturned, AreTaken, IsConstantSlot, IsSlotOf, IsTaken, KeepsForms}
use Rattle.cell_columns.specs.Uses.{code_in, formula_of, use_of}
use Rattle.cell_columns.proofs.Edited.{live}
use Rattle.cell_columns.proofs.PutSlot.{unequal}

pub use_itself : (id : ℕ) → use_of id (slot.Formula id) ≡ 1
use_itself id = grind (arith, nat_tests)

pub use_other : (i id : ℕ) → (i == id) ≡ false → use_of i (slot.Formula id) ≡ 0
use_other i id other = ap (λ b. cond b 1 0) other

single : (f : Slot → ℕ) (x : Slot) → sum_by f (x ∷ []) ≡ f x
single f x = omega arith

same_id : (x y : ℕ) → Some x ≡ Some y → x ≡ y
same_id x y h = ap (λ o. unwrap_or o x) h

pub uses_left : (form : Tree) (n : ℕ) → slot_uses (with_uses form n) ≡ n
uses_left form n =
    elim (n == 0) as (λ b. (n == 0) ≡ b → slot_uses (cond b None (Some (record { form = form; uses = n }))) ≡ n) [
      | true ↦ λ h. sym ((Decides-eqb n 0).0 h)
      | false ↦ λ _. refl
    ] refl

abbrev pub nothing : Option Code
nothing = None

no_code : IsSome nothing → ⊥
no_code h = cc

abbrev pub form_of : Option Code → Tree
form_of o = option_map_or (λ (code : Code). code.form) o (Bad Syntax)

pub form_left : (codes : Codes) (id n : ℕ) (form : Tree) → code_at codes id ≡ with_uses form n → IsLive codes id → form_at codes id ≡ form
form_left codes id n form is now =
    let kept : Option Code = Some (record { form = form; uses = n }) in
    ap form_of is
    ∙ elim (n == 0) as (λ b. IsSome (cond b nothing kept) → form_of (cond b nothing kept) ≡ form) [
      | true ↦ λ (some : IsSome nothing). absurd (no_code some)
      | false ↦ λ some. refl
    ] (subst IsSome is now)

module _ (old new : Codes) (id n : ℕ) (was : IsLive old id) (some : n ≤ uses_at old id) (changes : Changes old new id (with_uses (form_at old id) (uses_at old id - n))) where
  fewer : (i : ℕ) → uses_at new i + cond (i == id) n 0 ≡ uses_at old i
  fewer i =
      elim (i == id) as (λ b. (i == id) ≡ b → uses_at new i + cond b n 0 ≡ uses_at old i) [
        | true ↦ λ same.
            subst (λ k. uses_at new k + n ≡ uses_at old k) (sym ((Decides-eqb i id).0 same))
            (omega (arith, some, ap slot_uses changes.changed ∙ uses_left (form_at old id) (uses_at old id - n)))
        | false ↦ λ other. omega (arith, ap slot_uses (changes.others i (unequal i id other)))
      ] refl

  was_live : (i : ℕ) → IsLive new i → IsLive old i
  was_live i now =
      elim (i == id) as (λ b. (i == id) ≡ b → IsLive old i) [
        | true ↦ λ same. subst (IsLive old) (sym ((Decides-eqb i id).0 same)) was
        | false ↦ λ other. subst IsSome (changes.others i (unequal i id other)) now
      ] refl

  forms_stay : KeepsForms old new
  forms_stay i before now =
      elim (i == id) as (λ b. (i == id) ≡ b → form_at new i ≡ form_at old i) [
        | true ↦ λ same.
            subst (λ k. IsLive new k → form_at new k ≡ form_at old k) (sym ((Decides-eqb i id).0 same)) (form_left new id (uses_at old id - n) (form_at old id) changes.changed) now
        | false ↦ λ other. ap form_of (changes.others i (unequal i id other))
      ] refl

  -- so many uses of one code go
  pub freed_uses : AreFreed old new (λ i. cond (i == id) n 0) n
  freed_uses = record {
    uses = fewer;
    total = omega (arith, some, uses_changed old new id (with_uses (form_at old id) (uses_at old id - n)) changes, uses_left (form_at old id) (uses_at old id - n));
    live = was_live;
    forms = forms_stay;
  }

pub returned_one : (old new : Codes) (id : ℕ) → 1 ≤ uses_at old id → Changes old new id (with_uses (form_at old id) (uses_at old id - 1)) → (x : Slot) → code_in x ≡ Some id → AreReturned old new (x ∷ [])
returned_one old new id some changes slot.Empty is = cc
returned_one old new id some changes (slot.Number n) is = cc
returned_one old new id some changes (slot.Words text) is = cc
returned_one old new id some changes (slot.Bad fault) is = cc
returned_one old new id some changes (slot.Raw text) is = cc
returned_one old new id some changes (slot.Formula other) is =
    subst (λ i. AreReturned old new (slot.Formula i ∷ [])) (sym (same_id other id is))
    (let freed : AreFreed old new (λ i. cond (i == id) 1 0) 1 = freed_uses old new id 1 (live old id some) some changes in
    record { uses = λ i. omega (arith, freed.uses i, single (use_of i) (slot.Formula id)); total = omega (arith, freed.total); live = freed.live; forms = freed.forms })

pub taken_none : (codes : Codes) (x : Slot) → code_in x ≡ None → IsTaken codes codes x
taken_none codes slot.Empty is = record { uses = λ i. omega arith; total = omega arith; live = λ i now. now; forms = λ i was now. refl }
taken_none codes (slot.Number n) is = record { uses = λ i. omega arith; total = omega arith; live = λ i now. now; forms = λ i was now. refl }
taken_none codes (slot.Words text) is = record { uses = λ i. omega arith; total = omega arith; live = λ i now. now; forms = λ i was now. refl }
taken_none codes (slot.Bad fault) is = record { uses = λ i. omega arith; total = omega arith; live = λ i now. now; forms = λ i was now. refl }
taken_none codes (slot.Raw text) is = record { uses = λ i. omega arith; total = omega arith; live = λ i now. now; forms = λ i was now. refl }
taken_none codes (slot.Formula id) is = cc

module _ (old new : Codes) (home : Place) (tree : Tree) (id : ℕ) (interned : IsInterned old new home tree id) where
  code : Option Code
  code = used_again old id (relative home tree)

  more : (i : ℕ) → uses_at new i ≡ uses_at old i + use_of i (slot.Formula id)
  more i =
      elim (i == id) as (λ b. (i == id) ≡ b → uses_at new i ≡ uses_at old i + use_of i (slot.Formula id)) [
        | true ↦ λ same.
            let is : i ≡ id = (Decides-eqb i id).0 same in
            subst (λ n. uses_at new n ≡ uses_at old n + use_of n (slot.Formula id)) (sym is) (omega (arith, use_itself id, ap slot_uses interned.changes.changed))
        | false ↦ λ other. omega (arith, use_other i id other, ap slot_uses (interned.changes.others i (unequal i id other)))
      ] refl

  stays_live : (i : ℕ) → IsLive old i → IsLive new i
  stays_live i was =
      elim (i == id) as (λ b. (i == id) ≡ b → IsLive new i) [
        | true ↦ λ same. subst (IsLive new) (sym ((Decides-eqb i id).0 same)) interned.at_home.live
        | false ↦ λ other. subst IsSome (sym (interned.changes.others i (unequal i id other))) was
      ] refl

  forms_same : KeepsForms old new
  forms_same i was now =
      elim (i == id) as (λ b. (i == id) ≡ b → form_at new i ≡ form_at old i) [
        | true ↦ λ same.
            subst (λ n. IsLive old n → form_at new n ≡ form_at old n) (sym ((Decides-eqb i id).0 same))
            (λ was. ap form_of interned.changes.changed ∙ sym (interned.kept was)) was
        | false ↦ λ other. ap form_of (interned.changes.others i (unequal i id other))
      ] refl

  taken_id : IsTaken old new (slot.Formula id)
  taken_id = record {
    uses = more;
    total = omega (arith, uses_changed old new id (used_again old id (relative home tree)) interned.changes);
    live = stays_live;
    forms = forms_same;
  }

  pub formula_slot : is_formed tree ≡ true → IsSlotOf old new home (Formula tree) (slot.Formula id)
  formula_slot formed = record {
    holds = ap Formula interned.tree_back;
    fit = λ _. formed;
    coded = λ other is. subst (λ i. IsCodeAt new i home) (same_code id other is) interned.at_home;
    taken = taken_id;
  }
    where
      same_code : (x y : ℕ) → slot.Formula x ≡ slot.Formula y → x ≡ y
      same_code x y h = same_id x y (ap code_in h)

pub constant_slot : (codes : Codes) (home : Place) (value : Value) (x : Slot) → IsConstantSlot value x → IsSlotOf codes codes home (Constant value) x
constant_slot codes home value x is = record {
  holds = is.holds codes home;
  fit = λ _. is.kind;
  coded = λ id formula. let none : Some id ≡ None = ap code_in (sym formula) ∙ is.without_code in cc;
  taken = taken_none codes x is.without_code;
}

-- empty slots use no code
pub taken_empty : (codes : Codes) (n : ℕ) → AreTaken codes codes (replicate n slot.Empty)
taken_empty codes n = record {
  uses = λ id. omega (arith, sum_by-replicate (use_of id) n slot.Empty);
  total = omega (arith, sum_by-replicate formula_of n slot.Empty);
  live = λ id now. now;
  forms = λ id was now. refl;
}

-- uses that go after others
pub freed_then : (a b c : Codes) (f g : ℕ → ℕ) (m n : ℕ) → AreFreed a b f m → AreFreed b c g n → AreFreed a c (λ id. f id + g id) (m + n)
freed_then a b c f g m n first next = record {
  uses = λ id. omega (arith, first.uses id, next.uses id);
  total = omega (arith, first.total, next.total);
  live = λ id now. first.live id (next.live id now);
  forms = λ id was now. next.forms id (next.live id now) now ∙ first.forms id was (next.live id now);
}
