-- Uses of codes that are taken by copies of a slot, and the codes of its rows.
use Rattle.std.proofs.Common.{◌≡◌, ℕ, zero, suc, ◌+◌, ◌-◌, ◌*◌, ◌≤◌, ◌==◌, true, false, cond, List, ◌∷◌, ◌++◌, drop, take, Some, None, refl, sym, ap, subst, ◌∙◌, arith}
use Rattle.std.specs.Prelude.{IsSome, replicate, sum_by}
use Rattle.std.proofs.lemmas.Bool.Decides.{Decides-eqb}
use Rattle.std.proofs.lemmas.List.Folds.{sum_by-replicate}
use Rattle.std.proofs.lemmas.List.Sums.{sum_by-take-drop, sum_by-take-le}
use Rattle.run_tables.specs.Rows.{AreRows, rows_set}
use Rattle.formula_groups.specs.declared.group.Group.{Group}
use Rattle.formula_groups.specs.Groups.{groups_of}
use Rattle.cell_columns.specs.Freed.{formulas_among, uses_among}
use Rattle.cell_columns.proofs.Among.{formulas_alike, uses_alike}
use Rattle.formula_code.specs.Codes.{Changes, Codes, IsLive, form_at, slot_uses, uses_at, with_uses}
use Rattle.formula_code.proofs.Totals.{uses_changed}
use Rattle.calc_model.specs.declared.tree.Tree.{Tree}
use Rattle.block_column.specs.declared.slot.Slot.{Slot}
use Rattle.block_column.specs.declared.slot.Slot.TheVariants as slot
use Rattle.cell_columns.specs.Cells.{Column}
use Rattle.cell_columns.specs.Taken.{AreFreed, AreReturned, AreTaken}
use Rattle.cell_columns.specs.Uses.{code_in, codes_in, formula_of, use_of}
use Rattle.cell_columns.proofs.Clearing.{codes-append, codes-drop, codes-take}
use Rattle.cell_columns.proofs.PutSlot.{unequal}
use Rattle.cell_columns.proofs.Uses.{form_left, form_of, nothing, use_itself, use_other, uses_left}

some_left : (form : Tree) (n : ℕ) → 1 ≤ n → IsSome (with_uses form n)
some_left form n some =
    elim (n == 0) as (λ b. (n == 0) ≡ b → IsSome (cond b nothing (Some (record { form = form; uses = n })))) [
      | true ↦ λ h. absurd (omega (arith, some, (Decides-eqb n 0).0 h))
      | false ↦ λ _. search
    ] refl

module _ (old new : Codes) (id n : ℕ) (was : IsLive old id) (some : 1 ≤ n) (changes : Changes old new id (with_uses (form_at old id) (uses_at old id + n))) where
  more : (i : ℕ) → uses_at new i ≡ uses_at old i + sum_by (use_of i) (replicate n (slot.Formula id))
  more i =
      elim (i == id) as (λ b. (i == id) ≡ b → uses_at new i ≡ uses_at old i + sum_by (use_of i) (replicate n (slot.Formula id))) [
        | true ↦ λ same.
            subst (λ k. uses_at new k ≡ uses_at old k + sum_by (use_of k) (replicate n (slot.Formula id))) (sym ((Decides-eqb i id).0 same))
            (ap slot_uses changes.changed ∙ uses_left (form_at old id) (uses_at old id + n) ∙ ap (λ k. uses_at old id + k) (each_one ∙ sym (sum_by-replicate (use_of id) n (slot.Formula id))))
        | false ↦ λ other.
            ap slot_uses (changes.others i (unequal i id other)) ∙ none_more (uses_at old i) ∙ ap (λ k. uses_at old i + k) (no_one (use_other i id other) ∙ sym (sum_by-replicate (use_of i) n (slot.Formula id)))
      ] refl
    where
      each_one : n ≡ n * use_of id (slot.Formula id)
      each_one = once n ∙ ap (λ k. n * k) (sym (use_itself id))
        where
          once : (k : ℕ) → k ≡ k * 1
          once k = omega arith

      no_one : use_of i (slot.Formula id) ≡ 0 → 0 ≡ n * use_of i (slot.Formula id)
      no_one none = never n ∙ ap (λ k. n * k) (sym none)
        where
          never : (k : ℕ) → 0 ≡ k * 0
          never k = omega arith

      none_more : (k : ℕ) → k ≡ k + 0
      none_more k = omega arith

  stays_live : (i : ℕ) → IsLive old i → IsLive new i
  stays_live i live =
      elim (i == id) as (λ b. (i == id) ≡ b → IsLive new i) [
        | true ↦ λ same. subst (IsLive new) (sym ((Decides-eqb i id).0 same)) (subst IsSome (sym changes.changed) (some_left (form_at old id) (uses_at old id + n) (omega (arith, some))))
        | false ↦ λ other. subst IsSome (sym (changes.others i (unequal i id other))) live
      ] refl

  forms_stay : (i : ℕ) → IsLive old i → IsLive new i → form_at new i ≡ form_at old i
  forms_stay i before now =
      elim (i == id) as (λ b. (i == id) ≡ b → form_at new i ≡ form_at old i) [
        | true ↦ λ same.
            subst (λ k. IsLive new k → form_at new k ≡ form_at old k) (sym ((Decides-eqb i id).0 same)) (form_left new id (uses_at old id + n) (form_at old id) changes.changed) now
        | false ↦ λ other. ap form_of (changes.others i (unequal i id other))
      ] refl

  pub taken_many : AreTaken old new (replicate n (slot.Formula id))
  taken_many = record {
    uses = more;
    total = omega (arith, uses_changed old new id (with_uses (form_at old id) (uses_at old id + n)) changes, uses_left (form_at old id) (uses_at old id + n), sum_by-replicate formula_of n (slot.Formula id));
    live = stays_live;
    forms = forms_stay;
  }

codes-replicate : (n : ℕ) (x : Slot) → codes_in (replicate n x) ≡ replicate n (code_in x)
codes-replicate zero x = refl
codes-replicate (suc n) x = ap (λ t. code_in x ∷ t) (codes-replicate n x)

module _ (c : Column) (gs : List Group) (are : gs ≡ groups_of (codes_in c)) (first last : ℕ) (rows : AreRows first last) where
  -- the uses by groups are there
  pub uses_enough : (old between : Codes) (taken : Column) → AreTaken old between taken → ((id : ℕ) → sum_by (use_of id) c ≤ uses_at old id) → (id : ℕ) → uses_among id first last gs ≤ uses_at between id
  uses_enough old between taken more there id =
      omega (
        arith,
        ap (uses_among id first last) are ∙ uses_alike id first last c rows.from rows.in_order,
        sum_by-take-le (use_of id) (drop (first - 1) c) (last + 1 - first),
        sum_by-take-drop (use_of id) c (first - 1),
        there id,
        more.uses id,
      )

  pub returned_rows : (old new : Codes) → AreFreed old new (λ id. uses_among id first last gs) (formulas_among first last gs) → AreReturned old new (take (last + 1 - first) (drop (first - 1) c))
  returned_rows old new freed = record {
    uses = λ id. omega (arith, freed.uses id, ap (uses_among id first last) are ∙ uses_alike id first last c rows.from rows.in_order);
    total = omega (arith, freed.total, ap (formulas_among first last) are ∙ formulas_alike first last c rows.from rows.in_order);
    live = freed.live;
    forms = freed.forms;
  }

-- the codes of rows that are set
pub codes_repeated : (a n : ℕ) (x : Slot) (c : Column) → codes_in (rows_set a n x c) ≡ rows_set a n (code_in x) (codes_in c)
codes_repeated a n x c =
    codes-append (take a c) (replicate n x ++ drop (a + n) c)
    ∙ ap (λ t. t ++ codes_in (replicate n x ++ drop (a + n) c)) (codes-take a c)
    ∙ ap (λ t. take a (codes_in c) ++ t) (codes-append (replicate n x) (drop (a + n) c) ∙ ap (λ t. t ++ codes_in (drop (a + n) c)) (codes-replicate n x) ∙ ap (λ t. replicate n (code_in x) ++ t) (codes-drop (a + n) c))

pub no_code : (x : Slot) → ((id : ℕ) → x ≡ slot.Formula id → ⊥) → code_in x ≡ None
no_code slot.Empty plain = refl
no_code (slot.Number n) plain = refl
no_code (slot.Words text) plain = refl
no_code (slot.Bad fault) plain = refl
no_code (slot.Raw text) plain = refl
no_code (slot.Formula id) plain = absurd (plain id refl)
