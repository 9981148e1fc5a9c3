-- The uses of codes that go with groups.
use Rattle.std.proofs.Common.{◌≡◌, ℕ, ◌+◌, ◌≤◌, ◌<◌, ◌==◌, Bool, true, false, cond, List, length, take, refl, sym, ap, subst, ◌∙◌, arith}
use Rattle.std.specs.Prelude.{slice_index_or}
use Rattle.std.proofs.lemmas.List.Sums.{sum_by_more, sum_by-take-le}
use Rattle.std.proofs.lemmas.Bool.Decides.{nat_tests}
use Rattle.formula_code.specs.Codes.{Codes}
use Rattle.formula_groups.specs.declared.group.Group.{Group}
use Rattle.cell_columns.specs.Freed.{formulas_among, overlap, uses_among}
use Rattle.cell_columns.specs.Taken.{AreFreed}
use Rattle.cell_columns.proofs.Uses.{freed_then}

module _ (first last : ℕ) (groups : List Group) (i : ℕ) (g : Group) (here : g ≡ slice_index_or groups i g) (within : i < length groups) where
  abbrev use_among : ℕ → Group → ℕ
  use_among id g = cond (id == g.code) (overlap first last g) 0

  uses_more : (id : ℕ) → uses_among id first last (take (i + 1) groups) ≡ uses_among id first last (take i groups) + use_among id g
  uses_more id = sum_by_more (use_among id) groups i g within ∙ ap (λ x. uses_among id first last (take i groups) + use_among id x) (sym here)

  formulas_more : formulas_among first last (take (i + 1) groups) ≡ formulas_among first last (take i groups) + overlap first last g
  formulas_more = sum_by_more (overlap first last) groups i g within ∙ ap (λ x. formulas_among first last (take i groups) + overlap first last x) (sym here)

  -- the group's part is among those of all
  pub enough : (id : ℕ) → id ≡ g.code → uses_among id first last (take i groups) + overlap first last g ≤ uses_among id first last groups
  enough id is =
      omega (arith, uses_more id, sum_by-take-le (use_among id) groups (i + 1), one)
    where
      one : use_among id g ≡ overlap first last g
      one = subst (λ n. cond (n == g.code) (overlap first last g) 0 ≡ overlap first last g) (sym is) (same g.code (overlap first last g))
        where
          same : (n m : ℕ) → cond (n == n) m 0 ≡ m
          same n m = grind (arith, nat_tests)

  pub freed_more : (old now next : Codes) (n : ℕ) → n ≡ overlap first last g → AreFreed old now (λ id. uses_among id first last (take i groups)) (formulas_among first last (take i groups)) → AreFreed now next (λ id. cond (id == g.code) n 0) n → AreFreed old next (λ id. uses_among id first last (take (i + 1) groups)) (formulas_among first last (take (i + 1) groups))
  freed_more old now next n is before step =
      let both = freed_then old now next (λ id. uses_among id first last (take i groups)) (λ id. cond (id == g.code) n 0) (formulas_among first last (take i groups)) n before step in
      record {
        uses = λ id. omega (arith, both.uses id, uses_more id, ap (λ m. cond (id == g.code) m 0) is);
        total = omega (arith, both.total, formulas_more, is);
        live = both.live;
        forms = both.forms;
      }

  pub freed_past : (old now : Codes) → overlap first last g ≡ 0 → AreFreed old now (λ id. uses_among id first last (take i groups)) (formulas_among first last (take i groups)) → AreFreed old now (λ id. uses_among id first last (take (i + 1) groups)) (formulas_among first last (take (i + 1) groups))
  freed_past old now none before = record {
    uses = λ id. omega (arith, before.uses id, uses_more id, ap (λ m. cond (id == g.code) m 0) none, zeros (id == g.code));
    total = omega (arith, before.total, formulas_more, none);
    live = before.live;
    forms = before.forms;
  }
    where
      zeros : (b : Bool) → cond {A = ℕ} b 0 0 ≡ 0
      zeros true = refl
      zeros false = refl
