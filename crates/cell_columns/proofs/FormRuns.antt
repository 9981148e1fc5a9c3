-- The runs of codes in a column are the runs of the codes' forms.
use base.Stored.{Gv, gnil, gnum, gcons}
use Rattle.std.proofs.Common.{◌≡◌, ℕ, ◌+◌, ◌==◌, ◌&&◌, Bool, true, false, cond, List, [], ◌∷◌, map, Option, Some, None, refl, sym, ap, ◌∙◌}
use Rattle.std.specs.Option.{option_map}
use Rattle.std.proofs.lemmas.Bool.Decides.{Decides-eqb}
use Rattle.calc_model.proofs.Areas.{both_true}
use Rattle.calc_model.specs.contracts.tree.Tree as coded_tree
use Rattle.calc_model.specs.declared.tree.Tree.{Tree}
use Rattle.formula_code.specs.Codes.{AreApart, Codes, IsLive, form_at}
use Rattle.run_tables.specs.Runs.{Run, meet, runs_from, runs_of, touches}
use Rattle.cell_columns.specs.ColumnRuns.{same_stored, same_tree}

stored_same : (x : Gv) → same_stored x x ≡ true
stored_same gnil = refl
stored_same (gnum n) = (Decides-eqb n n).1 refl
stored_same (gcons a b) = ap (λ c. c && same_stored b b) (stored_same a) ∙ stored_same b

same_is_one : (x y : Gv) → same_stored x y ≡ true → x ≡ y
same_is_one gnil gnil h = refl
same_is_one gnil (gnum m) h = cc
same_is_one gnil (gcons c d) h = cc
same_is_one (gnum n) gnil h = cc
same_is_one (gnum n) (gnum m) h = ap gnum ((Decides-eqb n m).0 h)
same_is_one (gnum n) (gcons c d) h = cc
same_is_one (gcons a b) gnil h = cc
same_is_one (gcons a b) (gnum m) h = cc
same_is_one (gcons a b) (gcons c d) h =
    let parts = both_true (same_stored a c) (same_stored b d) h in
    ap (λ x. gcons x b) (same_is_one a c parts.0) ∙ ap (gcons c) (same_is_one b d parts.1)

trees_same : (x y : Tree) → x ≡ y → same_tree x y ≡ true
unfolding same_tree
trees_same x y is = ap (λ z. same_stored (coded_tree.the_row.coded.code x) (coded_tree.the_row.coded.code z)) (sym is) ∙ stored_same (coded_tree.the_row.coded.code x)

same_trees : (x y : Tree) → same_tree x y ≡ true → x ≡ y
unfolding same_tree
same_trees x y h = coded_tree.the_row.coded.inj x y (same_is_one (coded_tree.the_row.coded.code x) (coded_tree.the_row.coded.code y) h)

-- live codes are one exactly where their forms are
forms_alike : (codes : Codes) → AreApart codes → (x y : ℕ) → IsLive codes x → IsLive codes y → same_tree (form_at codes x) (form_at codes y) ≡ (x == y)
forms_alike codes apart x y live alive =
    elim (x == y) as (λ b. (x == y) ≡ b → same_tree (form_at codes x) (form_at codes y) ≡ b) [
      | true ↦ λ is. trees_same (form_at codes x) (form_at codes y) (ap (form_at codes) ((Decides-eqb x y).0 is))
      | false ↦ λ other.
          elim (same_tree (form_at codes x) (form_at codes y)) as (λ b. same_tree (form_at codes x) (form_at codes y) ≡ b → b ≡ false) [
            | true ↦ λ is.
                let one : (x == y) ≡ true = (Decides-eqb x y).1 (apart x y live alive (same_trees (form_at codes x) (form_at codes y) is)) in
                cc
            | false ↦ λ _. refl
          ] refl
    ] refl

-- a run with what stands for its key
abbrev pub rekeyed : {K L : Type 0} → (K → L) → Run K → Run L
rekeyed f r = record { first = r.first; last = r.last; key = f r.key }

-- each key of some rows is good
abbrev pub AllGood : {K : Type 0} → (K → Type 0) → List (Option K) → Type 0
AllGood Good [] = Unit {0}
AllGood Good (None ∷ s) = AllGood Good s
AllGood Good (Some k ∷ s) = Good k × AllGood Good s

abbrev GoodRuns : {K : Type 0} → (K → Type 0) → List (Run K) → Type 0
GoodRuns Good [] = Unit {0}
GoodRuns Good (r ∷ t) = Good r.key × GoodRuns Good t

module _ {K L : Type 0} (same : K → K → Bool) (alike : L → L → Bool) (f : K → L) (Good : K → Type 0) (keeps : (x y : K) → Good x → Good y → alike (f x) (f y) ≡ same x y) where
  met : (r : Run K) (t : List (Run K)) → Good r.key → GoodRuns Good t → meet alike (rekeyed f r) (map (rekeyed f) t) ≡ map (rekeyed f) (meet same r t)
  met r [] good all = refl
  met r (x ∷ t) good all =
      let joined : List (Run K) = record r { last = x.last } ∷ t in
      let apart : List (Run K) = r ∷ x ∷ t in
      ap (λ b. cond ((r.last + 1 == x.first) && b) (map (rekeyed f) joined) (map (rekeyed f) apart)) (keeps r.key x.key good all.0)
      ∙ elim (touches same r x) as (λ b. cond b (map (rekeyed f) joined) (map (rekeyed f) apart) ≡ map (rekeyed f) (cond b joined apart)) [ true ↦ refl | false ↦ refl ]

  met_good : (r : Run K) (t : List (Run K)) → Good r.key → GoodRuns Good t → GoodRuns Good (meet same r t)
  met_good r [] good all = (good, tt)
  met_good r (x ∷ t) good all = elim (touches same r x) as (λ b. GoodRuns Good (cond b (record r { last = x.last } ∷ t) (r ∷ x ∷ t))) [ true ↦ (good, all.1) | false ↦ (good, all) ]

  good_runs : (p : ℕ) (s : List (Option K)) → AllGood Good s → GoodRuns Good (runs_from same p s)
  good_runs p [] all = tt
  good_runs p (None ∷ s) all = good_runs (p + 1) s all
  good_runs p (Some k ∷ s) all = met_good (record { first = p; last = p; key = k }) (runs_from same (p + 1) s) all.0 (good_runs (p + 1) s all.1)

  -- the runs of what stands for keys
  runs_rekeyed : (p : ℕ) (s : List (Option K)) → AllGood Good s → runs_from alike p (map (option_map f) s) ≡ map (rekeyed f) (runs_from same p s)
  runs_rekeyed p [] all = refl
  runs_rekeyed p (None ∷ s) all = runs_rekeyed (p + 1) s all
  runs_rekeyed p (Some k ∷ s) all =
      ap (meet alike (record { first = p; last = p; key = f k })) (runs_rekeyed (p + 1) s all.1)
      ∙ met (record { first = p; last = p; key = k }) (runs_from same (p + 1) s) all.0 (good_runs (p + 1) s all.1)

pub form_runs : (codes : Codes) → AreApart codes → (s : List (Option ℕ)) → AllGood (IsLive codes) s → runs_of same_tree (map (option_map (form_at codes)) s) ≡ map (rekeyed (form_at codes)) (runs_of (λ k l. k == l) s)
form_runs codes apart s all = runs_rekeyed (λ k l. k == l) same_tree (form_at codes) (IsLive codes) (forms_alike codes apart) 1 s all
