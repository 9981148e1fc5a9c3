use Rattle.std.proofs.Common.{◌∙◌, rules, List, sym, subst}
use Rattle.std.specs.List.Sorted.{IsNonDecreasingBy}
use Rattle.std.proofs.lemmas.List.Sorted.{IsNonDecreasingBy-from_sort_by_key, list_any-IsPermutation}
use Rattle.calc_addr.specs.Places.{Rows}
use Rattle.cell_runs.specs.CellLists.{first_number}
use Rattle.run_unions.specs.Unions.{AreUnion, is_in}
use Rattle.dirty_spread.proofs.union.union_of_runs.Goals as goal

pub push_runs-requires-clause-sorted : goal.push_runs-requires-clause-sorted
push_runs-requires-clause-sorted c =
    subst (λ (xs : List Rows). IsNonDecreasingBy first_number xs) (sym c.deref.ensures.value)
    (IsNonDecreasingBy-from_sort_by_key first_number _ c.sort_unstable_by_key.ensures.sorted (λ a r f called. search rules))

pub returns : goal.returns
returns c =
    let union : AreUnion c.sort_unstable_by_key.new.self.items c.push_runs.new.cells = subst (λ (xs : List Rows). AreUnion xs c.push_runs.new.cells) c.deref.ensures.value c.in_ok-push_runs.ensures in
    record {
      in_order = union.in_order;
      exact = λ q. (
        λ h. list_any-IsPermutation (is_in q) c.args.runs.items c.sort_unstable_by_key.new.self.items c.sort_unstable_by_key.ensures.permutation ∙ (union.exact q).0 h,
        λ h. (union.exact q).1 (sym (list_any-IsPermutation (is_in q) c.args.runs.items c.sort_unstable_by_key.new.self.items c.sort_unstable_by_key.ensures.permutation) ∙ h),
      );
    }
