-- A search that goes along a line a piece at a time.
use Rattle.std.proofs.Common.{◌≡◌, ℤ, ◌<◌, true, List, [], ◌++◌, length, ap, subst, sym, ◌∙◌}
use Rattle.std.specs.Prelude.{fold}
use Rattle.std.specs.Option.{IfSome}
use Rattle.std.proofs.lemmas.List.Sums.{fold-append}
use Rattle.calc_model.specs.Search.{place_by}
use Rattle.calc_model.specs.declared.value.Value.{Value}
use Rattle.fn_lookup.specs.declared.scan.Scan.{Scan}
use Rattle.fn_lookup.specs.declared.scan.Search.{Search}
use Rattle.fn_lookup.specs.Scans.{search_of, with_value}
use Rattle.fn_lookup.proofs.Running.{stuck}
use Rattle.fn_lookup.proofs.Searching.{found-within, nothing, scan-finds}

pub place-within : (number : ℤ) (sought : Value) (all : List Value) → IfSome (place_by number sought all) (λ place. place < length all)
place-within number sought all =
    subst (λ r. IfSome r (λ place. place < length all)) (scan-finds number sought all) (found-within (search_of number) sought all)

module _ (search : Search) (sought : Value) (all : List Value) (scan : Scan) where
  finds : (last : Scan) → last ≡ fold (with_value search sought) nothing all → (number : ℤ) → search ≡ search_of number → last.found ≡ place_by number sought all
  finds last is number type =
      ap (λ (s : Scan). s.found) is ∙ ap (λ s. (fold (with_value s sought) nothing all).found) type ∙ scan-finds number sought all

  pub left-finds : (left : List Value) → fold (with_value search sought) scan left ≡ fold (with_value search sought) nothing all → left ≡ [] → (number : ℤ) → search ≡ search_of number → scan.found ≡ place_by number sought all
  left-finds left so_far none = finds scan (ap (fold (with_value search sought) scan) (sym none) ∙ so_far)

  module _ (new : Scan) (left front rest : List Value) (so_far : fold (with_value search sought) scan left ≡ fold (with_value search sought) nothing all) (is : new ≡ fold (with_value search sought) scan front) (split : left ≡ front ++ rest) where
    pub further : fold (with_value search sought) new rest ≡ fold (with_value search sought) nothing all
    further =
        ap (λ s. fold (with_value search sought) s rest) is ∙ sym (fold-append (with_value search sought) scan front rest)
        ∙ ap (fold (with_value search sought) scan) (sym split) ∙ so_far

    pub ended-finds : new.ended ≡ true → (number : ℤ) → search ≡ search_of number → new.found ≡ place_by number sought all
    ended-finds ended = finds new (sym (stuck search sought new ended rest) ∙ further)
