-- Where a book of a name stands.
use Rattle.std.proofs.Common.{◌≡◌, ℕ, ◌+◌, true, false, not, cond, suc, List, [], ◌∷◌, length, Some, None, refl, ap, ◌∙◌, arith}
use Rattle.std.specs.Prelude.{MatchOption, Vec, slice_get, position}
use Rattle.std.specs.List.{position_or_len}
use Rattle.std.specs.Option.{option_map}
use Rattle.std.specs.declared.alloc.Global.{Global}
use Rattle.std.proofs.lemmas.Option.{slice_get_past, slice_get-get_or}
use Rattle.std.proofs.lemmas.Bool.{cases_lt, lt-ltb, le-ltb}
use Rattle.std.proofs.lemmas.List.{length-map}
use Rattle.std.proofs.Common.{inl, inr}
use Rattle.calc_io.specs.Desk.{book_of, kept_books}
use Rattle.calc_io.specs.Shelf.{is_named, book_at}

module _ (name : List ℕ) where
  -- the book of a name stands at the first place that has the name
  book_of_place : (books : List (List ℕ × Vec ℕ Global))
      → book_of (kept_books books) name ≡ option_map (λ book. book.1) (slice_get (kept_books books) (position_or_len (is_named name) books))
  book_of_place [] = refl
  book_of_place (book ∷ books) =
      let n = position_or_len (is_named name) books in
      elim (is_named name book) as (λ is. cond is (Some book.1.items) (book_of (kept_books books) name)
      ≡ option_map (λ book. book.1) (slice_get (kept_books (book ∷ books)) (cond (not is) (1 + n) 0))) [
        | true ↦ refl
        | false ↦ let e : 1 + n ≡ suc n = omega arith in rw e (book_of_place books)
      ]

  found_book : (books : List (List ℕ × Vec ℕ Global))
      → MatchOption (position (is_named name) books) (book_of (kept_books books) name ≡ None)
      (λ place. book_of (kept_books books) name ≡ Some (book_at (kept_books books) place))
  found_book books =
      let n = position_or_len (is_named name) books in
      let kept = kept_books books in
      let same : length kept ≡ length books = length-map books (λ book. (book.0, book.1.items)) in
      elim (cases_lt n (length books)) [
        | inl below ↦
            let at = slice_get-get_or kept n ([], []) (omega (arith, same)) in
            rw (lt-ltb n (length books) below) (book_of_place books ∙ rw at refl)
        | inr past ↦
            rw (le-ltb n (length books) past) (book_of_place books ∙ ap (option_map (λ book. book.1)) (slice_get_past kept n (omega (arith, same))))
      ]

  -- no book was found
  pub none_found : (books : List (List ℕ × Vec ℕ Global)) → None ≡ position (is_named name) books → book_of (kept_books books) name ≡ None
  none_found books e = rw (← e) at (found_book books)

  -- a book was found
  pub one_found : (books : List (List ℕ × Vec ℕ Global)) (place : ℕ) → Some place ≡ position (is_named name) books
      → book_of (kept_books books) name ≡ Some (book_at (kept_books books) place)
  one_found books place e = rw (← e) at (found_book books)
