-- The definitions at small values.
use Rattle.std.proofs.Common.{◌≡◌, ◌-◌, ◌^◌, [], ◌∷◌, Some, None, refl}
use Rattle.std.specs.Prelude.{codes}
use Rattle.calc_io.specs.Desk.{Books, book_of, told_book}
use Rattle.calc_io.specs.Faults.{one_more}
use Rattle.calc_io.specs.Memory.{Plan, after_call}
use Rattle.calc_io.specs.Shelf.{book_at, open_bytes}

-- `a` with the bytes 1, 2, then `b` with 3, then another `a` with 4
abbrev three : Books
three = (codes "a", 1 ∷ 2 ∷ []) ∷ (codes "b", 3 ∷ []) ∷ (codes "a", 4 ∷ []) ∷ []

a_book_by_its_name : book_of three (codes "b") ≡ Some (3 ∷ [])
a_book_by_its_name = refl

the_first_of_a_name : book_of three (codes "a") ≡ Some (1 ∷ 2 ∷ [])
the_first_of_a_name = refl

no_such_name : book_of three (codes "ab") ≡ None
no_such_name = refl

no_book_is_told : told_book None (codes "a") ≡ None
no_book_is_told = refl

a_book_by_its_place : book_at three 2 ≡ 4 ∷ []
a_book_by_its_place = refl

no_book_at_that_place : book_at three 3 ≡ []
no_book_at_that_place = refl

no_book_is_open : open_bytes three None ≡ []
no_book_is_open = refl

a_fault_is_counted : one_more 6 ≡ 7
a_fault_is_counted = refl

the_last_count_stays : one_more (2 ^ 64 - 1) ≡ 2 ^ 64 - 1
the_last_count_stays = refl

-- the second and the third call fail, two calls were made, and a call moves one byte
abbrev two_made : Plan
two_made = record { failing = 2 ∷ 3 ∷ []; calls = 2; piece = 1 }

a_call_is_made : (after_call two_made).calls ≡ 3
a_call_is_made = refl
