-- The bytes in front that pass a test, where what stands behind them doesn't begin so.
use Rattle.std.proofs.Common.{◌≡◌, ℕ, Bool, true, false, List, [], ◌∷◌, ◌++◌, length, refl, sym, ◌∙◌, arith}
use Rattle.std.specs.List.{list_all, prefix_len, take_while}
use Rattle.std.proofs.lemmas.Bool.{and_parts, cond-false, cond-true}
use Rattle.std.proofs.lemmas.List.{drop_at, take_at}
use Rattle.byte_cuts.specs.Fronts.{begins, behind}

pub begins-append : (test : ℕ → Bool) (front rest : List ℕ) → begins test front ≡ true → begins test (front ++ rest) ≡ true
begins-append test [] rest h = cc
begins-append test (byte ∷ front) rest h = h

-- each byte that passes one test passes the other
pub begins_less : (p q : ℕ → Bool) (text : List ℕ) → ((byte : ℕ) → q byte ≡ false → p byte ≡ false) → begins q text ≡ false → begins p text ≡ false
begins_less p q [] less h = refl
begins_less p q (byte ∷ rest) less h = less byte h

pub prefix_len-all : (test : ℕ → Bool) (front rest : List ℕ) → list_all test front ≡ true → begins test rest ≡ false → prefix_len test (front ++ rest) ≡ length front
prefix_len-all test [] [] all none = refl
prefix_len-all test [] (byte ∷ rest) all none = cond-false (test byte) _ _ none
prefix_len-all test (byte ∷ front) rest all none =
    let parts = and_parts (test byte) (list_all test front) all in
    cond-true (test byte) _ _ parts.0 ∙ omega (arith, prefix_len-all test front rest parts.1 none)

pub behind-all : (test : ℕ → Bool) (front rest : List ℕ) → list_all test front ≡ true → begins test rest ≡ false → behind test (front ++ rest) ≡ rest
behind-all test front rest all none = drop_at front rest (prefix_len test (front ++ rest)) (sym (prefix_len-all test front rest all none))

pub take_while-all : (test : ℕ → Bool) (front rest : List ℕ) → list_all test front ≡ true → begins test rest ≡ false → take_while test (front ++ rest) ≡ front
take_while-all test front rest all none = take_at front rest (prefix_len test (front ++ rest)) (sym (prefix_len-all test front rest all none))
