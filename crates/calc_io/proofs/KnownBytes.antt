-- What several calls did to known bytes, one after the other. More of it is in std's lemmas on known bytes.
use Rattle.std.proofs.Common.{Result, Ok, Err, ℕ, ◌+◌, List, ◌++◌, Option, None, Some, take, drop, ap, sym, ◌∙◌, subst}
use Rattle.std.specs.Io.KnownBytes.{Keeps, Appends, Consumes, ReadConsumes}
use Rattle.std.proofs.KnownBytes.{Appends-trans}
use Rattle.std.proofs.Math.Seq.{take-add}

-- a call that did nothing, and then one that consumed bytes
pub Keeps-Consumes : (first then last : Option (List ℕ)) (bytes : List ℕ) → Keeps first then → Consumes then last bytes → Consumes first last bytes
Keeps-Consumes None then last bytes kept consumed = tt
Keeps-Consumes (Some xs) None last bytes kept consumed = absurd kept
Keeps-Consumes (Some xs) (Some ys) None bytes kept consumed = absurd consumed
Keeps-Consumes (Some xs) (Some ys) (Some zs) bytes kept consumed = sym kept ∙ consumed

-- a call that did nothing, and then one that appended bytes
pub Keeps-Appends : (first then last : Option (List ℕ)) (bytes : List ℕ) → Keeps first then → Appends then last bytes → Appends first last bytes
Keeps-Appends None then last bytes kept appended = tt
Keeps-Appends (Some xs) None last bytes kept appended = absurd kept
Keeps-Appends (Some xs) (Some ys) None bytes kept appended = absurd appended
Keeps-Appends (Some xs) (Some ys) (Some zs) bytes kept appended = appended ∙ ap (λ l. l ++ bytes) kept

-- n bytes of a piece were written, and then k of the rest
pub Appends-taken : (first then last : Option (List ℕ)) (piece : List ℕ) (n k : ℕ)
    → Appends first then (take n piece) → Appends then last (take k (drop n piece)) → Appends first last (take (n + k) piece)
Appends-taken first then last piece n k front rest =
    subst (Appends first last) (sym (take-add n k piece)) (Appends-trans first then last _ _ front rest)

-- nothing is told of a read of what isn't told
pub ReadConsumes-untold : {E : Type 0} (result : Result ℕ E) (buf : List ℕ) → ReadConsumes None None result buf
ReadConsumes-untold (Ok n) buf = (tt, λ _ _. tt)
ReadConsumes-untold (Err e) buf = tt
