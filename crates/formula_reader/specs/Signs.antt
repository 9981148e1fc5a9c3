-- Prefix operators.
use Rattle.std.specs.Prelude.{ℕ, ◌==◌, List, [], ◌∷◌, Option, Some, None, if◌then◌else◌}
use Rattle.calc_model.specs.declared.tree.Tree.{Tree}
use Rattle.calc_model.specs.declared.tree.Tree.TheVariants as t
use Rattle.formula_reader.specs.declared.signs.Sign.{Sign}
use Rattle.formula_reader.specs.declared.signs.Sign.TheVariants as signs
use Rattle.formula_reader.specs.Unread.{Read, Unread, taken_if}

-- the sign in front, and what stands behind it
abbrev pub sign_at : List ℕ → Option (Sign × List ℕ)
sign_at [] = None
sign_at (byte ∷ rest) = if byte == 43 then Some (signs.Plus, rest) else (if byte == 45 then Some (signs.Minus, rest) else None)

-- the sign in front is taken, if there is one
unfoldable pub sign_taken : Unread → Option (Option Sign × Unread)
sign_taken unread = taken_if unread (sign_at unread.bytes)

-- a tree behind a sign
abbrev pub signed_by : Sign → Tree → Tree
signed_by signs.Plus x = t.Plus x
signed_by signs.Minus x = t.Minus x

-- a tree behind signs, of which the last stands next to it
abbrev pub signed : List Sign → Tree → Tree
signed [] x = x
signed (sign ∷ rest) x = signed_by sign (signed rest x)

abbrev pub sign_read : Sign → Tree × Unread → Read
sign_read sign read = Some (signed_by sign read.0, read.1)

abbrev pub signs_read : List Sign → Tree × Unread → Read
signs_read before read = Some (signed before read.0, read.1)
