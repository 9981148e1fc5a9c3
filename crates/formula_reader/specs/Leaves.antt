-- The tokens that are operands by themselves, at the front of what is left: the tree, and the bytes behind.
use denote.Ref.{Bor}
use Rattle.std.specs.declared.alloc.Global.{Global}
use Rattle.std.specs.Prelude.{Vec, ℕ, ◌==◌, ◌||◌, nat_eq, Bool, true, false, List, [], ◌∷◌, length, take, drop, Option, Some, None, option_map, if◌then◌else◌}
use Rattle.std.specs.Char.{is_ascii_digit}
use Rattle.std.specs.List.{after_first, before_first, find, list_any, starts_with}
use Rattle.std.specs.Str.{is_utf8}
use Rattle.calc_num.specs.Fronts.{unsigned_len}
use Rattle.calc_num.specs.Spelling.{reading}
use Rattle.calc_num.specs.declared.parse.Reading.{Reading}
use Rattle.calc_num.specs.declared.parse.Reading.TheVariants as readings
use Rattle.calc_addr.specs.Bracketed.{spelled_reference}
use Rattle.calc_addr.specs.References.{Reference}
use Rattle.calc_model.specs.declared.fault.Fault.{Fault}
use Rattle.calc_model.specs.declared.fault.Fault.TheVariants.{Over}
use Rattle.calc_model.specs.declared.tree.Tree.{Tree}
use Rattle.calc_model.specs.declared.tree.Tree.TheVariants as t
use Rattle.calc_model.specs.Field.{error_constants}
use Rattle.calc_model.specs.ValueTexts.{fault_text}
use Rattle.formula_reader.specs.Unread.{◌>>=◌, Read, Unread, beside, past}

abbrev pub number_tree : Reading → Option Tree
number_tree (readings.Number n) = Some (t.Number n)
number_tree readings.TooLarge = Some (t.Bad Over)
number_tree readings.NotNumber = None

abbrev pub number_at : List ℕ → Option (Tree × List ℕ)
number_at bytes = option_map (beside (drop (unsigned_len bytes) bytes)) (number_tree (reading (take (unsigned_len bytes) bytes)))

-- one more byte of a text in front
abbrev pub prepend : ℕ → Option (List ℕ × List ℕ) → Option (List ℕ × List ℕ)
prepend byte None = None
prepend byte (Some parts) = Some (byte ∷ parts.0, parts.1)

-- what stands behind a quote that is next
abbrev pub behind_quote : List ℕ → Option (List ℕ)
behind_quote [] = None
behind_quote (byte ∷ rest) = if byte == 34 then Some rest else None

-- The text up to the first quote that isn't doubled, with a quote for two, and what stands behind that quote. The
-- test says whether a quote was passed that may be the last one or the first of two.
abbrev pub unquoted : Bool → List ℕ → Option (List ℕ × List ℕ)
unquoted false [] = None
unquoted true [] = Some ([], [])
unquoted false (byte ∷ rest) = if byte == 34 then unquoted true rest else prepend byte (unquoted false rest)
unquoted true (byte ∷ rest) = if byte == 34 then prepend 34 (unquoted false rest) else Some ([], byte ∷ rest)

abbrev pub words_of : List ℕ × List ℕ → Option (Tree × List ℕ)
words_of parts = if is_utf8 parts.0 then Some (t.Words parts.0, parts.1) else None

-- a text behind its first quote
abbrev pub string_at : List ℕ → Option (Tree × List ℕ)
string_at bytes = unquoted false bytes >>= words_of

abbrev pub is_closing : ℕ → Bool
is_closing byte = byte == 93

abbrev pub reference_tree : List ℕ → Reference → Tree × List ℕ
reference_tree rest r = (t.Ref r, rest)

-- a reference behind its bracket
abbrev pub reference_at : List ℕ → Option (Tree × List ℕ)
reference_at bytes =
    if list_any is_closing bytes
    then option_map (reference_tree (after_first is_closing bytes)) (spelled_reference (before_first is_closing bytes)) else None

abbrev pub error_tree : List ℕ → Fault → Tree × List ℕ
error_tree bytes fault = (t.Bad fault, drop (length (fault_text fault)) bytes)

abbrev pub error_at : List ℕ → Option (Tree × List ℕ)
error_at bytes = option_map (error_tree bytes) (find (λ fault. starts_with nat_eq bytes (fault_text fault)) error_constants)

-- the operand that the first byte says
abbrev pub operand_at : List ℕ → Option (Tree × List ℕ)
operand_at [] = None
operand_at (byte ∷ rest) =
    if byte == 34 then string_at rest
    else (if byte == 91 then reference_at rest
    else (if byte == 35 then error_at (byte ∷ rest)
    else (if is_ascii_digit byte || byte == 46 then number_at (byte ∷ rest) else None)))

-- what was found at the front is taken as a token
abbrev pub taken : ℕ → Tree × List ℕ → Read
taken tokens found = option_map (λ (unread : Unread). (found.0, unread)) (past tokens found.1)

abbrev pub token_taken : ℕ → Option (Tree × List ℕ) → Read
token_taken tokens found = found >>= taken tokens

-- a token that is read at the front is taken
abbrev pub token_by : (List ℕ → Option (Tree × List ℕ)) → Unread → Read
token_by reading unread = token_taken unread.tokens (reading unread.bytes)

-- a text of the code, with what is left behind it
abbrev pub text_behind : Vec ℕ Global × Bor (List ℕ) → List ℕ × List ℕ
text_behind read = (read.0.items, read.1.now)
