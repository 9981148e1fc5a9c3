-- The tokens of formulas, after OpenFormula's expression syntax: which bytes are a number, a text in quotes,
-- an identifier, a name, a bracketed reference or an error constant. Blanks may stand between tokens.
use Rattle.std.specs.Prelude.{ℕ, ◌==◌, ◌&&◌, ◌||◌, not, nat_le, nat_lt, Bool, true, false, List, [], ◌∷◌, ◌++◌, length, codes, if◌then◌else◌}
use Rattle.std.specs.List.{list_all, flat_map}
use Rattle.std.specs.Char.{is_ascii_alphabetic, is_ascii_digit}
use Rattle.std.specs.Str.{is_utf8}
use Rattle.calc_addr.specs.Places.{Place}
use Rattle.calc_addr.specs.Spelling.{spelled_address}
use Rattle.calc_addr.specs.declared.read.Spelled.{Spelled}
use Rattle.calc_addr.specs.declared.read.Spelled.TheVariants.{Is, Outside, Not}
use Rattle.calc_model.specs.declared.identifier.TheConstants.{MOST_BYTES}

-- space, tab, line feed and carriage return
abbrev pub is_blank : ℕ → Bool
is_blank byte = (byte == 32) || (byte == 9) || (byte == 10) || (byte == 13)

abbrev pub are_blanks : List ℕ → Bool
are_blanks text = list_all is_blank text

-- a letter of ASCII, `_`, or a byte of a character past ASCII
abbrev pub begins_identifier : ℕ → Bool
begins_identifier byte = is_ascii_alphabetic byte || (byte == 95) || nat_lt 127 byte

-- one of these, a digit or a point
abbrev pub is_in_identifier : ℕ → Bool
is_in_identifier byte = begins_identifier byte || is_ascii_digit byte || (byte == 46)

abbrev pub has_identifier_bytes : List ℕ → Bool
has_identifier_bytes [] = false
has_identifier_bytes (byte ∷ rest) = begins_identifier byte && list_all is_in_identifier rest

-- an identifier has no more than so many bytes
abbrev pub is_identifier : List ℕ → Bool
is_identifier text = has_identifier_bytes text && nat_le (length text) MOST_BYTES && is_utf8 text

abbrev pub is_inside : Spelled Place → Bool
is_inside (Is place) = true
is_inside Outside = false
is_inside Not = false

-- an identifier that isn't the address of a cell in the sheet
abbrev pub is_name : List ℕ → Bool
is_name text = is_identifier text && not (is_inside (spelled_address text))

-- no byte is a small letter of ASCII
abbrev pub is_small_letter : ℕ → Bool
is_small_letter byte = nat_le 97 byte && nat_le byte 122

abbrev pub has_no_small_letter : List ℕ → Bool
has_no_small_letter text = list_all (λ byte. not (is_small_letter byte)) text

-- a byte of a text in quotes, where each quote is doubled
abbrev pub doubled : ℕ → List ℕ
doubled byte = if byte == 34 then byte ∷ byte ∷ [] else byte ∷ []

-- a text in quotes
abbrev pub quoted : List ℕ → List ℕ
quoted text = codes "\"" ++ flat_map doubled text ++ codes "\""
