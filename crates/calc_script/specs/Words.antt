-- The text of a line, and its words. A carriage return at the line's end isn't of the text. Words are
-- what stands between spaces, where it isn't empty.
use Rattle.std.specs.Prelude.{ℕ, ◌-◌, ◌==◌, ◌||◌, Bool, true, false, List, [], ◌∷◌, length, take, drop, filter, codes, nat_eq, slice_get, Option, Some, None, if◌then◌else◌}
use Rattle.std.specs.List.{list_all, before_first, after_first, prefix_len, slice_split, starts_with}

abbrev pub is_return : Option ℕ → Bool
is_return None = false
is_return (Some byte) = byte == 13

-- the line without the carriage return at its end
abbrev pub without_return : List ℕ → List ℕ
without_return line = if is_return (slice_get line (length line - 1)) then take (length line - 1) line else line

abbrev pub is_space : ℕ → Bool
is_space byte = byte == 32

-- a line that does nothing: it is empty, has spaces alone, or is a comment
abbrev pub is_idle : List ℕ → Bool
is_idle text = starts_with nat_eq text (codes "#") || list_all is_space text

-- the text without the spaces at its front
abbrev pub without_spaces : List ℕ → List ℕ
without_spaces text = drop (prefix_len is_space text) text

-- what stands before the first space, or all
abbrev pub up_to_space : List ℕ → List ℕ
up_to_space text = before_first is_space text

-- what stands after that one space
abbrev pub behind_space : List ℕ → List ℕ
behind_space text = after_first is_space text

abbrev pub has_bytes : List ℕ → Bool
has_bytes [] = false
has_bytes (byte ∷ rest) = true

unfoldable pub words_of : List ℕ → List (List ℕ)
words_of text = filter has_bytes (slice_split is_space text)
