-- Texts cut between characters.
use Rattle.std.specs.Prelude.{◌≡◌, ℕ, List, ◌++◌, drop, take}
use Rattle.std.specs.Str.{chars, encode_utf8_all}

-- what is left of a text behind so many of its characters, or all
pub record IsLeft (text : List ℕ) (count : ℕ) (rest : List ℕ) : Type 0 where
  pub front : text ≡ encode_utf8_all (take count (chars text)) ++ rest
  pub left : rest ≡ encode_utf8_all (drop count (chars text))
  pub characters : chars rest ≡ drop count (chars text)
