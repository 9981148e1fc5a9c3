-- The contents of the fields of records, set in rows, are those of the book.
use Rattle.std.proofs.Common.{◌≡◌, ◌≢◌, ℕ, ◌+◌, ◌≤◌, nat_lt, Bool, true, false, not, cond, List, [], ◌∷◌, length, map, Option, Some, None, refl, sym, ap, ◌∙◌, arith}
use Rattle.std.specs.Prelude.{count_by, sum_by}
use Rattle.std.specs.List.{All}
use Rattle.std.proofs.lemmas.Bool.{ne_eqb}
use Rattle.std.proofs.lemmas.List.{length-map}
use Rattle.std.proofs.lemmas.List.Elements.{All-cons, All-head, All-nil, All-tail}
use Rattle.std.proofs.lemmas.List.Sums.{sum_by-cons}
use Rattle.calc_num.specs.Spelling.{reading}
use Rattle.calc_num.specs.declared.parse.Reading.{Reading}
use Rattle.calc_num.specs.declared.parse.Reading.TheVariants as readings
use Rattle.calc_model.specs.declared.content.Content.{Content}
use Rattle.calc_model.specs.declared.content.Content.TheVariants.{Constant}
use Rattle.calc_model.specs.declared.fault.Fault.{Fault}
use Rattle.calc_model.specs.declared.fault.Fault.TheVariants.{Over}
use Rattle.calc_model.specs.declared.limits.TheConstants.{MOST_FIELD_BYTES}
use Rattle.calc_model.specs.declared.value.Value.TheVariants.{Bad}
use Rattle.calc_model.specs.declared.tree.Tree.{Tree}
use Rattle.calc_model.specs.Books.{is_held, with_content}
use Rattle.calc_model.specs.Field.{begins_formula, constant_of, error_of, content_by, error_or_words, formula_or_raw, kept}
use Rattle.formula_reader.specs.Fields.{field_of}
use Rattle.formula_reader.specs.Reading.{formula_of}
use Rattle.calc_book.specs.BookCells.{Entries, Fields, Records, filled, has_bytes, with_fields, with_records}
use Rattle.calc_book.specs.Placed.{held_in, with_contents, with_rows}
use Rattle.calc_book.proofs.Counted.{count_first}

pub unmapped : {X Y : Type 0} (P : Y → Type 0) (f : X → Y) (xs : List X) → All P (map f xs) → All (λ x. P (f x)) xs
unmapped P f [] all = All-nil (λ x. P (f x))
unmapped P f (x ∷ xs) all =
    All-cons (λ x. P (f x)) x xs (All-head P (f x) (map f xs) all) (unmapped P f xs (All-tail P (f x) (map f xs) all))

pub mapped_twice : {X Y Z : Type 0} (f : X → Y) (g : Y → Z) (xs : List X) → map (λ x. g (f x)) xs ≡ map g (map f xs)
mapped_twice f g [] = refl
mapped_twice f g (x ∷ xs) = ap (λ zs. g (f x) ∷ zs) (mapped_twice f g xs)

-- a field with a byte holds something
words_held : (fault : Option Fault) (text : List ℕ) → is_held (error_or_words fault text) ≡ true
words_held None text = refl
words_held (Some fault) text = refl

constant_held : (read : Reading) (text : List ℕ) → is_held (constant_of read text) ≡ true
constant_held (readings.Number n) text = refl
constant_held readings.TooLarge text = refl
constant_held readings.NotNumber text = words_held (error_of text) text

formula_held : (formula : Option Tree) (text : List ℕ) → is_held (formula_or_raw formula text) ≡ true
formula_held None text = refl
formula_held (Some tree) text = refl

by_front : (begins : Bool) (formula : Option Tree) (text : List ℕ) → is_held (cond begins (formula_or_raw formula text) (constant_of (reading text) text)) ≡ true
by_front true formula text = formula_held formula text
by_front false formula text = constant_held (reading text) text

long_held : (formula : Option Tree) (byte : ℕ) (rest : List ℕ) → is_held (content_by formula (byte ∷ rest)) ≡ true
long_held formula byte rest = elim (nat_lt MOST_FIELD_BYTES (length (byte ∷ rest))) as (λ b. is_held (cond b (Constant (Bad Over)) (kept formula (byte ∷ rest))) ≡ true) [
  | true ↦ refl
  | false ↦ by_front (begins_formula (byte ∷ rest)) formula (byte ∷ rest)
]

pub field_held : (text : List ℕ) → is_held (field_of text) ≡ has_bytes text
field_held [] = refl
field_held (byte ∷ rest) =
    let more : length (byte ∷ rest) ≢ 0 = omega arith in
    let some : has_bytes (byte ∷ rest) ≡ true = ap not (ne_eqb (length (byte ∷ rest)) 0 more) in
    long_held (formula_of (byte ∷ rest)) byte rest ∙ sym some

fields_held : (fields : Fields) → held_in (map field_of fields) ≡ count_by has_bytes fields
fields_held [] = refl
fields_held (text ∷ texts) =
    count_first is_held (field_of text) (map field_of texts)
    ∙ ap (λ b. cond b 1 0 + held_in (map field_of texts)) (field_held text)
    ∙ ap (λ n. cond (has_bytes text) 1 0 + n) (fields_held texts)
    ∙ sym (count_first has_bytes text texts)

-- what records hold, row by row
abbrev pub contents_in : Records → List (List Content)
contents_in all = map (λ fields. map field_of fields) all

pub records_held : (all : Records) → sum_by held_in (contents_in all) ≡ filled all
records_held [] = refl
records_held (fields ∷ rest) =
    sum_by-cons held_in (map field_of fields) (contents_in rest)
    ∙ ap (λ n. n + sum_by held_in (contents_in rest)) (fields_held fields)
    ∙ ap (λ n. count_by has_bytes fields + n) (records_held rest)
    ∙ sym (sum_by-cons (λ fields. count_by has_bytes fields) fields rest)

pub contents_few : (most : ℕ) (all : Records) → All (λ fields. length fields ≤ most) all → All (λ contents. length contents ≤ most) (contents_in all)
contents_few most [] few = All-nil (λ (contents : List Content). length contents ≤ most)
contents_few most (fields ∷ rest) few =
    let here = All-head (λ (fields : Fields). length fields ≤ most) fields rest few in
    All-cons (λ contents. length contents ≤ most) (map field_of fields) (contents_in rest)
    (omega (arith, here, length-map fields field_of))
    (contents_few most rest (All-tail (λ (fields : Fields). length fields ≤ most) fields rest few))

fields_placed : (row col : ℕ) (cells : Entries) (fields : Fields) → with_contents row col cells (map field_of fields) ≡ with_fields field_of row col cells fields
fields_placed row col cells [] = refl
fields_placed row col cells (text ∷ texts) = fields_placed row (col + 1) (with_content cells (record { sheet = 0; col = col; row = row }) (field_of text)) texts

pub records_placed : (row : ℕ) (cells : Entries) (all : Records) → with_rows row cells (contents_in all) ≡ with_records field_of row cells all
records_placed row cells [] = refl
records_placed row cells (fields ∷ rest) =
    ap (λ cells. with_rows (row + 1) cells (contents_in rest)) (fields_placed row 1 cells fields) ∙ records_placed (row + 1) (with_fields field_of row 1 cells fields) rest
