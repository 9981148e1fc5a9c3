-- What is left to read of a formula, and the steps over it. A step fails, with `None`, where the formula isn't
-- spelled within the limits.
use Rattle.std.specs.Prelude.{◌≡◌, ℕ, zero, suc, ◌-◌, ◌==◌, Bool, List, drop, Option, Some, None, Result, Ok, Err, option_map, if◌then◌else◌}
use Rattle.byte_cuts.specs.Fronts.{begins, behind}
use Rattle.calc_model.specs.Tokens.{is_blank}
use Rattle.calc_model.specs.declared.tree.Tree.{Tree}
use Rattle.formula_reader.specs.declared.cursor.Cursor.{Cursor}
use Rattle.formula_reader.specs.declared.cursor.Stop.{Stop}
use Rattle.formula_reader.specs.declared.cursor.Stop.TheVariants as stops

-- the bytes that aren't read, which begin with no blank, and how many tokens may still be taken
pub record Unread : Type 0 where
  pub bytes : List ℕ
  pub tokens : ℕ

abbrev pub unread_of : Cursor → Unread
unread_of cursor = record { bytes = cursor.bytes.now; tokens = cursor.tokens }

-- a tree and what is left behind it
abbrev pub Read : Type 0
Read = Option (Tree × Unread)

-- one step after another, which fails where one of them does
infixl 10 ◌>>=◌
abbrev pub ◌>>=◌ : {A B : Type 0} → Option A → (A → Option B) → Option B
None >>= step = None
(Some x) >>= step = step x

-- a value with what stands behind it
abbrev pub beside : {A B : Type 0} → B → A → A × B
beside rest x = (x, rest)

-- the blanks in front are passed over
abbrev pub skip : List ℕ → List ℕ
skip bytes = behind is_blank bytes

-- A token is taken where these bytes stand behind it: it costs one, and the blanks behind it go with it.
abbrev pub past : ℕ → List ℕ → Option Unread
past tokens rest = if tokens == 0 then None else Some (record { bytes = skip rest; tokens = tokens - 1 })

abbrev pub some_taken : {X : Type 0} → X → Unread → Option X × Unread
some_taken x unread = (Some x, unread)

-- what was found in front is taken as a token, if there is something
abbrev pub taken_if : {X : Type 0} → Unread → Option (X × List ℕ) → Option (Option X × Unread)
taken_if unread None = Some (None, unread)
taken_if unread (Some found) = option_map (some_taken found.0) (past unread.tokens found.1)

-- the first byte is this one
abbrev pub next_is : ℕ → List ℕ → Bool
next_is byte bytes = begins (λ first. first == byte) bytes

-- a token of one byte is taken
abbrev pub token_at : ℕ → Unread → Option Unread
token_at byte unread = if next_is byte unread.bytes then past unread.tokens (drop 1 unread.bytes) else None

-- what a repeated step does next: it ends, or goes on with what was made
abbrev pub go_on : {S : Type 0} → (S → Unread → Option (S × Unread)) → S → Option S × Unread → Option (S × Unread)
go_on rest state made = elim made.0 [ None ↦ Some (state, made.1) | Some next ↦ rest next made.1 ]

-- A step that is repeated until it ends, at most so often.
unfoldable pub repeat : {S : Type 0} → (S → Unread → Option (Option S × Unread)) → ℕ → S → Unread → Option (S × Unread)
repeat step zero state unread = Some (state, unread)
repeat step (suc n) state unread = step state unread >>= go_on (repeat step n) state

-- What a step of the code returned, seen by view, is what the reading gives, unless memory was refused.
abbrev pub Fails : {A : Type 0} → Stop → Option A → Type 0
Fails stops.NoMemory read = Unit {0}
Fails stops.Unspelled read = read ≡ None

abbrev pub Makes : {X A : Type 0} → (X → A) → Result X Stop → Option A → Type 0
Makes view (Ok x) made = made ≡ Some (view x)
Makes view (Err stop) made = Fails stop made

-- the same of a step over what is left
abbrev pub Gives : {A : Type 0} → Result A Stop → Cursor → Option (A × Unread) → Type 0
Gives (Ok x) left read = read ≡ Some (x, unread_of left)
Gives (Err stop) left read = Fails stop read

-- the same of a step over what is left that returns nothing
abbrev pub Leaves : {A : Type 0} → Result A Stop → Cursor → Option Unread → Type 0
Leaves (Ok x) left read = read ≡ Some (unread_of left)
Leaves (Err stop) left read = Fails stop read
