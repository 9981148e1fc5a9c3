-- The records that csv's reader has left: each one takes a byte at least, so that the bytes bound their number.
use Rattle.std.proofs.Common.{◌≡◌, ℕ, zero, suc, ◌+◌, ◌<◌, ◌≤◌, ◌==◌, ◌||◌, Bool, true, false, cond, List, [], ◌∷◌, ◌++◌, length, Option, Some, None, refl, sym, ap, subst, ◌∙◌, arith}
use Rattle.csv.specs.Machine.{Read, ends_at_end, fields_after, field_after, is_end, next_record, step}
use Rattle.csv.specs.Reading.{AreRecords, Reached, ReadRecord, default_config, records_from, records_next, source_of, strip_bom}
use Rattle.csv.specs.declared.parser.Action.{Action}
use Rattle.csv.specs.declared.parser.Action.TheVariants as act
use Rattle.csv.specs.declared.parser.State.{State}
use Rattle.csv.specs.declared.parser.State.TheVariants as st
use Rattle.csv.specs.declared.reader.Reader.{Reader}
use Rattle.csv.proofs.ReadFacts.{rows-end, rows-more}
use Rattle.calc_book.specs.BookCells.{records_in}
use Rattle.calc_book.specs.CsvLaw.{ReadsAsCsv}

-- a state between two records
abbrev pub between : State → Type 0
between s = ends_at_end s ≡ false

-- the end of a record leaves the machine between records
EndsBetween : State × Action → Type 0
EndsBetween next = is_end next.1 ≡ true → between next.0

goes_on : (s : State) (a : Action) → is_end a ≡ false → EndsBetween (s, a)
unfolding EndsBetween
goes_on s a copies h = cc

in_field : (comma ends return : Bool) → EndsBetween (cond comma (st.StartField, act.EndField) (cond ends (cond return st.AfterCr st.StartRecord, act.EndRecord) (st.InField, act.Copy)))
unfolding EndsBetween
in_field true ends return h = cc
in_field false true true h = refl
in_field false true false h = refl
in_field false false return h = cc

unless_quoted : (quote : Bool) (s : State) (a : Action) (next : State × Action) → is_end a ≡ false → EndsBetween next → EndsBetween (cond quote (s, a) next)
unfolding EndsBetween
unless_quoted true s a next copies is h = cc
unless_quoted false s a next copies is h = is h

ends_between : (s : State) (c : ℕ) → EndsBetween (step default_config s c)
ends_between st.StartRecord c = unless_quoted ((c == 13) || (c == 10)) st.StartRecord act.Skip _ refl (unless_quoted (c == 34) st.InQuoted act.Skip _ refl (in_field (c == 44) ((c == 13) || (c == 10)) (c == 13)))
ends_between st.StartField c = unless_quoted (c == 34) st.InQuoted act.Skip _ refl (in_field (c == 44) ((c == 13) || (c == 10)) (c == 13))
ends_between st.InField c = in_field (c == 44) ((c == 13) || (c == 10)) (c == 13)
ends_between st.InQuoted c = unless_quoted (c == 34) st.AfterQuote act.Skip _ refl (goes_on st.InQuoted act.Copy refl)
ends_between st.InEscape c = goes_on st.InQuoted act.Copy refl
ends_between st.AfterQuote c = unless_quoted (c == 34) st.InQuoted act.Copy _ refl (in_field (c == 44) ((c == 13) || (c == 10)) (c == 13))
ends_between st.InComment c = unless_quoted (c == 10) st.StartRecord act.Skip _ refl (goes_on st.InComment act.Skip refl)
ends_between st.AfterCr c = unless_quoted (c == 10) st.StartRecord act.Skip _ refl (unless_quoted ((c == 13) || (c == 10)) st.StartRecord act.Skip _ refl (unless_quoted (c == 34) st.InQuoted act.Skip _ refl (in_field (c == 44) ((c == 13) || (c == 10)) (c == 13))))

-- what a read leaves
record Leaves (bytes : List ℕ) (read : Read) : Type 0 where
  fewer : length read.2 ≤ length bytes
  rests : between read.1

at_end : (ends : Bool) (fields : List (List ℕ)) (read : Read) → cond ends (Some (fields, st.StartRecord, [])) None ≡ Some read → Leaves [] read
at_end true fields read is =
    let same : (fields, st.StartRecord, []) ≡ read = cc in
    subst (Leaves []) same (record { fewer = omega arith; rests = refl })
at_end false fields read is = cc

at_byte : (c : ℕ) (rest : List ℕ) (next : State × Action) (fields : List (List ℕ)) (on : Option Read) (read : Read) → EndsBetween next → ((on ≡ Some read) → Leaves rest read) → (ends : Bool) → is_end next.1 ≡ ends → cond ends (Some (fields, next.0, rest)) on ≡ Some read → Leaves rest read
unfolding EndsBetween
at_byte c rest next fields on read stands later true e is =
    let same : (fields, next.0, rest) ≡ read = cc in
    subst (Leaves rest) same (record { fewer = omega arith; rests = stands e })
at_byte c rest next fields on read stands later false e is = later is

-- a read that a byte begins leaves no more bytes than follow it
behind_byte : (s : State) (fields : List (List ℕ)) (field : List ℕ) (c : ℕ) (rest : List ℕ) (read : Read) → ((s : State) (fields : List (List ℕ)) (field : List ℕ) → next_record default_config s fields field rest ≡ Some read → Leaves rest read) → next_record default_config s fields field (c ∷ rest) ≡ Some read → Leaves rest read
unfolding next_record
behind_byte s fields field c rest read later is =
    let next = step default_config s c in
    let more = fields_after next.1 fields field in
    let on = next_record default_config next.0 more (field_after next.1 c field) rest in
    at_byte c rest next more on read (ends_between s c) (later next.0 more (field_after next.1 c field)) (is_end next.1) refl is

leaves : (bytes : List ℕ) (read : Read) (s : State) (fields : List (List ℕ)) (field : List ℕ) → next_record default_config s fields field bytes ≡ Some read → Leaves bytes read
unfolding next_record
leaves [] read s fields field is = at_end (ends_at_end s) (fields ++ (field ∷ [])) read is
leaves (c ∷ rest) read s fields field is =
    let left = behind_byte s fields field c rest read (leaves rest read) is in
    record { fewer = omega (arith, left.fewer); rests = left.rests }

-- What a read between records leaves: fewer bytes.
record LeavesFewer (bytes : List ℕ) (read : Read) : Type 0 where
  fewer : length read.2 < length bytes
  rests : between read.1

leaves_fewer : (bytes : List ℕ) (read : Read) (s : State) → between s → next_record default_config s [] [] bytes ≡ Some read → LeavesFewer bytes read
unfolding next_record
leaves_fewer [] read s rests is =
    let whole : Read = ([] ∷ [], st.StartRecord, []) in
    let none : cond (ends_at_end s) (Some whole) None ≡ None = ap (λ b. cond b (Some whole) None) rests in
    cc
leaves_fewer (c ∷ rest) read s rests is =
    let left = behind_byte s [] [] c rest read (leaves rest read) is in
    record { fewer = omega (arith, left.fewer); rests = left.rests }

-- all the records that are left, whatever more of them is asked for than there are bytes
enough : (n m : ℕ) (s : State) (bytes : List ℕ) → length bytes < n → length bytes < m → between s → records_from default_config n s bytes ≡ records_from default_config m s bytes
unfolding records_from
enough zero m s bytes few less rests = absurd (omega arith)
enough (suc n) zero s bytes few less rests = absurd (omega arith)
enough (suc n) (suc m) s bytes few less rests =
    let by_read : (found : Option Read) → next_record default_config s [] [] bytes ≡ found → records_next (records_from default_config n) found ≡ records_next (records_from default_config m) found =
    λ found. elim found as (λ found. next_record default_config s [] [] bytes ≡ found → records_next (records_from default_config n) found ≡ records_next (records_from default_config m) found) [
      | None ↦ λ is. refl
      | Some read ↦ λ is.
          let left = leaves_fewer bytes read s rests is in
          ap (λ more. read.0 ∷ more) (enough n m read.1 read.2 (omega (arith, left.fewer)) (omega (arith, left.fewer)) left.rests)
    ]
    in by_read (next_record default_config s [] [] bytes) refl

-- the records that are left of these bytes
abbrev pub left : State → List ℕ → List (List (List ℕ))
left s bytes = records_from default_config (length bytes + 1) s bytes

one_more : (n : ℕ) (s : State) (bytes : List ℕ) → records_from default_config (n + 1) s bytes ≡ records_next (records_from default_config n) (next_record default_config s [] [] bytes)
unfolding records_from
one_more n s bytes =
    let next : n + 1 ≡ suc n = omega arith in
    ap (λ k. records_from default_config k s bytes) next

none_left : (s : State) (bytes : List ℕ) → next_record default_config s [] [] bytes ≡ None → left s bytes ≡ []
none_left s bytes is = one_more (length bytes) s bytes ∙ ap (records_next (records_from default_config (length bytes))) is

one_left : (s : State) (bytes : List ℕ) (read : Read) → between s → next_record default_config s [] [] bytes ≡ Some read → left s bytes ≡ read.0 ∷ left read.1 read.2
one_left s bytes read rests is =
    let after = leaves_fewer bytes read s rests is in
    one_more (length bytes) s bytes
    ∙ ap (records_next (records_from default_config (length bytes))) is
    ∙ ap (λ more. read.0 ∷ more) (enough (length bytes) (length read.2 + 1) read.1 read.2 (omega (arith, after.fewer)) (omega arith) after.rests)

-- A reader has these records left.
pub record HasLeft {R : Type 0} (rem : R → Option (List ℕ)) (reader : Reader R) (all : List (List (List ℕ))) : Type 0 where
  pub bytes : List ℕ
  pub source : source_of rem reader ≡ Some bytes
  pub rests : between reader.state
  pub all_left : left reader.state bytes ≡ all

pub all_in : (bytes : List ℕ) → left st.StartRecord (strip_bom bytes) ≡ records_in bytes
unfolding records_in
all_in bytes = refl

module _ {R : Type 0} (rem : R → Option (List ℕ)) (before after : Reader R) (setup : before.config ≡ default_config) where
  -- a read gave the first of the records that were left
  pub record_read : (all : List (List (List ℕ))) (fields : List (List ℕ)) → HasLeft rem before all → ReadRecord rem before after true fields → (rest : List (List (List ℕ))) × (all ≡ fields ∷ rest) × HasLeft rem after rest
  unfolding Reached
  record_read all fields has read =
      let more = rows-more rem before after fields default_config before.state has.bytes has.bytes [] setup has.source (refl, refl) read in
      let took = more.2 in
      let step = took.0 in
      let fewer = leaves_fewer has.bytes step before.state has.rests took.1 in (
        left after.state more.0,
        sym has.all_left ∙ one_left before.state has.bytes step has.rests took.1 ∙ ap (λ f. f ∷ left step.1 step.2) (sym took.2) ∙ ap (λ s. fields ∷ left s step.2) took.3.0 ∙ ap (λ b. fields ∷ left after.state b) took.3.1,
        record { bytes = more.0; source = more.1; rests = subst between took.3.0 fewer.rests; all_left = refl },
      )

  -- a read found none
  pub none_read : (all : List (List (List ℕ))) (fields : List (List ℕ)) → HasLeft rem before all → ReadRecord rem before after false fields → all ≡ []
  none_read all fields has read =
      sym has.all_left ∙ none_left before.state has.bytes (rows-end rem before after fields default_config has.bytes setup has.source read)

-- the records that are left are those of csv's relation
are_records : (n : ℕ) (s : State) (bytes : List ℕ) → length bytes < n → between s → AreRecords default_config s bytes (records_from default_config n s bytes)
unfolding records_from Reached
are_records zero s bytes few rests = absurd (omega arith)
are_records (suc n) s bytes few rests =
    let by_read : (found : Option Read) → next_record default_config s [] [] bytes ≡ found → AreRecords default_config s bytes (records_next (records_from default_config n) found) =
    λ found. elim found as (λ found. next_record default_config s [] [] bytes ≡ found → AreRecords default_config s bytes (records_next (records_from default_config n) found)) [
      | None ↦ λ is. (s, bytes, (refl, refl), is)
      | Some read ↦ λ is.
          let left = leaves_fewer bytes read s rests is in
          let rest = are_records n read.1 read.2 (omega (arith, few, left.fewer)) left.rests in
          (rest.0, rest.1, (read, is, refl, rest.2), rest.3)
    ]
    in by_read (next_record default_config s [] [] bytes) refl

pub read_as_csv : ReadsAsCsv
unfolding records_in
read_as_csv bytes =
    let text = strip_bom bytes in
    are_records (length text + 1) st.StartRecord text (omega arith) refl
