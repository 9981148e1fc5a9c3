-- How the inputs lead to the end of a run.
use Rattle.std.proofs.Common.{[], ◌≡◌, ◌≢◌, ℕ, ◌+◌, ◌≤◌, ◌<◌, Bool, true, false, not, cond, List, length, take, drop, Option, None, Some, Result, Ok, Err, refl, sym, ap, subst, ◌∙◌, append-nil, arith, nat_lt, nat_le, ◌⊎◌, inl, inr}
use Rattle.std.specs.Io.KnownBytes.{Appends}
use Rattle.std.proofs.KnownBytes.{Appends-nil}
use Rattle.std.proofs.lemmas.List.{drop_all}
use Rattle.std.proofs.lemmas.Bool.{lt-ltb, ltb-true}
use Rattle.std.proofs.lemmas.Bool.Decides.{leb_tells, nat_tests}
use Rattle.calc_model.specs.Books.{Book}
use Rattle.formula_reader.specs.Fields.{field_of}
use Rattle.formula_reader.proofs.Meaning.{field_reads}
use Rattle.calc_book.specs.declared.limits.TheConstants.{MOST_BYTES}
use Rattle.calc_book.specs.declared.cause.BookCause.{BookCause}
use Rattle.calc_book.specs.declared.cause.BookCause.TheVariants.{TooLarge}
use Rattle.calc_book.specs.BookCells.{book_fault, book_read, records_fault, records_in}
use Rattle.calc_cli.specs.declared.limits.TheConstants.{MOST_SCRIPT_BYTES}
use Rattle.calc_cli.specs.declared.status.TheConstants.{BOOK_REFUSED, DESK_FAILED, DONE, LINE_REFUSED, SCRIPT_TOO_LONG}
use Rattle.calc_cli.specs.Ending.{Ending, answered, book_refused, calculated, ending, ending_by, too_long}
use Rattle.calc_cli.specs.Output.{Session, has_refusal, output}
use Rattle.calc_cli.specs.Inputs.{IsLoaded}
use Rattle.calc_io.specs.Desk.{Books}
use Rattle.calc_cli.specs.Runs.{Ends, EndsSomehow, GrowsWithin, IsUndisturbed, LeavesInputs, Serves, Tells}
use Rattle.calc_words.specs.Words.{book_name}
use Rattle.calc_cli.proofs.TakenBytes.{longer, whole}

pub too_long_ends : (old : Option (List ℕ)) → Ends SCRIPT_TOO_LONG old old too_long
unfolding too_long
too_long_ends old = record {
  done = λ _. refl;
  all = λ _. Appends-nil old;
  prefix = ([], [], refl, Appends-nil old);
  nothing = λ _. Appends-nil old;
}

pub ends_refused : (stock : ℕ) (book script : List ℕ) (cause : BookCause) → book_fault book ≡ Some cause → book_refused cause ≡ ending field_of stock book script
ends_refused stock book script cause bad = ap (λ fault. ending_by field_of fault stock book script) (sym bad)

-- the end over a book that isn't refused, by the test of the script
abbrev by_size_of_script : ℕ → List ℕ → List ℕ → Bool → Ending
by_size_of_script stock book script long = cond long too_long (calculated field_of stock (book_read field_of book) script)

pub ends_too_long : (stock : ℕ) (book script : List ℕ) → book_fault book ≡ None → nat_lt MOST_SCRIPT_BYTES (length script) ≡ true → too_long ≡ ending field_of stock book script
ends_too_long stock book script good long =
    ap (by_size_of_script stock book script) (sym long) ∙ ap (λ fault. ending_by field_of fault stock book script) (sym good)

pub ends_answered : (stock : ℕ) (book script taken : List ℕ) (loaded : Book) → book_fault book ≡ None → nat_lt MOST_SCRIPT_BYTES (length script) ≡ false → loaded ≡ book_read field_of book → taken ≡ script → calculated field_of stock loaded taken ≡ ending field_of stock book script
ends_answered stock book script taken loaded good short loaded_is taken_is =
    ap (λ b. calculated field_of stock b taken) loaded_is
    ∙ ap (calculated field_of stock (book_read field_of book)) taken_is
    ∙ ap (by_size_of_script stock book script) (sym short)
    ∙ ap (λ fault. ending_by field_of fault stock book script) (sym good)

-- the bytes taken of a book, up to one more than it may have, tell whether it is refused
too_big : (book : List ℕ) → MOST_BYTES < length book → book_fault book ≡ Some TooLarge
unfolding book_fault
too_big book more = ap (λ long. cond long (Some TooLarge) (records_fault (records_in book))) (lt-ltb MOST_BYTES (length book) more)

big_loaded : (loaded : Result Book BookCause) (book taken : List ℕ) → book_fault taken ≡ Some TooLarge → book_fault book ≡ Some TooLarge → IsLoaded loaded taken → IsLoaded loaded book
big_loaded (Err cause) book taken small big is = big ∙ sym small ∙ is
big_loaded (Ok loaded) book taken small big is = cc (small, is.0)

by_size : (loaded : Result Book BookCause) (book taken : List ℕ) → taken ≡ take (MOST_BYTES + 1) book → ((nat_le (length taken) MOST_BYTES ≡ true) × (length taken ≤ MOST_BYTES)) ⊎ ((nat_le (length taken) MOST_BYTES ≡ false) × (MOST_BYTES < length taken)) → IsLoaded loaded taken → IsLoaded loaded book
by_size loaded book taken taken_is (inl (t, few)) is = subst (IsLoaded loaded) (whole MOST_BYTES taken book taken_is few) is
by_size loaded book taken taken_is (inr (t, more)) is =
    big_loaded loaded book taken (too_big taken more) (too_big book (ltb-true MOST_BYTES (length book) (longer MOST_BYTES taken book taken_is more))) is

pub loaded_whole : (loaded : Result Book BookCause) (book taken : List ℕ) → taken ≡ take (MOST_BYTES + 1) book → IsLoaded loaded taken → IsLoaded loaded book
loaded_whole loaded book taken taken_is is = by_size loaded book taken taken_is (leb_tells (length taken) MOST_BYTES) is

-- an input within its limit has no byte behind it
not_beyond : (most n : ℕ) → nat_lt most n ≡ false → n ≤ most
not_beyond most n h = grind (arith, nat_tests)

pub book_ends : (book : List ℕ) → book_fault book ≡ None → drop (MOST_BYTES + 1) book ≡ []
book_ends book good =
    elim (leb_tells (length book) MOST_BYTES) [
      | inl (t, few) ↦ drop_all (MOST_BYTES + 1) book (omega (arith, few))
      | inr (t, more) ↦ cc (too_big book more, good)
    ]

pub script_ends : (script : List ℕ) → nat_lt MOST_SCRIPT_BYTES (length script) ≡ false → drop (MOST_SCRIPT_BYTES + 1) script ≡ []
script_ends script short = drop_all (MOST_SCRIPT_BYTES + 1) script (omega (arith, not_beyond MOST_SCRIPT_BYTES (length script) short))

pub too_long_left : (script : List ℕ) (book_left script_left : Option (List ℕ)) → script_left ≡ Some (drop (MOST_SCRIPT_BYTES + 1) script) → LeavesInputs SCRIPT_TOO_LONG script book_left script_left
too_long_left script book_left script_left left = record {
  book_ends = λ few. absurd (omega arith);
  script_ends = λ few. absurd (omega arith);
  untaken = λ six. absurd (omega arith);
  cut_off = λ _. left;
}

pub told_of : (books : Option Books) (script_left : Option (List ℕ)) (words : List (List ℕ)) (book script name : List ℕ) → Serves books script_left words book script → book_name words ≡ Some name → Tells books script_left name book script
told_of books script_left words book script name serves named =
    let same : serves.name ≡ name = cc (serves.is_named, named) in
    subst (λ n. Tells books script_left n book script) same serves.told

-- the script's lines were answered, and all that they write is written
pub answered_ends : (status : ℕ) (refused : Bool) (session : Session) (lines : List (List ℕ)) (old new : Option (List ℕ)) → status ≡ cond refused LINE_REFUSED DONE → status < DESK_FAILED → refused ≡ has_refusal field_of session 1 lines → Appends old new (output field_of session 1 lines) → Ends status old new (answered field_of session lines)
answered_ends status refused session lines old new status_is low refused_is written = record {
  done = λ _. status_is ∙ ap (λ b. cond b LINE_REFUSED DONE) refused_is;
  all = λ _. written;
  prefix = (output field_of session 1 lines, [], sym (append-nil (output field_of session 1 lines)), written);
  nothing = λ desk. absurd (omega arith);
}

-- a device failed or memory was wanting in the midst of the lines, of whose output a front is written
pub cut_short : (status : ℕ) (session : Session) (lines : List (List ℕ)) (old new : Option (List ℕ)) → (IsUndisturbed status → ⊥) → status ≢ DESK_FAILED → GrowsWithin old new (output field_of session 1 lines) → Ends status old new (answered field_of session lines)
cut_short status session lines old new not desk written = record {
  done = λ calm. absurd (not calm);
  all = λ calm. absurd (not calm);
  prefix = written;
  nothing = λ is. absurd (desk is);
}

-- the refusal of a book was written
pub refusal_ends : (cause : BookCause) (text : List ℕ) (old new : Option (List ℕ)) → text ≡ (book_refused cause).written → Appends old new text → Ends BOOK_REFUSED old new (book_refused cause)
unfolding book_refused
refusal_ends cause text old new text_is written =
    let all = subst (Appends old new) text_is written in
    record {
      done = λ _. refl;
      all = λ _. all;
      prefix = ((book_refused cause).written, [], sym (append-nil (book_refused cause).written), all);
      nothing = λ desk. absurd (omega arith);
    }

-- where a run was disturbed before it wrote, it ended as for any book and script
pub disturbed : (stock status : ℕ) (old : Option (List ℕ)) → (IsUndisturbed status → ⊥) → EndsSomehow stock status old old
disturbed stock status old not =
    let end = ending field_of stock [] [] in (
      end,
      (field_of, field_reads, [], [], refl),
      record {
        done = λ calm. absurd (not calm);
        all = λ calm. absurd (not calm);
        prefix = ([], end.written, refl, Appends-nil old);
        nothing = λ _. Appends-nil old;
      },
    )
