-- A record is read, tested by its row, and taken into the book.
use Rattle.std.proofs.Common.{rules, ◌≡◌, ◌+◌, ◌∷◌, [], ℕ, Bor, List, Some, None, refl, sym, ap, subst, inl, inr, ◌∙◌, arith}
use Rattle.std.specs.Option.{option_or}
use Rattle.csv.specs.Machine.{ends_at_end}
use Rattle.csv.specs.Reading.{strip_bom}
use Rattle.csv.specs.Records.{fields_of}
use Rattle.calc_book.specs.BookCells.{Records, first_fault, record_fault, records_in}
use Rattle.calc_book.specs.Growing.{Grows}
use Rattle.calc_book.proofs.CsvRecords.{all_in, left, none_read, record_read}
use Rattle.calc_book.proofs.NoFault.{fields_few, fields_text, row_within}
use Rattle.calc_book.proofs.rows.take_records.Goals as goal

pub loop-record-init : goal.loop-record-init
loop-record-init g c =
    let made = c.from_reader-reader.ensures in
    let flexible = c.flexible.ensures in
    let headers = c.has_headers.ensures in
    let bytes = c.args.bytes.now in
    let start = c.into_iter-record-iterator.ensures.into_iter_gives ∙ refl in
    rw (start, c.into_byte_records-record-items.ensures.rdr) (
      records_in bytes,
      record {
        trim = rw (flexible, headers) at made.trim ∙ c.new.ensures.trim;
        ready = inr (inr (rw (flexible, headers) at made.has_headers, made.headers));
        turns = c.into_byte_records-record-items.ensures.left;
        setup = rw (flexible, headers) at made.config ∙ c.new.ensures.config;
        has = record { bytes = strip_bom bytes; source = made.source; rests = ap ends_at_end made.state; all_left = ap (λ s. left s (strip_bom bytes)) made.state ∙ all_in bytes };
        grows = c.requires;
        fault = refl;
        from = omega arith;
        few = omega arith;
      },
    )

pub returns-in-Some-record_fault-clause-fault : goal.returns-in-Some-record_fault-clause-fault
returns-in-Some-record_fault-clause-fault g c =
    let inv = c.loop-record.invariant.1 in
    let step = rw (c.in-Some.is, c.in-Ok.is) at ((c.next.ensures.steps inv.turns inv.trim).0 inv.ready) in
    let more = record_read (λ (s : Bor (List ℕ)). Some s.now) c.loop-record.record-iterator.rdr c.next.new.self.rdr inv.setup c.loop-record.invariant.0 (fields_of c.in-Ok.record) inv.has step.0 in
    sym inv.fault ∙ ap (first_fault c.loop-record.row) more.1 ∙ ap (λ fault. option_or fault (first_fault (c.loop-record.row + 1) more.0)) (sym c.in-Some-record_fault.ensures)

pub take-requires-clause-text : goal.take-requires-clause-text
take-requires-clause-text g c κs within = fields_text c.loop-record.row (fields_of c.in-Ok.record) (sym c.in_default-record_fault.ensures)

pub take-requires-clause-grows : goal.take-requires-clause-grows
take-requires-clause-grows g c κs within =
    let inv = c.loop-record.invariant.1 in
    let fields = fields_of c.in-Ok.record in
    let row = c.loop-record.row in
    let all = records_in c.args.bytes.now in
    let step = rw (c.in-Some.is, c.in-Ok.is) at ((c.next.ensures.steps inv.turns inv.trim).0 inv.ready) in
    let more = record_read (λ (s : Bor (List ℕ)). Some s.now) c.loop-record.record-iterator.rdr c.next.new.self.rdr inv.setup c.loop-record.invariant.0 fields inv.has step.0 in
    (row, more.0, all, row_within row fields (sym c.in_default-record_fault.ensures), subst (λ (rest : Records). Grows c.loop-record.book row rest all) more.1 inv.grows)

pub loop-record-preserved : goal.loop-record-preserved
loop-record-preserved g c =
    let inv = c.loop-record.invariant.1 in
    let fields = fields_of c.in-Ok.record in
    let row = c.loop-record.row in
    let all = records_in c.args.bytes.now in
    let step = rw (c.in-Some.is, c.in-Ok.is) at ((c.next.ensures.steps inv.turns inv.trim).0 inv.ready) in
    let more = record_read (λ (s : Bor (List ℕ)). Some s.now) c.loop-record.record-iterator.rdr c.next.new.self.rdr inv.setup c.loop-record.invariant.0 fields inv.has step.0 in
    let good : record_fault row fields ≡ None = sym c.in_default-record_fault.ensures in
    let within = row_within row fields good in (
      more.0,
      record {
        trim = step.0.3 ∙ inv.trim;
        ready = inl step.1;
        turns = step.2;
        setup = step.0.2 ∙ inv.setup;
        has = more.2;
        grows = c.in-Ok-take.ensures row more.0 all within (subst (λ (rest : Records). Grows c.loop-record.book row rest all) more.1 inv.grows);
        fault = ap (λ fault. option_or fault (first_fault (row + 1) more.0)) (sym good) ∙ sym (ap (first_fault row) more.1) ∙ inv.fault;
        from = omega arith;
        few = omega (arith, within);
      },
    )

pub returns-clause-grows : goal.returns-clause-grows
returns-clause-grows g c =
    let inv = c.loop-record.invariant.1 in
    let step = rw c.in-None.is at ((c.next.ensures.steps inv.turns inv.trim).0 inv.ready) in
    let none = none_read (λ (s : Bor (List ℕ)). Some s.now) c.loop-record.record-iterator.rdr c.next.new.self.rdr inv.setup c.loop-record.invariant.0 [] inv.has step in
    (c.loop-record.row, subst (λ (rest : Records). Grows c.loop-record.book c.loop-record.row rest (records_in c.args.bytes.now)) none inv.grows)

pub returns-clause-fault : goal.returns-clause-fault
returns-clause-fault g c =
    let inv = c.loop-record.invariant.1 in
    let step = rw c.in-None.is at ((c.next.ensures.steps inv.turns inv.trim).0 inv.ready) in
    let none = none_read (λ (s : Bor (List ℕ)). Some s.now) c.loop-record.record-iterator.rdr c.next.new.self.rdr inv.setup c.loop-record.invariant.0 [] inv.has step in
    sym inv.fault ∙ ap (first_fault c.loop-record.row) none
