-- Worked examples of the records of books, and of why books are refused, each computed.
use Rattle.std.proofs.Common.{◌≡◌, [], ◌∷◌, ◌++◌, codes, Some, None, refl}
use lib.Utf8.{encode}
use Rattle.std.specs.Str.{chars, is_utf8}
use Rattle.csv.specs.Machine.{next_record}
use Rattle.csv.specs.Reading.{records_from, strip_bom}
use Rattle.calc_book.specs.declared.cause.BookCause.TheVariants.{NotUtf8, TooManyRows}
use Rattle.calc_book.specs.BookCells.{book_fault, first_fault, record_fault, records_in}

a_record_ends_with_a_line_feed : records_in (codes "a,b\nc\n") ≡ (codes "a" ∷ codes "b" ∷ []) ∷ (codes "c" ∷ []) ∷ []
unfolding records_in records_from next_record strip_bom
a_record_ends_with_a_line_feed = refl

the_last_record_may_end_with_the_book : records_in (codes "a\nb") ≡ (codes "a" ∷ []) ∷ (codes "b" ∷ []) ∷ []
unfolding records_in records_from next_record strip_bom
the_last_record_may_end_with_the_book = refl

a_return_may_stand_before_the_line_feed : records_in (codes "a,b\r\nc\r\n") ≡ (codes "a" ∷ codes "b" ∷ []) ∷ (codes "c" ∷ []) ∷ []
unfolding records_in records_from next_record strip_bom
a_return_may_stand_before_the_line_feed = refl

fields_may_be_empty : records_in (codes "a,,\n,b\n") ≡ (codes "a" ∷ [] ∷ [] ∷ []) ∷ ([] ∷ codes "b" ∷ []) ∷ []
unfolding records_in records_from next_record strip_bom
fields_may_be_empty = refl

a_quoted_field_may_have_commas_and_line_feeds : records_in (codes "\"a,b\nc\",d\n") ≡ (codes "a,b\nc" ∷ codes "d" ∷ []) ∷ []
unfolding records_in records_from next_record strip_bom
a_quoted_field_may_have_commas_and_line_feeds = refl

a_quote_in_quotes_is_doubled : records_in (codes "\"a\"\"b\"\n") ≡ (codes "a\"b" ∷ []) ∷ []
unfolding records_in records_from next_record strip_bom
a_quote_in_quotes_is_doubled = refl

a_quoted_field_may_be_empty : records_in (codes "\"\",a\n") ≡ ([] ∷ codes "a" ∷ []) ∷ []
unfolding records_in records_from next_record strip_bom
a_quoted_field_may_be_empty = refl

a_mark_at_the_start_is_dropped : records_in (0xEF ∷ 0xBB ∷ 0xBF ∷ codes "a\n") ≡ (codes "a" ∷ []) ∷ []
unfolding records_in records_from next_record strip_bom
a_mark_at_the_start_is_dropped = refl

a_second_mark_belongs_to_its_field : records_in (0xEF ∷ 0xBB ∷ 0xBF ∷ 0xEF ∷ 0xBB ∷ 0xBF ∷ codes "a\n") ≡ ((0xEF ∷ 0xBB ∷ 0xBF ∷ codes "a") ∷ []) ∷ []
unfolding records_in records_from next_record strip_bom
a_second_mark_belongs_to_its_field = refl

no_byte_is_no_record : records_in [] ≡ []
unfolding records_in records_from next_record strip_bom
no_byte_is_no_record = refl

a_text_is_loaded : book_fault (0xC3 ∷ 0xA9 ∷ codes ",a\n") ≡ None
unfolding book_fault records_in records_from next_record strip_bom is_utf8 chars encode
a_text_is_loaded = refl

the_cell_of_a_byte_that_is_no_text_is_told : book_fault (codes "a\nb," ++ (0xFF ∷ codes ",c\n")) ≡ Some (NotUtf8 (record { sheet = 0; col = 2; row = 2 }))
unfolding book_fault records_in records_from next_record strip_bom is_utf8 chars encode
the_cell_of_a_byte_that_is_no_text_is_told = refl

the_last_row_may_hold_a_record : record_fault 1048576 (codes "a" ∷ []) ≡ None
unfolding is_utf8 chars encode
the_last_row_may_hold_a_record = refl

the_row_comes_before_the_text : record_fault 1048577 ((0xFF ∷ []) ∷ []) ≡ Some TooManyRows
the_row_comes_before_the_text = refl

the_first_record_at_fault_is_told : first_fault 1048576 (((0xFF ∷ []) ∷ []) ∷ (codes "a" ∷ []) ∷ []) ≡ Some (NotUtf8 (record { sheet = 0; col = 1; row = 1048576 }))
unfolding is_utf8 chars encode
the_first_record_at_fault_is_told = refl
