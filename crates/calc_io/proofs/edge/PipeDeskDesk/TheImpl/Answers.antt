use Rattle.std.proofs.Common.{Result, Ok, Err, refl}
use Rattle.std.specs.Prelude.{OnOk, OnErr, ⊤}
use Rattle.calc_io.proofs.Counting.{CountsFailure-cause}
use Rattle.calc_io.proofs.KnownBytes.{ReadConsumes-untold}
use Rattle.calc_io.proofs.edge.PipeDeskDesk.TheImpl.Goals as goal

ok_or_not : {T E : Type 0} (result : Result T E) → OnOk result ⊤
ok_or_not (Ok value) = tt
ok_or_not (Err error) = tt

err_or_not : {T E : Type 0} (result : Result T E) → OnErr result ⊤
err_or_not (Ok value) = tt
err_or_not (Err error) = tt

pub open_book-tells : goal.open_book-tells
open_book-tells g c = record {
  opened = ok_or_not c.result;
  unknown = λ h. absurd h;
  still_open = err_or_not c.result;
  same_script = tt;
  same_books = refl;
  same_calm = refl;
  later = c.ensures.later;
  cause = CountsFailure-cause _ _ c.result c.ensures.counted;
  no_fault = λ calm. cc;
}

pub read_book-tells : goal.read_book-tells
read_book-tells g c = record {
  bound = c.ensures.bound;
  bytes = ReadConsumes-untold c.result c.new.buf.now;
  same_script = tt;
  same_books = refl;
  same_calm = refl;
  later = c.ensures.later;
  cause = CountsFailure-cause _ _ c.result c.ensures.counted;
  no_fault = λ calm. cc;
}

pub read_script-tells : goal.read_script-tells
read_script-tells g c = record {
  bound = c.ensures.bound;
  bytes = ReadConsumes-untold c.result c.new.buf.now;
  same_book = tt;
  same_books = refl;
  same_calm = refl;
  later = c.ensures.later;
  cause = CountsFailure-cause _ _ c.result c.ensures.counted;
  no_fault = λ calm. cc;
}
