-- A workbook whose hub was made anew.
use Rattle.std.proofs.Common.{◌≡◌, false, Result, Ok, Err, subst}
use Rattle.std.specs.Prelude.{OnOk}
use Rattle.std.specs.Result.{is_err}
use Rattle.calc_model.specs.declared.edit.Edit.{Edit}
use Rattle.calc_model.specs.declared.edit.Edit.TheVariants.{Set, Clear, Copy, Fill, InsertRows, DeleteRows, Name, Unname, Make}
use Rattle.workbook.specs.Workbook.{AfterNoMemory, Made, State, mended, stale_of}

-- an edit of it is one of the workbook before
pub made_before : (before after : State) (edit : Edit) → Made (mended before) edit after → Made before edit after
unfolding stale_of
made_before before after edit made = record {
  step = made.step;
  book = made.book;
  stale = made.stale;
  alive = made.alive;
  ready = made.ready;
  results = made.results;
}

pub made_by : {T E : Type 0} (result : Result T E) (before now after : State) (edit : Edit) → now ≡ mended before → OnOk result (Made now edit after) → OnOk result (Made before edit after)
made_by (Ok x) before now after edit is made = made_before before after edit (subst (λ (s : State). Made s edit after) is made)
made_by (Err e) before now after edit is made = tt

-- what is left of it where memory was refused
pub refused_before : (before after : State) (edit : Edit) → AfterNoMemory (mended before) edit after → AfterNoMemory before edit after
refused_before before after (Set cell content) h = h
refused_before before after (Clear area) h = h
refused_before before after (Copy area to) h = h
refused_before before after (Fill from area) h = h
refused_before before after (InsertRows sheet place count) h = h
refused_before before after (DeleteRows sheet place count) h = h
refused_before before after (Name name area) h = h
refused_before before after (Unname name) h = h
refused_before before after (Make start rows) h = h

pub where_no_error : {T E : Type 0} (result : Result T E) (P : Type 0) → is_err result ≡ false → OnOk result P → P
where_no_error (Ok x) P none holds = holds
where_no_error (Err e) P none holds = cc
