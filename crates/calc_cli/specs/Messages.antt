-- What a user is told of a run, by its status. Where the output says it all, that is nothing.
use Rattle.std.specs.Prelude.{ℕ, ◌==◌, List, [], codes, if◌then◌else◌}
use Rattle.calc_cli.specs.declared.status.TheConstants.{BAD_WORDS, DESK_FAILED, NO_MEMORY, SCRIPT_TOO_LONG, SINK_FAILED}

abbrev pub message_of : ℕ → List ℕ
message_of status =
    if status == BAD_WORDS then codes "usage: calc [--workers N] BOOK"
    else (if status == DESK_FAILED then codes "the book or the script can't be read"
    else (if status == SINK_FAILED then codes "the output can't be written"
    else (if status == NO_MEMORY then codes "out of memory"
    else (if status == SCRIPT_TOO_LONG then codes "the script has more than 16,777,216 bytes" else []))))
