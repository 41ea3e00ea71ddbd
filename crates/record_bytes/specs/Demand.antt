-- What demand 3 says of a state and a book, with the saved record's bytes.
-- Assumes nothing.
use Rattle.std.specs.Prelude.{Option}
use Rattle.std.specs.Prelude.{◌≡◌, List}
use Rattle.calls.specs.declared.Call.{Call}
use Rattle.rules.specs.State.{State}
use Rattle.book.specs.Book.{Book}
use Rattle.book.specs.Turns.{book_answers, book_final}
use Rattle.book.specs.Shown.{show}
use Rattle.book.specs.Answers.{answers_of, final_of}
use Rattle.record_bytes.specs.Record.{record_of}
use Rattle.record_bytes.specs.Loading.{saved}

-- what the demand says of a state and a book: equal answers and equal bytes saved, after any calls, refused ones and rows of wrong form included
abbrev pub EqualBytes : State → Book → Type 0
EqualBytes s b = (rows : List (Option Call)) → (answers_of s rows ≡ book_answers b rows) × (saved (final_of s rows) ≡ record_of (show (book_final b rows)))
