-- Demand 3: calls and rows one after the other, by the promises of the kernel and of the saved record, against the plain book.
-- Each is a row that was taken apart: a list of calls is `map Some` of it, whether they are made by `Kernel::step` or by the thirteen methods, and a
-- list of rows of 8 bytes is `map decoded` of it.
-- Assumes nothing.
use Rattle.std.specs.Prelude.{Option}
use Rattle.std.specs.Prelude.{ℕ, ◌≤◌, ◌≡◌, List, [], ◌∷◌, ◌++◌, length, drop}
use Rattle.calls.specs.declared.Answer.{Answer}
use Rattle.calls.specs.declared.Call.{Call}
use Rattle.rules.specs.State.{boot}
use Rattle.book.specs.Book.{Book}
use Rattle.book.specs.Turns.{book_answers, book_final}
use Rattle.book.specs.Shown.{book_boot, show, enter}
use Rattle.record_bytes.specs.Record.{page_in, record_of}
use Rattle.record_bytes.specs.Loading.{load}
use Rattle.kernel.specs.declared.Kernel.{Kernel}
use Rattle.kernel.specs.declared.Stepped.{Stepped}
use Rattle.kernel.specs.Kernels.{kernel_of, Steps}
use Rattle.record.specs.declared.Loaded.{Loaded}
use Rattle.record.specs.declared.Saved.{Saved}
use Rattle.record.specs.Records.{loaded_of, Saves}

-- ---- the public step repeated

-- whatever the promises of `Kernel::step`, of the thirteen methods and of `Kernel::step_row` allow: one answer for each, in order, and the kernel after the last
abbrev pub Repeats : Kernel → List (Option Call) → List Answer → Kernel → Type 0
Repeats x [] answers y = (answers ≡ []) × (y ≡ x)
Repeats x (row ∷ rows) answers y =
    (r : Stepped) × (others : List Answer) × Steps x row r × (answers ≡ r.answer ∷ others) × Repeats r.kernel rows others y

-- ---- demand 3

-- the record that the book shows after some rows
abbrev pub book_record : Book → List (Option Call) → List ℕ
book_record b rows = record_of (show (book_final b rows))

-- whatever the promise of `save` allows, for a buffer that is long enough: the record stands first in the buffer, and the rest is as it was
abbrev pub SavesRecord : Kernel → List ℕ → Type 0
SavesRecord y bytes =
    (before : List ℕ) (r : Saved) (after : List ℕ) → Saves y before r after → length bytes ≤ length before
    → (r ≡ record { answer = 0; length = length bytes }) × (after ≡ bytes ++ drop (length bytes) before)

-- a kernel agrees with a book: after any calls and rows, refused ones and rows of wrong form included, the answers are the book's and the saved record
-- is the one that the book shows
abbrev pub Agrees : Kernel → Book → Type 0
Agrees x b =
    (rows : List (Option Call)) (answers : List Answer) (y : Kernel) → Repeats x rows answers y
    → (answers ≡ book_answers b rows) × SavesRecord y (book_record b rows)

-- demand 3: the kernel of boot agrees with the book at boot; the kernel of a record that loads agrees with the book of what the record says; and from
-- every kernel whatever there is something that the promises allow, so that neither says nothing
pub record Demand3 : Type 0 where
  pub from_boot : (x : Kernel) → x ≡ kernel_of boot → Agrees x book_boot
  pub from_record : (bytes : List ℕ) (l : Loaded) → l ≡ loaded_of (load bytes) → l.answer ≡ 0 → Agrees l.kernel (enter (page_in bytes))
  pub allowed : (x : Kernel) (rows : List (Option Call)) → (answers : List Answer) × (y : Kernel) × Repeats x rows answers y
