-- Document 01's examples E5, E6, E9, E10 and E11 and its whole run, on the plain book, as one table.
-- Assumes nothing.
use Prim.Native.Nat.{ℕ}
use mathlib.Core.Path.{◌≡◌, refl}
use mathlib.Core.Bool.{true}
use mathlib.Core.List.{List, [], ◌∷◌, map}
use Rattle.calls.specs.declared.Answer.{Answer}
use Rattle.calls.specs.declared.Call.{Call}
use Rattle.calls.specs.declared.Call.TheVariants.{Start, CreateThread, CreateMutex, CreateCondition, Acquire, Release, Wait, Signal, Tick}
use Rattle.rules.specs.State.{same}
use Rattle.rules.specs.Page.{Page}
use Rattle.laws.specs.Lists.{tabulate}
use Rattle.calls.specs.Rows.{decoded, by_code, fits, taken}
use Rattle.book.specs.Book.{Book, priority, largest_owned, stand, own, better, first_below, marks_below, furthest, above, below, arrive, arrive_in_front}
use Rattle.book.specs.Turns.{Turn, turn, turn_of, book_answers, verdict, owned_by, outcome, run, create_thread, acquire, become_owner, hand_over, release, tie, wait, leave, untie, wake, runs, renewed, expire, expire_below, turn_to, run_next, is_tick}
use Rattle.book.specs.Shown.{book_boot, place_of, kind_of, running_in, enter, show, lower}

-- the book after several calls
unfoldable pub after : List Call → Book → Book
after [] b = b
after (c ∷ cs) b = after cs (turn b c).book

-- the places of all threads
abbrev pub places : Book → List ℕ
places b = map (λ x. x.place) (show b).threads

abbrev pub numbers : Answer → List ℕ
numbers a = a.number ∷ a.given ∷ a.running ∷ []

-- the priority of the running thread
abbrev pub urgency : Book → ℕ
urgency b = priority b b.runner

-- E5: at tick count 4,294,967,295 a one-shot timer with one tick left, then a tick
abbrev last_tick : Page
last_tick = record {
  started = true;
  count = 4294967295;
  threads = record { base = 0; state = 2; object = 255; place = 0 } ∷ [];
  mutexes = [];
  ties = 255 ∷ [];
  timers = record { state = 1; condition = 0; length = 1; left = 1 } ∷ [];
}

abbrev e5 : Turn
e5 = turn (enter last_tick) Tick

-- E6: base 3 takes ceiling 5, then 9; the 5 is released first, then the 9
abbrev e6 : Book
e6 = after (CreateThread 3 ∷ CreateMutex 5 ∷ CreateMutex 9 ∷ Start ∷ Acquire 0 ∷ Acquire 1 ∷ []) book_boot

-- E9: three of base 4, started
abbrev e9 : Book
e9 = after (CreateThread 4 ∷ CreateThread 4 ∷ CreateThread 4 ∷ Start ∷ []) book_boot

-- E10: two of base 4, started, and one of base 7
abbrev e10 : Book
e10 = after (CreateThread 4 ∷ CreateThread 4 ∷ Start ∷ CreateThread 7 ∷ []) book_boot

-- E11: thread 1 of base 2 waits on a condition variable tied to a mutex of ceiling 6, and thread 2 of base p signals
abbrev e11 : ℕ → Book
e11 p = after (CreateThread 2 ∷ CreateMutex 6 ∷ CreateCondition ∷ Start ∷ Acquire 0 ∷ Wait 0 0 ∷ CreateThread p ∷ Signal 0 ∷ []) book_boot

-- the rows of document 01's whole run
abbrev whole_run : List (List ℕ)
whole_run = (2 ∷ 4 ∷ 0 ∷ 0 ∷ 0 ∷ 0 ∷ 0 ∷ 0 ∷ []) ∷ (1 ∷ 0 ∷ 0 ∷ 0 ∷ 0 ∷ 0 ∷ 0 ∷ 0 ∷ []) ∷ (13 ∷ 0 ∷ 0 ∷ 0 ∷ 0 ∷ 0 ∷ 0 ∷ 0 ∷ []) ∷ []

-- what each example comes to
pub record Table : Type 0 where
  pub E5 : ((show e5.book).count ∷ numbers e5.answer) ≡ (0 ∷ 0 ∷ 1 ∷ 0 ∷ [])
  pub E6 : (urgency e6 ∷ urgency (after (Release 0 ∷ []) e6) ∷ urgency (after (Release 0 ∷ Release 1 ∷ []) e6) ∷ []) ≡ (9 ∷ 9 ∷ 3 ∷ [])
  pub E9 : ((after (Tick ∷ []) e9).runner ∷ places (after (Tick ∷ []) e9)) ≡ (2 ∷ 0 ∷ 1 ∷ 0 ∷ 0 ∷ [])
  pub E10 : (e10.runner ∷ places e10) ≡ (3 ∷ 0 ∷ 0 ∷ 1 ∷ 0 ∷ [])
  pub E11 : ((e11 5).runner ∷ (e11 6).runner ∷ []) ≡ (1 ∷ 2 ∷ [])
  pub run : map numbers (book_answers book_boot (map decoded whole_run)) ≡ ((0 ∷ 1 ∷ 255 ∷ []) ∷ (0 ∷ 255 ∷ 1 ∷ []) ∷ (0 ∷ 0 ∷ 1 ∷ []) ∷ [])

pub examples : Table
unfolding after book_boot enter place_of kind_of running_in show lower turn turn_of book_answers decoded by_code fits taken priority largest_owned same stand own better first_below marks_below furthest above below arrive arrive_in_front verdict owned_by outcome run create_thread acquire become_owner hand_over release tie wait leave untie wake runs renewed expire expire_below turn_to run_next is_tick tabulate
examples = record { E5 = refl; E6 = refl; E9 = refl; E10 = refl; E11 = refl; run = refl }
