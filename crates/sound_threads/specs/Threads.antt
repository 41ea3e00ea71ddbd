-- What the clauses on the threads of a page make of the tables that they are handed: the code's promises cite these.
-- An id is taken modulo the size of its table.
-- Assumes nothing.
use Rattle.std.specs.Prelude.{ℕ, Bool, true, cond, not, ◌||◌, ◌&&◌, List, eqb, ltb, leb}
use Rattle.units.specs.Units.{outside}
use Rattle.rules.specs.State.{Where, running, ready, for_mutex, on_condition, same, waits}
use Rattle.rules.specs.Sound.{each, implies}
use Rattle.rules.specs.Page.{how_many}
use Rattle.value_effects.specs.declared.Mutex.{Mutex}
use Rattle.page.specs.declared.ThreadRow.{ThreadRow}
use Rattle.sound_standing.specs.Standing.{row_at, priority_at, stands_of, owns_nothing_in}

-- ---- bases, and thread 0

-- base 0 for thread 0 and 1 to 15 for others
abbrev pub base_fits : ℕ → ℕ → Bool
base_fits t base = cond (eqb t 0) (eqb base 0) (not (outside 1 15 base))

-- of each thread
unfoldable pub bases_in : List ThreadRow → ℕ → Bool
bases_in rows n = each n (λ t. base_fits t (row_at rows t).base)

-- thread 0 ready or running, owning nothing
unfoldable pub idle_in : List ThreadRow → List Mutex → ℕ → Bool
idle_in rows mutexes n = not (waits (stands_of (row_at rows 0))) && owns_nothing_in mutexes n 0

-- ---- the running thread

-- a thread runs exactly if it is the runner of a started page
unfoldable pub runs_fits : Bool → ℕ → ℕ → ThreadRow → Bool
runs_fits started runner t row = eqb (cond (same (stands_of row) running) 1 0) (cond (started && eqb t runner) 1 0)

-- of each thread
unfoldable pub runs_in : Bool → ℕ → List ThreadRow → ℕ → Bool
runs_in started runner rows n = each n (λ t. runs_fits started runner t (row_at rows t))

-- the runner exists if started, and is none if stopped
abbrev pub runner_fits : Bool → ℕ → ℕ → Bool
runner_fits started runner n = cond started (ltb runner n) (eqb runner 255)

-- both
unfoldable pub runner_in : Bool → ℕ → List ThreadRow → ℕ → Bool
runner_in started runner rows n = runs_in started runner rows n && runner_fits started runner n

-- ready while started, a thread of this priority is not above the runner's
unfoldable pub not_above : Bool → ℕ → ThreadRow → ℕ → Bool
not_above started top row mine = implies (started && same (stands_of row) ready) (leb mine top)

-- of each thread
unfoldable pub none_above_in : Bool → ℕ → List ThreadRow → ℕ → List ℕ → Bool
none_above_in started top rows n priorities = each n (λ t. not_above started top (row_at rows t) (priority_at priorities t))

-- ---- objects

-- the object waited for exists, of so many mutexes and condition variables
unfoldable pub exists_in : ℕ → ℕ → Where → Bool
exists_in mutexes conditions running = true
exists_in mutexes conditions ready = true
exists_in mutexes conditions (for_mutex m) = ltb m mutexes
exists_in mutexes conditions (on_condition c) = ltb c conditions

-- of each thread
unfoldable pub objects_exist_in : List ThreadRow → ℕ → ℕ → ℕ → Bool
objects_exist_in rows n mutexes conditions = each n (λ t. exists_in mutexes conditions (stands_of (row_at rows t)))

-- the object of a thread that waits for none is 255
abbrev pub object_fits : ℕ → ℕ → Bool
object_fits state object = leb 3 state || eqb object 255

-- of each thread
unfoldable pub object_codes_in : List ThreadRow → ℕ → Bool
object_codes_in rows n = each n (λ t. object_fits (row_at rows t).state (row_at rows t).object)

-- ---- places

-- whether a thread of this row and priority is in the queue of a thread of the first row and priority
unfoldable pub beside_in : ThreadRow → ℕ → ThreadRow → ℕ → Bool
beside_in row mine other its = same (stands_of other) (stands_of row) && eqb its mine

-- whether thread u is there and its place is smaller
unfoldable pub smaller_at : List ThreadRow → List ℕ → ThreadRow → ℕ → ℕ → Bool
smaller_at rows priorities row mine u = beside_in row mine (row_at rows u) (priority_at priorities u) && ltb (row_at rows u).place row.place

-- whether it is there and its place is the same
unfoldable pub equal_at : List ThreadRow → List ℕ → ThreadRow → ℕ → ℕ → Bool
equal_at rows priorities row mine u = beside_in row mine (row_at rows u) (priority_at priorities u) && eqb (row_at rows u).place row.place

-- as many of its queue have a smaller place as its place says, and no other has the same
unfoldable pub counted_in : List ThreadRow → ℕ → List ℕ → ThreadRow → ℕ → Bool
counted_in rows n priorities row mine =
    eqb (how_many n (smaller_at rows priorities row mine)) row.place && eqb (how_many n (equal_at rows priorities row mine)) 1

-- the place of a thread that runs is 0
unfoldable pub place_fits : List ThreadRow → ℕ → List ℕ → ThreadRow → ℕ → Bool
place_fits rows n priorities row mine = cond (same (stands_of row) running) (eqb row.place 0) (counted_in rows n priorities row mine)

-- the test of thread t
abbrev pub place_at : List ThreadRow → ℕ → List ℕ → ℕ → Bool
place_at rows n priorities t = place_fits rows n priorities (row_at rows t) (priority_at priorities t)

-- of each thread
unfoldable pub places_in : List ThreadRow → ℕ → List ℕ → Bool
places_in rows n priorities = each n (place_at rows n priorities)
