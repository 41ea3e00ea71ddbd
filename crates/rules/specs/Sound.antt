-- When a state is sound: document 01's limits, then its clauses from "Otherwise sound means", in its order, as one test that computes.
-- In place of the places in a queue a state has the queues themselves: each holds exactly the threads that stand there with its priority, each once.
-- Assumes nothing.
use Rattle.std.specs.Prelude.{ℕ, zero, suc, ◌+◌, Bool, true, false, cond, not, ◌||◌, ◌&&◌, List, [], ◌∷◌, length, eqb, ltb, leb}
use Rattle.units.specs.Units.{outside}
use Rattle.rules.specs.Queues.{QueueSet, queue}
use Rattle.rules.specs.State.{Where, running, ready, for_mutex, on_condition, waits, TimerState, stopped, one_shot, periodic, Timer, Rows, Sets, State, thread, mutex, tied, at, priority, owned, set_at}
use Rattle.rules.specs.Effects.{goes}

-- ---- tests over lists and numbers

-- all of these
abbrev pub all : List Bool → Bool
all [] = true
all (b ∷ bs) = b && all bs

-- a test at each number below n
unfoldable pub each : ℕ → (ℕ → Bool) → Bool
each zero f = true
each (suc n) f = f n && each n f

-- a test of each member of a queue
unfoldable pub members : (ℕ → Bool) → List ℕ → Bool
members f [] = true
members f (t ∷ q) = f t && members f q

-- whether thread u is in a queue
unfoldable pub mem : ℕ → List ℕ → Bool
mem u [] = false
mem u (t ∷ q) = eqb u t || mem u q

-- nobody is in a queue twice
unfoldable pub distinct : List ℕ → Bool
distinct [] = true
distinct (t ∷ q) = not (mem t q) && distinct q

-- if the one then the other
abbrev pub implies : Bool → Bool → Bool
implies a b = not a || b

-- ---- the limits

-- the numbers of document 01's first table
abbrev pub limits : Rows → ℕ → List Timer → List Bool
limits k count ts =
    not (outside 1 32 (length k.threads))
    ∷ leb (length k.mutexes) 16
    ∷ leb (length k.ties) 16
    ∷ leb (length ts) 32
    ∷ ltb count 4294967296 ∷ []

-- ---- the clauses over the rows

-- base 0 for thread 0 and 1 to 15 for others
abbrev pub bases_sound : Rows → Bool
bases_sound k = each (length k.threads) (λ t. cond (eqb t 0) (eqb (thread k t).base 0) (not (outside 1 15 (thread k t).base)))

-- ceilings 1 to 15
abbrev pub ceilings_sound : Rows → Bool
ceilings_sound k = each (length k.mutexes) (λ m. not (outside 1 15 (mutex k m).ceiling))

-- thread 0 ready or running, owning nothing
abbrev pub idle_sound : Rows → Bool
idle_sound k = not (waits (thread k 0).stands) && eqb (owned k.mutexes 0) 0

-- one thread running if started, none if stopped
abbrev pub runner_sound : Rows → Bool
runner_sound k = each (length k.threads) (λ t. eqb (cond (at k running t) 1 0) (cond (k.started && eqb t k.runner) 1 0))
    && cond k.started (ltb k.runner (length k.threads)) (eqb k.runner 255)

-- and none ready above it
abbrev pub none_above : Rows → Bool
none_above k = each (length k.threads) (λ t. implies (k.started && at k ready t) (leb (priority k t) (priority k k.runner)))

-- the object waited for exists
abbrev pub exists : Rows → Where → Bool
exists k running = true
exists k ready = true
exists k (for_mutex m) = ltb m (length k.mutexes)
exists k (on_condition c) = ltb c (length k.ties)

-- of each thread
abbrev pub objects_sound : Rows → Bool
objects_sound k = each (length k.threads) (λ t. exists k (thread k t).stands)

-- whether anyone stands at w
abbrev pub anyone : Rows → Where → Bool
anyone k w = not (each (length k.threads) (λ t. not (at k w t)))

-- an unowned mutex has owner 255, count 0 and no waiter; an owned one has an existing owner, count 1 to 255, owner's base not above the ceiling
abbrev pub owner_sound : Rows → ℕ → Bool
owner_sound k m =
    let x = mutex k m in
    cond (eqb x.owner 255) (eqb x.count 0 && not (anyone k (for_mutex m)))
    (ltb x.owner (length k.threads) && not (outside 1 255 x.count) && leb (thread k x.owner).base x.ceiling)

-- a mutex waiter isn't its owner and its priority isn't above the ceiling
abbrev pub waiter_sound : Rows → ℕ → ℕ → Bool
waiter_sound k m t = implies (at k (for_mutex m) t) (not (eqb t (mutex k m).owner) && leb (priority k t) (mutex k m).ceiling)

-- those of each mutex
abbrev pub mutexes_sound : Rows → Bool
mutexes_sound k = each (length k.mutexes) (λ m. owner_sound k m && each (length k.threads) (waiter_sound k m))

-- a condition variable is tied exactly while someone waits on it, the mutex exists, and those waiters own nothing and have base not above its ceiling
abbrev pub condition_sound : Rows → ℕ → Bool
condition_sound k c =
    cond (anyone k (on_condition c)) (ltb (tied k c) (length k.mutexes)) (eqb (tied k c) 255)
    && each (length k.threads) (λ t. implies (at k (on_condition c) t) (eqb (owned k.mutexes t) 0 && leb (thread k t).base (mutex k (tied k c)).ceiling))

-- that of each condition variable
abbrev pub conditions_sound : Rows → Bool
conditions_sound k = each (length k.ties) (condition_sound k)

-- the most ticks that a running timer with this n has left: n, or n + 1 for a periodic one, which has them until its first expiry (document 02, L5)
abbrev pub most_left : TimerState → ℕ → ℕ
most_left stopped n = 0
most_left one_shot n = n
most_left periodic n = n + 1

-- a running timer has an existing condition variable, n from 1 to 65,535 and ticks left from 1 to that most, at most 65,535; a stopped one 255, 0 and 0
abbrev pub timer_sound : Rows → Timer → Bool
timer_sound k x =
    cond (goes x.state)
    (ltb x.condition (length k.ties) && not (outside 1 65535 x.length) && not (outside 1 65535 x.left) && leb x.left (most_left x.state x.length))
    (eqb x.condition 255 && eqb x.length 0 && eqb x.left 0)

-- a test of each timer
unfoldable pub timers_sound : Rows → List Timer → Bool
timers_sound k [] = true
timers_sound k (x ∷ xs) = timer_sound k x && timers_sound k xs

-- no timer of a list runs
unfoldable pub none_goes : List Timer → Bool
none_goes [] = true
none_goes (x ∷ xs) = not (goes x.state) && none_goes xs

-- while stopped all threads are ready, nothing is owned, no timer runs, the count is 0
abbrev pub rest : Rows → ℕ → List Timer → List Bool
rest k count ts =
    each (length k.threads) (at k ready)
    ∷ each (length k.mutexes) (λ m. eqb (mutex k m).owner 255)
    ∷ none_goes ts
    ∷ eqb count 0 ∷ []

-- all the clauses over the rows, in the document's order
abbrev pub clauses : Rows → ℕ → List Timer → List Bool
clauses k count ts =
    all (limits k count ts)
    ∷ bases_sound k
    ∷ ceilings_sound k
    ∷ idle_sound k
    ∷ runner_sound k
    ∷ none_above k
    ∷ objects_sound k
    ∷ mutexes_sound k
    ∷ conditions_sound k
    ∷ timers_sound k ts
    ∷ implies (not k.started) (all (rest k count ts)) ∷ []

-- ---- the queues

-- a set of queues holds exactly the threads that stand at w, each in the queue of its priority and once
unfoldable pub holds : Rows → Where → QueueSet → Bool
holds k w qs = eqb (length qs) 16
    && each 16 (λ p. members (λ t. ltb t (length k.threads) && at k w t && eqb (priority k t) p) (queue qs p) && distinct (queue qs p))
    && each (length k.threads) (λ t. implies (at k w t) (mem t (queue qs (priority k t))))

-- the ready set, each mutex's and each condition variable's
abbrev pub queue_clauses : Rows → Sets → List Bool
queue_clauses k s =
    holds k ready (set_at s ready)
    ∷ eqb (length s.mutex) (length k.mutexes)
    ∷ each (length k.mutexes) (λ m. holds k (for_mutex m) (set_at s (for_mutex m)))
    ∷ eqb (length s.condition) (length k.ties)
    ∷ each (length k.ties) (λ c. holds k (on_condition c) (set_at s (on_condition c))) ∷ []

-- a sound state: its rows are sound, and its queues hold what the rows say
unfoldable pub sound : State → Bool
sound s = all (clauses s.scheduler.rows s.count s.timers) && all (queue_clauses s.scheduler.rows s.scheduler.sets)
