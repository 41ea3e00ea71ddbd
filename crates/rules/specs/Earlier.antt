-- The sound rule as it was before document 02, L5: document 01's, by which every running timer, a periodic one too, has ticks left from 1 to n.
-- No code tests it. It stands here so that a theorem can say that what was sound by it is sound by the rule of today, and what it asked besides.
-- Assumes nothing.
use Rattle.std.specs.Prelude.{ℕ, Bool, true, cond, not, ◌&&◌, List, [], ◌∷◌, map, length, eqb, ltb, leb}
use Rattle.rules.specs.State.{Timer, Rows, State}
use Rattle.rules.specs.Effects.{goes}
use Rattle.rules.specs.Sound.{all, each, implies, limits, bases_sound, ceilings_sound, idle_sound, runner_sound, none_above, objects_sound, mutexes_sound, conditions_sound, rest, queue_clauses}
use Rattle.rules.specs.Page.{Page, timer_of, rows_of, place_sound, object_sound, each_row}

-- a running timer has an existing condition variable and ticks left from 1 to n, a stopped one 255, 0 and 0
abbrev pub timer_sound_before : Rows → Timer → Bool
timer_sound_before k x =
    cond (goes x.state) (ltb x.condition (length k.ties) && leb 1 x.left && leb x.left x.length && leb x.length 65535)
    (eqb x.condition 255 && eqb x.length 0 && eqb x.left 0)

-- a test of each timer
unfoldable pub timers_sound_before : Rows → List Timer → Bool
timers_sound_before k [] = true
timers_sound_before k (x ∷ xs) = timer_sound_before k x && timers_sound_before k xs

-- all the clauses over the rows, in the document's order
abbrev pub clauses_before : Rows → ℕ → List Timer → List Bool
clauses_before k count ts =
    all (limits k count ts)
    ∷ bases_sound k
    ∷ ceilings_sound k
    ∷ idle_sound k
    ∷ runner_sound k
    ∷ none_above k
    ∷ objects_sound k
    ∷ mutexes_sound k
    ∷ conditions_sound k
    ∷ timers_sound_before k ts
    ∷ implies (not k.started) (all (rest k count ts)) ∷ []

-- no timer has more ticks left than n
unfoldable pub none_above_n : List Timer → Bool
none_above_n [] = true
none_above_n (x ∷ xs) = leb x.left x.length && none_above_n xs

-- a state that was sound
unfoldable pub sound_before : State → Bool
sound_before s = all (clauses_before s.scheduler.rows s.count s.timers) && all (queue_clauses s.scheduler.rows s.scheduler.sets)

-- a page, as a record has it, that was sound
unfoldable pub page_sound_before : Page → Bool
page_sound_before p = all (clauses_before (rows_of p) p.count (map timer_of p.timers)) && each_row object_sound p.threads && each (length p.threads) (place_sound p)
