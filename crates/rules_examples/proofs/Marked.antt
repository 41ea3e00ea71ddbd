-- Document 01's marked examples hold: one statement over the whole table.
-- Assumes nothing.
use Prim.Native.Nat.{ℕ, ◌<◌}
use mathlib.Core.Path.{◌≡◌, ap, ap₂, ◌∙◌}
use mathlib.Core.List.{List, [], ◌∷◌, ◌++◌, map}
use Rattle.rules.specs.State.{boot}
use Rattle.rules.specs.Examples.{Example}
use Rattle.rules.proofs.Examples.{examples_hold}
use Rattle.record_bytes.specs.Record.{boot_record}
use Rattle.record_bytes.specs.Loading.{saved}
use Rattle.record_bytes.proofs.Examples.{example_1}
use native.Mathlib.Omega.{arith}
use lib.ListN.{set, take}
use Rattle.laws.specs.Lists.{among}
use Rattle.wheel.specs.declared.Ticked.{Ticked}
use Rattle.wheel.specs.Hung.{left, empty, with_left, started, ticked, due, spoke_of, turns_of}
use Rattle.wheel.specs.Promise.{wheel_of, ticked_of, position_in, ids_of}
use Rattle.wheel.proofs.Promise.{start_hangs, good_empty, good_started, tick_hangs, spoke_hung, turns_hung, position_hung, ids_due}
use Rattle.rules_examples.specs.Marked.{load_answer, begun, spoke_and_turns, count_and_due, marked}

-- E1, from the record
first : (saved boot ∷ (load_answer boot_record ∷ load_answer (take 27 boot_record) ∷ load_answer (set boot_record 24 1) ∷ []) ∷ []) ≡ boot_record ∷ (0 ∷ 15 ∷ 1 ∷ []) ∷ []
first = rw (example_1.0, example_1.1, example_1.2, example_1.3)

-- ---- E4 and E5, from the promise of the wheel

-- a wheel on which timer 0 is started hangs so
begun_hangs : (count n : ℕ) → begun count n ≡ wheel_of (started (empty count) 0 n)
begun_hangs count n = start_hangs (empty count) (good_empty count) 0 n

-- its spoke and its turns are document 01's
spoke_and_turns_lem : (count n : ℕ) → spoke_and_turns (begun count n) ≡ spoke_of (started (empty count) 0 n).position (left (started (empty count) 0 n) 0) ∷ turns_of (left (started (empty count) 0 n) 0) ∷ []
spoke_and_turns_lem count n =
    ap spoke_and_turns (begun_hangs count n)
    ∙ ap₂ (λ s t. s ∷ t ∷ []) (spoke_hung (started (empty count) 0 n) 0 (omega arith)) (turns_hung (started (empty count) 0 n) 0 (omega arith))

-- and so are the count and who is due
count_and_due_lem : (count n : ℕ) → n < 65536 → count_and_due (begun count n) ≡ (ticked (started (empty count) 0 n)).position ∷ due (started (empty count) 0 n)
unfolding ticked_of
count_and_due_lem count n l =
    ap count_and_due (begun_hangs count n)
    ∙ ap (λ (t : Ticked). position_in t.wheel ∷ ids_of t.due) (tick_hangs (started (empty count) 0 n) (good_started (empty count) (good_empty count) 0 n l))
    ∙ ap₂ (λ c is. c ∷ is) (position_hung (ticked (started (empty count) 0 n))) (ids_due (started (empty count) 0 n))

of_the_wheel : (spoke_and_turns (begun 0 64) ∷ spoke_and_turns (begun 0 65) ∷ spoke_and_turns (begun 0 128) ∷ count_and_due (begun 4294967295 1) ∷ []) ≡ (0 ∷ 0 ∷ []) ∷ (1 ∷ 1 ∷ []) ∷ (0 ∷ 1 ∷ []) ∷ (0 ∷ 0 ∷ []) ∷ []
unfolding empty started with_left ticked due spoke_of turns_of among
of_the_wheel = rw (spoke_and_turns_lem 0 64, spoke_and_turns_lem 0 65, spoke_and_turns_lem 0 128, count_and_due_lem 4294967295 1 (omega arith))

-- all of them
pub marked_examples_hold : map (λ (e : Example). e.shown) marked ≡ map (λ (e : Example). e.seen) marked
unfolding marked
marked_examples_hold = ap₂ (λ (xs ys : List (List ℕ)). xs ++ ys) first (ap₂ (λ (xs ys : List (List ℕ)). xs ++ ys) of_the_wheel examples_hold)
