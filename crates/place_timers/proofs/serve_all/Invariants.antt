-- `serve_all` is its definition. The invariant: going on from here gives what the whole gives. Assumes nothing.
use mathlib.Core.Path.{◌≡◌}
use Rattle.wheel.specs.Promise.{ids_of}
use Rattle.value_engine.proofs.Serving.{on_from}
use Rattle.place_calls.specs.declared.Counts.{Counts}
use Rattle.place_timers.specs.Arrays.{engine_on}
use Rattle.place_timers.proofs.serve_all.Given as goal

abbrev pub invariant-loop-given : goal.invariant-loop-given
invariant-loop-given l =
    (counts : Counts) → on_from l.given (engine_on l.cells l.clock l.wheel counts) (ids_of l.left) ≡ on_from 0 (engine_on l.initial.cells l.initial.clock l.initial.wheel counts) (ids_of l.initial.left)
