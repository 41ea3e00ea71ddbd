-- `Engine::serve_all` is its definition. The invariant: going on from here gives what the whole gives. Assumes nothing.
use Prim.Native.Nat.{◌≤◌}
use mathlib.Core.Path.{◌≡◌}
use Rattle.wheel.specs.Promise.{ids_of}
use Rattle.value_engine.proofs.Serving.{on_from}
use Rattle.value_engine.proofs.Engine.serve_all.Given as goal

abbrev pub invariant-loop-given : goal.invariant-loop-given
invariant-loop-given l = (l.given ≤ 32) × (on_from l.given l.engine (ids_of l.left) ≡ on_from 0 l.initial.engine (ids_of l.initial.left))
