-- The tests of each call stand in document 01's order of checking.
-- Assumes nothing.
use mathlib.Core.Path.{◌≡◌, refl}
use mathlib.Core.Bool.{true}
use mathlib.Core.List.{List}
use Rattle.calls.specs.declared.Call.{Call}
use Rattle.calls.specs.declared.Call.TheVariants.{Start, CreateThread, CreateMutex, CreateCondition, CreateTimer, Acquire, Release, Wait, Signal, Broadcast, StartTimer, StopTimer, Tick}
use Rattle.rules.specs.State.{Rows, Timer}
use Rattle.rules.specs.Refusals.{tests}
use Rattle.rules.specs.Order.{position, in_order}

pub checked_in_order : (k : Rows) (ts : List Timer) (call : Call) → in_order 0 (tests k ts call) ≡ true
unfolding tests position in_order
checked_in_order k ts Start = refl
checked_in_order k ts (CreateThread base) = refl
checked_in_order k ts (CreateMutex ceiling) = refl
checked_in_order k ts CreateCondition = refl
checked_in_order k ts CreateTimer = refl
checked_in_order k ts (Acquire m) = refl
checked_in_order k ts (Release m) = refl
checked_in_order k ts (Wait c m) = refl
checked_in_order k ts (Signal c) = refl
checked_in_order k ts (Broadcast c) = refl
checked_in_order k ts (StartTimer i c kind v) = refl
checked_in_order k ts (StopTimer i) = refl
checked_in_order k ts Tick = refl
