-- What a call in place promises leaves one result: one of each array, one set of counts and one answer.
-- Assumes nothing.
use Prim.Native.Nat.{ℕ}
use mathlib.Core.Path.{◌≡◌, ap}
use mathlib.Core.List.{List}
use lib.ListN.{length}
use Rattle.calls.specs.declared.Answer.{Answer}
use Rattle.wheel.proofs.Promise.{words_once}
use Rattle.value_effects.specs.declared.Signalled.{Signalled}
use Rattle.place_packing.proofs.Once.{bytes_once}
use Rattle.place_effects.specs.Leaving.{signalled_in}
use Rattle.value_engine.specs.declared.Stepped.{Stepped}
use Rattle.place_calls.specs.declared.Counts.{Counts}
use Rattle.place_calls.specs.Standing.{Timing, stepped_in}
use Rattle.place_clock.specs.Clock.{clock_of}
use Rattle.place_clock.proofs.Words.{clock_once}
use Rattle.place_timers.specs.Arrays.{stepped_on}

-- a call that leaves clock and wheel alone, with its answer
pub stepped_once : (k z : List ℕ) (t u : Timing) (n m : Counts) (a b : Answer) → length k ≡ 1281 → length z ≡ 1281 → stepped_in k t n a ≡ stepped_in z u m b
    → (k ≡ z) × (t ≡ u) × (n ≡ m) × (a ≡ b)
stepped_once k z t u n m a b l p e = (
  bytes_once k z l p (ap (λ (s : Stepped). s.engine.scheduler) e),
  (λ i. record { timers = (e i).engine.timers; wheel = (e i).engine.wheel; count = (e i).engine.count }),
  (λ i. record { started = (e i).engine.started; threads = (e i).engine.threads; mutexes = (e i).engine.mutexes; conditions = (e i).engine.conditions; timercount = (e i).engine.timercount }),
  ap (λ (s : Stepped). s.answer) e,
)

-- any call, with its answer
pub arrays_once : (k z t u w v : List ℕ) (n m : Counts) (a b : Answer) → length k ≡ 1281 → length z ≡ 1281 → length t ≡ 33 → length u ≡ 33 → stepped_on k t w n a ≡ stepped_on z u v m b
    → (k ≡ z) × (t ≡ u) × (w ≡ v) × (n ≡ m) × (a ≡ b)
arrays_once k z t u w v n m a b l p q r e =
    let one = stepped_once k z _ _ n m a b l p e in (
      one.0,
      clock_once t u q r (ap (λ (s : Stepped). clock_of s.engine.timers s.engine.count) e),
      words_once w v (ap (λ (s : Stepped). s.engine.wheel) e),
      one.2,
      one.3,
    )

-- signals, with how many threads left
pub signalled_once : (k z : List ℕ) (n m : ℕ) → length k ≡ 1281 → length z ≡ 1281 → signalled_in k n ≡ signalled_in z m → (k ≡ z) × (n ≡ m)
signalled_once k z n m l p e = (bytes_once k z l p (ap (λ (s : Signalled). s.scheduler) e), ap (λ (s : Signalled). s.left) e)
