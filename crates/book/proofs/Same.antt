-- When a state and a book are the same, and that they then give the same verdict on each call.
-- Assumes nothing.
use Prim.Native.Nat.{ℕ, ◌-◌, ◌%◌}
use mathlib.Core.Path.{◌≡◌, refl, sym, ap, ap₂, ◌∙◌}
use mathlib.Core.Bool.{cond}
use mathlib.Core.List.{List, map}
use native.Mathlib.Omega.{arith}
use lib.ListN.{length, get_or, length-map, get_or-map}
use Rattle.laws.proofs.Bools.{by_cases, cond_true, cond_false}
use Rattle.calls.specs.declared.Call.{Call}
use Rattle.calls.specs.declared.Call.TheVariants.{Start, CreateThread, CreateMutex, CreateCondition, CreateTimer, Acquire, Release, Wait, Signal, Broadcast, StartTimer, StopTimer, Tick}
use Rattle.rules.specs.State.{stopped, Rows, State}
use Rattle.rules.specs.State as S
use Rattle.rules.specs.Refusals.{tests, verdict_of}
use Rattle.rules.specs.Refusals as R
use Rattle.rules_soundness.proofs.Facts.{Sound}
use Rattle.book.specs.Book.{Book, timer, stopped_timer}
use Rattle.book.specs.Turns.{verdict}
use Rattle.book.proofs.Alike.{rows_in, threads_in_lem, priority_in, owned_in_lem, Alike}
use Rattle.book.proofs.Timers.{left_at, runs_goes}

-- the scheduler and the book are alike, the tick count is shown modulo 4,294,967,296, and the ticks left are those to the due tick
pub record Same (s : State) (b : Book) : Type 0 where
  pub alike : Alike s.scheduler b
  pub count : s.count ≡ b.count % 4294967296
  pub timers : s.timers ≡ map (left_at b.count) b.timers

-- the kernel's timers
abbrev pub timers_in : Book → List S.Timer
timers_in b = map (left_at b.count) b.timers

pub timers_in_lem : (b : Book) → length (timers_in b) ≡ length b.timers
timers_in_lem b = length-map b.timers (left_at b.count)

-- a stopped timer has no ticks left
pub stopped_left : (now : ℕ) → left_at now stopped_timer ≡ S.stopped_timer
stopped_left now = λ i. record { state = stopped; condition = 255; length = 0; left = none i }
  where
    none : 0 - now ≡ 0
    none = omega arith

pub timer_in_lem : (b : Book) (i : ℕ) → S.timer (timers_in b) i ≡ left_at b.count (timer b i)
timer_in_lem b i = ap (get_or (timers_in b) i) (sym (stopped_left b.count)) ∙ get_or-map (left_at b.count) b.timers i stopped_timer

-- the tests of the two are the same
verdict_in : (b : Book) (call : Call) → R.verdict (tests (rows_in b) (timers_in b) call) ≡ verdict b call
unfolding tests verdict
verdict_in b Start = refl
verdict_in b (CreateThread p) = rw (threads_in_lem b)
verdict_in b (CreateMutex p) = refl
verdict_in b CreateCondition = refl
verdict_in b CreateTimer = rw (timers_in_lem b)
verdict_in b (Acquire m) = rw (priority_in b b.runner)
verdict_in b (Release m) = refl
verdict_in b (Wait c m) = rw (owned_in_lem b.runner b.mutexes)
verdict_in b (Signal c) = refl
verdict_in b (Broadcast c) = refl
verdict_in b (StartTimer i c kind v) = rw (timers_in_lem b, timer_in_lem b i, runs_goes (timer b i).state)
verdict_in b (StopTimer i) = rw (timers_in_lem b, timer_in_lem b i, runs_goes (timer b i).state)
verdict_in b Tick = refl

module _ {s : State} {b : Book} (x : Same s b) where
  pub same_verdict : (call : Call) → verdict_of s call ≡ verdict b call
  unfolding verdict_of
  same_verdict call = ap₂ (λ k ts. R.verdict (tests k ts call)) x.alike.rows x.timers ∙ verdict_in b call

  pub same_started : s.scheduler.rows.started ≡ b.started
  same_started = ap (λ (k : Rows). k.started) x.alike.rows

  -- both show the same running thread
  pub same_running : Sound s → s.scheduler.rows.runner ≡ cond b.started b.runner 255
  same_running o = by_cases s.scheduler.rows.started
      (λ e. ap (λ (k : Rows). k.runner) x.alike.rows ∙ sym (cond_true b.started b.runner 255 (sym same_started ∙ e)))
      (λ e. (o.rests e).runner ∙ sym (cond_false b.started b.runner 255 (sym same_started ∙ e)))
