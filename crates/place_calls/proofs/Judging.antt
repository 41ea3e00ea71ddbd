-- A call by its verdict: refused with nothing changed, or its effect and then the choice of the next thread.
-- Assumes nothing.
use Prim.Native.Nat.{ℕ}
use mathlib.Core.Path.{◌≡◌, refl, ap, ◌∙◌}
use mathlib.Core.Bool.{Bool, true, false, cond}
use lib.Dec.{eqb}
use Rattle.calls.specs.declared.Answer.{Answer}
use Rattle.calls.specs.declared.Verdict.{Verdict}
use Rattle.calls.specs.Answers.{number_of}
use Rattle.value_tables.specs.declared.Thread.{Thread}
use Rattle.value_tables.specs.Tables.{row_of}
use Rattle.value_effects.specs.declared.Mutex.{Mutex}
use Rattle.value_effects.specs.declared.Scheduler.{Scheduler}
use Rattle.value_effects.specs.Effects as scheduler
use Rattle.value_effects.specs.Effects.{mutex_of, thread_row_model}
use Rattle.refusals.specs.Verdicts.{acquire_verdict, release_verdict, held_verdict, ids_verdict, first_verdict, owned_in}
use Rattle.place_tables.specs.Changes.{tie_of}
use Rattle.value_engine.specs.declared.Engine.{Engine}
use Rattle.value_engine.specs.declared.Stepped.{Stepped}
use Rattle.value_engine.specs.Engines.{with_scheduler, refused_model, answered_model, judged}

-- ---- the end of a call

-- the next thread is chosen while started, and the answer has the one that runs then
pub finished : (x : Engine) (y : Scheduler) (given : ℕ) (tick : Bool) → y ≡ cond x.started (scheduler.choose_next_model x.scheduler tick) x.scheduler
    → record { engine = with_scheduler x y; answer = record { number = 0; given = given; running = y.running } } ≡ answered_model x given tick
unfolding answered_model
finished x y given tick e = ap put e ∙ by_test x.started
  where
    put : Scheduler → Stepped
    put s = record { engine = with_scheduler x s; answer = record { number = 0; given = given; running = s.running } }

    chosen : Scheduler
    chosen = scheduler.choose_next_model x.scheduler tick

    by_test : (b : Bool) → put (cond b chosen x.scheduler) ≡ cond b (put chosen) (record { engine = x; answer = record { number = 0; given = given; running = x.scheduler.running } })
    by_test true = refl
    by_test false = refl

-- ---- verdicts

-- a verdict v that is the definition's w, and whether it is done
module _ (x : Engine) (given : ℕ) (done : Bool) (v w : Verdict) (asked : done ≡ eqb (number_of v) 0) (same : v ≡ w) where
  -- refused
  pub refused : (e : Engine) (a : Answer) → a ≡ record { number = number_of v; given = 255; running = x.scheduler.running } → done ≡ false → record { engine = x; answer = a } ≡ judged w x e given
  unfolding refused_model
  refused e a told h = ap (λ b. record { engine = x; answer = b }) told ∙ rw (← same, ← asked, h) refl

  -- accepted, with the effect done by another engine's state
  pub accepted : (e f : Engine) (y : Stepped) → y ≡ answered_model f given false → f ≡ e → done ≡ true → y ≡ judged w x e given
  accepted e f y told made h = told ∙ ap (λ z. answered_model z given false) made ∙ rw (← same, ← asked, h) refl

-- ---- what was read for a verdict is what the definition reads

module _ (x : Engine) (m running : ℕ) (row : Mutex) (run : running ≡ x.scheduler.running) (read : row ≡ mutex_of x.scheduler m) where
  -- for acquire
  pub acquire_judged : (caller : Thread) → caller ≡ row_of x.scheduler.threads running
      → acquire_verdict x.started x.mutexes m running row caller.priority
      ≡ acquire_verdict x.started x.mutexes m x.scheduler.running (mutex_of x.scheduler m) (thread_row_model x.scheduler x.scheduler.running).priority
  unfolding thread_row_model
  acquire_judged caller e =
      let c : caller ≡ row_of x.scheduler.threads x.scheduler.running = e ∙ ap (row_of x.scheduler.threads) run in
      λ i. acquire_verdict x.started x.mutexes m (run i) (read i) (c i).priority

  -- for release
  pub release_judged : release_verdict x.started x.mutexes m running row.owner ≡ release_verdict x.started x.mutexes m x.scheduler.running (mutex_of x.scheduler m).owner
  release_judged = λ i. release_verdict x.started x.mutexes m (run i) (read i).owner

  -- for wait
  pub wait_judged : (c owned tie : ℕ) → owned ≡ owned_in x.scheduler.mutexes running → tie ≡ tie_of x.scheduler c
      → first_verdict (ids_verdict x.started x.conditions c x.mutexes m) (held_verdict m running row owned tie)
      ≡ first_verdict (ids_verdict x.started x.conditions c x.mutexes m) (held_verdict m x.scheduler.running (mutex_of x.scheduler m) (owned_in x.scheduler.mutexes x.scheduler.running) (tie_of x.scheduler c))
  wait_judged c owned tie o t =
      let n : owned ≡ owned_in x.scheduler.mutexes x.scheduler.running = o ∙ ap (owned_in x.scheduler.mutexes) run in
      λ i. first_verdict (ids_verdict x.started x.conditions c x.mutexes m) (held_verdict m (run i) (read i) (n i) (t i))
