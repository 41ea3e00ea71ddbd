-- What the engine answers: a refused call, and an accepted one whose effect is done.
-- Assumes nothing.
use Prim.Native.Nat.{ℕ}
use mathlib.Core.Path.{◌≡◌, refl, sym, ap, ap₂, ◌∙◌}
use mathlib.Core.Bool.{Bool, true, false, cond}
use lib.ListN.{length}
use lib.Dec.{eqb}
use borrow.Author.Tests.{eqb-true}
use Rattle.laws.specs.Lists.{tabulate}
use Rattle.laws.proofs.Bools.{by_cases, cond_true, cond_false}
use Rattle.calls.specs.declared.Call.{Call}
use Rattle.calls.specs.declared.Verdict.{Verdict}
use Rattle.calls.specs.Answers.{number_of}
use Rattle.value_effects.specs.declared.Scheduler as scheduled
use Rattle.value_effects.specs.Effects as scheduler
use Rattle.wheel.specs.Promise.{wheel_of}
use Rattle.rules.specs.State.{Scheduler, State}
use Rattle.rules.specs.Next.{choose_next}
use Rattle.rules.specs.Effects as rules
use Rattle.rules.specs.Effects.{effect, given}
use Rattle.rules.specs.Refusals.{verdict_of}
use Rattle.rules.specs.Step.{runner, is_tick, after, refused, step_sound}
use Rattle.rules_soundness.proofs.Next.{Kept, Turned}
use Rattle.value_meaning.specs.Stands.{scheduler_of}
use Rattle.rules_soundness.proofs.Sizes.{Sizes, sizes_next}
use Rattle.value_meaning.proofs.Signals.{choose_stands}
use Rattle.value_engine.specs.declared.Engine.{Engine}
use Rattle.value_engine.specs.declared.Stepped.{Stepped}
use Rattle.value_engine.specs.Engines.{with_scheduler, refused_model, answered_model, judged}
use Rattle.value_engine.specs.Stands.{timer_in, hung_of, engine_of, stepped_of}

-- the engine with another scheduler of the same sizes
pub scheduler_stands : (s : State) (g : Scheduler) → Sizes s.scheduler g → with_scheduler (engine_of s) (scheduler_of g) ≡ engine_of (rules.with_scheduler s g)
unfolding engine_of
scheduler_stands s g z = λ i. record {
  scheduler = scheduler_of g;
  timers = tabulate 32 (timer_in s.timers);
  wheel = wheel_of (hung_of s.count s.timers);
  started = sym z.started i;
  threads = sym z.threads i;
  mutexes = sym z.mutexes i;
  conditions = sym z.ties i;
  timercount = length s.timers;
  count = s.count;
}

-- who runs
runs_so : (s : State) → (engine_of s).scheduler.running ≡ runner s
unfolding engine_of scheduler_of
runs_so s = refl

pub refused_stands : (s : State) (v : Verdict) → refused_model (engine_of s) v ≡ stepped_of (refused s (runner s) v)
refused_stands s v = unfold refused_model in (ap (λ r. record { engine = engine_of s; answer = record { number = number_of v; given = 255; running = r } }) (runs_so s))

-- the next thread is chosen while started
abbrev chosen : State → Bool → State
chosen e tick = cond e.scheduler.rows.started (rules.with_scheduler e (choose_next tick e.scheduler)) e

abbrev answer_of : State → ℕ → Stepped
answer_of e n = record { engine = engine_of e; answer = record { number = 0; given = n; running = runner e } }

pub answered_stands : (e : State) (n : ℕ) (tick : Bool) → (e.scheduler.rows.started ≡ true → Kept e.scheduler × Turned e.scheduler.rows) → answered_model (engine_of e) n tick ≡ answer_of (chosen e tick) n
answered_stands e n tick h = by_cases e.scheduler.rows.started
    (λ on. started on (h on).0 (h on).1 ∙ ap (λ y. answer_of y n) (sym (cond_true e.scheduler.rows.started (rules.with_scheduler e (choose_next tick e.scheduler)) e on)))
    (λ off. stopped off ∙ ap (λ y. answer_of y n) (sym (cond_false e.scheduler.rows.started (rules.with_scheduler e (choose_next tick e.scheduler)) e off)))
  where
    next : Scheduler
    next = choose_next tick e.scheduler

    model : scheduled.Scheduler → Stepped
    model y = record { engine = with_scheduler (engine_of e) y; answer = record { number = 0; given = n; running = y.running } }

    chooses : Kept e.scheduler → Turned e.scheduler.rows → scheduler.choose_next_model (engine_of e).scheduler tick ≡ scheduler_of (choose_next tick e.scheduler)
    chooses o t = unfold engine_of in (choose_stands o t tick)

    is_started : (engine_of e).started ≡ e.scheduler.rows.started
    is_started = unfold engine_of in refl

    runs_next : (scheduler_of (choose_next tick e.scheduler)).running ≡ (choose_next tick e.scheduler).rows.runner
    runs_next = unfold scheduler_of in refl

    started : e.scheduler.rows.started ≡ true → Kept e.scheduler → Turned e.scheduler.rows → answered_model (engine_of e) n tick ≡ answer_of (rules.with_scheduler e (choose_next tick e.scheduler)) n
    started on o t = unfold answered_model in (cond_true (engine_of e).started (model (scheduler.choose_next_model (engine_of e).scheduler tick)) (record { engine = engine_of e; answer = record { number = 0; given = n; running = (engine_of e).scheduler.running } }) (is_started ∙ on)
        ∙ ap model (chooses o t)
        ∙ ap (λ k. record { engine = k; answer = record { number = 0; given = n; running = (scheduler_of (choose_next tick e.scheduler)).running } }) (scheduler_stands e (choose_next tick e.scheduler) (sizes_next tick e.scheduler))
        ∙ ap (λ r. record { engine = engine_of (rules.with_scheduler e (choose_next tick e.scheduler)); answer = record { number = 0; given = n; running = r } }) runs_next)

    stopped : e.scheduler.rows.started ≡ false → answered_model (engine_of e) n tick ≡ answer_of e n
    stopped off = unfold answered_model in (cond_false (engine_of e).started (model (scheduler.choose_next_model (engine_of e).scheduler tick)) (record { engine = engine_of e; answer = record { number = 0; given = n; running = (engine_of e).scheduler.running } }) (is_started ∙ off)
        ∙ ap (λ r. record { engine = engine_of e; answer = record { number = 0; given = n; running = r } }) (runs_so e))

-- a call by its verdict, where its effect and what it gives are those of document 01
pub judged_stands : (s : State) (call : Call) (v : Verdict) (e : Engine) (n : ℕ) → is_tick call ≡ false → v ≡ verdict_of s call
    → (number_of (verdict_of s call) ≡ 0 → (e ≡ engine_of (effect s call)) × (n ≡ given s call) × ((effect s call).scheduler.rows.started ≡ true → Kept (effect s call).scheduler × Turned (effect s call).scheduler.rows))
    → judged v (engine_of s) e n ≡ stepped_of (step_sound s call)
judged_stands s call v e n quiet same done = ap (λ w. judged w (engine_of s) e n) same ∙ go
  where
    accepts : number_of (verdict_of s call) ≡ 0 → answered_model e n false ≡ answer_of (after s call) (given s call)
    accepts z =
        let d = done z in
        ap₂ (λ x m. answered_model x m false) d.0 d.1 ∙ answered_stands (effect s call) (given s call) false d.2
        ∙ ap (λ b. answer_of (cond (effect s call).scheduler.rows.started (rules.with_scheduler (effect s call) (choose_next b (effect s call).scheduler)) (effect s call)) (given s call)) (sym quiet)
        ∙ (unfold after in refl)

    go : judged (verdict_of s call) (engine_of s) e n ≡ stepped_of (step_sound s call)
    go = unfold step_sound in (by_cases (eqb (number_of (verdict_of s call)) 0)
        (λ y. rw y (accepts (eqb-true (number_of (verdict_of s call)) 0 y)))
        (λ y. rw y (refused_stands s (verdict_of s call))))
