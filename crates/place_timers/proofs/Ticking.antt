-- A tick by whether the scheduler has started, on what the wheel's own tick gave.
-- Assumes nothing.
use Prim.Native.Nat.{◌+◌, ◌%◌}
use mathlib.Core.Path.{◌≡◌, sym, ap, ◌∙◌}
use mathlib.Core.Bool.{true, false}
use Rattle.laws.proofs.Bools.{cond_true, cond_false}
use Rattle.wheel.specs.declared.Ticked.{Ticked}
use Rattle.wheel.specs.Promise.{ticked_in, ids_of}
use Rattle.calls.specs.declared.Answer.{Answer}
use Rattle.calls.specs.declared.Verdict.TheVariants.{Stopped}
use Rattle.calls.specs.Answers.{number_of}
use Rattle.value_engine.specs.declared.Engine.{Engine}
use Rattle.value_engine.specs.declared.Effect.{Effect}
use Rattle.value_engine.specs.declared.Stepped.{Stepped}
use Rattle.value_engine.specs.Engines.{refused_model, answered_model, serve_all_model, turned, tick_model}

-- the engine x before the tick
module _ (x : Engine) where
  -- the engine with what the wheel's tick gave, and the count
  abbrev pub turned_by : Ticked → Engine
  turned_by t = record {
    scheduler = x.scheduler;
    timers = x.timers;
    wheel = t.wheel;
    started = x.started;
    threads = x.threads;
    mutexes = x.mutexes;
    conditions = x.conditions;
    timercount = x.timercount;
    count = (x.count + 1) % 4294967296;
  }

  -- all that the definition serves
  abbrev all : Effect
  all = serve_all_model 32 0 (turned x) (ids_of (ticked_in x.wheel).due)

  -- while stopped it is refused
  pub tick_stopped : (a : Answer) → x.started ≡ false → a ≡ record { number = number_of Stopped; given = 255; running = x.scheduler.running } → record { engine = x; answer = a } ≡ tick_model x
  unfolding tick_model refused_model
  tick_stopped a off told = ap (λ b. record { engine = x; answer = b }) told ∙ sym (cond_false x.started (answered_model all.engine all.given true) (refused_model x Stopped) off)

  -- the wheel's tick gave t
  module _ (on : x.started ≡ true) (t : Ticked) (ticked : t ≡ ticked_in x.wheel) (y : Stepped) where
    -- those that came due are served
    pub tick_served : (e : Effect) → e ≡ serve_all_model 32 0 (turned_by t) (ids_of t.due) → y ≡ answered_model e.engine e.given true → y ≡ tick_model x
    unfolding tick_model
    tick_served e served told =
        let whole : e ≡ all = served ∙ ap (λ (g : Ticked). serve_all_model 32 0 (turned_by g) (ids_of g.due)) ticked in
        told ∙ ap (λ (f : Effect). answered_model f.engine f.given true) whole ∙ sym (cond_true x.started (answered_model all.engine all.given true) (refused_model x Stopped) on)
