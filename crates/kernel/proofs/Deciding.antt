-- The tests decide: two values pass exactly if they are one. Of rows and sets, and so of schedulers and engines.
-- Assumes nothing.
use Prim.Native.Nat.{ℕ}
use mathlib.Core.Path.{◌≡◌, refl, sym, ap, ◌∙◌, subst}
use mathlib.Core.Logic.{◌↔◌}
use mathlib.Core.Bool.{Bool, true, false, ◌&&◌}
use lib.Dec.{eqb}
use borrow.Author.Tests.{not-true}
use Rattle.laws.specs.Same.{same_list, Decides}
use Rattle.laws.proofs.Bools.{and_left, and_right, and_both}
use Rattle.laws.proofs.Same.{numbers, lists, through}
use Rattle.units.specs.Units.{in_ticks}
use Rattle.queue.specs.declared.Queue.{Queue}
use Rattle.queue.specs.declared.Queues.{Queues}
use Rattle.value_tables.specs.declared.Thread.{Thread}
use Rattle.value_tables.specs.declared.Threads.{Threads}
use Rattle.value_effects.specs.declared.Mutex.{Mutex}
use Rattle.value_effects.specs.declared.Scheduler.{Scheduler}
use Rattle.wheel.specs.Promise.{same_wheel}
use Rattle.wheel.proofs.Promise as wheel
use Rattle.value_engine.specs.declared.Timer.{Timer}
use Rattle.value_engine.specs.declared.Engine.{Engine}
use Rattle.kernel.proofs.Tests.{same_flag, same_queue, same_queues, same_thread, same_mutex, same_timer, same_threads, same_scheduler, same_counts, same_engine}

-- two pairs, by their parts
pairs : {A B : Type 0} {f : A → A → Bool} {g : B → B → Bool} → Decides f → Decides g → Decides (λ (x y : A × B). f x.0 y.0 && g x.1 y.1)
pairs {A} {B} {f} {g} d e = record {
  tells = λ x y h i. (d.tells x.0 y.0 (and_left (f x.0 y.0) (g x.1 y.1) h) i, e.tells x.1 y.1 (and_right (f x.0 y.0) (g x.1 y.1) h) i);
  holds = λ x. and_both (f x.0 x.0) (g x.1 x.1) (d.holds x.0) (e.holds x.1);
}

-- two flags
flags : Decides same_flag
flags = record { tells = one; holds = itself }
  where
    one : (x y : Bool) → same_flag x y ≡ true → x ≡ y
    one true y e = sym (unfold same_flag in e)
    one false y e = sym (not-true y (unfold same_flag in e))

    itself : (x : Bool) → same_flag x x ≡ true
    itself true = unfold same_flag in refl
    itself false = unfold same_flag in refl

-- ---- rows and sets

-- two queues
queue_ends : Decides same_queue
unfolding same_queue
queue_ends = through (λ (x : Queue). (x.first, x.last)) (λ x y e i. record { first = (e i).0; last = (e i).1 }) (pairs numbers numbers)

-- two sets of queues
queue_sets : Decides same_queues
unfolding same_queues
queue_sets = through (λ (x : Queues). x.levels) (λ x y e i. record { levels = e i }) (lists queue_ends)

-- two rows of threads
thread_rows_lem : Decides same_thread
unfolding same_thread
thread_rows_lem = through (λ (x : Thread). ((x.base, x.priority), (x.state, x.object)))
    (λ x y e i. record { base = (e i).0.0; priority = (e i).0.1; state = (e i).1.0; object = (e i).1.1 })
    (pairs (pairs numbers numbers) (pairs numbers numbers))

-- two rows of mutexes
mutex_rows_lem : Decides same_mutex
unfolding same_mutex
mutex_rows_lem = through (λ (x : Mutex). (x.ceiling, (x.owner, x.count))) (λ x y e i. record { ceiling = (e i).0; owner = (e i).1.0; count = (e i).1.1 })
    (pairs numbers (pairs numbers numbers))

-- two rows of timers
timer_rows_lem : Decides same_timer
unfolding same_timer
timer_rows_lem = through (λ (x : Timer). (x.state, (x.condition, x.length.0))) (λ x y e i. record { state = (e i).0; condition = (e i).1.0; length = in_ticks (e i).1.1 })
    (pairs numbers (pairs numbers numbers))

-- ---- the parts of an engine

-- the threads, their links and the ready queues
all_threads : Decides same_threads
unfolding same_threads
all_threads = through (λ (x : Threads). (x.rows, (x.links.next, x.ready)))
    (λ x y e i. record { rows = (e i).0; links = record { next = (e i).1.0 }; ready = (e i).1.1 })
    (pairs (lists thread_rows_lem) (pairs (lists numbers) queue_sets))

-- two schedulers
schedulers : Decides same_scheduler
unfolding same_scheduler
schedulers = through (λ (x : Scheduler). (x.threads, (x.mutexes, (x.formutex, (x.ties, (x.oncondition, x.running))))))
    (λ x y e i. record {
      threads = (e i).0;
      mutexes = (e i).1.0;
      formutex = (e i).1.1.0;
      ties = (e i).1.1.1.0;
      oncondition = (e i).1.1.1.1.0;
      running = (e i).1.1.1.1.1;
    })
    (pairs all_threads (pairs (lists mutex_rows_lem) (pairs (lists queue_sets) (pairs (lists numbers) (pairs (lists queue_sets) numbers)))))

-- ---- engines

-- whether started, and the counts
abbrev counts_of : Engine → Bool × ((ℕ × ℕ) × ((ℕ × ℕ) × ℕ))
counts_of x = (x.started, ((x.threads, x.mutexes), ((x.conditions, x.timercount), x.count)))

counts : Decides (λ (x y : Bool × ((ℕ × ℕ) × ((ℕ × ℕ) × ℕ))). same_flag x.0 y.0 && ((eqb x.1.0.0 y.1.0.0 && eqb x.1.0.1 y.1.0.1) && ((eqb x.1.1.0.0 y.1.1.0.0 && eqb x.1.1.0.1 y.1.1.0.1) && eqb x.1.1.1 y.1.1.1)))
counts = pairs flags (pairs (pairs numbers numbers) (pairs (pairs numbers numbers) numbers))

-- every result that is the test of two engines, with w for what the wheel says of the two wheels, is true exactly if they are one
module _ (a b : Engine) (w : Bool) (wheels : (w ≡ true) ↔ (a.wheel ≡ b.wheel)) where
  -- the test
  abbrev timers : Bool
  timers = same_list same_timer a.timers b.timers

  abbrev test : Bool
  test = same_scheduler a.scheduler b.scheduler && (timers && (w && same_counts a b))

  tells : test ≡ true → a ≡ b
  unfolding same_counts
  tells e =
      let others = and_right (same_scheduler a.scheduler b.scheduler) (timers && (w && same_counts a b)) e in
      let last = and_right timers (w && same_counts a b) others in
      let s = schedulers.tells a.scheduler b.scheduler (and_left (same_scheduler a.scheduler b.scheduler) (timers && (w && same_counts a b)) e) in
      let t = (lists timer_rows_lem).tells a.timers b.timers (and_left timers (w && same_counts a b) others) in
      let v = wheels.0 (and_left w (same_counts a b) last) in
      let n = counts.tells (counts_of a) (counts_of b) (and_right w (same_counts a b) last) in
      λ i. record {
        scheduler = s i;
        timers = t i;
        wheel = v i;
        started = (n i).0;
        threads = (n i).1.0.0;
        mutexes = (n i).1.0.1;
        conditions = (n i).1.1.0.0;
        timercount = (n i).1.1.0.1;
        count = (n i).1.1.1;
      }

  holds : a ≡ b → test ≡ true
  unfolding same_counts
  holds e =
      let s = subst (λ x. same_scheduler a.scheduler x.scheduler ≡ true) e (schedulers.holds a.scheduler) in
      let t = subst (λ x. same_list same_timer a.timers x.timers ≡ true) e ((lists timer_rows_lem).holds a.timers) in
      let v = wheels.1 (ap (λ x. x.wheel) e) in
      let n = subst (λ x. same_counts a x ≡ true) e (counts.holds (counts_of a)) in
      and_both (same_scheduler a.scheduler b.scheduler) (timers && (w && same_counts a b)) s
      (and_both timers (w && same_counts a b) t (and_both w (same_counts a b) v n))

  pub same_exactly : (r : Bool) → r ≡ test → (r ≡ true) ↔ (a ≡ b)
  same_exactly r e = (λ q. tells (sym e ∙ q), λ q. e ∙ holds q)

-- so the test of two engines tells whether they are one
pub engines_exactly : (a b : Engine) → (same_engine a b ≡ true) ↔ (a ≡ b)
unfolding same_engine
engines_exactly a b = same_exactly a b (same_wheel a.wheel b.wheel) (wheel.same_exactly a.wheel b.wheel) (same_engine a b) refl
