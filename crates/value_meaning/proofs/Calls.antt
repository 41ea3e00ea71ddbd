-- What the scheduler's functions do to the value that describes a scheduler is what document 01's calls do: mutexes, and waiting on a
-- condition variable.
-- Assumes nothing.
use Prim.Native.Nat.{ℕ, ◌+◌, ◌-◌, ◌%◌, ◌<◌, ◌≤◌}
use mathlib.Core.Path.{◌≡◌, refl, ap, ◌∙◌, subst}
use mathlib.Core.Bool.{true, cond}
use native.Mathlib.Omega.{arith}
use native.Mathlib.Nat.{le_trans}
use lib.ListN.{length}
use lib.Dec.{eqb, ltb, leb}
use borrow.Author.Tests.{lt-leb, eqb-true}
use Rattle.laws.specs.Lists.{tabulate}
use Rattle.laws.proofs.Bools.{by_cases}
use Rattle.queue.specs.Stands.{queues_of}
use Rattle.value_tables.specs.declared.Waiting.{Waiting}
use Rattle.value_tables.specs.Tables as tables
use Rattle.value_tables.specs.Tables.{head_model, leave_model_in}
use Rattle.value_effects.specs.declared.Mutex as scheduler
use Rattle.value_effects.specs.declared.Scheduler as scheduled
use Rattle.value_effects.specs.Effects as models
use Rattle.value_effects.specs.Effects.{mutex_of, for_mutex_of, own_model, recount_model, wait_for_model, wait_on_model, ready_model, pass_to_model, pass_model, acquire_model, release_model, wait_model}
use Rattle.rules.specs.Queues.{First, nobody, somebody, to_back, first_leaves}
use Rattle.rules.specs.State.{Where, running, ready, for_mutex, on_condition, waits, Scheduler, thread, mutex, priority, with_rows, stand, own, tie, set_at, put_set, first_at, arrive, depart}
use Rattle.rules.specs.Page.{state_code, object_code}
use Rattle.rules.specs.Effects.{acquired, passed_to, released, waited}
use Rattle.rules_soundness.proofs.Fits.{first_queue}
use Rattle.rules_soundness.proofs.Rows.{Real, length_tie, base_below}
use Rattle.rules_soundness.proofs.Facts.{Queued, low}
use Rattle.rules_soundness.proofs.Moves.{first_stands, first_exists, first_at_lem, queued_leave, queued_tie}
use Rattle.rules_soundness.proofs.Next.{Kept}
use Rattle.rules_soundness.proofs.Calls.{Going, Left, left_released, aside_taken, low_taken}
use Rattle.value_meaning.specs.Stands.{threads_of, mutex_in, scheduler_of}
use Rattle.value_meaning.proofs.Fresh.{has_set}
use Rattle.value_meaning.proofs.Joining.{head_of, head_stands}
use Rattle.value_meaning.proofs.Threads.{arrive_stands, wait_stands, leave_stands, stand_same}
use Rattle.value_meaning.proofs.Owning.{mutex_read, own_stands, recount_stands}
use Rattle.value_meaning.proofs.Sets.{Narrow, set_at_place, with_set, set_found, set_stored, tie_put}

-- ---- arriving, for a thread that has left its queue

module _ (h : Scheduler) (t : ℕ) (there : t < length h.rows.threads) (few : length h.rows.threads ≤ 32) (aside : Queued (stand h.rows t running) h.sets) (small : priority h.rows t < 16) where
  pub ready_stands : ready_model (scheduler_of h) t ≡ scheduler_of (arrive h t ready)
  unfolding ready_model scheduler_of arrive
  ready_stands = ap (models.with_threads (scheduler_of h)) (arrive_stands h.rows h.sets t there few aside small) ∙ (unfold put_set set_at stand in refl)

  -- it waits at a mutex or a condition variable
  waits_there : (w : Where) → waits w ≡ true → Real h.rows w → Narrow h.rows w
      → with_set (scheduler_of h) w (tables.wait_model (scheduler_of h).threads (set_at_place (scheduler_of h) w) t (state_code w) (object_code w)) ≡ scheduler_of (arrive h t w)
  waits_there w z r n =
      let after = to_back (set_at h.sets w) (priority h.rows t) t in
      let come : Waiting = record { threads = threads_of (stand h.rows t w) (put_set h.sets w after); set = queues_of after } in
      let comes : tables.wait_model (scheduler_of h).threads (set_at_place (scheduler_of h) w) t (state_code w) (object_code w) ≡ come =
      ap (λ s. tables.wait_model (scheduler_of h).threads s t (state_code w) (object_code w)) (set_found h w z r n)
      ∙ (unfold scheduler_of in (wait_stands h.rows h.sets t there few aside small w r z)) in
      ap (with_set (scheduler_of h) w) comes
      ∙ (unfold arrive stand in (set_stored h _ w z r n (has_set aside w (unfold stand in (real_stand w r))) after))
    where
      real_stand : (w : Where) → Real h.rows w → Real (stand h.rows t running) w
      real_stand running r = r
      real_stand ready r = r
      real_stand (for_mutex m) r = unfold stand in r
      real_stand (on_condition c) r = unfold stand in r

  pub wait_for_stands : (m : ℕ) → m < length h.rows.mutexes → length h.rows.mutexes ≤ 16 → wait_for_model (scheduler_of h) t m ≡ scheduler_of (arrive h t (for_mutex m))
  unfolding wait_for_model state_code object_code
  wait_for_stands m real short = waits_there (for_mutex m) refl real short

  pub wait_on_stands : (c : ℕ) → c < length h.rows.ties → length h.rows.ties ≤ 16 → wait_on_model (scheduler_of h) t c ≡ scheduler_of (arrive h t (on_condition c))
  unfolding wait_on_model state_code object_code
  wait_on_stands c real short = waits_there (on_condition c) refl real short

-- ---- leaving

module _ (h : Scheduler) (q : Queued h.rows h.sets) (few : length h.rows.threads ≤ 32) (p : ℕ) (low_p : p < 16) where
  -- the set at w, once its first has gone
  abbrev gone : Where → Waiting
  gone w = record { threads = threads_of h.rows (put_set h.sets w (first_leaves (set_at h.sets w) p)); set = queues_of (first_leaves (set_at h.sets w) p) }

  -- its first leaves a mutex or a condition variable
  pub leaves_there : (w : Where) → waits w ≡ true → Real h.rows w → Narrow h.rows w → leave_model_in (scheduler_of h).threads (set_at_place (scheduler_of h) w) p ≡ gone w
  leaves_there w z r n =
      ap (λ s. leave_model_in (scheduler_of h).threads s p) (set_found h w z r n)
      ∙ (unfold scheduler_of in (leave_stands h.rows h.sets q few w r z p low_p))

  pub departs_there : (w : Where) → waits w ≡ true → Real h.rows w → Narrow h.rows w
      → with_set (scheduler_of h) w (leave_model_in (scheduler_of h).threads (set_at_place (scheduler_of h) w) p) ≡ scheduler_of (depart h w p)
  departs_there w z r n =
      ap (with_set (scheduler_of h) w) (leaves_there w z r n)
      ∙ (unfold depart in (set_stored h h.rows.threads w z r n (has_set q w r) (first_leaves (set_at h.sets w) p)))

-- the head of a mutex's or a condition variable's set
pub head_there : {h : Scheduler} → Kept h → (w : Where) → waits w ≡ true → Real h.rows w → Narrow h.rows w → head_model (set_at_place (scheduler_of h) w) ≡ head_of (first_at h w)
head_there {h} o w z r n = ap head_model (set_found h w z r n) ∙ head_stands o.queued o.facts.few w r

-- ---- 6 and 7

module _ {h : Scheduler} (o : Kept h) (g : Going h.rows) (m : ℕ) (real : m < length h.rows.mutexes) where
  abbrev x : scheduled.Scheduler
  x = scheduler_of h

  abbrev short : length h.rows.mutexes ≤ 16
  short = o.facts.few_mutexes

  pub row_of : mutex_of (scheduler_of h) m ≡ mutex_in h.rows m
  row_of = unfold scheduler_of in (mutex_read h.rows m real short)

  pub head_of_mutex : head_model (for_mutex_of (scheduler_of h) m) ≡ head_of (first_at h (for_mutex m))
  head_of_mutex = head_there o (for_mutex m) refl real short

  passes_to : (mine : (mutex h.rows m).owner ≡ h.rows.runner) (f : First) → first_at h (for_mutex m) ≡ f → cond (leb 16 (head_of f).priority) (own_model x m 255 0) (pass_to_model x m (head_of f)) ≡ scheduler_of (passed_to h m f)
  unfolding passed_to
  passes_to mine nobody e = own_stands h m 255 0 real short
  passes_to mine (somebody p t) e = rw (lt-leb 16 p low_p) (unfold pass_to_model in (
      ap (λ y. ready_model (own_model y m t 1) t) (departs_there h o.queued o.facts.few p low_p (for_mutex m) refl real short)
      ∙ ap (λ y. ready_model y t) (own_stands (depart h (for_mutex m) p) m t 1 (unfold depart in real) (unfold depart in short))
      ∙ becomes_ready))
    where
      low_p : p < 16
      low_p = (first_queue 16 (set_at h.sets (for_mutex m)) p t e).0

      exists : t < length h.rows.threads
      exists = first_exists o.queued (for_mutex m) real p t e

      waited : waits (thread h.rows t).stands ≡ true
      waited = rw (first_stands o.queued (for_mutex m) real p t e)

      old : (thread h.rows (mutex h.rows m).owner).stands ≡ running
      old = rw mine g.runs

      fits : (thread h.rows t).base ≤ (mutex h.rows m).ceiling
      fits = le_trans (base_below h.rows t) (o.facts.waiter_below m t (first_at_lem o.queued (for_mutex m) real p t e))

      becomes_ready : ready_model (scheduler_of (with_rows (depart h (for_mutex m) p) (own (depart h (for_mutex m) p).rows m t 1))) t ≡ scheduler_of (arrive (with_rows (depart h (for_mutex m) p) (own h.rows m t 1)) t ready)
      becomes_ready = unfold depart in (ready_stands (with_rows (depart h (for_mutex m) p) (own h.rows m t 1)) t (unfold own in exists) (unfold own in o.facts.few)
          (unfold depart in (aside_taken o.facts m t real exists waited old fits (queued_leave o.queued (for_mutex m) real p t e)))
          (low_taken o.facts m t real exists waited old fits))

  pub pass_stands : (mutex h.rows m).owner ≡ h.rows.runner → pass_model (scheduler_of h) m ≡ scheduler_of (passed_to h m (first_at h (for_mutex m)))
  unfolding pass_model
  pass_stands mine = ap (λ f. cond (leb 16 f.priority) (own_model x m 255 0) (pass_to_model x m f)) head_of_mutex ∙ passes_to mine (first_at h (for_mutex m)) refl

  -- the caller runs, so that it is in no queue
  caller_aside : Queued (stand h.rows h.rows.runner running) h.sets
  caller_aside = rw (stand_same h.rows h.rows.runner g.runs) o.queued

  again : (mutex h.rows m).owner ≡ h.rows.runner → ((mutex h.rows m).count ≡ 255 → ⊥) → recount_model x m ((mutex h.rows m).count % 255 + 1) ≡ scheduler_of (with_rows h (own h.rows m h.rows.runner ((mutex h.rows m).count + 1)))
  again e more = ap (λ n. recount_model x m (n + 1)) small_count ∙ recount_stands h m ((mutex h.rows m).count + 1) real short
      ∙ ap (λ v. scheduler_of (with_rows h (own h.rows m v ((mutex h.rows m).count + 1)))) e
    where
      small_count : (mutex h.rows m).count % 255 ≡ (mutex h.rows m).count
      small_count = omega (arith, (o.facts.held m (λ z. omega (arith, g.there, o.facts.few, e, z))).most, more)

  pub acquire_stands : ((mutex h.rows m).owner ≡ h.rows.runner → (mutex h.rows m).count ≡ 255 → ⊥) → acquire_model (scheduler_of h) m ≡ scheduler_of (acquired h m)
  unfolding acquire_model acquired
  acquire_stands more = ap (λ (r : scheduler.Mutex). cond (eqb r.owner x.running) (recount_model x m (r.count % 255 + 1)) (cond (eqb r.owner 255) (own_model x m x.running 1) (wait_for_model x x.running m))) row_of
      ∙ (unfold scheduler_of in cases)
    where
      cases : cond (eqb (mutex h.rows m).owner h.rows.runner) (recount_model x m ((mutex h.rows m).count % 255 + 1)) (cond (eqb (mutex h.rows m).owner 255) (own_model x m h.rows.runner 1) (wait_for_model x h.rows.runner m))
          ≡ scheduler_of (cond (eqb (mutex h.rows m).owner h.rows.runner) (with_rows h (own h.rows m h.rows.runner ((mutex h.rows m).count + 1))) (cond (eqb (mutex h.rows m).owner 255) (with_rows h (own h.rows m h.rows.runner 1)) (arrive h h.rows.runner (for_mutex m))))
      cases = by_cases (eqb (mutex h.rows m).owner h.rows.runner)
          (λ e. rw e (again (eqb-true (mutex h.rows m).owner h.rows.runner e) (more (eqb-true (mutex h.rows m).owner h.rows.runner e))))
          (λ e. rw e (by_cases (eqb (mutex h.rows m).owner 255)
          (λ y. rw y (own_stands h m h.rows.runner 1 real short))
          (λ y. rw y (wait_for_stands h h.rows.runner g.there o.facts.few caller_aside (low o.facts h.rows.runner) m real short))))

  pub release_stands : (mutex h.rows m).owner ≡ h.rows.runner → release_model (scheduler_of h) m ≡ scheduler_of (released h m)
  unfolding release_model released
  release_stands mine = ap (λ (r : scheduler.Mutex). cond (ltb 1 r.count) (recount_model x m (r.count - 1)) (pass_model x m)) row_of
      ∙ by_cases (ltb 1 (mutex h.rows m).count)
      (λ e. rw e (recount_stands h m ((mutex h.rows m).count - 1) real short))
      (λ e. rw e (pass_stands mine))

-- ---- 8

-- a tie is stored
pub tie_stands : (h : Scheduler) (c m : ℕ) → c < length h.rows.ties → length h.rows.ties ≤ 16 → models.with_tie (scheduler_of h) c m ≡ scheduler_of (with_rows h (tie h.rows c m))
tie_stands h c m there short = unfold scheduler_of in (ap (λ y. record {
  threads = threads_of h.rows h.sets;
  mutexes = tabulate 16 (mutex_in h.rows);
  formutex = tabulate 16 (λ i. queues_of (set_at h.sets (for_mutex i)));
  ties = y;
  oncondition = tabulate 16 (λ i. queues_of (set_at h.sets (on_condition i)));
  running = h.rows.runner;
}) (tie_put h.rows c m (omega arith) there) ∙ (unfold threads_of priority tie in refl))

module _ {h : Scheduler} (o : Kept h) (g : Going h.rows) (c m : ℕ) (there : c < length h.rows.ties) (real : m < length h.rows.mutexes) (mine : (mutex h.rows m).owner ≡ h.rows.runner) where
  pub waited_stands : wait_model (scheduler_of h) c m ≡ scheduler_of (waited h c m)
  unfolding wait_model waited
  waited_stands = ap (λ y. wait_on_model (models.with_tie y c m) (scheduler_of h).running c) (release_stands o g m real mine)
      ∙ ap (λ y. wait_on_model y (scheduler_of h).running c) (tie_stands (released h m) c m still l.kept.facts.few_ties)
      ∙ (unfold scheduler_of in joins)
    where
      l : Left Going h (released h m)
      l = left_released o g m real mine

      still : c < length (released h m).rows.ties
      still = rw l.ties there

      tied_rows : Scheduler
      tied_rows = with_rows (released h m) (tie (released h m).rows c m)

      runs_there : (thread (released h m).rows h.rows.runner).stands ≡ running
      runs_there = subst (λ v. (thread (released h m).rows v).stands ≡ running) l.runner l.caller.runs

      exists : h.rows.runner < length (released h m).rows.threads
      exists = subst (λ v. v < length (released h m).rows.threads) l.runner l.caller.there

      aside : Queued (stand (tie (released h m).rows c m) h.rows.runner running) (released h m).sets
      aside = rw (stand_same (tie (released h m).rows c m) h.rows.runner (unfold tie in runs_there)) (queued_tie l.kept.queued c m)

      joins : wait_on_model (scheduler_of tied_rows) h.rows.runner c ≡ scheduler_of (arrive (with_rows (released h m) (tie (released h m).rows c m)) h.rows.runner (on_condition c))
      joins = wait_on_stands tied_rows h.rows.runner (unfold tie in exists) (unfold tie in l.kept.facts.few) aside (unfold priority tie in (unfold priority in (low l.kept.facts h.rows.runner))) c (rw (length_tie (released h m).rows c m) still) (rw (length_tie (released h m).rows c m) l.kept.facts.few_ties)
