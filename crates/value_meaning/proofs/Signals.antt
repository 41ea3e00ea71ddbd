-- What the scheduler's functions do to the value that describes a scheduler is what document 01's calls do: signals, and the
-- choice of the next thread.
-- Assumes nothing.
use Prim.Native.Nat.{ℕ, zero, suc, ◌+◌, ◌%◌, ◌<◌, ◌≤◌}
use mathlib.Core.Path.{◌≡◌, refl, sym, ap, ap₂, ◌∙◌}
use mathlib.Core.Bool.{Bool, true, cond}
use native.Mathlib.Omega.{arith}
use lib.ListN.{length, get_or}
use lib.Dec.{eqb, leb}
use borrow.Author.Tests.{lt-leb, eqb-true}
use Rattle.laws.specs.Lists.{tabulate}
use Rattle.laws.proofs.Bools.{by_cases}
use Rattle.queue.specs.Stands.{queues_of}
use Rattle.value_tables.specs.declared.Head.{Head}
use Rattle.value_tables.specs.declared.Waiting.{Waiting}
use Rattle.value_tables.specs.Tables.{head_model, leave_model_in}
use Rattle.value_effects.specs.declared.Mutex as scheduler
use Rattle.value_effects.specs.declared.Scheduler as scheduled
use Rattle.value_effects.specs.declared.Signalled.{Signalled}
use Rattle.value_effects.specs.Effects as models
use Rattle.value_effects.specs.Effects.{mutex_of, on_condition_of, own_model, wait_for_model, ready_model, wake_model, leave_condition_model, untie_model, signal_to_model, signal_model, broadcast_model, with_ran, run_first_model, choose_next_model}
use Rattle.rules.specs.Queues.{First, nobody, somebody, empty_set, first_leaves}
use Rattle.rules.specs.State.{running, ready, for_mutex, on_condition, waits, Scheduler, no_mutex, thread, mutex, tied, priority, with_rows, stand, own, tie, set_at, put_set, first_at, arrive, arrive_in_front, depart}
use Rattle.rules.specs.Next.{run, run_first, choose_next}
use Rattle.rules.specs.Effects.{woken, untied, signalled_to, signalled, signalled_times, leaver, leavers}
use Rattle.rules_soundness.proofs.Fits.{first_queue}
use Rattle.rules_soundness.proofs.Rows.{stands_stand, length_stand, set_same}
use Rattle.rules_soundness.proofs.Facts.{Queued, Waiter, low}
use Rattle.rules_soundness.proofs.Moves.{first_at_lem, first_stands, first_exists, queued_leave, queued_own, queued_tie}
use Rattle.rules_soundness.proofs.Next.{Kept, Turned}
use Rattle.rules_soundness.proofs.Calls.{Going, Left, left_signalled, nobody_255, stands_there, low_taken}
use Rattle.value_meaning.specs.Stands.{threads_of, mutex_in, scheduler_of}
use Rattle.rules_soundness.proofs.Choice.{choice}
use Rattle.value_meaning.proofs.Fresh.{has_set}
use Rattle.value_meaning.proofs.Joining.{head_of, head_stands}
use Rattle.value_meaning.proofs.Threads.{ran_of, run_first_stands, choose_next_stands}
use Rattle.value_meaning.proofs.Owning.{mutex_read, own_stands}
use Rattle.value_meaning.proofs.Sets.{tie_read}
use Rattle.value_meaning.proofs.Calls.{ready_stands, wait_for_stands, leaves_there, departs_there, head_there, tie_stands}

-- ---- waking

module _ (u : Scheduler) (m t : ℕ) (there : t < length u.rows.threads) (few : length u.rows.threads ≤ 32) (aside : Queued (stand u.rows t running) u.sets) (small : priority u.rows t < 16)
    (real : m < length u.rows.mutexes) (short : length u.rows.mutexes ≤ 16) (none : (thread u.rows 255).stands ≡ running)
    (small_own : (mutex u.rows m).owner ≡ 255 → priority (own u.rows m t 1) t < 16) where
  row_of : mutex_of (scheduler_of u) m ≡ mutex_in u.rows m
  row_of = unfold scheduler_of in (mutex_read u.rows m real short)

  owns : (mutex u.rows m).owner ≡ 255 → ready_model (own_model (scheduler_of u) m t 1) t ≡ scheduler_of (arrive (with_rows u (own u.rows m t 1)) t ready)
  owns e = ap (λ y. ready_model y t) (own_stands u m t 1 real short) ∙ ready_stands (with_rows u (own u.rows m t 1)) t (unfold own in there) (unfold own in few) after (small_own e)
    where
      nowhere : (v : ℕ) → (thread u.rows v).stands ≡ running → (thread (stand u.rows t running) v).stands ≡ running
      nowhere v z = rw (stands_stand u.rows t running v there) (by_cases (eqb v t) (λ y. rw y) (λ y. rw (y, z)))

      after : Queued (stand (own u.rows m t 1) t running) u.sets
      after = unfold own stand in (queued_own aside m t 1 (unfold stand in (nowhere (mutex u.rows m).owner (ap (λ v. (thread u.rows v).stands) e ∙ none))) (stands_there u.rows t running there))

  pub wake_stands : wake_model (scheduler_of u) m t ≡ scheduler_of (woken u m t)
  unfolding wake_model woken
  wake_stands = ap (λ (r : scheduler.Mutex). cond (eqb r.owner 255) (ready_model (own_model (scheduler_of u) m t 1) t) (wait_for_model (scheduler_of u) t m)) row_of
      ∙ by_cases (eqb (mutex u.rows m).owner 255)
      (λ e. rw e (owns (eqb-true (mutex u.rows m).owner 255 e)))
      (λ e. rw e (wait_for_stands u t there few aside small m real short))

-- ---- 9

module _ {h : Scheduler} (o : Kept h) (c : ℕ) (there : c < length h.rows.ties) where
  abbrev x : scheduled.Scheduler
  x = scheduler_of h

  abbrev its_mutex : ℕ
  its_mutex = tied h.rows c

  pub head_of_condition : head_model (on_condition_of (scheduler_of h) c) ≡ head_of (first_at h (on_condition c))
  head_of_condition = head_there o (on_condition c) refl there o.facts.few_ties

  module _ (p t : ℕ) (e : first_at h (on_condition c) ≡ somebody p t) where
    abbrev d : Scheduler
    d = depart h (on_condition c) p

    low_p : p < 16
    low_p = (first_queue 16 (set_at h.sets (on_condition c)) p t e).0

    exists : t < length h.rows.threads
    exists = first_exists o.queued (on_condition c) there p t e

    waiter : Waiter h.rows c t
    waiter = o.facts.waiters c t (first_at_lem o.queued (on_condition c) there p t e)

    waited : waits (thread h.rows t).stands ≡ true
    waited = rw (first_stands o.queued (on_condition c) there p t e)

    aside : Queued (stand h.rows t running) (depart h (on_condition c) p).sets
    aside = unfold depart in (queued_leave o.queued (on_condition c) there p t e)

    small_own : (mutex h.rows its_mutex).owner ≡ 255 → priority (own h.rows its_mutex t 1) t < 16
    small_own z = low_taken o.facts its_mutex t waiter.exists exists waited (ap (λ v. (thread h.rows v).stands) z ∙ nobody_255 o.facts) waiter.base

    -- the head of the set that is left
    rest_head : head_model (queues_of (first_leaves (set_at h.sets (on_condition c)) p)) ≡ head_of (first_at d (on_condition c))
    rest_head = ap (λ y. head_model (queues_of y)) (sym left_set) ∙ head_stands aside (unfold stand in (rw (length_stand h.rows t running) o.facts.few)) (on_condition c) (unfold stand in there)
      where
        left_set : set_at (depart h (on_condition c) p).sets (on_condition c) ≡ first_leaves (set_at h.sets (on_condition c)) p
        left_set = unfold depart in (set_same h.sets (on_condition c) (first_leaves (set_at h.sets (on_condition c)) p) (has_set o.queued (on_condition c) there))

    -- the tie ends where nobody is left
    unties : (f : First) → first_at d (on_condition c) ≡ f → cond (leb 16 (head_of f).priority) (models.with_tie (scheduler_of d) c 255) (scheduler_of d) ≡ scheduler_of (untied d c f)
    unfolding untied
    unties nobody z = tie_stands d c 255 (unfold depart in there) (unfold depart in o.facts.few_ties)
    unties (somebody q v) z = rw (lt-leb 16 q (first_queue 16 (set_at d.sets (on_condition c)) q v z).0)

    -- and the waiter goes on
    wakes : (f : First) → wake_model (scheduler_of (untied d c f)) its_mutex t ≡ scheduler_of (woken (untied d c f) its_mutex t)
    unfolding untied
    wakes nobody = wake_stands (with_rows d (tie d.rows c 255)) its_mutex t (unfold depart tie in exists) (unfold depart tie in o.facts.few) (unfold depart in (unfold tie stand in (queued_tie aside c 255)))
        (unfold depart tie priority in (unfold priority in (low o.facts t))) (unfold depart tie in waiter.exists) (unfold depart tie in o.facts.few_mutexes) (unfold depart tie in (nobody_255 o.facts))
        (λ z. unfold depart in (unfold tie own priority in (unfold own priority in (small_own (unfold depart tie in z)))))
    wakes (somebody q v) = wake_stands d its_mutex t (unfold depart in exists) (unfold depart in o.facts.few) (unfold depart in aside)
        (unfold depart in (low o.facts t)) (unfold depart in waiter.exists) (unfold depart in o.facts.few_mutexes) (unfold depart in (nobody_255 o.facts))
        (λ z. unfold depart in (small_own (unfold depart in z)))

    -- the set that is left, as the code has it
    abbrev left : Waiting
    left = leave_model_in (scheduler_of h).threads (on_condition_of (scheduler_of h) c) p

    is_untied : untie_model (scheduler_of d) c (queues_of (first_leaves (set_at h.sets (on_condition c)) p)) ≡ scheduler_of (untied d c (first_at d (on_condition c)))
    unfolding untie_model
    is_untied = ap (λ (f : Head). cond (leb 16 f.priority) (models.with_tie (scheduler_of d) c 255) (scheduler_of d)) rest_head ∙ unties (first_at d (on_condition c)) refl

    ties_read : get_or (scheduler_of h).ties (c % 16) 0 ≡ tied h.rows c
    ties_read = unfold scheduler_of in (tie_read h.rows c (omega (arith, o.facts.few_ties)))

    signals_to : signal_to_model (scheduler_of h) c (record { priority = p; thread = t }) ≡ scheduler_of (signalled_to h c (somebody p t))
    unfolding signal_to_model leave_condition_model signalled_to
    signals_to = ap (λ y. wake_model (untie_model y c left.set) (get_or (scheduler_of h).ties (c % 16) 0) t) (departs_there h o.queued o.facts.few p low_p (on_condition c) refl there o.facts.few_ties)
        ∙ ap (λ (w : Waiting). wake_model (untie_model (scheduler_of d) c w.set) (get_or (scheduler_of h).ties (c % 16) 0) t) (leaves_there h o.queued o.facts.few p low_p (on_condition c) refl there o.facts.few_ties)
        ∙ ap (λ m. wake_model (untie_model (scheduler_of d) c (queues_of (first_leaves (set_at h.sets (on_condition c)) p))) m t) ties_read
        ∙ ap (λ y. wake_model y its_mutex t) is_untied
        ∙ wakes (first_at d (on_condition c))

  -- how many leave, and the scheduler after it
  abbrev signalled_of : First → Signalled
  signalled_of f = record { scheduler = scheduler_of (signalled_to h c f); left = leaver f }

  signals : (f : First) → first_at h (on_condition c) ≡ f → cond (leb 16 (head_of f).priority) (record { scheduler = x; left = 0 }) (record { scheduler = signal_to_model x c (head_of f); left = 1 }) ≡ signalled_of f
  unfolding signalled_to
  signals nobody e = refl
  signals (somebody p t) e = rw (lt-leb 16 p (low_p p t e)) (ap (λ y. record { scheduler = y; left = 1 }) (signals_to p t e))

  pub signal_stands : signal_model (scheduler_of h) c ≡ record { scheduler = scheduler_of (signalled h c); left = leaver (first_at h (on_condition c)) }
  unfolding signal_model signalled
  signal_stands = ap (λ (f : Head). cond (leb 16 f.priority) (record { scheduler = x; left = 0 }) (record { scheduler = signal_to_model x c f; left = 1 })) head_of_condition ∙ signals (first_at h (on_condition c)) refl

-- ---- 10

-- where nobody waits, signals change nothing and nobody leaves
nobody_left : (h : Scheduler) (c : ℕ) → first_at h (on_condition c) ≡ nobody → signalled h c ≡ h
unfolding signalled signalled_to
nobody_left h c e = rw e

none_leave : (n : ℕ) (h : Scheduler) (c : ℕ) → first_at h (on_condition c) ≡ nobody → (signalled_times n h c ≡ h) × (leavers n h c ≡ 0)
unfolding signalled_times leavers
none_leave zero h c e = (refl, refl)
none_leave (suc n) h c e =
    let z = nobody_left h c e in
    (ap (λ y. signalled_times n y c) z ∙ (none_leave n h c e).0, ap₂ (λ (f : First) (y : Scheduler). leaver f + leavers n y c) e z ∙ omega (arith, (none_leave n h c e).1))

pub broadcast_stands : (fuel n : ℕ) {h : Scheduler} → Kept h → Going h.rows → (c : ℕ) → c < length h.rows.ties
    → broadcast_model fuel n (scheduler_of h) c ≡ record { scheduler = scheduler_of (signalled_times fuel h c); left = n + leavers fuel h c }
unfolding broadcast_model signalled_times leavers
broadcast_stands zero n {h} o g c there = ap (λ l. record { scheduler = scheduler_of h; left = l }) (omega arith)
broadcast_stands (suc fuel) n {h} o g c there =
    ap (λ (s : Signalled). cond (eqb s.left 0) (record { scheduler = scheduler_of h; left = n }) (broadcast_model fuel (suc n) s.scheduler c)) (signal_stands o c there)
    ∙ go (first_at h (on_condition c)) refl (left_signalled o g c there)
    (λ l. broadcast_stands fuel (suc n) {h = signalled h c} l.kept l.caller c (rw l.ties there))
  where
    go : (f : First) → first_at h (on_condition c) ≡ f → Left Going h (signalled h c)
        → (Left Going h (signalled h c) → broadcast_model fuel (suc n) (scheduler_of (signalled h c)) c ≡ record { scheduler = scheduler_of (signalled_times fuel (signalled h c) c); left = suc n + leavers fuel (signalled h c) c })
        → cond (eqb (leaver f) 0) (record { scheduler = scheduler_of h; left = n }) (broadcast_model fuel (suc n) (scheduler_of (signalled h c)) c)
        ≡ record { scheduler = scheduler_of (signalled_times fuel (signalled h c) c); left = n + (leaver f + leavers fuel (signalled h c) c) }
    go nobody e l r =
        let z = nobody_left h c e in
        let k = none_leave fuel h c e in
        λ i. record { scheduler = scheduler_of (sym (ap (λ y. signalled_times fuel y c) z ∙ k.0) i); left = same (ap (λ y. leavers fuel y c) z ∙ k.1) i }
      where
        same : leavers fuel (signalled h c) c ≡ 0 → n ≡ n + (0 + leavers fuel (signalled h c) c)
        same q = omega arith
    go (somebody p t) e l r = r l ∙ ap (λ m. record { scheduler = scheduler_of (signalled_times fuel (signalled h c) c); left = m }) (omega arith)

-- ---- running

-- what the choice of the next thread leaves as it was
record Stays (h g : Scheduler) : Type 0 where
  mutexes : h.rows.mutexes ≡ g.rows.mutexes
  ties : h.rows.ties ≡ g.rows.ties
  mutex : h.sets.mutex ≡ g.sets.mutex
  condition : h.sets.condition ≡ g.sets.condition

stays_trans : (h g : Scheduler) {i : Scheduler} → Stays h g → Stays g i → Stays h i
stays_trans h g a b = record { mutexes = a.mutexes ∙ b.mutexes; ties = a.ties ∙ b.ties; mutex = a.mutex ∙ b.mutex; condition = a.condition ∙ b.condition }

stays_run : (h : Scheduler) (f : First) → Stays h (run h f)
stays_run h nobody = unfold run in record { mutexes = refl; ties = refl; mutex = refl; condition = refl }
stays_run h (somebody p t) = unfold run depart put_set stand in record { mutexes = refl; ties = refl; mutex = refl; condition = refl }

stays_first : (h : Scheduler) → Stays h (run_first h)
unfolding run_first
stays_first h = stays_run h (first_at h ready)

stays_front : (h : Scheduler) (t : ℕ) → Stays h (arrive_in_front h t)
stays_front h t = unfold arrive_in_front put_set stand in record { mutexes = refl; ties = refl; mutex = refl; condition = refl }

stays_back : (h : Scheduler) (t : ℕ) → Stays h (arrive h t ready)
stays_back h t = unfold arrive put_set stand in record { mutexes = refl; ties = refl; mutex = refl; condition = refl }

stays_next : (tick : Bool) (h : Scheduler) → Stays h (choose_next tick h)
stays_next tick h =
    let caller = h.rows.runner in
    choice (Stays h) tick h (record { mutexes = refl; ties = refl; mutex = refl; condition = refl }) (stays_first h)
    (stays_trans h (arrive_in_front h caller) (stays_front h caller) (stays_first (arrive_in_front h caller)))
    (stays_trans h (arrive h caller ready) (stays_back h caller) (stays_first (arrive h caller ready)))

-- the threads and the running thread are put back, and the rest is as it was
put_back : (h g : Scheduler) → Stays h g → with_ran (scheduler_of h) (ran_of g) ≡ scheduler_of g
unfolding scheduler_of ran_of
put_back h g s = λ i. record {
  threads = threads_of g.rows g.sets;
  mutexes = tabulate 16 (λ m. let y = get_or (s.mutexes i) m no_mutex in record { ceiling = y.ceiling; owner = y.owner; count = y.count });
  formutex = tabulate 16 (λ m. queues_of (sets_of_mutexes m i));
  ties = tabulate 16 (λ c. get_or (s.ties i) c 255);
  oncondition = tabulate 16 (λ c. queues_of (sets_of_conditions c i));
  running = g.rows.runner;
}
  where
    sets_of_mutexes : (m : ℕ) → set_at h.sets (for_mutex m) ≡ set_at g.sets (for_mutex m)
    sets_of_mutexes m = unfold set_at in (ap (λ l. get_or l m empty_set) s.mutex)

    sets_of_conditions : (c : ℕ) → set_at h.sets (on_condition c) ≡ set_at g.sets (on_condition c)
    sets_of_conditions c = unfold set_at in (ap (λ l. get_or l c empty_set) s.condition)

pub run_stands : (h : Scheduler) → Queued h.rows h.sets → length h.rows.threads ≤ 32 → run_first_model (scheduler_of h) ≡ scheduler_of (run_first h)
run_stands h q few = ran_so ∙ put_back h (run_first h) (stays_first h)
  where
    ran_so : run_first_model (scheduler_of h) ≡ with_ran (scheduler_of h) (ran_of (run_first h))
    ran_so = unfold run_first_model scheduler_of in (ap (with_ran (scheduler_of h)) (run_first_stands h q few))

pub choose_stands : {h : Scheduler} → Kept h → Turned h.rows → (tick : Bool) → choose_next_model (scheduler_of h) tick ≡ scheduler_of (choose_next tick h)
choose_stands {h} o t tick = ran_so ∙ put_back h (choose_next tick h) (stays_next tick h)
  where
    ran_so : choose_next_model (scheduler_of h) tick ≡ with_ran (scheduler_of h) (ran_of (choose_next tick h))
    ran_so = unfold choose_next_model scheduler_of in (ap (with_ran (scheduler_of h)) (choose_next_stands o t tick))
