-- No call but the creating ones changes how many threads, mutexes or condition variables there are, nor whether it is started.
-- Assumes nothing.
use Prim.Native.Nat.{ℕ, zero, suc, ◌+◌, ◌-◌}
use mathlib.Core.Path.{◌≡◌, refl, ◌∙◌}
use mathlib.Core.Bool.{Bool, cond}
use mathlib.Core.List.{List, [], ◌∷◌}
use lib.ListN.{length}
use lib.Dec.{eqb, ltb}
use Rattle.rules.specs.Queues.{First, nobody, somebody}
use Rattle.rules.specs.State.{Where, running, ready, for_mutex, on_condition, Scheduler, mutex, tied, with_rows, stand, own, tie, first_at, arrive, arrive_in_front, depart}
use Rattle.rules.specs.Next.{run, run_first, choose_next}
use Rattle.rules.specs.Effects.{acquired, passed_to, released, waited, woken, untied, signalled_to, signalled, signalled_times, signalled_each}
use Rattle.rules_soundness.proofs.Rows.{length_stand, length_own, length_tie}
use Rattle.rules_soundness.proofs.Choice.{either, choice}

pub record Sizes (h g : Scheduler) : Type 0 where
  pub started : g.rows.started ≡ h.rows.started
  pub threads : length g.rows.threads ≡ length h.rows.threads
  pub mutexes : length g.rows.mutexes ≡ length h.rows.mutexes
  pub ties : length g.rows.ties ≡ length h.rows.ties

pub sizes_same : (h : Scheduler) → Sizes h h
sizes_same h = record { started = refl; threads = refl; mutexes = refl; ties = refl }

sizes_trans : (h g : Scheduler) {i : Scheduler} → Sizes h g → Sizes g i → Sizes h i
sizes_trans h g a b = record { started = b.started ∙ a.started; threads = b.threads ∙ a.threads; mutexes = b.mutexes ∙ a.mutexes; ties = b.ties ∙ a.ties }

-- ---- moves

sizes_own : (h : Scheduler) (m t n : ℕ) → Sizes h (with_rows h (own h.rows m t n))
sizes_own h m t n = record { started = unfold own in refl; threads = unfold own in refl; mutexes = length_own h.rows m t n; ties = unfold own in refl }

sizes_tie : (h : Scheduler) (c m : ℕ) → Sizes h (with_rows h (tie h.rows c m))
sizes_tie h c m = record { started = unfold tie in refl; threads = unfold tie in refl; mutexes = unfold tie in refl; ties = length_tie h.rows c m }

pub sizes_arrive : (h : Scheduler) (t : ℕ) (w : Where) → Sizes h (arrive h t w)
sizes_arrive h t w = unfold arrive in record { started = unfold stand in refl; threads = length_stand h.rows t w; mutexes = unfold stand in refl; ties = unfold stand in refl }

sizes_front : (h : Scheduler) (t : ℕ) → Sizes h (arrive_in_front h t)
sizes_front h t = unfold arrive_in_front in record { started = unfold stand in refl; threads = length_stand h.rows t ready; mutexes = unfold stand in refl; ties = unfold stand in refl }

sizes_depart : (h : Scheduler) (w : Where) (p : ℕ) → Sizes h (depart h w p)
sizes_depart h w p = unfold depart in record { started = refl; threads = refl; mutexes = refl; ties = refl }

sizes_run : (h : Scheduler) (f : First) → Sizes h (run h f)
sizes_run h nobody = unfold run in (sizes_same h)
sizes_run h (somebody p t) = unfold run in record { started = unfold stand in refl; threads = length_stand h.rows t running; mutexes = unfold stand in refl; ties = unfold stand in refl }

-- ---- the choice of the next thread

pub sizes_first : (h : Scheduler) → Sizes h (run_first h)
unfolding run_first
sizes_first h = sizes_run h (first_at h ready)

pub sizes_next : (tick : Bool) (h : Scheduler) → Sizes h (choose_next tick h)
sizes_next tick h =
    let caller = h.rows.runner in
    choice (Sizes h) tick h (sizes_same h) (sizes_first h)
    (sizes_trans h (arrive_in_front h caller) (sizes_front h caller) (sizes_first (arrive_in_front h caller)))
    (sizes_trans h (arrive h caller ready) (sizes_arrive h caller ready) (sizes_first (arrive h caller ready)))

-- ---- the calls

pub sizes_acquired : (h : Scheduler) (m : ℕ) → Sizes h (acquired h m)
unfolding acquired
sizes_acquired h m =
    let caller = h.rows.runner in
    let taken = with_rows h (own h.rows m caller 1) in
    either (Sizes h) (eqb (mutex h.rows m).owner caller) (with_rows h (own h.rows m caller ((mutex h.rows m).count + 1))) (cond (eqb (mutex h.rows m).owner 255) taken (arrive h caller (for_mutex m))) (sizes_own h m caller ((mutex h.rows m).count + 1))
    (either (Sizes h) (eqb (mutex h.rows m).owner 255) taken (arrive h caller (for_mutex m)) (sizes_own h m caller 1) (sizes_arrive h caller (for_mutex m)))

sizes_passed : (h : Scheduler) (m : ℕ) (f : First) → Sizes h (passed_to h m f)
sizes_passed h m nobody = unfold passed_to in (sizes_own h m 255 0)
sizes_passed h m (somebody p t) = unfold passed_to in (sizes_trans h owns owned (sizes_arrive owns t ready))
  where
    owns : Scheduler
    owns = with_rows (depart h (for_mutex m) p) (own h.rows m t 1)

    owned : Sizes h (with_rows (depart h (for_mutex m) p) (own h.rows m t 1))
    owned = record { started = unfold own in refl; threads = unfold own in refl; mutexes = length_own h.rows m t 1; ties = unfold own in refl }

pub sizes_released : (h : Scheduler) (m : ℕ) → Sizes h (released h m)
unfolding released
sizes_released h m = either (Sizes h) (ltb 1 (mutex h.rows m).count) (with_rows h (own h.rows m (mutex h.rows m).owner ((mutex h.rows m).count - 1))) (passed_to h m (first_at h (for_mutex m)))
    (sizes_own h m (mutex h.rows m).owner ((mutex h.rows m).count - 1)) (sizes_passed h m (first_at h (for_mutex m)))

pub sizes_waited : (h : Scheduler) (c m : ℕ) → Sizes h (waited h c m)
unfolding waited
sizes_waited h c m =
    let g = released h m in
    let tied_so = with_rows g (tie g.rows c m) in
    sizes_trans h g (sizes_released h m) (sizes_trans g tied_so (sizes_tie g c m) (sizes_arrive tied_so h.rows.runner (on_condition c)))

sizes_woken : (h : Scheduler) (m t : ℕ) → Sizes h (woken h m t)
unfolding woken
sizes_woken h m t =
    let owns = with_rows h (own h.rows m t 1) in
    either (Sizes h) (eqb (mutex h.rows m).owner 255) (arrive owns t ready) (arrive h t (for_mutex m)) (sizes_trans h owns (sizes_own h m t 1) (sizes_arrive owns t ready)) (sizes_arrive h t (for_mutex m))

sizes_untied : (h : Scheduler) (c : ℕ) (f : First) → Sizes h (untied h c f)
sizes_untied h c nobody = unfold untied in (sizes_tie h c 255)
sizes_untied h c (somebody p t) = unfold untied in (sizes_same h)

sizes_signalled_to : (h : Scheduler) (c : ℕ) (f : First) → Sizes h (signalled_to h c f)
sizes_signalled_to h c nobody = unfold signalled_to in (sizes_same h)
sizes_signalled_to h c (somebody p t) = unfold signalled_to in (sizes_trans h g (sizes_depart h (on_condition c) p) (sizes_trans g u (sizes_untied g c (first_at g (on_condition c))) (sizes_woken u (tied h.rows c) t)))
  where
    g : Scheduler
    g = depart h (on_condition c) p

    u : Scheduler
    u = untied (depart h (on_condition c) p) c (first_at (depart h (on_condition c) p) (on_condition c))

pub sizes_signalled : (h : Scheduler) (c : ℕ) → Sizes h (signalled h c)
unfolding signalled
sizes_signalled h c = sizes_signalled_to h c (first_at h (on_condition c))

pub sizes_times : (n : ℕ) (h : Scheduler) (c : ℕ) → Sizes h (signalled_times n h c)
unfolding signalled_times
sizes_times zero h c = sizes_same h
sizes_times (suc n) h c = sizes_trans h (signalled h c) (sizes_signalled h c) (sizes_times n (signalled h c) c)

pub sizes_each : (cs : List ℕ) (h : Scheduler) → Sizes h (signalled_each h cs)
unfolding signalled_each
sizes_each [] h = sizes_same h
sizes_each (c ∷ cs) h = sizes_trans h (signalled h c) (sizes_signalled h c) (sizes_each cs (signalled h c))
