-- What holds of each outcome of the choice of the next thread holds of the choice.
-- Assumes nothing.
use mathlib.Core.Bool.{Bool, true, false, cond, ◌&&◌}
use Rattle.rules.specs.State.{ready, waits, Scheduler, thread, priority, first_at, arrive, arrive_in_front}
use Rattle.rules.specs.Next.{run_first, higher, equal, choose_next}

module _ (P : Scheduler → Type 0) where
  -- either of two
  pub either : (b : Bool) (y z : Scheduler) → P y → P z → P (cond b y z)
  either true y z p q = p
  either false y z p q = q

  -- none is chosen, the first runs, the caller is preempted, or it takes its turn
  pub choice : (tick : Bool) (h : Scheduler) → P h → P (run_first h) → P (run_first (arrive_in_front h h.rows.runner))
      → P (run_first (arrive h h.rows.runner ready)) → P (choose_next tick h)
  unfolding choose_next
  choice tick h same first front back =
      let caller = h.rows.runner in
      either (waits (thread h.rows caller).stands) _ _ first
      (either (higher (first_at h ready) (priority h.rows caller)) _ _ front
      (either (tick && equal (first_at h ready) (priority h.rows caller)) _ _ back same))
