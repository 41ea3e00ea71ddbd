-- An accepted broadcast leaves nobody waiting on its condition variable, for document 01's definitions.
-- Assumes nothing.
use Prim.Native.Nat.{ℕ, ◌≤◌}
use mathlib.Core.Path.{◌≡◌, refl, sym, ap, ◌∙◌, subst}
use mathlib.Core.Bool.{Bool, true, false, cond}
use lib.ListN.{length}
use lib.Seq.{set_out}
use lib.Dec.{eqb}
use borrow.Author.Tests.{eqb-false}
use Rattle.laws.proofs.Bools.{by_cases, refuted}
use Rattle.laws.proofs.Lists.{by_below}
use Rattle.calls.specs.declared.Call.{Call}
use Rattle.calls.specs.declared.Call.TheVariants.{Broadcast}
use Rattle.calls.specs.Answers.{number_of}
use Rattle.rules.specs.Queues.{First, nobody, somebody}
use Rattle.rules.specs.State.{Where, running, ready, on_condition, same, Rows, Scheduler, State, thread, at, with_threads, stand, first_at, arrive, arrive_in_front}
use Rattle.rules.specs.Next.{run, run_first, choose_next}
use Rattle.rules.specs.Effects.{with_scheduler, effect}
use Rattle.rules.specs.Refusals.{tests, verdict_of}
use Rattle.rules.specs.Sound.{sound}
use Rattle.rules.specs.Step.{Stepped, is_tick, after, step}
use Rattle.rules.specs.Page.{page_of}
use Rattle.rules_soundness.proofs.Rows.{at_stand}
use Rattle.rules_soundness.proofs.Choice.{choice}
use Rattle.rules_soundness.proofs.Tested.{sound_facts}
use Rattle.rules_soundness.proofs.Keeping.{Clear}
use Rattle.book.specs.Book as book
use Rattle.book.specs.Book.{Book, stands_at, highest_earliest}
use Rattle.book.specs.Turns.{signals, outcome}
use Rattle.book.specs.Shown.{enter}
use Rattle.book.proofs.Alike.{at_alike}
use Rattle.book.proofs.Pages.{same_as_entered}
use Rattle.book.proofs.Effects.{call_before_next}
use Rattle.book.proofs.Enough.{broadcast_leaves_none}
use Rattle.book.proofs.Woken.{on_the_list, stands_found}
use Rattle.book.proofs.Accepted.{by_answer}

-- nobody stands on condition variable c
abbrev Empty : ℕ → Rows → Type 0
Empty c k = (t : ℕ) → at k (on_condition c) t ≡ false

-- ---- the choice of the next thread puts nobody there

-- a thread that does not exist stands nowhere else
stand_out : (k : Rows) (u : ℕ) (w : Where) → length k.threads ≤ u → stand k u w ≡ k
unfolding stand
stand_out k u w l = ap (with_threads k) (set_out k.threads u (record { base = (thread k u).base; stands = w }) l)

module _ (c : ℕ) where
  empty_stand : (k : Rows) (u : ℕ) (w : Where) → same w (on_condition c) ≡ false → Empty c k → Empty c (stand k u w)
  empty_stand k u w n none t = by_below u (length k.threads)
      (λ l. at_stand k u w (on_condition c) t l ∙ by_cases (eqb t u) (λ e. rw e n) (λ e. rw e (none t)))
      (λ l. ap (λ (x : Rows). at x (on_condition c) t) (stand_out k u w l) ∙ none t)

  empty_run : (h : Scheduler) (f : First) → Empty c h.rows → Empty c (run h f).rows
  unfolding run stand at
  empty_run h nobody none = none
  empty_run h (somebody p t) none = empty_stand h.rows t running (unfold same in refl) none

  empty_run_first : (h : Scheduler) → Empty c h.rows → Empty c (run_first h).rows
  unfolding run_first
  empty_run_first h none = empty_run h (first_at h ready) none

  -- of two states where nobody stands, whichever is chosen
  either_state : (b : Bool) (r s : State) → Empty c r.scheduler.rows → Empty c s.scheduler.rows → Empty c (cond b r s).scheduler.rows
  either_state true r s p q = p
  either_state false r s p q = q

  empty_chosen : (tick : Bool) (h : Scheduler) → Empty c h.rows → Empty c (choose_next tick h).rows
  empty_chosen tick h none =
      let caller = h.rows.runner in
      let back : Empty c (stand h.rows caller ready) = empty_stand h.rows caller ready (unfold same in refl) none in
      choice (λ g. Empty c g.rows) tick h none (empty_run_first h none) (empty_run_first (arrive_in_front h caller) (unfold arrive_in_front in back)) (empty_run_first (arrive h caller ready) (unfold arrive in back))

  empty_after : (s : State) (call : Call) → Empty c (effect s call).scheduler.rows → Empty c (after s call).scheduler.rows
  unfolding after
  empty_after s call none t =
      let e = effect s call in
      let chosen = with_scheduler e (choose_next (is_tick call) e.scheduler) in
      either_state e.scheduler.rows.started chosen e (empty_chosen (is_tick call) e.scheduler none) none t

-- ---- a broadcast

-- where nobody is found nobody stands
nobody_stands : (b : Book) (c : ℕ) → highest_earliest b (on_condition c) ≡ book.nobody → (t : ℕ) → stands_at b (on_condition c) t ≡ false
nobody_stands b c e t = refuted (stands_at b (on_condition c) t) (λ z. stands_found b (on_condition c) t z (length b.threads) (on_the_list b t c z) e)

-- after an accepted broadcast nobody waits on its condition variable
pub broadcast_empties : (s : State) → sound s ≡ true → (c : ℕ) → (step s (Broadcast c)).answer.number ≡ 0 → (t : ℕ) → at (step s (Broadcast c)).state.scheduler.rows (on_condition c) t ≡ false
broadcast_empties s e c z = by_answer s e (Broadcast c)
    (λ p k. subst (λ (x : Stepped). Empty c x.state.scheduler.rows) (sym p) (empty_after c s (Broadcast c) (emptied k)))
    (λ p y. absurd (eqb-false (number_of (verdict_of s (Broadcast c))) 0 y (sym (ap (λ (x : Stepped). x.answer.number) p) ∙ z)))
  where
    emptied : Clear (tests s.scheduler.rows s.timers (Broadcast c)) → Empty c (effect s (Broadcast c)).scheduler.rows
    emptied k t =
        let alike = (call_before_next (sound_facts s e) (same_as_entered s e) (Broadcast c) k).same.alike in
        at_alike alike (on_condition c) t ∙ (unfold outcome in nobody_stands (signals (length (enter (page_of s)).threads) (enter (page_of s)) c).book c (broadcast_leaves_none (enter (page_of s)) c) t)
