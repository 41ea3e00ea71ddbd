-- What follows at all times: no ready thread stands above the running one; every thread is in exactly one place; a waiter on a condition
-- variable that becomes ready owns its mutex.
-- Assumes nothing.
use Rattle.std.specs.Prelude.{Option}
use Prim.Native.Nat.{ℕ, ◌<◌, ◌≤◌}
use mathlib.Core.Path.{◌≡◌, refl, sym, ap, ap₂, ◌∙◌, subst}
use mathlib.Core.Bool.{true, false, false≢true}
use mathlib.Core.List.{List}
use native.Mathlib.Omega.{arith}
use lib.ListN.{length}
use Rattle.laws.proofs.Bools.{by_cases}
use Rattle.calls.specs.declared.Call.{Call}
use Rattle.rules.specs.Queues.{queue}
use Rattle.rules.specs.State.{Where, running, ready, on_condition, same, waits, Thread, Rows, State, thread, mutex, tied, at, priority, set_at}
use Rattle.rules.specs.Sound.{mem, sound}
use Rattle.rules.specs.Step.{runner, step}
use Rattle.rules_soundness.proofs.Fits.{here, here_prio, there}
use Rattle.rules_soundness.proofs.Rows.{Real, standing_exists}
use Rattle.rules_soundness.proofs.Facts.{Sound}
use Rattle.rules_soundness.proofs.Tested.{sound_facts}
use Rattle.rules_soundness.proofs.Kept.{sound_steps, none_ready_above}
use Rattle.rules_pages.proofs.Places.{same_running, stands_at_lem, at_stands}
use Rattle.rules.specs.Page.{page_of}
use Rattle.book.specs.Book.{Book, stands_at}
use Rattle.book.specs.Turns.{turn}
use Rattle.book.specs.Shown.{enter}
use Rattle.book.specs.Answers.{final_of}
use Rattle.book.proofs.Alike.{thread_in_lem, at_alike}
use Rattle.book.proofs.Same.{Same}
use Rattle.book.proofs.Steps.{call_agree}
use Rattle.book.proofs.Pages.{same_as_entered}
use Rattle.book.proofs.Woken.{turn_woken}
use Rattle.book.proofs.Demand.{rows_keep}

-- ---- no ready thread stands above the running one

-- after any rows from a sound state, while started
pub none_above_the_running : (s : State) → sound s ≡ true → (rows : List (Option Call)) (t : ℕ) → (final_of s rows).scheduler.rows.started ≡ true → at (final_of s rows).scheduler.rows ready t ≡ true
    → priority (final_of s rows).scheduler.rows t ≤ priority (final_of s rows).scheduler.rows (runner (final_of s rows))
none_above_the_running s e rows t on z = none_ready_above (final_of s rows) (rows_keep s e rows) on t z

-- ---- every thread is in exactly one place

-- the running thread is in no queue; any other is in the queue of its place and priority, and in no other
pub record OnePlace (s : State) (t : ℕ) : Type 0 where
  pub once : (w : Where) → at s.scheduler.rows w t ≡ true → w ≡ (thread s.scheduler.rows t).stands
  pub inside : at s.scheduler.rows running t ≡ false → mem t (queue (set_at s.scheduler.sets (thread s.scheduler.rows t).stands) (priority s.scheduler.rows t)) ≡ true
  pub nowhere_else : (w : Where) → Real s.scheduler.rows w → (p : ℕ) → p < 16 → mem t (queue (set_at s.scheduler.sets w) p) ≡ true
      → (w ≡ (thread s.scheduler.rows t).stands) × (p ≡ priority s.scheduler.rows t)

pub in_exactly_one_place : (s : State) → sound s ≡ true → (t : ℕ) → OnePlace s t
in_exactly_one_place s e t = record {
  once = λ w z. sym (at_stands s.scheduler.rows w t z);
  inside = λ z. there (o.queued.fits spot (real z)) t (stands_at_lem s.scheduler.rows t);
  nowhere_else = λ w r p l m. (sym (at_stands s.scheduler.rows w t (here (o.queued.fits w r) p t l m)), sym (here_prio (o.queued.fits w r) p t l m));
}
  where
    o : Sound s
    o = sound_facts s e

    spot : Where
    spot = (thread s.scheduler.rows t).stands

    real : at s.scheduler.rows running t ≡ false → Real s.scheduler.rows (thread s.scheduler.rows t).stands
    real z = o.facts.real spot t (sym (same_running spot) ∙ (unfold at in z)) (stands_at_lem s.scheduler.rows t)

-- ---- a waiter on a condition variable that becomes ready owns its mutex

-- who stood on condition variable c before a call and does not wait after it owns then the mutex that c was tied to
pub woken_owns_its_mutex : (s : State) → sound s ≡ true → (call : Call) (c t : ℕ) → at s.scheduler.rows (on_condition c) t ≡ true
    → waits (thread (step s call).state.scheduler.rows t).stands ≡ false → (mutex (step s call).state.scheduler.rows (tied s.scheduler.rows c)).owner ≡ t
woken_owns_its_mutex s e call c t z n =
    ap₂ (λ (k : Rows) m. (mutex k m).owner) y.alike.rows (ap (λ k. tied k c) x.alike.rows)
    ∙ turn_woken b t c (sym (at_alike x.alike (on_condition c) t) ∙ z) (λ q. omega (arith, exists, o.facts.few, q))
    (subst (λ (k : Rows). tied k c < length k.mutexes) x.alike.rows (o.facts.waiters c t z).exists) runs_now call
    (sym (ap (λ (k : Rows). waits (thread k t).stands) y.alike.rows ∙ ap (λ (i : Thread). waits i.stands) (thread_in_lem (turn b call).book t)) ∙ n)
  where
    o : Sound s
    o = sound_facts s e

    b : Book
    b = enter (page_of s)

    x : Same s (enter (page_of s))
    x = same_as_entered s e

    y : Same (step s call).state (turn (enter (page_of s)) call).book
    y = rw (sound_steps s call e) (call_agree (sound_facts s e) (same_as_entered s e) call).same

    exists : t < length s.scheduler.rows.threads
    exists = standing_exists s.scheduler.rows (on_condition c) t (unfold same in refl) z

    not_ready : at s.scheduler.rows ready t ≡ false
    not_ready = unfold at same in (rw (at_stands s.scheduler.rows (on_condition c) t z))

    -- somebody waits, so that it is started and one runs
    started : s.scheduler.rows.started ≡ true
    started = by_cases s.scheduler.rows.started (λ q. q)
        (λ q. absurd (false≢true (sym not_ready ∙ (o.rests q).ready t exists)))

    runs_there : at s.scheduler.rows running (runner s) ≡ true
    runs_there = unfold at same in (rw (o.live started).runs)

    runs_now : stands_at (enter (page_of s)) running (enter (page_of s)).runner ≡ true
    runs_now = subst (λ r. stands_at (enter (page_of s)) running r ≡ true) (ap (λ (k : Rows). k.runner) (same_as_entered s e).alike.rows)
        (sym (at_alike (same_as_entered s e).alike running (runner s)) ∙ runs_there)
