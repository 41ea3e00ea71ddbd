-- The calls on mutexes and condition variables keep a scheduler and a book alike.
-- Assumes nothing.
use Prim.Native.Nat.{ℕ, zero, suc, ◌+◌, ◌-◌, ◌<◌, ◌≤◌}
use mathlib.Core.Path.{◌≡◌, refl, sym, ap, ap₂, ◌∙◌, subst}
use mathlib.Core.Bool.{true}
use native.Mathlib.Nat.{le_trans}
use lib.ListN.{length}
use lib.Dec.{eqb, ltb}
use borrow.Author.Tests.{eqb-true}
use Rattle.laws.proofs.Bools.{by_cases}
use Rattle.rules.specs.Queues as Q
use Rattle.rules.specs.State.{Where, running, ready, for_mutex, on_condition, waits, Rows, Sets, Scheduler, with_rows, set_at, first_at, depart}
use Rattle.rules.specs.State as S
use Rattle.rules.specs.Effects.{acquired, passed_to, released, waited, woken, untied, signalled_to, signalled, leaver, signalled_times, leavers}
use Rattle.rules_soundness.proofs.Fits.{first_queue}
use Rattle.rules_soundness.proofs.Rows.{Real, stands_stand, base_below, priority_stand, length_own, length_tie, set_other}
use Rattle.rules_soundness.proofs.Facts.{Waiter, Queued, low}
use Rattle.rules_soundness.proofs.Moves.{first_at_lem, first_stands, first_exists, queued_leave, queued_own, queued_tie}
use Rattle.rules_soundness.proofs.Next.{Kept}
use Rattle.rules_soundness.proofs.Calls.{Going, Left, nobody_255, stands_there, facts_taken, queued_taken, queued_lands, left_released, left_signalled}
use Rattle.book.specs.Book.{Book, Found, nobody, somebody, mutex, tied, own, priority, highest_earliest, arrive}
use Rattle.book.specs.Turns.{acquire, become_owner, hand_over, release, tie, wait, leave, untie, wake, signal, signals}
use Rattle.book.proofs.Alike.{rows_in, mark_of, own_in, Marked, Alike, marked_rows, over, as_book}
use Rattle.book.proofs.Search.{first_verdict, first_found}
use Rattle.book.proofs.Moves.{lands_back, alike_arrive, marked_leave, alike_own, alike_tie}

-- ---- the first of a place leaves it and goes on

-- alike, and the queues hold those who stand at their places
record Went (h : Scheduler) (b : Book) : Type 0 where
  alike : Alike h b
  queued : Queued h.rows h.sets

module _ {b : Book} {s : Sets} (a : Alike (over b s) b) (o : Kept (over b s)) (w : Where) (r : Real (rows_in b) w) (p t : ℕ) (e : first_at (over b s) w ≡ Q.somebody p t) where
  exists : t < length (rows_in b).threads
  exists = first_exists o.queued w r p t e

  stood : (S.thread (rows_in b) t).stands ≡ w
  stood = first_stands o.queued w r p t e

  -- it has left its queue
  left : Queued (S.stand (rows_in b) t running) (depart (over b s) w p).sets
  unfolding depart
  left = queued_leave o.queued w r p t e

  ordered : Marked (rows_in b) (depart (over b s) w p).sets (mark_of b)
  unfolding depart
  ordered = marked_leave (rows_in b) s (mark_of b) o.queued a.marked w r p (first_queue 16 (set_at s w) p t e).0

  -- it goes to another place
  goes_on : (v : Where) → Real (rows_in b) v → Went (S.arrive (depart (over b s) w p) t v) (arrive b t v)
  unfolding S.arrive depart
  goes_on v z = record {
    alike = lands_back (rows_in b) (depart (over b s) w p).sets b t v left ordered exists z (low o.facts t) refl;
    queued = queued_lands (rows_in b) t v left exists z (low o.facts t);
  }

  -- it becomes owner of a mutex whose owner, if any, runs
  module _ (m : ℕ) (real : m < length b.mutexes) (waited : waits w ≡ true) (old : (S.thread (rows_in b) (mutex b m).owner).stands ≡ running) (fits : (S.thread (rows_in b) t).base ≤ (mutex b m).ceiling) where
    waits_now : waits (S.thread (rows_in b) t).stands ≡ true
    waits_now = rw stood waited

    still_running : (u : ℕ) → (S.thread (rows_in b) u).stands ≡ running → (S.thread (S.stand (rows_in b) t running) u).stands ≡ running
    still_running u z = stands_stand (rows_in b) t running u exists ∙ by_cases (eqb u t) (λ y. rw y) (λ y. rw (y, z))

    owned_aside : Queued (S.stand (S.own (rows_in b) m t 1) t running) (depart (over b s) w p).sets
    owned_aside = unfold S.own S.stand in (queued_own left m t 1 (unfold S.stand in (still_running (mutex b m).owner old)) (stands_there (rows_in b) t running exists))

    low_priority : S.priority (S.own (rows_in b) m t 1) t < 16
    low_priority = subst (λ x. x < 16) (priority_stand (S.own (rows_in b) m t 1) t ready t (unfold S.own in exists)) (low (facts_taken o.facts m t real exists waits_now old fits) t)

    becomes_owner : Went (S.arrive (with_rows (depart (over b s) w p) (S.own (rows_in b) m t 1)) t ready) (become_owner b m t)
    unfolding S.arrive depart become_owner
    becomes_owner = record {
      alike = lands_back (S.own (rows_in b) m t 1) (depart (over b s) w p).sets (own b m t 1) t ready owned_aside
          (unfold own in (marked_rows (rows_in b) (S.own (rows_in b) m t 1) (depart (over b s) w p).sets (mark_of b) (length_own (rows_in b) m t 1) (unfold S.own in refl) ordered))
          (unfold S.own in exists) tt low_priority (own_in b m t 1);
      queued = queued_taken o.facts m t real exists waits_now old fits left;
    }

-- ---- 6 and 7

module _ {h : Scheduler} {b : Book} (a : Alike h b) where
  pub alike_acquired : Kept h → Going h.rows → (m : ℕ) → m < length h.rows.mutexes → Alike (acquired h m) (acquire b m)
  alike_acquired = as_book (λ i. Kept i → Going i.rows → (m : ℕ) → m < length i.rows.mutexes → Alike (acquired i m) (acquire b m)) a (λ s c o g m real. unfold acquired acquire in
      by_cases (eqb (mutex b m).owner b.runner)
      (λ e. rw e (alike_own c m b.runner ((mutex b m).count + 1)))
      (λ e. rw e (by_cases (eqb (mutex b m).owner 255)
      (λ y. rw y (alike_own c m b.runner 1))
      (λ y. rw y (alike_arrive c o.queued b.runner g.there g.runs (low o.facts b.runner) (for_mutex m) real)))))

module _ {b : Book} {s : Sets} (a : Alike (over b s) b) (o : Kept (over b s)) (g : Going (rows_in b)) (m : ℕ) (real : m < length b.mutexes) (mine : (mutex b m).owner ≡ b.runner) where
  handed_over : (f : Found) → first_at (over b s) (for_mutex m) ≡ first_verdict b f → Alike (passed_to (over b s) m (first_verdict b f)) (hand_over b m f)
  unfolding passed_to hand_over
  handed_over nobody e = alike_own a m 255 0
  handed_over (somebody t) e = (becomes_owner a o (for_mutex m) real (priority b t) t e m real refl (rw mine g.runs)
      (le_trans (base_below (rows_in b) t) (o.facts.waiter_below m t (first_at_lem o.queued (for_mutex m) real (priority b t) t e)))).alike

  release_alike : Alike (released (over b s) m) (release b m)
  unfolding released release
  release_alike = by_cases (ltb 1 (mutex b m).count)
      (λ e. rw e (subst (λ t. Alike (with_rows (over b s) (S.own (rows_in b) m (mutex b m).owner ((mutex b m).count - 1))) (own b m t ((mutex b m).count - 1))) mine
      (alike_own a m (mutex b m).owner ((mutex b m).count - 1))))
      (λ e. rw e (subst (λ f. Alike (passed_to (over b s) m f) (hand_over b m (highest_earliest b (for_mutex m)))) (sym found) (handed_over (highest_earliest b (for_mutex m)) found)))
    where
      found : first_at (over b s) (for_mutex m) ≡ first_verdict b (highest_earliest b (for_mutex m))
      found = first_found a o.queued (for_mutex m) real

pub alike_released : {h : Scheduler} {b : Book} → Alike h b → Kept h → Going h.rows → (m : ℕ) → m < length h.rows.mutexes → (S.mutex h.rows m).owner ≡ h.rows.runner → Alike (released h m) (release b m)
alike_released {h} {b} a = as_book (λ i. Kept i → Going i.rows → (m : ℕ) → m < length i.rows.mutexes → (S.mutex i.rows m).owner ≡ i.rows.runner → Alike (released i m) (release b m)) a
    (λ s c o g m real mine. release_alike c o g m real mine)

-- ---- 8

module _ {h : Scheduler} {b : Book} (a : Alike h b) (o : Kept h) (g : Going h.rows) (c m : ℕ) (there : c < length h.rows.ties)
    (real : m < length h.rows.mutexes) (mine : (S.mutex h.rows m).owner ≡ h.rows.runner) where
  gone : Left Going h (released h m)
  gone = left_released o g m real mine

  gone_alike : Alike (released h m) (release b m)
  gone_alike = alike_released a o g m real mine

  pub alike_waited : Alike (waited h c m) (wait b c m)
  unfolding waited wait
  alike_waited = subst (λ t. Alike (S.arrive (with_rows (released h m) (S.tie (released h m).rows c m)) t (on_condition c)) (arrive (tie (release b m) c m) (release b m).runner (on_condition c))) gone.runner
      (subst (λ t. Alike (S.arrive (with_rows (released h m) (S.tie (released h m).rows c m)) (released h m).rows.runner (on_condition c)) (arrive (tie (release b m) c m) t (on_condition c)))
      (ap (λ (k : Rows). k.runner) gone_alike.rows) joined)
    where
      joined : Alike (S.arrive (with_rows (released h m) (S.tie (released h m).rows c m)) (released h m).rows.runner (on_condition c)) (arrive (tie (release b m) c m) (released h m).rows.runner (on_condition c))
      joined = alike_arrive (alike_tie gone_alike c m) (queued_tie gone.kept.queued c m) (released h m).rows.runner (unfold S.tie in gone.caller.there) (unfold S.tie in gone.caller.runs)
          (unfold S.tie S.priority in (low gone.kept.facts (released h m).rows.runner)) (on_condition c) (rw (length_tie (released h m).rows c m, gone.ties) there)

-- ---- 9 and 10

-- ending a tie before or after the waiter has gone on is the same
untied_after : (h : Scheduler) (c m t : ℕ) → woken (with_rows h (S.tie h.rows c 255)) m t ≡ with_rows (woken h m t) (S.tie (woken h m t).rows c 255)
unfolding woken S.arrive S.own S.tie S.stand S.priority
untied_after h c m t = by_cases (eqb (S.mutex h.rows m).owner 255) (λ e. rw e) (λ e. rw e)

-- whoever is woken arrives at no condition variable
same_first : (h : Scheduler) (c m t : ℕ) → first_at (woken h m t) (on_condition c) ≡ first_at h (on_condition c)
unfolding woken S.arrive
same_first h c m t = ap Q.first (by_cases (eqb (S.mutex h.rows m).owner 255)
    (λ e. rw e (set_other h.sets ready (on_condition c) (Q.to_back (set_at h.sets ready) (S.priority (S.own h.rows m t 1) t) t) (unfold S.same in refl)))
    (λ e. rw e (set_other h.sets (for_mutex m) (on_condition c) (Q.to_back (set_at h.sets (for_mutex m)) (S.priority h.rows t) t) (unfold S.same in refl))))

-- and no tie changes
same_ties : (h : Scheduler) (m t : ℕ) → (woken h m t).rows.ties ≡ h.rows.ties
unfolding woken S.arrive S.own S.stand
same_ties h m t = by_cases (eqb (S.mutex h.rows m).owner 255) (λ e. rw e) (λ e. rw e)

module _ {b : Book} {s : Sets} (a : Alike (over b s) b) (o : Kept (over b s)) (c : ℕ) (there : c < length b.ties) where
  module _ (t : ℕ) (e : first_at (over b s) (on_condition c) ≡ Q.somebody (priority b t) t) where
    abbrev departed : Scheduler
    departed = depart (over b s) (on_condition c) (priority b t)

    waiter : Waiter (rows_in b) c t
    waiter = o.facts.waiters c t (first_at_lem o.queued (on_condition c) there (priority b t) t e)

    went : Went (woken departed (tied b c) t) (leave b (tied b c) t)
    unfolding woken leave
    went = unfold depart in (by_cases (eqb (mutex b (tied b c)).owner 255)
        (λ y. rw y (becomes_owner a o (on_condition c) there (priority b t) t e (tied b c) waiter.exists refl
        (ap (λ v. (S.thread (rows_in b) v).stands) (eqb-true (mutex b (tied b c)).owner 255 y) ∙ nobody_255 o.facts) waiter.base))
        (λ y. rw y (goes_on a o (on_condition c) there (priority b t) t e (for_mutex (tied b c)) waiter.exists)))

    -- the tie ends on both sides or on neither
    tie_ends : (f : Found) → Alike (woken (untied departed c (first_verdict (leave b (tied b c) t) f)) (tied b c) t) (untie (leave b (tied b c) t) c f)
    unfolding untied untie
    tie_ends nobody = rw (untied_after departed c (tied b c) t) (alike_tie went.alike c 255)
    tie_ends (somebody v) = went.alike

    woke : Alike (woken (untied departed c (first_at departed (on_condition c))) (tied b c) t) (untie (leave b (tied b c) t) c (highest_earliest (leave b (tied b c) t) (on_condition c)))
    woke = subst (λ f. Alike (woken (untied departed c f) (tied b c) t) (untie (leave b (tied b c) t) c (highest_earliest (leave b (tied b c) t) (on_condition c)))) (sym found)
        (tie_ends (highest_earliest (leave b (tied b c) t) (on_condition c)))
      where
        found : first_at departed (on_condition c) ≡ first_verdict (leave b (tied b c) t) (highest_earliest (leave b (tied b c) t) (on_condition c))
        found = sym (same_first departed c (tied b c) t) ∙ first_found went.alike went.queued (on_condition c) (rw (same_ties departed (tied b c) t) (unfold depart in there))

  signal_alike : (f : Found) → first_at (over b s) (on_condition c) ≡ first_verdict b f → Alike (signalled_to (over b s) c (first_verdict b f)) (wake b c f).book
  unfolding signalled_to wake
  signal_alike nobody e = a
  signal_alike (somebody t) e = woke t e

module _ {h : Scheduler} {b : Book} (a : Alike h b) (o : Kept h) (c : ℕ) (there : c < length h.rows.ties) where
  found_there : first_at h (on_condition c) ≡ first_verdict b (highest_earliest b (on_condition c))
  found_there = first_found a o.queued (on_condition c) there

  pub alike_signalled : Alike (signalled h c) (signal b c).book
  unfolding signalled
  alike_signalled = subst (λ f. Alike (signalled_to h c f) (signal b c).book) (sym found_there)
      (as_book (λ i. Kept i → c < length i.rows.ties → first_at i (on_condition c) ≡ first_verdict b (highest_earliest b (on_condition c)) → Alike (signalled_to i c (first_verdict b (highest_earliest b (on_condition c)))) (signal b c).book) a
      (λ s d k l e. signal_alike d k c l (highest_earliest b (on_condition c)) e) o there found_there)

  pub given_signalled : leaver (first_at h (on_condition c)) ≡ (signal b c).given
  given_signalled = ap leaver found_there ∙ go (highest_earliest b (on_condition c))
    where
      go : (f : Found) → leaver (first_verdict b f) ≡ (wake b c f).given
      go nobody = unfold wake in refl
      go (somebody t) = unfold wake in refl

-- n signals
pub alike_times : (n : ℕ) {h : Scheduler} {b : Book} → Alike h b → Kept h → Going h.rows → (c : ℕ) → c < length h.rows.ties → Alike (signalled_times n h c) (signals n b c).book
unfolding signalled_times signals
alike_times zero a o g c l = a
alike_times (suc n) a o g c l = let s = left_signalled o g c l in alike_times n (alike_signalled a o c l) s.kept s.caller c (rw s.ties l)

pub given_times : (n : ℕ) {h : Scheduler} {b : Book} → Alike h b → Kept h → Going h.rows → (c : ℕ) → c < length h.rows.ties → leavers n h c ≡ (signals n b c).given
unfolding leavers signals
given_times zero a o g c l = refl
given_times (suc n) a o g c l = let s = left_signalled o g c l in
    ap₂ ◌+◌ (given_signalled a o c l) (given_times n (alike_signalled a o c l) s.kept s.caller c (rw s.ties l))
