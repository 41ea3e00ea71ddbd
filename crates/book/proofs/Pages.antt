-- The page of a state and what the same book shows are equal; the book that is entered from a state's page is the same as the state.
-- Assumes nothing.
use Prim.Native.Nat.{ℕ, zero, suc, ◌+◌, ◌-◌, ◌%◌, ◌<◌}
use mathlib.Core.Path.{◌≡◌, refl, sym, ap, ap₂, ◌∙◌, subst}
use mathlib.Core.Bool.{true, false, cond, ◌&&◌}
use mathlib.Core.List.{List, [], ◌∷◌, map}
use native.Mathlib.Omega.{arith}
use lib.ListN.{length, get_or-map}
use lib.Dec.{eqb}
use lib.IntN.{ℤ, pos}
use lib.Signed.{lt_z}
use borrow.Author.Tests.{ne_eqb, lt-ltb}
use Rattle.laws.specs.Lists.{tabulate}
use Rattle.laws.proofs.Bools.{by_cases, cond_true, cond_false}
use Rattle.laws.proofs.Lists.{by_equal, tabulate_same, get_d_tabulate}
use Rattle.rules.specs.Queues.{queue}
use Rattle.rules.specs.State.{Where, running, ready, for_mutex, on_condition, same, TimerState, stopped, one_shot, periodic, Rows, Scheduler, State, set_at, boot}
use Rattle.rules.specs.State as S
use Rattle.rules.specs.Sound.{mem, sound}
use Rattle.rules.specs.Page.{ThreadRow, TimerRow, Page, no_row, thread_row, where_of, thread_of, runner_from, rows_of, described_by, how_many, state_code, object_code, timer_code, ahead, place_at, row_at, timer_row_of, page_formed, page_sound, page_of}
use Rattle.rules_soundness.proofs.Fits.{ordered_mono, here, here_prio}
use Rattle.rules_soundness.proofs.Fits as F
use Rattle.rules_soundness.proofs.Rows.{Real, not_running, standing_exists}
use Rattle.rules_soundness.proofs.Facts.{Sound, low}
use Rattle.rules_soundness.proofs.Tested.{sound_facts}
use Rattle.rules_soundness.proofs.Kept.{boot_is_sound}
use Rattle.rules_pages.proofs.Counts.{many_same}
use Rattle.rules_pages.proofs.Order.{ahead_ordered, ahead_by}
use Rattle.rules_pages.proofs.Places.{same_running, stands_at_lem, at_stands, not_run}
use Rattle.rules_pages.proofs.Pages.{page_of_sound, described_is_sound, boot_page}
use Rattle.book.specs.Book.{Book, Thread, thread, priority, stands_at, there}
use Rattle.book.specs.Book as B
use Rattle.book.specs.Shown.{book_boot, place_of, kind_of, enter_thread, enter_timer, running_in, enter, state_number, object_number, kind_number, lower, place_in, show_thread, show_timer, show}
use Rattle.book.proofs.Marks.{less_one_way}
use Rattle.book.proofs.Alike.{plain, rows_in, mark_of, thread_in_lem, Earlier, Marked, at_alike, priority_alike, threads_alike}
use Rattle.book.proofs.Timers.{left_at}
use Rattle.book.proofs.Same.{Same}

-- ---- places and marks

-- the book counts so
lower_many : (b : Book) (w : Where) (p : ℕ) (z : ℤ) (n : ℕ) → lower b w p z n ≡ how_many n (λ u. there b w p u && lt_z (mark_of b u) z)
unfolding lower how_many
lower_many b w p z zero = refl
lower_many b w p z (suc n) = ap (λ m. cond (there b w p n && lt_z (mark_of b n) z) 1 0 + m) (lower_many b w p z n)

-- ---- what the same state and book show

state_alike : (w : Where) → state_code w ≡ state_number w
unfolding state_code state_number
state_alike running = refl
state_alike ready = refl
state_alike (for_mutex m) = refl
state_alike (on_condition c) = refl

object_alike : (w : Where) → object_code w ≡ object_number w
unfolding object_code object_number
object_alike running = refl
object_alike ready = refl
object_alike (for_mutex m) = refl
object_alike (on_condition c) = refl

kind_alike : (k : TimerState) → timer_code k ≡ kind_number k
unfolding timer_code kind_number
kind_alike stopped = refl
kind_alike one_shot = refl
kind_alike periodic = refl

timers_shown : (now : ℕ) (xs : List B.Timer) → map timer_row_of (map (left_at now) xs) ≡ map (show_timer now) xs
timers_shown now [] = refl
timers_shown now (x ∷ xs) = ap₂ (λ (y : TimerRow) ys. y ∷ ys) (λ i. record { state = kind_alike x.state i; condition = x.condition; length = x.length; left = x.due - now }) (timers_shown now xs)

module _ {s : State} (o : Sound s) {b : Book} (x : Same s b) where
  abbrev h : Scheduler
  h = s.scheduler

  same_thread_lem : (t : ℕ) → S.thread h.rows t ≡ plain (thread b t)
  same_thread_lem t = ap (λ k. S.thread k t) x.alike.rows ∙ thread_in_lem b t

  same_stands : (t : ℕ) → (S.thread h.rows t).stands ≡ (thread b t).stands
  same_stands t = ap (λ (y : S.Thread). y.stands) (same_thread_lem t)

  -- the place of a thread that is in a queue
  module _ (t : ℕ) (waits : S.at h.rows running t ≡ false) where
    abbrev spot : Where
    spot = (S.thread h.rows t).stands

    abbrev level : ℕ
    level = S.priority h.rows t

    real : Real h.rows spot
    real = o.facts.real spot t (sym (same_running spot) ∙ (unfold S.at in waits)) (stands_at_lem h.rows t)

    rank : ahead t (queue (set_at h.sets spot) level) ≡ lower b spot level (mark_of b t) (length b.threads)
    rank = sym (lower_many b spot level (mark_of b t) (length b.threads) ∙ ap (λ n. how_many n (λ u. there b spot level u && lt_z (mark_of b u) (mark_of b t))) (sym (threads_alike x.alike))
        ∙ many_same n (λ u. there b spot level u && lt_z (mark_of b u) (mark_of b t)) (λ u. mem u (queue (set_at h.sets spot) level) && lt_z (mark_of b u) (mark_of b t)) (λ u l. ap (λ y. y && lt_z (mark_of b u) (mark_of b t)) (who u))
        ∙ ahead_by n (λ u v. lt_z (mark_of b u) (mark_of b v)) (λ u v. less_one_way (mark_of b u) (mark_of b v)) (queue (set_at h.sets spot) level) (x.alike.marked spot real level (low o.facts t))
        (λ u m. standing_exists h.rows spot u (not_running (length h.rows.mutexes) (length h.rows.ties) spot real) (here (o.queued.fits spot real) level u (low o.facts t) m))
        t (F.there (o.queued.fits spot real) t (stands_at_lem h.rows t)))
      where
        n : ℕ
        n = length h.rows.threads

        who : (u : ℕ) → there b spot level u ≡ mem u (queue (set_at h.sets spot) level)
        who u = sym ((o.queued.fits spot real).who level u (low o.facts t) ∙ ap₂ (λ y q. y && eqb q level) (at_alike x.alike spot u) (priority_alike x.alike u))

  place_alike : (t : ℕ) → place_at h t ≡ place_in b t
  place_alike t = by_cases (S.at h.rows running t)
      (λ e. cond_true (S.at h.rows running t) 0 _ e ∙ sym (cond_true (stands_at b running t) 0 _ (sym (at_alike x.alike running t) ∙ e)))
      (λ e. cond_false (S.at h.rows running t) 0 _ e ∙ rank t e ∙ ap₂ (λ v q. lower b v q (mark_of b t) (length b.threads)) (same_stands t) (priority_alike x.alike t)
      ∙ sym (cond_false (stands_at b running t) 0 _ (sym (at_alike x.alike running t) ∙ e)))

  row_alike : (t : ℕ) → row_at h t ≡ show_thread b t
  row_alike t = λ i. record {
    base = (same_thread_lem t i).base;
    state = (ap state_code (same_stands t) ∙ state_alike (thread b t).stands) i;
    object = (ap object_code (same_stands t) ∙ object_alike (thread b t).stands) i;
    place = place_alike t i;
  }

  threads_shown : tabulate (length h.rows.threads) (row_at h) ≡ tabulate (length b.threads) (show_thread b)
  threads_shown = tabulate_same (length h.rows.threads) (row_at h) (show_thread b) row_alike ∙ ap (λ n. tabulate n (show_thread b)) (threads_alike x.alike)

  pub page_shown : page_of s ≡ show b
  page_shown = λ i. unfold page_of show in record {
    started = (x.alike.rows i).started;
    count = x.count i;
    threads = threads_shown i;
    mutexes = (x.alike.rows i).mutexes;
    ties = (x.alike.rows i).ties;
    timers = (ap (map timer_row_of) x.timers ∙ timers_shown b.count b.timers) i;
  }

-- ---- the book that is entered from a page

-- its rows are the page's
thread_entered : (y : ThreadRow) → thread_of y ≡ plain (enter_thread y)
unfolding where_of place_of
thread_entered y = refl

threads_entered : (ys : List ThreadRow) → map thread_of ys ≡ map plain (map enter_thread ys)
threads_entered [] = refl
threads_entered (y ∷ ys) = ap₂ (λ (z : S.Thread) zs. z ∷ zs) (thread_entered y) (threads_entered ys)

runs_entered : (y : ThreadRow) → same (where_of y.state y.object) running ≡ eqb y.state 2
unfolding where_of same
runs_entered y = by_equal y.state 1 (λ a. rw a) (λ a. by_equal y.state 2 (λ c. rw c) (λ c. by_equal y.state 3 (λ d. rw d)
    (λ d. rw (ne_eqb y.state 1 a, ne_eqb y.state 2 c, ne_eqb y.state 3 d))))

runner_entered : (i : ℕ) (ys : List ThreadRow) → runner_from i (map thread_of ys) ≡ running_in i ys
unfolding runner_from running_in
runner_entered i [] = refl
runner_entered i (y ∷ ys) = ap₂ (λ a n. cond a i n) (runs_entered y) (runner_entered (suc i) ys)

rows_entered : (p : Page) → rows_of p ≡ rows_in (enter p)
rows_entered p = λ i. unfold rows_of enter in record {
  started = p.started;
  runner = runner_entered 0 p.threads i;
  threads = threads_entered p.threads i;
  mutexes = p.mutexes;
  ties = p.ties;
}

-- its timers
kind_entered : (k : TimerState) → k ≡ kind_of (timer_code k)
unfolding kind_of timer_code
kind_entered stopped = refl
kind_entered one_shot = refl
kind_entered periodic = refl

timers_entered : (now : ℕ) (xs : List S.Timer) → xs ≡ map (left_at now) (map (enter_timer now) (map timer_row_of xs))
timers_entered now [] = refl
timers_entered now (x ∷ xs) = ap₂ (λ (y : S.Timer) ys. y ∷ ys) (λ i. record { state = kind_entered x.state i; condition = x.condition; length = x.length; left = whole i }) (timers_entered now xs)
  where
    whole : x.left ≡ now + x.left - now
    whole = omega arith

-- a mark is a place
mark_entered : (p : Page) (u : ℕ) → mark_of (enter p) u ≡ pos (thread_row p u).place
unfolding enter place_of
mark_entered p u = ap (λ (y : Thread). y.mark) (get_or-map enter_thread p.threads u no_row)

module _ (s : State) (o : Sound s) where
  -- the mark of one who is in a queue is how many stand in front
  mark_ahead : (w : Where) → Real s.scheduler.rows w → (q : ℕ) → q < 16 → (u : ℕ) → mem u (queue (set_at s.scheduler.sets w) q) ≡ true
      → mark_of (enter (page_of s)) u ≡ pos (ahead u (queue (set_at s.scheduler.sets w) q))
  mark_ahead w r q l u m =
      mark_entered (page_of s) u
      ∙ ap (λ (y : ThreadRow). pos y.place) its_row
      ∙ ap pos (cond_false (S.at k running u) 0 _ (not_run k w u (not_running (length k.mutexes) (length k.ties) w r) stands)
      ∙ ap₂ (λ v z. ahead u (queue (set_at s.scheduler.sets v) z)) (at_stands k w u stands) (here_prio (o.queued.fits w r) q u l m))
    where
      k : Rows
      k = s.scheduler.rows

      stands : S.at s.scheduler.rows w u ≡ true
      stands = here (o.queued.fits w r) q u l m

      its_row : thread_row (page_of s) u ≡ row_at s.scheduler u
      its_row = unfold page_of in (get_d_tabulate (length k.threads) (row_at s.scheduler) u no_row (standing_exists k w u (not_running (length k.mutexes) (length k.ties) w r) stands))

  marked_entered : Marked s.scheduler.rows s.scheduler.sets (mark_of (enter (page_of s)))
  marked_entered w r q l = ordered_mono (λ u v. ahead u line < ahead v line) (Earlier (mark_of (enter (page_of s)))) line
      (λ u v a c z. rw (mark_ahead w r q l u a, mark_ahead w r q l v c) (lt-ltb (ahead u line) (ahead v line) z)) (ahead_ordered line ((o.queued.fits w r).order q l))
    where
      line : List ℕ
      line = queue (set_at s.scheduler.sets w) q

  same_entered : described_by (page_of s) ≡ s → Same s (enter (page_of s))
  same_entered back = record {
    alike = record { rows = sym rows_back ∙ rows_entered (page_of s); marked = marked_entered };
    count = unfold enter page_of in small;
    timers = unfold enter page_of in (timers_entered s.count s.timers);
  }
    where
      rows_back : rows_of (page_of s) ≡ s.scheduler.rows
      rows_back = unfold described_by in (ap (λ (i : State). i.scheduler.rows) back)

      small : s.count ≡ s.count % 4294967296
      small = omega (arith, o.count)

-- a sound state and the book entered from its page are the same
pub same_as_entered : (s : State) → sound s ≡ true → Same s (enter (page_of s))
same_as_entered s e = same_entered s (sound_facts s e) (page_of_sound s e).2

-- a sound page describes a state that is the same as the book entered from it
pub same_from_page : (p : Page) → page_formed p ≡ true → page_sound p ≡ true → Same (described_by p) (enter p)
same_from_page p f e =
    let d = described_is_sound p f e in
    subst (λ q. Same (described_by p) (enter q)) d.1 (same_as_entered (described_by p) d.0)

-- boot's state and the book at boot are the same
pub same_at_boot : Same boot book_boot
same_at_boot = subst (Same boot) entered (same_as_entered boot boot_is_sound)
  where
    entered : enter (page_of boot) ≡ book_boot
    entered = ap enter boot_page ∙ (unfold enter book_boot place_of running_in in refl)
