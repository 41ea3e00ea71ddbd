-- A row that is put where its table was replaced: the table with another row.
-- Assumes nothing.
use Prim.Native.Nat.{ℕ, ◌+◌, ◌-◌, ◌%◌, ◌<◌}
use mathlib.Core.Path.{◌≡◌, ap, ◌∙◌}
use mathlib.Core.Bool.{cond}
use mathlib.Core.List.{List}
use native.Mathlib.Omega.{arith}
use lib.ListN.{length, set}
use lib.Seq.{set-set, get_or-set_same}
use lib.Dec.{eqb}
use borrow.Author.Tests.{eq-eqb, ne_eqb, lt-ltb, le-ltb}
use Rattle.laws.specs.Lists.{tabulate}
use Rattle.laws.proofs.Lists.{by_equal, by_below, length_tabulate}
use Rattle.queue.specs.declared.Queue.{Queue}
use Rattle.queue.specs.declared.Queues.{Queues}
use Rattle.queue.specs.Linking.{with_level_model}
use Rattle.value_tables.specs.declared.Thread.{Thread}
use Rattle.value_effects.specs.declared.Mutex.{Mutex}
use Rattle.value_effects.specs.declared.Scheduler.{Scheduler}
use Rattle.value_effects.specs.Effects.{with_mutex, with_tie, no_set}
use Rattle.place_tables.specs.Cells.{thread_in, link_in, queue_in, set_in, mutex_in, tie_in, scheduler_in}
use Rattle.place_tables.specs.Changes.{with_running, with_thread, with_link, set_numbered, with_set, with_queue}
use Rattle.place_tables.proofs.Storing.{set_read}
use Rattle.place_packing.specs.Tables.{first_set, with_rows, with_next, with_levels, with_sets, with_mutexes, with_ties}

-- a queue that is not there
abbrev pub no_queue : Queue
no_queue = record { first = 0; last = 0 }

-- the number of a set that is there
pub number : (a n : ℕ) → a ≡ n → n < 33 → a % 33 ≡ n
number a n e h = ap (λ j. j % 33) e ∙ omega arith

module _ (x : Scheduler) where
  -- the row of thread t
  pub row_put : (t : ℕ) → t < 32 → (l : List Thread) (a : Thread) → with_thread (with_rows x l) t a ≡ with_rows x (set l t a)
  row_put t h l a = let e : t % 32 ≡ t = omega arith in rw e

  -- the link of thread t
  pub link_put : (t : ℕ) → t < 32 → (l : List ℕ) (a : ℕ) → with_link (with_next x l) t a ≡ with_next x (set l t a)
  link_put t h l a = let e : t % 32 ≡ t = omega arith in rw e

  -- the row of mutex m
  pub mutex_put : (m : ℕ) → m < 16 → (l : List Mutex) (a : Mutex) → with_mutex (with_mutexes x l) m a ≡ with_mutexes x (set l m a)
  mutex_put m h l a = let e : m % 16 ≡ m = omega arith in rw e

  -- the tie of condition variable c
  pub tie_put : (c : ℕ) → c < 16 → (l : List ℕ) (a : ℕ) → with_tie (with_ties x l) c a ≡ with_ties x (set l c a)
  tie_put c h l a = let e : c % 16 ≡ c = omega arith in rw e

  -- the sets of a kind
  unfoldable pub sets_of : ℕ → List Queues
  sets_of kind = cond (eqb (kind % 2) 0) x.formutex x.oncondition

  -- put back as they were
  pub sets_back : (kind : ℕ) → x ≡ with_sets x kind (sets_of kind)
  unfolding with_sets sets_of
  sets_back kind = by_equal (kind % 2) 0 (λ e. rw (eq-eqb (kind % 2) 0 e)) (λ e. rw (ne_eqb (kind % 2) 0 e))

  -- one of them
  pub set_put : (kind m : ℕ) → m < 16 → (l : List Queues) (a : Queues) → with_levels (with_sets x kind l) ((first_set kind + m) % 33) a.levels ≡ with_sets x kind (set l m a)
  unfolding with_sets with_set
  set_put kind m h l a = by_equal (kind % 2) 0
      (λ e.
      let n = number (first_set kind + m) (1 + m) (omega (arith, e)) (omega arith) in
      let i : 1 + m - 1 ≡ m = omega arith in
      rw (n, eq-eqb (kind % 2) 0 e, ne_eqb (1 + m) 0 (λ z. omega arith), lt-ltb (1 + m) 17 (omega arith), i))
      (λ e.
      let n = number (first_set kind + m) (17 + m) (omega (arith, e)) (omega arith) in
      let i : 17 + m - 17 ≡ m = omega arith in
      rw (n, ne_eqb (kind % 2) 0 e, ne_eqb (17 + m) 0 (λ z. omega arith), le-ltb (17 + m) 17 (omega arith), i))

  -- one set for another
  set_again : (n : ℕ) (s r : Queues) → with_set (with_set x n s) n r ≡ with_set x n r
  unfolding with_set
  set_again n s r = by_equal n 0
      (λ e. rw (eq-eqb n 0 e))
      (λ o. by_below n 17
      (λ b. rw (ne_eqb n 0 o, lt-ltb n 17 b, set-set x.formutex (n - 1) s r))
      (λ b. rw (ne_eqb n 0 o, le-ltb n 17 b, set-set x.oncondition (n - 17) s r)))

-- ---- what stands in an array of bytes

module _ (k : List ℕ) where
  -- how many rows the threads have
  pub rows_long : length (scheduler_in k).threads.rows ≡ 32
  unfolding scheduler_in
  rows_long = length_tabulate 32 (thread_in k)

  -- how many links
  pub links_long : length (scheduler_in k).threads.links.next ≡ 32
  unfolding scheduler_in
  links_long = length_tabulate 32 (link_in k)

  -- how many rows the mutexes have
  pub mutexes_long : length (scheduler_in k).mutexes ≡ 16
  unfolding scheduler_in
  mutexes_long = length_tabulate 16 (mutex_in k)

  -- how many ties there are
  pub ties_long : length (scheduler_in k).ties ≡ 16
  unfolding scheduler_in
  ties_long = length_tabulate 16 (tie_in k)

  -- how many sets of a kind
  pub sets_long : (kind : ℕ) → length (sets_of (scheduler_in k) kind) ≡ 16
  unfolding sets_of scheduler_in
  sets_long kind = by_equal (kind % 2) 0
      (λ e. rw (eq-eqb (kind % 2) 0 e) (length_tabulate 16 (λ m. set_in k (1 + m))))
      (λ e. rw (ne_eqb (kind % 2) 0 e) (length_tabulate 16 (λ c. set_in k (17 + c))))

  -- how many queues in a set
  pub levels_long : (n : ℕ) → n < 33 → length (set_numbered (scheduler_in k) n).levels ≡ 16
  levels_long n h = ap (λ (s : Queues). length s.levels) (set_read k n h) ∙ length_tabulate 16 (queue_in k n)

-- what set n is after it was replaced
set_is : (k : List ℕ) (n : ℕ) (s : Queues) → n < 33 → set_numbered (with_set (scheduler_in k) n s) n ≡ s
unfolding set_numbered with_set scheduler_in
set_is k n s h = by_equal n 0
    (λ e. rw (eq-eqb n 0 e))
    (λ o. by_below n 17
    (λ b. rw (ne_eqb n 0 o, lt-ltb n 17 b) (get_or-set_same (tabulate 16 (λ m. set_in k (1 + m))) (n - 1) s no_set (rw (length_tabulate 16 (λ m. set_in k (1 + m))) (omega arith))))
    (λ b. rw (ne_eqb n 0 o, le-ltb n 17 b) (get_or-set_same (tabulate 16 (λ c. set_in k (17 + c))) (n - 17) s no_set (rw (length_tabulate 16 (λ c. set_in k (17 + c))) (omega arith)))))

-- the queue of priority p in set n
pub level_put : (k : List ℕ) (n p : ℕ) → n < 33 → (l : List Queue) (a : Queue) → with_queue (with_levels (scheduler_in k) n l) n p a ≡ with_levels (scheduler_in k) n (set l p a)
unfolding with_level_model
level_put k n p h l a =
    set_again (scheduler_in k) n (record { levels = l }) _
    ∙ ap (λ (s : Queues). with_levels (scheduler_in k) n (set s.levels p a)) (set_is k n (record { levels = l }) h)

-- ---- all tables

-- a scheduler whose tables were replaced, one after the other, by those of another is that other
pub all_put : (s a b c d e f g h z : Scheduler)
    → b ≡ with_rows a s.threads.rows
    → c ≡ with_next b s.threads.links.next
    → d ≡ with_levels c 0 s.threads.ready.levels
    → e ≡ with_mutexes d s.mutexes
    → f ≡ with_sets e 0 s.formutex
    → g ≡ with_ties f s.ties
    → h ≡ with_sets g 1 s.oncondition
    → z ≡ with_running h s.running
    → z ≡ s
unfolding with_sets with_set
all_put s a b c d e f g h z rows links levels mutexes formutex ties oncondition running =
    running ∙ ap (λ x. with_running x s.running) (oncondition ∙ ap (λ x. with_sets x 1 s.oncondition) (ties ∙ ap (λ x. with_ties x s.ties)
    (formutex ∙ ap (λ x. with_sets x 0 s.formutex) (mutexes ∙ ap (λ x. with_mutexes x s.mutexes) (levels ∙ ap (λ x. with_levels x 0 s.threads.ready.levels)
    (links ∙ ap (λ x. with_next x s.threads.links.next) rows))))))
