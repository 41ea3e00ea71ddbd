-- A change of some bytes that stand together changes one row, one link, one queue, one tie or the running thread, and nothing else.
-- Assumes nothing.
use Prim.Native.Nat.{ℕ, ◌+◌, ◌-◌, ◌*◌, ◌%◌, ◌<◌, ◌≤◌}
use mathlib.Core.Path.{◌≡◌, refl, sym, ap, ◌∙◌}
use mathlib.Core.List.{List}
use native.Mathlib.Omega.{arith}
use lib.ListN.{get_or, set, get_or-eq_default}
use lib.Seq.{set_out, set-get_or}
use borrow.Author.Tests.{eq-eqb, ne_eqb, lt-ltb, le-ltb}
use Rattle.laws.specs.Lists.{tabulate}
use Rattle.laws.proofs.Lists.{by_below, by_equal, tabulate_below, set_tabulate_below, get_d_tabulate, length_tabulate}
use Rattle.queue.specs.declared.Queue.{Queue}
use Rattle.queue.specs.declared.Queues.{Queues}
use Rattle.queue.specs.Linking.{empty_queue, level_model, with_level_model}
use Rattle.value_tables.specs.declared.Thread.{Thread}
use Rattle.value_tables.specs.Tables.{blank, row_of}
use Rattle.value_effects.specs.declared.Mutex.{Mutex}
use Rattle.value_effects.specs.declared.Scheduler.{Scheduler}
use Rattle.value_effects.specs.Effects.{with_mutex, with_tie, no_set, no_mutex, mutex_of}
use Rattle.place_tables.specs.Cells.{cell, thread_in, link_in, queue_in, set_in, mutex_in, tie_in, scheduler_in}
use Rattle.place_tables.specs.Changes.{with_running, with_thread, with_link, set_numbered, with_set, with_queue, link_of, tie_of, queue_numbered}

-- ---- what stays

-- two arrays that differ in the bytes from a to e alone
module _ (k z : List ℕ) (a e : ℕ) (else : (j : ℕ) → (a ≤ j → j < e → ⊥) → cell z j ≡ cell k j) where
  -- the rows of the threads
  threads_stay : 128 ≤ a → tabulate 32 (thread_in z) ≡ tabulate 32 (thread_in k)
  threads_stay h = tabulate_below 32 (thread_in z) (thread_in k) (λ t l i.
      record { base = else (t * 4) (λ x y. omega arith) i; priority = else (t * 4 + 1) (λ x y. omega arith) i; state = else (t * 4 + 2) (λ x y. omega arith) i; object = else (t * 4 + 3) (λ x y. omega arith) i })

  -- the links
  links_stay : ((j : ℕ) → 128 ≤ j → j < 160 → a ≤ j → j < e → ⊥) → tabulate 32 (link_in z) ≡ tabulate 32 (link_in k)
  links_stay h = tabulate_below 32 (link_in z) (link_in k) (λ t l. else (128 + t) (h (128 + t) (omega arith) (omega arith)))

  -- set n
  set_stays : (n : ℕ) → ((j : ℕ) → 160 + n * 32 ≤ j → j < 192 + n * 32 → a ≤ j → j < e → ⊥) → set_in z n ≡ set_in k n
  set_stays n h = ap (λ l. record { levels = l }) (tabulate_below 16 (queue_in z n) (queue_in k n) (λ p l i.
      record { first = else (160 + n * 32 + p * 2) (h (160 + n * 32 + p * 2) (omega arith) (omega arith)) i; last = else (160 + n * 32 + p * 2 + 1) (h (160 + n * 32 + p * 2 + 1) (omega arith) (omega arith)) i }))

  -- the rows of the mutexes
  mutexes_stay : ((j : ℕ) → 1216 ≤ j → j < 1264 → a ≤ j → j < e → ⊥) → tabulate 16 (mutex_in z) ≡ tabulate 16 (mutex_in k)
  mutexes_stay h = tabulate_below 16 (mutex_in z) (mutex_in k) (λ m l i.
      record { ceiling = else (1216 + m * 3) (h (1216 + m * 3) (omega arith) (omega arith)) i; owner = else (1216 + m * 3 + 1) (h (1216 + m * 3 + 1) (omega arith) (omega arith)) i; count = else (1216 + m * 3 + 2) (h (1216 + m * 3 + 2) (omega arith) (omega arith)) i })

  -- the ties
  ties_stay : ((j : ℕ) → 1264 ≤ j → j < 1280 → a ≤ j → j < e → ⊥) → tabulate 16 (tie_in z) ≡ tabulate 16 (tie_in k)
  ties_stay h = tabulate_below 16 (tie_in z) (tie_in k) (λ c l. else (1264 + c) (h (1264 + c) (omega arith) (omega arith)))

  -- the set of each of 16 mutexes or condition variables
  sets_stay : (o : ℕ) → ((j : ℕ) → 160 + o * 32 ≤ j → j < 672 + o * 32 → a ≤ j → j < e → ⊥) → tabulate 16 (λ m. set_in z (o + m)) ≡ tabulate 16 (λ m. set_in k (o + m))
  sets_stay o h = tabulate_below 16 (λ m. set_in z (o + m)) (λ m. set_in k (o + m)) (λ m l. set_stays (o + m) (λ j x y. h j (omega arith) (omega arith)))

-- ---- what changes

-- the bytes of the row of thread t
pub thread_changed : (k z : List ℕ) (t : ℕ) (row : Thread)
    → ((j : ℕ) → (t % 32 * 4 ≤ j → j < t % 32 * 4 + 4 → ⊥) → cell z j ≡ cell k j)
    → thread_in z (t % 32) ≡ row
    → scheduler_in z ≡ with_thread (scheduler_in k) t row
unfolding scheduler_in
thread_changed k z t row else is =
    (λ i. record {
      threads = record { rows = rows i; links = record { next = links_stay k z a e else (λ j l m x y. omega arith) i }; ready = set_stays k z a e else 0 (λ j l m x y. omega arith) i };
      mutexes = mutexes_stay k z a e else (λ j l m x y. omega arith) i;
      formutex = sets_stay k z a e else 1 (λ j l m x y. omega arith) i;
      ties = ties_stay k z a e else (λ j l m x y. omega arith) i;
      oncondition = sets_stay k z a e else 17 (λ j l m x y. omega arith) i;
      running = else 1280 (λ x y. omega arith) i;
    })
  where
    a : ℕ
    a = t % 32 * 4

    e : ℕ
    e = t % 32 * 4 + 4

    rows : tabulate 32 (thread_in z) ≡ set (tabulate 32 (thread_in k)) (t % 32) row
    rows = sym (set_tabulate_below 32 (thread_in k) (thread_in z) (t % 32) row (omega arith) (sym is) (λ u l o.
        sym (λ i. record { base = else (u * 4) (λ x y. o (omega arith)) i; priority = else (u * 4 + 1) (λ x y. o (omega arith)) i; state = else (u * 4 + 2) (λ x y. o (omega arith)) i; object = else (u * 4 + 3) (λ x y. o (omega arith)) i })))

-- the link of thread t
pub link_changed : (k z : List ℕ) (t v : ℕ)
    → ((j : ℕ) → (128 + t % 32 ≤ j → j < 129 + t % 32 → ⊥) → cell z j ≡ cell k j)
    → link_in z (t % 32) ≡ v
    → scheduler_in z ≡ with_link (scheduler_in k) t v
unfolding scheduler_in
link_changed k z t v else is =
    (λ i. record {
      threads = record { rows = threads_stay k z a e else (omega arith) i; links = record { next = links i }; ready = set_stays k z a e else 0 (λ j l m x y. omega arith) i };
      mutexes = mutexes_stay k z a e else (λ j l m x y. omega arith) i;
      formutex = sets_stay k z a e else 1 (λ j l m x y. omega arith) i;
      ties = ties_stay k z a e else (λ j l m x y. omega arith) i;
      oncondition = sets_stay k z a e else 17 (λ j l m x y. omega arith) i;
      running = else 1280 (λ x y. omega arith) i;
    })
  where
    a : ℕ
    a = 128 + t % 32

    e : ℕ
    e = 129 + t % 32

    links : tabulate 32 (link_in z) ≡ set (tabulate 32 (link_in k)) (t % 32) v
    links = sym (set_tabulate_below 32 (link_in k) (link_in z) (t % 32) v (omega arith) (sym is) (λ u l o. sym (else (128 + u) (λ x y. o (omega arith)))))

-- the row of mutex m
pub mutex_changed : (k z : List ℕ) (m : ℕ) (row : Mutex)
    → ((j : ℕ) → (1216 + m % 16 * 3 ≤ j → j < 1219 + m % 16 * 3 → ⊥) → cell z j ≡ cell k j)
    → mutex_in z (m % 16) ≡ row
    → scheduler_in z ≡ with_mutex (scheduler_in k) m row
unfolding scheduler_in
mutex_changed k z m row else is =
    (λ i. record {
      threads = record { rows = threads_stay k z a e else (omega arith) i; links = record { next = links_stay k z a e else (λ j l m x y. omega arith) i }; ready = set_stays k z a e else 0 (λ j l m x y. omega arith) i };
      mutexes = rows i;
      formutex = sets_stay k z a e else 1 (λ j l m x y. omega arith) i;
      ties = ties_stay k z a e else (λ j l m x y. omega arith) i;
      oncondition = sets_stay k z a e else 17 (λ j l m x y. omega arith) i;
      running = else 1280 (λ x y. omega arith) i;
    })
  where
    a : ℕ
    a = 1216 + m % 16 * 3

    e : ℕ
    e = 1219 + m % 16 * 3

    rows : tabulate 16 (mutex_in z) ≡ set (tabulate 16 (mutex_in k)) (m % 16) row
    rows = sym (set_tabulate_below 16 (mutex_in k) (mutex_in z) (m % 16) row (omega arith) (sym is) (λ u l o.
        sym (λ i. record { ceiling = else (1216 + u * 3) (λ x y. o (omega arith)) i; owner = else (1216 + u * 3 + 1) (λ x y. o (omega arith)) i; count = else (1216 + u * 3 + 2) (λ x y. o (omega arith)) i })))

-- the tie of condition variable c
pub tie_changed : (k z : List ℕ) (c v : ℕ)
    → ((j : ℕ) → (1264 + c % 16 ≤ j → j < 1265 + c % 16 → ⊥) → cell z j ≡ cell k j)
    → tie_in z (c % 16) ≡ v
    → scheduler_in z ≡ with_tie (scheduler_in k) c v
unfolding scheduler_in
tie_changed k z c v else is =
    (λ i. record {
      threads = record { rows = threads_stay k z a e else (omega arith) i; links = record { next = links_stay k z a e else (λ j l m x y. omega arith) i }; ready = set_stays k z a e else 0 (λ j l m x y. omega arith) i };
      mutexes = mutexes_stay k z a e else (λ j l m x y. omega arith) i;
      formutex = sets_stay k z a e else 1 (λ j l m x y. omega arith) i;
      ties = ties i;
      oncondition = sets_stay k z a e else 17 (λ j l m x y. omega arith) i;
      running = else 1280 (λ x y. omega arith) i;
    })
  where
    a : ℕ
    a = 1264 + c % 16

    e : ℕ
    e = 1265 + c % 16

    ties : tabulate 16 (tie_in z) ≡ set (tabulate 16 (tie_in k)) (c % 16) v
    ties = sym (set_tabulate_below 16 (tie_in k) (tie_in z) (c % 16) v (omega arith) (sym is) (λ u l o. sym (else (1264 + u) (λ x y. o (omega arith)))))

-- the running thread
pub running_changed : (k z : List ℕ) (v : ℕ)
    → ((j : ℕ) → (1280 ≤ j → j < 1281 → ⊥) → cell z j ≡ cell k j)
    → cell z 1280 ≡ v
    → scheduler_in z ≡ with_running (scheduler_in k) v
unfolding scheduler_in
running_changed k z v else is =
    (λ i. record {
      threads = record { rows = threads_stay k z 1280 1281 else (omega arith) i; links = record { next = links_stay k z 1280 1281 else (λ j l m x y. omega arith) i }; ready = set_stays k z 1280 1281 else 0 (λ j l m x y. omega arith) i };
      mutexes = mutexes_stay k z 1280 1281 else (λ j l m x y. omega arith) i;
      formutex = sets_stay k z 1280 1281 else 1 (λ j l m x y. omega arith) i;
      ties = ties_stay k z 1280 1281 else (λ j l m x y. omega arith) i;
      oncondition = sets_stay k z 1280 1281 else 17 (λ j l m x y. omega arith) i;
      running = is i;
    })

-- ---- reading

-- the row of thread t
pub thread_read : (k : List ℕ) (t : ℕ) → row_of (scheduler_in k).threads t ≡ thread_in k (t % 32)
unfolding scheduler_in
thread_read k t = get_d_tabulate 32 (thread_in k) (t % 32) blank (omega arith)

-- the link of thread t
pub link_read : (k : List ℕ) (t : ℕ) → link_of (scheduler_in k) t ≡ link_in k (t % 32)
unfolding scheduler_in
link_read k t = get_d_tabulate 32 (link_in k) (t % 32) 0 (omega arith)

-- the row of mutex m
pub mutex_read : (k : List ℕ) (m : ℕ) → mutex_of (scheduler_in k) m ≡ mutex_in k (m % 16)
unfolding scheduler_in
mutex_read k m = get_d_tabulate 16 (mutex_in k) (m % 16) no_mutex (omega arith)

-- the tie of condition variable c
pub tie_read : (k : List ℕ) (c : ℕ) → tie_of (scheduler_in k) c ≡ tie_in k (c % 16)
unfolding scheduler_in
tie_read k c = get_d_tabulate 16 (tie_in k) (c % 16) 0 (omega arith)

-- set n
pub set_read : (k : List ℕ) (n : ℕ) → n < 33 → set_numbered (scheduler_in k) n ≡ set_in k n
unfolding scheduler_in set_numbered
set_read k n l = by_equal n 0
    (λ e. rw (eq-eqb n 0 e) (ap (set_in k) (sym e)))
    (λ o. rw (ne_eqb n 0 o) (by_below n 17
    (λ m. rw (lt-ltb n 17 m) (get_d_tabulate 16 (λ u. set_in k (1 + u)) (n - 1) no_set (omega arith) ∙ ap (set_in k) (omega arith)))
    (λ m. rw (le-ltb n 17 m) (get_d_tabulate 16 (λ u. set_in k (17 + u)) (n - 17) no_set (omega arith) ∙ ap (set_in k) (omega arith)))))

-- the queue of priority p in set n
pub queue_read : (k : List ℕ) (n p : ℕ) → n < 33 → p < 16 → queue_numbered (scheduler_in k) n p ≡ queue_in k n p
unfolding level_model
queue_read k n p l low = ap (λ (s : Queues). get_or s.levels p empty_queue) (set_read k n l) ∙ get_d_tabulate 16 (queue_in k n) p empty_queue low

-- past 15 there is none
pub queue_past : (k : List ℕ) (n p : ℕ) → 16 ≤ p → queue_numbered (scheduler_in k) (n % 33) p ≡ empty_queue
unfolding level_model
queue_past k n p h = ap (λ (s : Queues). get_or s.levels p empty_queue) (set_read k (n % 33) (omega arith)) ∙ get_or-eq_default (tabulate 16 (queue_in k (n % 33))) empty_queue (rw (length_tabulate 16 (queue_in k (n % 33))) h)

-- ---- a queue

-- the queue of priority p in set n
module _ (k z : List ℕ) (n p : ℕ) (q : Queue) (inside : n < 33) (low : p < 16)
    (else : (j : ℕ) → (160 + n * 32 + p * 2 ≤ j → j < 162 + n * 32 + p * 2 → ⊥) → cell z j ≡ cell k j)
    (is : queue_in z n p ≡ q) where
  abbrev a : ℕ
  a = 160 + n * 32 + p * 2

  abbrev e : ℕ
  e = 162 + n * 32 + p * 2

  -- its own set
  own_set : set_in z n ≡ with_level_model (set_in k n) p q
  unfolding with_level_model
  own_set = ap (λ l. record { levels = l }) (sym (set_tabulate_below 16 (queue_in k n) (queue_in z n) p q low (sym is) (λ u l o.
      sym (λ i. record { first = else (160 + n * 32 + u * 2) (λ x y. o (omega arith)) i; last = else (160 + n * 32 + u * 2 + 1) (λ x y. o (omega arith)) i }))))

  -- another set
  other_set : (m : ℕ) → (m ≡ n → ⊥) → set_in z m ≡ set_in k m
  other_set m o = set_stays k z a e else m (λ j x y v w. o (omega arith))

  -- all sets but one of 16
  sets_but : (o : ℕ) → o ≤ n → n < o + 16 → tabulate 16 (λ m. set_in z (o + m)) ≡ set (tabulate 16 (λ m. set_in k (o + m))) (n - o) (with_level_model (set_in k n) p q)
  sets_but o x y = sym (set_tabulate_below 16 (λ m. set_in k (o + m)) (λ m. set_in z (o + m)) (n - o) (with_level_model (set_in k n) p q) (omega arith)
      (sym own_set ∙ ap (set_in z) (omega arith)) (λ u l d. sym (other_set (o + u) (λ v. d (omega arith)))))

  -- all of 16 sets
  sets_all : (o : ℕ) → ((m : ℕ) → m < 16 → o + m ≡ n → ⊥) → tabulate 16 (λ m. set_in z (o + m)) ≡ tabulate 16 (λ m. set_in k (o + m))
  sets_all o d = tabulate_below 16 (λ m. set_in z (o + m)) (λ m. set_in k (o + m)) (λ m l. other_set (o + m) (d m l))

  -- the rows and the links
  rows : tabulate 32 (thread_in z) ≡ tabulate 32 (thread_in k)
  rows = threads_stay k z a e else (omega arith)

  links : tabulate 32 (link_in z) ≡ tabulate 32 (link_in k)
  links = links_stay k z a e else (λ j l m x y. omega arith)

  mutexes : tabulate 16 (mutex_in z) ≡ tabulate 16 (mutex_in k)
  mutexes = mutexes_stay k z a e else (λ j l m x y. omega arith)

  ties : tabulate 16 (tie_in z) ≡ tabulate 16 (tie_in k)
  ties = ties_stay k z a e else (λ j l m x y. omega arith)

  runner : cell z 1280 ≡ cell k 1280
  runner = else 1280 (λ x y. omega arith)

  -- the whole, with the changed set written down
  placed : scheduler_in z ≡ with_set (scheduler_in k) n (with_level_model (set_in k n) p q)
  unfolding scheduler_in with_set
  placed = by_equal n 0
      (λ y. rw (eq-eqb n 0 y) (λ i. record {
        threads = record { rows = rows i; links = record { next = links i }; ready = (ap (set_in z) (sym y) ∙ own_set) i };
        mutexes = mutexes i;
        formutex = sets_all 1 (λ u l v. omega arith) i;
        ties = ties i;
        oncondition = sets_all 17 (λ u l v. omega arith) i;
        running = runner i;
      }))
      (λ o. rw (ne_eqb n 0 o) (by_below n 17
      (λ m. rw (lt-ltb n 17 m) (λ i. record {
        threads = record { rows = rows i; links = record { next = links i }; ready = other_set 0 (λ v. o (sym v)) i };
        mutexes = mutexes i;
        formutex = sets_but 1 (omega arith) (omega arith) i;
        ties = ties i;
        oncondition = sets_all 17 (λ u l v. omega arith) i;
        running = runner i;
      }))
      (λ m. rw (le-ltb n 17 m) (λ i. record {
        threads = record { rows = rows i; links = record { next = links i }; ready = other_set 0 (λ v. o (sym v)) i };
        mutexes = mutexes i;
        formutex = sets_all 1 (λ u l v. omega arith) i;
        ties = ties i;
        oncondition = sets_but 17 (omega arith) (omega arith) i;
        running = runner i;
      }))))

  pub queue_changed : scheduler_in z ≡ with_queue (scheduler_in k) n p q
  queue_changed = placed ∙ ap (λ s. with_set (scheduler_in k) n (with_level_model s p q)) (sym (set_read k n inside))

-- a set put back as it was
pub set_back : (x : Scheduler) (n : ℕ) → with_set x n (set_numbered x n) ≡ x
unfolding with_set set_numbered
set_back x n = by_equal n 0
    (λ e. rw (eq-eqb n 0 e) refl)
    (λ o. rw (ne_eqb n 0 o) (by_below n 17
    (λ m. rw (lt-ltb n 17 m) (λ i. record {
      threads = x.threads;
      mutexes = x.mutexes;
      formutex = set-get_or x.formutex (n - 1) no_set i;
      ties = x.ties;
      oncondition = x.oncondition;
      running = x.running;
    }))
    (λ m. rw (le-ltb n 17 m) (λ i. record {
      threads = x.threads;
      mutexes = x.mutexes;
      formutex = x.formutex;
      ties = x.ties;
      oncondition = set-get_or x.oncondition (n - 17) no_set i;
      running = x.running;
    }))))

-- past 15 nothing changes
pub queue_none : (k : List ℕ) (n p : ℕ) (q : Queue) → 16 ≤ p → with_queue (scheduler_in k) (n % 33) p q ≡ scheduler_in k
unfolding with_level_model
queue_none k n p q h =
    ap (with_set (scheduler_in k) (n % 33)) (ap (λ (s : Queues). record { levels = set s.levels p q }) r ∙ ap (λ l. record { levels = l }) (set_out (tabulate 16 (queue_in k (n % 33))) p q (rw (length_tabulate 16 (queue_in k (n % 33))) h)) ∙ sym r)
    ∙ set_back (scheduler_in k) (n % 33)
  where
    r : set_numbered (scheduler_in k) (n % 33) ≡ set_in k (n % 33)
    r = set_read k (n % 33) (omega arith)
