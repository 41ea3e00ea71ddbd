-- The scheduler of a page while its threads arrive: the rows are the page's, whoever has not come stands nowhere, and the queues hold who has come.
-- Assumes nothing.
use Prim.Native.Nat.{ℕ, ◌<◌, ◌≤◌, max}
use mathlib.Core.Path.{◌≡◌, refl, sym, ap, ap₂, ◌∙◌}
use mathlib.Core.Logic.{◌≢◌}
use mathlib.Core.Bool.{Bool, true, false, cond}
use mathlib.Core.List.{List, [], ◌∷◌, ◌++◌, append-nil}
use lib.ListN.{length, get_or, set, get_or-eq_default}
use borrow.Author.Tests.{ne_eqb}
use Rattle.laws.specs.Lists.{tabulate, put}
use Rattle.laws.proofs.Bools.{self, and_false}
use Rattle.laws.proofs.Lists.{by_below, length_tabulate, get_d_tabulate, tabulate_same, tabulate_below, tabulate_one, set_tabulate, set_tabulate_below}
use Rattle.rules.specs.Queues.{empty_set, queue, to_back}
use Rattle.rules.specs.State.{Where, running, ready, for_mutex, on_condition, same, Thread, Rows, Sets, Scheduler, no_thread, thread, at, highest_ceiling, priority, with_threads, stand, set_at, put_set, arrive}
use Rattle.rules.specs.Page.{in_queue}
use Rattle.rules_pages.proofs.Places.{stands_at_lem}
use Rattle.rules_soundness.proofs.Rows.{Within, Real}

-- the sets of queues of m mutexes and c condition variables
unfoldable pub sets_by : ℕ → ℕ → (Where → ℕ → List ℕ) → Sets
sets_by m c q = record {
  ready = tabulate 16 (q ready);
  mutex = tabulate m (λ i. tabulate 16 (q (for_mutex i)));
  condition = tabulate c (λ i. tabulate 16 (q (on_condition i)));
}

-- the sets at the places of one kind, where none differs
kind_same : (q r : Where → ℕ → List ℕ) (n : ℕ) (place : ℕ → Where) → ((j p : ℕ) → q (place j) p ≡ r (place j) p)
    → tabulate n (λ j. tabulate 16 (q (place j))) ≡ tabulate n (λ j. tabulate 16 (r (place j)))
kind_same q r n place e = tabulate_same n (λ j. tabulate 16 (q (place j))) (λ j. tabulate 16 (r (place j))) (λ j. tabulate_same 16 (q (place j)) (r (place j)) (e j))

-- and where one of them is put
kind_put : (q r : Where → ℕ → List ℕ) (n : ℕ) (place : ℕ → Where) (k : ℕ) → ((j : ℕ) → j ≢ k → (p : ℕ) → q (place j) p ≡ r (place j) p)
    → set (tabulate n (λ j. tabulate 16 (q (place j)))) k (tabulate 16 (r (place k))) ≡ tabulate n (λ j. tabulate 16 (r (place j)))
kind_put q r n place k e = set_tabulate n (λ j. tabulate 16 (q (place j))) (λ j. tabulate 16 (r (place j))) k (λ j d. tabulate_same 16 (q (place j)) (r (place j)) (e j d))

-- the same queues, the same sets
pub sets_same : (m c : ℕ) (q r : Where → ℕ → List ℕ) → ((v : Where) → same running v ≡ false → (p : ℕ) → q v p ≡ r v p) → sets_by m c q ≡ sets_by m c r
unfolding sets_by same
sets_same m c q r e = λ i. record {
  ready = tabulate_same 16 (q ready) (r ready) (e ready refl) i;
  mutex = kind_same q r m for_mutex (λ j. e (for_mutex j) refl) i;
  condition = kind_same q r c on_condition (λ j. e (on_condition j) refl) i;
}

-- one set is put, and the others are as they were
put_sets_lem : (m c : ℕ) (q r : Where → ℕ → List ℕ) (w : Where) → ((v : Where) → same w v ≡ false → (p : ℕ) → q v p ≡ r v p)
    → put_set (sets_by m c q) w (tabulate 16 (r w)) ≡ sets_by m c r
unfolding put_set sets_by same
put_sets_lem m c q r running e = sets_same m c q r e
put_sets_lem m c q r ready e = λ i. record {
  ready = tabulate 16 (r ready);
  mutex = kind_same q r m for_mutex (λ j. e (for_mutex j) refl) i;
  condition = kind_same q r c on_condition (λ j. e (on_condition j) refl) i;
}
put_sets_lem m c q r (for_mutex k) e = λ i. record {
  ready = tabulate_same 16 (q ready) (r ready) (e ready refl) i;
  mutex = kind_put q r m for_mutex k (λ j d. e (for_mutex j) (ne_eqb k j (λ z. d (sym z)))) i;
  condition = kind_same q r c on_condition (λ j. e (on_condition j) refl) i;
}
put_sets_lem m c q r (on_condition k) e = λ i. record {
  ready = tabulate_same 16 (q ready) (r ready) (e ready refl) i;
  mutex = kind_same q r m for_mutex (λ j. e (for_mutex j) refl) i;
  condition = kind_put q r c on_condition k (λ j d. e (on_condition j) (ne_eqb k j (λ z. d (sym z)))) i;
}

-- at a place that exists stands its set
set_by : (m c : ℕ) (q : Where → ℕ → List ℕ) (w : Where) → Within m c w → set_at (sets_by m c q) w ≡ tabulate 16 (q w)
unfolding sets_by set_at
set_by m c q running r = absurd r
set_by m c q ready r = refl
set_by m c q (for_mutex i) r = get_d_tabulate m (λ j. tabulate 16 (q (for_mutex j))) i empty_set r
set_by m c q (on_condition i) r = get_d_tabulate c (λ j. tabulate 16 (q (on_condition j))) i empty_set r

-- and an empty one where its queues are empty, whether the place exists or not
pub set_empty : (m c : ℕ) (q : Where → ℕ → List ℕ) (w : Where) → ((v : Where) (p : ℕ) → q v p ≡ []) → set_at (sets_by m c q) w ≡ empty_set
set_empty m c q w none = go w
  where
    empty_at : (v : Where) → tabulate 16 (q v) ≡ empty_set
    empty_at v = tabulate_same 16 (q v) (λ i. []) (none v) ∙ (unfold empty_set in (tabulate_one 16 []))

    table : (n i : ℕ) (place : ℕ → Where) → get_or (tabulate n (λ j. tabulate 16 (q (place j)))) i empty_set ≡ empty_set
    table n i place = by_below i n
        (λ l. get_d_tabulate n (λ j. tabulate 16 (q (place j))) i empty_set l ∙ empty_at (place i))
        (λ l. get_or-eq_default (tabulate n (λ j. tabulate 16 (q (place j)))) empty_set {n = i} (rw (length_tabulate n (λ j. tabulate 16 (q (place j)))) l))

    go : (v : Where) → set_at (sets_by m c q) v ≡ empty_set
    go running = unfold set_at in refl
    go ready = unfold set_at sets_by in (empty_at ready)
    go (for_mutex i) = unfold set_at sets_by in (table m i for_mutex)
    go (on_condition i) = unfold set_at sets_by in (table c i on_condition)

-- t arrives at the back of one queue of a set
back_by : (q r : ℕ → List ℕ) (p t : ℕ) → p < 16 → r p ≡ q p ++ (t ∷ []) → ((u : ℕ) → u ≢ p → q u ≡ r u) → to_back (tabulate 16 q) p t ≡ tabulate 16 r
unfolding to_back
back_by q r p t l e others = set_tabulate_below 16 q r p (queue (tabulate 16 q) p ++ (t ∷ [])) l (ap (λ x. x ++ (t ∷ [])) (get_d_tabulate 16 q p [] l) ∙ sym e) (λ u b n. others u n)

-- ---- the rows, where some have come

module _ (k : Rows) where
  -- the row of thread u
  abbrev pub row_by : (ℕ → Bool) → ℕ → Thread
  row_by a u = record { base = (thread k u).base; stands = cond (a u) (thread k u).stands running }

  -- the scheduler
  unfoldable pub stage : (ℕ → Bool) → (Where → ℕ → List ℕ) → Scheduler
  stage a q = record {
    rows = with_threads k (tabulate (length k.threads) (row_by a));
    sets = sets_by (length k.mutexes) (length k.ties) q;
  }

  -- who has come alike, the same scheduler
  pub stage_same : (a b : ℕ → Bool) (q r : Where → ℕ → List ℕ) → ((u : ℕ) → u < length k.threads → cond (a u) (thread k u).stands running ≡ cond (b u) (thread k u).stands running)
      → ((v : Where) → same running v ≡ false → (p : ℕ) → q v p ≡ r v p) → stage a q ≡ stage b r
  unfolding stage
  stage_same a b q r e d = λ i. record {
    rows = with_threads k (tabulate_below (length k.threads) (row_by a) (row_by b) (λ u l. ap (λ w. record { base = (thread k u).base; stands = w }) (e u l)) i);
    sets = sets_same (length k.mutexes) (length k.ties) q r d i;
  }

  module _ (a : ℕ → Bool) (q : Where → ℕ → List ℕ) where
    -- as many threads
    pub length_stage : length (stage a q).rows.threads ≡ length k.threads
    unfolding stage
    length_stage = length_tabulate (length k.threads) (row_by a)

    -- a thread's row
    pub thread_stage : (u : ℕ) → u < length k.threads → thread (stage a q).rows u ≡ row_by a u
    unfolding stage
    thread_stage u l = get_d_tabulate (length k.threads) (row_by a) u no_thread l

    -- and that of none
    pub thread_past : (u : ℕ) → length k.threads ≤ u → thread (stage a q).rows u ≡ no_thread
    thread_past u l = get_or-eq_default (stage a q).rows.threads no_thread {n = u} (rw length_stage l)

    -- bases are the page's
    pub base_stage : (u : ℕ) → (thread (stage a q).rows u).base ≡ (thread k u).base
    base_stage u = by_below u (length k.threads)
        (λ l. ap (λ (x : Thread). x.base) (thread_stage u l))
        (λ l. ap (λ (x : Thread). x.base) (thread_past u l ∙ sym (get_or-eq_default k.threads no_thread l)))

    -- and so are priorities
    pub priority_stage : (u : ℕ) → priority (stage a q).rows u ≡ priority k u
    unfolding priority
    priority_stage u = unfold stage in (ap (λ x. max x (highest_ceiling k.mutexes u)) (unfold stage in (base_stage u)))

    -- at a place that exists stands its set
    pub set_stage : (w : Where) → Real k w → set_at (stage a q).sets w ≡ tabulate 16 (q w)
    unfolding stage
    set_stage w real = set_by (length k.mutexes) (length k.ties) q w real

    -- thread t, which has not come, arrives where it stands in k
    module _ (b : ℕ → Bool) (r : Where → ℕ → List ℕ) (t : ℕ) (there : t < length k.threads) (low : priority k t < 16) (real : Real k (thread k t).stands)
        (came : b t ≡ true) (others : (u : ℕ) → u ≢ t → a u ≡ b u) (joins : (v : Where) (p : ℕ) → r v p ≡ q v p ++ put (in_queue k v p t) t) where
      -- where t does not stand, and at other priorities than its own, the queues are as they were
      away : (v : Where) (p : ℕ) → in_queue k v p t ≡ false → q v p ≡ r v p
      away v p e = sym (joins v p ∙ rw e (append-nil (q v p)))

      -- t is at the back of its own queue
      own : r (thread k t).stands (priority k t) ≡ q (thread k t).stands (priority k t) ++ (t ∷ [])
      own = joins (thread k t).stands (priority k t) ∙ rw (stands_at_lem k t, self (priority k t))

      -- and of its set
      backs : to_back (set_at (stage a q).sets (thread k t).stands) (priority (stage a q).rows t) t ≡ tabulate 16 (r (thread k t).stands)
      backs = ap₂ (λ x p. to_back x p t) (set_stage (thread k t).stands real) (priority_stage t)
          ∙ back_by (q (thread k t).stands) (r (thread k t).stands) (priority k t) t low own
          (λ u n. away (thread k t).stands u (rw (ne_eqb (priority k t) u (λ z. n (sym z))) (and_false (at k (thread k t).stands t))))

      -- the rows have it there
      moves : stand (stage a q).rows t (thread k t).stands ≡ (stage b r).rows
      unfolding stand stage
      moves = ap (with_threads k) (set_tabulate_below (length k.threads) (row_by a) (row_by b) t (record { base = (thread (stage a q).rows t).base; stands = (thread k t).stands }) there
          (λ i. record { base = base_stage t i; stands = cond (sym came i) (thread k t).stands running })
          (λ u l n. ap (λ y. record { base = (thread k u).base; stands = cond y (thread k u).stands running }) (others u n)))

      -- so the stage with it follows
      pub stage_arrives : arrive (stage a q) t (thread k t).stands ≡ stage b r
      unfolding arrive
      stage_arrives = λ i. record { rows = moves i; sets = joined i }
        where
          joined : put_set (stage a q).sets (thread k t).stands (to_back (set_at (stage a q).sets (thread k t).stands) (priority (stage a q).rows t) t) ≡ (stage b r).sets
          joined = ap (put_set (stage a q).sets (thread k t).stands) backs
              ∙ (unfold stage in (put_sets_lem (length k.mutexes) (length k.ties) q r (thread k t).stands (λ v n p. away v p (unfold at in (rw n)))))
