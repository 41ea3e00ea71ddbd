-- A mutex that changes hands: its row, and the stored priorities of its old and its new owner, follow.
-- Assumes nothing.
use Prim.Native.Nat.{ℕ, zero, suc, ◌%◌, ◌<◌, ◌≤◌, max}
use mathlib.Core.Path.{◌≡◌, refl, sym, ap, ap₂, ◌∙◌}
use mathlib.Core.Logic.{◌≢◌}
use mathlib.Core.Bool.{cond}
use mathlib.Core.List.{List, [], ◌∷◌}
use native.Mathlib.Omega.{arith}
use native.Mathlib.Nat.{le_of_suc-le-suc, not-suc-le-zero}
use lib.ListN.{length, get_or, set}
use lib.Dec.{eqb, ltb}
use borrow.Author.Tests.{eqb-true, eqb-false, ne_eqb, ltb-true, ltb-false}
use Rattle.laws.specs.Lists.{tabulate}
use Rattle.laws.proofs.Bools.{by_cases, self}
use Rattle.laws.proofs.Lists.{get_d_tabulate, tabulate_below, set_tabulate}
use Rattle.queue.specs.declared.Links.{Links}
use Rattle.queue.specs.declared.Queues.{Queues}
use Rattle.value_tables.specs.declared.Thread as tables
use Rattle.value_tables.specs.Tables.{blank, row_of, lift_model}
use Rattle.value_effects.specs.declared.Mutex as scheduler
use Rattle.value_effects.specs.declared.Scheduler as scheduled
use Rattle.value_effects.specs.Effects as models
use Rattle.value_effects.specs.Effects.{ceiling_for, highest_in, settle_model, own_model, recount_model}
use Rattle.rules.specs.State.{Mutex, Rows, Scheduler, no_mutex, thread, mutex, highest_ceiling, priority, with_rows, own}
use Rattle.rules.specs.Page.{state_code, object_code}
use Rattle.rules_soundness.proofs.Rows.{mutex_own, length_own, priority_own}
use Rattle.value_meaning.specs.Stands.{threads_of, mutex_in, scheduler_of}
use Rattle.value_meaning.proofs.Rows.{small_32, small_16}

-- ---- the search for the largest ceiling

-- a row of a mutex
abbrev row : Mutex → scheduler.Mutex
row x = record { ceiling = x.ceiling; owner = x.owner; count = x.count }

highest_table : (n : ℕ) (ms : List Mutex) (t : ℕ) → t ≢ 255 → length ms ≤ n → highest_in (tabulate n (λ i. row (get_or ms i no_mutex))) t ≡ highest_ceiling ms t
unfolding tabulate highest_in highest_ceiling ceiling_for
highest_table zero [] t n h = refl
highest_table zero (x ∷ ms) t n h = absurd (not-suc-le-zero h)
highest_table (suc k) [] t n h = rw (ne_eqb 255 t (λ e. n (sym e))) (omega (arith, highest_table k [] t n (omega arith)))
highest_table (suc k) (x ∷ ms) t n h = ap (max (cond (eqb x.owner t) x.ceiling 0)) (highest_table k ms t n (le_of_suc-le-suc h))

pub highest_stands : (k : Rows) (t : ℕ) → t < 32 → length k.mutexes ≤ 16 → highest_in (tabulate 16 (mutex_in k)) t ≡ highest_ceiling k.mutexes t
highest_stands k t h few = highest_table 16 k.mutexes t (omega arith) few

-- ---- the rows of the threads with priorities of any kind

abbrev rows_by : Rows → (ℕ → ℕ) → List tables.Thread
rows_by k f = tabulate 32 (λ u. record { base = (thread k u).base; priority = f u; state = state_code (thread k u).stands; object = object_code (thread k u).stands })

-- one priority is another
abbrev put : ℕ → ℕ → (ℕ → ℕ) → ℕ → ℕ
put u p f v = cond (eqb v u) p (f v)

lifted : (k : Rows) (f : ℕ → ℕ) (l : Links) (r : Queues) (u p : ℕ) → u < 32 → lift_model (record { rows = rows_by k f; links = l; ready = r }) u p ≡ record { rows = rows_by k (put u p f); links = l; ready = r }
unfolding lift_model
lifted k f l r u p h = ap (λ x. record { rows = x; links = l; ready = r })
    (ap₂ (λ i (x : tables.Thread). set (rows_by k f) i (record { base = x.base; priority = p; state = x.state; object = x.object })) (small_32 u h) read
    ∙ ap (λ q. set (rows_by k f) u (record { base = (thread k u).base; priority = q; state = state_code (thread k u).stands; object = object_code (thread k u).stands })) (sym (ap (λ b. cond b p (f u)) (self u)))
    ∙ set_tabulate 32 (row_by f) (row_by (put u p f)) u (λ v n. ap (λ q. record { base = (thread k v).base; priority = q; state = state_code (thread k v).stands; object = object_code (thread k v).stands }) (sym (ap (λ b. cond b p (f v)) (ne_eqb v u n)))))
  where
    row_by : (ℕ → ℕ) → ℕ → tables.Thread
    row_by g v = record { base = (thread k v).base; priority = g v; state = state_code (thread k v).stands; object = object_code (thread k v).stands }

    read : row_of (record { rows = rows_by k f; links = l; ready = r }) u ≡ row_by f u
    read = ap (λ i. get_or (rows_by k f) i blank) (small_32 u h) ∙ get_d_tabulate 32 (row_by f) u blank h

-- ---- settling

-- a scheduler with these rows, mutexes and the rest of another
abbrev over : scheduled.Scheduler → List tables.Thread → List scheduler.Mutex → scheduled.Scheduler
over x rows mutexes = record {
  threads = record { rows = rows; links = x.threads.links; ready = x.threads.ready };
  mutexes = mutexes;
  formutex = x.formutex;
  ties = x.ties;
  oncondition = x.oncondition;
  running = x.running;
}

-- the priority of u, from its base in k and the mutexes of l
abbrev due : Rows → Rows → ℕ → ℕ
due k l u = max (thread k u).base (highest_ceiling l.mutexes u)

settled : (x : scheduled.Scheduler) (k l : Rows) (f : ℕ → ℕ) (u : ℕ) → length l.mutexes ≤ 16 → settle_model (over x (rows_by k f) (tabulate 16 (mutex_in l))) u ≡ over x (rows_by k (put u (due k l u) f)) (tabulate 16 (mutex_in l))
unfolding settle_model
settled x k l f u few = by_cases (ltb u 32)
    (λ e. rw e (inside (ltb-true u 32 e)))
    (λ e. rw e (ap (λ rows. over x rows (tabulate 16 (mutex_in l))) (tabulate_below 32 (row_by f) (row_by (put u (due k l u) f)) (λ v h. same v (λ z. omega (arith, h, z, ltb-false u 32 e))))))
  where
    row_by : (ℕ → ℕ) → ℕ → tables.Thread
    row_by g v = record { base = (thread k v).base; priority = g v; state = state_code (thread k v).stands; object = object_code (thread k v).stands }

    same : (v : ℕ) → (v ≡ u → ⊥) → row_by f v ≡ row_by (put u (due k l u) f) v
    same v n = ap (λ q. record { base = (thread k v).base; priority = q; state = state_code (thread k v).stands; object = object_code (thread k v).stands }) (sym (ap (λ b. cond b (due k l u) (f v)) (ne_eqb v u n)))

    inside : u < 32 → models.with_threads (over x (rows_by k f) (tabulate 16 (mutex_in l))) (lift_model (record { rows = rows_by k f; links = x.threads.links; ready = x.threads.ready }) u (max (get_or (rows_by k f) u blank).base (highest_in (tabulate 16 (mutex_in l)) u)))
        ≡ over x (rows_by k (put u (due k l u) f)) (tabulate 16 (mutex_in l))
    inside h = ap (models.with_threads (over x (rows_by k f) (tabulate 16 (mutex_in l))))
        (ap₂ (λ a b. lift_model (record { rows = rows_by k f; links = x.threads.links; ready = x.threads.ready }) u (max a b)) (ap (λ (y : tables.Thread). y.base) (get_d_tabulate 32 (row_by f) u blank h)) (highest_stands l u h few)
        ∙ lifted k f x.threads.links x.threads.ready u (due k l u) h)

-- ---- owning

module _ (k : Rows) (m : ℕ) (real : m < length k.mutexes) (few : length k.mutexes ≤ 16) where
  -- the row of mutex m is read
  pub mutex_read : get_or (tabulate 16 (mutex_in k)) (m % 16) models.no_mutex ≡ mutex_in k m
  mutex_read = ap (λ i. get_or (tabulate 16 (mutex_in k)) i models.no_mutex) (small_16 m (omega arith)) ∙ get_d_tabulate 16 (mutex_in k) m models.no_mutex (omega arith)

  -- and stored
  pub mutex_rows_lem : (t n : ℕ) → set (tabulate 16 (mutex_in k)) (m % 16) (record { ceiling = (mutex k m).ceiling; owner = t; count = n }) ≡ tabulate 16 (mutex_in (own k m t n))
  mutex_rows_lem t n = ap₂ (λ i x. set (tabulate 16 (mutex_in k)) i x) (small_16 m (omega arith)) (sym (ap row (mutex_own k m t n m real ∙ rw (self m))))
      ∙ set_tabulate 16 (mutex_in k) (mutex_in (own k m t n)) m (λ i z. sym (ap row (mutex_own k m t n i real ∙ rw (ne_eqb i m z))))

module _ (h : Scheduler) (m t n : ℕ) (real : m < length h.rows.mutexes) (few : length h.rows.mutexes ≤ 16) where
  abbrev k : Rows
  k = h.rows

  abbrev l : Rows
  l = own h.rows m t n

  abbrev old : ℕ
  old = (mutex h.rows m).owner

  still_few : length (own h.rows m t n).mutexes ≤ 16
  still_few = rw (length_own h.rows m t n) few

  -- the row is stored
  stored : own_model (scheduler_of h) m t n ≡ settle_model (settle_model (over (scheduler_of h) (rows_by k (priority k)) (tabulate 16 (mutex_in l))) old) t
  unfolding own_model scheduler_of threads_of
  stored = ap (λ (y : scheduler.Mutex). settle_model (settle_model (models.with_mutex (scheduler_of h) m (record { ceiling = y.ceiling; owner = t; count = n })) y.owner) t) (mutex_read k m real few)
      ∙ ap (λ z. settle_model (settle_model (over (scheduler_of h) (rows_by k (priority k)) z) old) t) (mutex_rows_lem k m real few t n)

  -- the priorities that are stored are those that follow
  follows : (v : ℕ) → put t (due k l t) (put old (due k l old) (priority k)) v ≡ priority l v
  follows v = by_cases (eqb v t)
      (λ e. rw (e, eqb-true v t e) (unfold priority own in refl))
      (λ e. rw e (by_cases (eqb v old)
      (λ y. rw (y, eqb-true v old y) (unfold priority own in refl))
      (λ y. rw y (sym (priority_own k m t n v (λ z. eqb-false v old y (sym z)) (λ z. eqb-false v t e (sym z)))))))

  pub own_stands : own_model (scheduler_of h) m t n ≡ scheduler_of (with_rows h (own h.rows m t n))
  own_stands = stored
      ∙ ap (λ y. settle_model y t) (settled (scheduler_of h) k l (priority k) old still_few)
      ∙ settled (scheduler_of h) k l (put old (due k l old) (priority k)) t still_few
      ∙ ap (λ rows. over (scheduler_of h) rows (tabulate 16 (mutex_in l))) (tabulate_below 32 (row_by (put t (due k l t) (put old (due k l old) (priority k)))) (row_by (priority l)) (λ v b. ap (λ q. record { base = (thread k v).base; priority = q; state = state_code (thread k v).stands; object = object_code (thread k v).stands }) (follows v)))
      ∙ the_same
    where
      row_by : (ℕ → ℕ) → ℕ → tables.Thread
      row_by g v = record { base = (thread k v).base; priority = g v; state = state_code (thread k v).stands; object = object_code (thread k v).stands }

      the_same : over (scheduler_of h) (rows_by k (priority l)) (tabulate 16 (mutex_in l)) ≡ scheduler_of (with_rows h l)
      the_same = unfold scheduler_of threads_of own in refl

-- only the count changes, and no priority
highest_recount : (ms : List Mutex) (m n u : ℕ) → highest_ceiling (set ms m (record { ceiling = (get_or ms m no_mutex).ceiling; owner = (get_or ms m no_mutex).owner; count = n })) u ≡ highest_ceiling ms u
unfolding highest_ceiling
highest_recount [] m n u = refl
highest_recount (x ∷ ms) zero n u = refl
highest_recount (x ∷ ms) (suc m) n u = ap (max (cond (eqb x.owner u) x.ceiling 0)) (highest_recount ms m n u)

pub recount_stands : (h : Scheduler) (m n : ℕ) → m < length h.rows.mutexes → length h.rows.mutexes ≤ 16 → recount_model (scheduler_of h) m n ≡ scheduler_of (with_rows h (own h.rows m (mutex h.rows m).owner n))
recount_stands h m n real few = stored_row ∙ ap (λ rows. over (scheduler_of h) rows (tabulate 16 (mutex_in after))) (tabulate_below 32 (row_by (priority h.rows)) (row_by (priority after)) (λ v b. ap (λ q. record { base = (thread h.rows v).base; priority = q; state = state_code (thread h.rows v).stands; object = object_code (thread h.rows v).stands }) (unmoved v))) ∙ the_same
  where
    after : Rows
    after = own h.rows m (mutex h.rows m).owner n

    row_by : (ℕ → ℕ) → ℕ → tables.Thread
    row_by g v = record { base = (thread h.rows v).base; priority = g v; state = state_code (thread h.rows v).stands; object = object_code (thread h.rows v).stands }

    stored_row : recount_model (scheduler_of h) m n ≡ over (scheduler_of h) (rows_by h.rows (priority h.rows)) (tabulate 16 (mutex_in (own h.rows m (mutex h.rows m).owner n)))
    stored_row = unfold recount_model scheduler_of threads_of in (ap (λ (y : scheduler.Mutex). models.with_mutex (scheduler_of h) m (record { ceiling = y.ceiling; owner = y.owner; count = n })) (mutex_read h.rows m real few)
        ∙ ap (λ z. over (scheduler_of h) (rows_by h.rows (priority h.rows)) z) (mutex_rows_lem h.rows m real few (mutex h.rows m).owner n))

    unmoved : (v : ℕ) → priority h.rows v ≡ priority (own h.rows m (mutex h.rows m).owner n) v
    unmoved v = unfold priority own in (ap (max (thread h.rows v).base) (sym (highest_recount h.rows.mutexes m n v)))

    the_same : over (scheduler_of h) (rows_by h.rows (priority (own h.rows m (mutex h.rows m).owner n))) (tabulate 16 (mutex_in (own h.rows m (mutex h.rows m).owner n))) ≡ scheduler_of (with_rows h (own h.rows m (mutex h.rows m).owner n))
    the_same = unfold scheduler_of threads_of own in refl
