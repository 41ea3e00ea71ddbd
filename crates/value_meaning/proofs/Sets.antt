-- The tables of sets of queues: one set is read, and one is put, for mutexes and condition variables alike.
-- Assumes nothing.
use Prim.Native.Nat.{ℕ, ◌%◌, ◌<◌, ◌≤◌}
use mathlib.Core.Path.{◌≡◌, refl, sym, ap, ap₂, ◌∙◌}
use mathlib.Core.Logic.{◌≢◌}
use mathlib.Core.Bool.{true, false, false≢true}
use mathlib.Core.List.{List}
use native.Mathlib.Omega.{arith}
use lib.ListN.{length, get_or, set}
use borrow.Author.Tests.{ne_eqb}
use Rattle.laws.specs.Lists.{tabulate}
use Rattle.laws.proofs.Lists.{get_d_tabulate, set_tabulate}
use Rattle.queue.specs.declared.Queues.{Queues}
use Rattle.queue.specs.Stands.{queues_of}
use Rattle.value_tables.specs.declared.Waiting.{Waiting}
use Rattle.value_effects.specs.declared.Scheduler.{Scheduler}
use Rattle.value_effects.specs.Effects.{no_set, for_mutex_of, on_condition_of, with_for_mutex, with_on_condition}
use Rattle.rules.specs.Queues.{QueueSet}
use Rattle.rules.specs.State as rules
use Rattle.rules.specs.State.{Where, running, ready, for_mutex, on_condition, same, waits, Thread, Rows, Sets, tied, with_threads, set_at, put_set, tie}
use Rattle.rules_soundness.proofs.Rows.{Real, Has, set_same, set_other, tied_tie}
use Rattle.value_meaning.specs.Stands.{threads_of, mutex_in, scheduler_of}
use Rattle.value_meaning.proofs.Rows.{small_16}

-- the table of the sets at the places of one kind
abbrev sets_at : Sets → (ℕ → Where) → List Queues
sets_at s place = tabulate 16 (λ i. queues_of (set_at s (place i)))

pub set_read : (s : Sets) (place : ℕ → Where) (m : ℕ) → m < 16 → get_or (sets_at s place) (m % 16) no_set ≡ queues_of (set_at s (place m))
set_read s place m h = ap (λ i. get_or (sets_at s place) i no_set) (small_16 m h) ∙ get_d_tabulate 16 (λ i. queues_of (set_at s (place i))) m no_set h

pub set_put : (s : Sets) (place : ℕ → Where) → ((i j : ℕ) → i ≢ j → same (place i) (place j) ≡ false) → (m : ℕ) → m < 16 → Has s (place m) → (q : QueueSet)
    → set (sets_at s place) (m % 16) (queues_of q) ≡ sets_at (put_set s (place m) q) place
set_put s place apart m h has q =
    ap₂ (λ i x. set (sets_at s place) i x) (small_16 m h) (ap queues_of (sym (set_same s (place m) q has)))
    ∙ set_tabulate 16 (λ i. queues_of (set_at s (place i))) (λ i. queues_of (set_at (put_set s (place m) q) (place i))) m (λ i n. ap queues_of (sym (set_other s (place m) (place i) q (apart m i (λ e. n (sym e))))))

mutexes_apart : (i j : ℕ) → i ≢ j → same (for_mutex i) (for_mutex j) ≡ false
unfolding same
mutexes_apart i j n = ne_eqb i j n

conditions_apart : (i j : ℕ) → i ≢ j → same (on_condition i) (on_condition j) ≡ false
unfolding same
conditions_apart i j n = ne_eqb i j n

-- ---- a place of waiting, a mutex or a condition variable

-- the table of its kind has at most 16 rows
abbrev pub Narrow : Rows → Where → Type 0
Narrow k running = Unit {0}
Narrow k ready = Unit {0}
Narrow k (for_mutex m) = length k.mutexes ≤ 16
Narrow k (on_condition c) = length k.ties ≤ 16

-- its set of queues
abbrev pub set_at_place : Scheduler → Where → Queues
set_at_place x running = no_set
set_at_place x ready = no_set
set_at_place x (for_mutex m) = for_mutex_of x m
set_at_place x (on_condition c) = on_condition_of x c

-- another set there, and the threads that go with it
abbrev pub with_set : Scheduler → Where → Waiting → Scheduler
with_set x running w = x
with_set x ready w = x
with_set x (for_mutex m) w = with_for_mutex x m w
with_set x (on_condition c) w = with_on_condition x c w

-- its set is that of document 01
pub set_found : (h : rules.Scheduler) (w : Where) → waits w ≡ true → Real h.rows w → Narrow h.rows w → set_at_place (scheduler_of h) w ≡ queues_of (set_at h.sets w)
unfolding scheduler_of
set_found h running z r n = absurd (false≢true z)
set_found h ready z r n = absurd (false≢true z)
set_found h (for_mutex m) z r n = set_read h.sets for_mutex m (omega arith)
set_found h (on_condition c) z r n = set_read h.sets on_condition c (omega arith)

-- what is stored there describes what document 01 has; of the rows only threads may have changed
pub set_stored : (h : rules.Scheduler) (ts : List Thread) (w : Where) → waits w ≡ true → Real h.rows w → Narrow h.rows w → Has h.sets w → (q : QueueSet)
    → with_set (scheduler_of h) w (record { threads = threads_of (with_threads h.rows ts) (put_set h.sets w q); set = queues_of q }) ≡ scheduler_of (record { rows = with_threads h.rows ts; sets = put_set h.sets w q })
unfolding scheduler_of
set_stored h ts running z r n has q = absurd (false≢true z)
set_stored h ts ready z r n has q = absurd (false≢true z)
set_stored h ts (for_mutex m) z r n has q = ap (λ x. record {
  threads = threads_of (with_threads h.rows ts) (put_set h.sets (for_mutex m) q);
  mutexes = tabulate 16 (mutex_in h.rows);
  formutex = x;
  ties = tabulate 16 (tied h.rows);
  oncondition = sets_at h.sets on_condition;
  running = h.rows.runner;
}) (set_put h.sets for_mutex mutexes_apart m (omega arith) has q) ∙ (unfold put_set set_at in refl)
set_stored h ts (on_condition c) z r n has q = ap (λ x. record {
  threads = threads_of (with_threads h.rows ts) (put_set h.sets (on_condition c) q);
  mutexes = tabulate 16 (mutex_in h.rows);
  formutex = sets_at h.sets for_mutex;
  ties = tabulate 16 (tied h.rows);
  oncondition = x;
  running = h.rows.runner;
}) (set_put h.sets on_condition conditions_apart c (omega arith) has q) ∙ (unfold put_set set_at in refl)

-- ---- ties

pub tie_read : (k : Rows) (c : ℕ) → c < 16 → get_or (tabulate 16 (tied k)) (c % 16) 0 ≡ tied k c
tie_read k c h = ap (λ i. get_or (tabulate 16 (tied k)) i 0) (small_16 c h) ∙ get_d_tabulate 16 (tied k) c 0 h

pub tie_put : (k : Rows) (c m : ℕ) → c < 16 → c < length k.ties → set (tabulate 16 (tied k)) (c % 16) m ≡ tabulate 16 (tied (tie k c m))
tie_put k c m h there =
    ap₂ (λ i x. set (tabulate 16 (tied k)) i x) (small_16 c h) (sym (tied_tie k c m c there ∙ rw (Rattle.laws.proofs.Bools.self c)))
    ∙ set_tabulate 16 (tied k) (tied (tie k c m)) c (λ i n. sym (tied_tie k c m i there ∙ rw (ne_eqb i c n)))
