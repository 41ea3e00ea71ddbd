-- The scheduler that the code begins with describes the first stage of the page: the rows up to the counts, and nobody in a queue.
-- Assumes nothing.
use Prim.Native.Nat.{ℕ, zero, suc, ◌+◌, ◌<◌, ◌≤◌, min, max}
use mathlib.Core.Path.{◌≡◌, refl, sym, ap, ap₂, ◌∙◌}
use mathlib.Core.Bool.{true, cond}
use mathlib.Core.List.{List, [], ◌∷◌, map, flatten}
use native.Mathlib.Omega.{arith}
use lib.ListN.{length, get_or, replicate, get_or-eq_default}
use lib.Dec.{eqb, ltb}
use borrow.Author.Tests.{lt-ltb, le-ltb, ne_eqb}
use Rattle.laws.specs.Lists.{tabulate}
use Rattle.laws.specs.Filling.{filled}
use Rattle.laws.proofs.Bools.{by_cases, cond_true, cond_false}
use Rattle.laws.proofs.Lists.{by_equal, by_below, length_tabulate, get_d_tabulate, tabulate_same, tabulate_below, tabulate_one}
use Rattle.rules.specs.Queues.{empty_set}
use Rattle.rules.specs.State.{Where, running, ready, for_mutex, on_condition, same, Thread, no_mutex, no_thread, thread, mutex, tied, highest_ceiling, priority, set_at}
use Rattle.rules.specs.Page as rules
use Rattle.rules.specs.Page.{no_row, thread_row, thread_of, where_of, runner_from, rows_of, page_formed, page_sound, state_code, object_code}
use Rattle.rules_soundness.proofs.Rows.{priority_base}
use Rattle.rules_pages.proofs.Rows.{thread_of_lem}
use Rattle.queue.specs.Linking.{empty_links, empty_queues}
use Rattle.queue.specs.Stands.{ends_of, link_of, links_of, queues_of}
use Rattle.queue.proofs.Linking.{link_none}
use Rattle.value_effects.specs.declared.Mutex as scheduler
use Rattle.value_effects.specs.Effects.{highest_in}
use Rattle.value_meaning.specs.Stands.{all_sets, thread_in, threads_of, mutex_in, scheduler_of}
use Rattle.value_meaning.proofs.Fresh.{absent}
use Rattle.value_meaning.proofs.Owning.{highest_stands}
use Rattle.page.specs.declared.ThreadRow.{ThreadRow}
use Rattle.page.specs.declared.Page.{Page}
use Rattle.page.specs.Says.{thread_said, mutex_said, no_thread_row, no_mutex_row, said}
use Rattle.page_building.specs.Building.{free_row, blank_row, mutex_rows, tie_rows, running_row, thread_rows, runner_in, blank_scheduler}
use Rattle.page_building.proofs.Stages.{stage}
use Rattle.page_building.proofs.Arrivals.{many, stage_at, first_stands, first_base, first_priority, first_sets, first_queued, facts}

-- ---- tables

-- so many as fit are all
pub all_fit : (n size : ℕ) → n ≤ size → min n size ≡ n
all_fit n size h = omega arith

module _ {A : Type 0} (size n : ℕ) (f : ℕ → A) (d : A) (fits : n ≤ size) where
  -- a table of the code is that of g, where g has the rows in use and is blank past them
  table_is : (g : ℕ → A) → ((i : ℕ) → i < size → i < n → f i ≡ g i) → ((i : ℕ) → i < size → n ≤ i → d ≡ g i) → filled size f d (min n size) ≡ tabulate size g
  unfolding filled
  table_is g inside past = rw (all_fit n size fits) (tabulate_below size (λ i. cond (ltb i n) (f i) d) g (λ i l. by_below i n
      (λ b. cond_true (ltb i n) (f i) d (lt-ltb i n b) ∙ inside i l b)
      (λ b. cond_false (ltb i n) (f i) d (le-ltb i n b) ∙ past i l b)))

  -- it is that of what was said, read with a default: h makes a row of each entry
  pub table_said : {B : Type 0} (h : B → A) (g : ℕ → B) (e : B) → ((i : ℕ) → i < n → f i ≡ h (g i)) → d ≡ h e → filled size f d (min n size) ≡ tabulate size (λ i. h (get_or (tabulate n g) i e))
  table_said h g e inside past = table_is (λ i. h (get_or (tabulate n g) i e))
      (λ i l b. inside i b ∙ ap h (sym (get_d_tabulate n g i e b)))
      (λ i l b. past ∙ ap h (sym (get_or-eq_default (tabulate n g) e {n = i} (rw (length_tabulate n g) b))))

-- ---- the running thread

-- a state means running exactly if it is 2
runs_code : (state object : ℕ) → same (where_of state object) running ≡ eqb state 2
unfolding where_of same
runs_code state object = by_equal state 1 (λ e. rw e) (λ e. by_equal state 2 (λ d. rw d) (λ d. rw (ne_eqb state 1 e, ne_eqb state 2 d) (by_cases (eqb state 3) (λ z. rw z) (λ z. rw z))))

-- the search through the rows of the code is that through what they say
runner_said : (rows : List ThreadRow) (n t : ℕ) (l : List rules.ThreadRow) → length l ≡ n → ((i : ℕ) → i < n → thread_said (get_or rows (t + i) no_thread_row) ≡ get_or l i no_row) → runner_in rows n t ≡ runner_from t (map thread_of l)
unfolding runner_in runner_from
runner_said rows zero t [] e h = refl
runner_said rows zero t (x ∷ l) e h = absurd (omega (arith, e))
runner_said rows (suc n) t [] e h = absurd (omega (arith, e))
runner_said rows (suc n) t (x ∷ l) e h =
    rw (runs_code x.state x.object, state)
    (ap (cond (eqb x.state 2) t) (runner_said rows n (suc t) l (omega (arith, e)) (λ i b. ap (λ j. thread_said (get_or rows j no_thread_row)) (shift i) ∙ h (suc i) (omega arith))))
  where
    shift : (i : ℕ) → suc t + i ≡ t + suc i
    shift i = omega arith

    first : t + 0 ≡ t
    first = omega arith

    state : (get_or rows t no_thread_row).state ≡ x.state
    state = ap (λ j. (get_or rows j no_thread_row).state) (sym first) ∙ ap (λ (y : rules.ThreadRow). y.state) (h 0 (omega arith))

-- ---- the rows of a page

module _ (x : Page) where
  -- how many rows there are
  pub rows_many : length (said x).threads ≡ x.threads
  unfolding said
  rows_many = length_tabulate x.threads (λ t. thread_said (get_or x.threadrows t no_thread_row))

  -- threads
  pub threads_many : length (rows_of (said x)).threads ≡ x.threads
  threads_many = many (said x) ∙ rows_many

  -- mutexes
  pub mutexes_many : length (rows_of (said x)).mutexes ≡ x.mutexes
  unfolding rows_of said
  mutexes_many = length_tabulate x.mutexes (λ m. mutex_said (get_or x.mutexrows m no_mutex_row))

  -- condition variables
  pub ties_many : length (rows_of (said x)).ties ≡ x.conditions
  unfolding rows_of said
  ties_many = length_tabulate x.conditions (λ c. get_or x.ties c 0)

  -- the row of a thread
  pub thread_said_lem : (t : ℕ) → t < x.threads → thread_row (said x) t ≡ thread_said (get_or x.threadrows t no_thread_row)
  unfolding said
  thread_said_lem t l = get_d_tabulate x.threads (λ u. thread_said (get_or x.threadrows u no_thread_row)) t no_row l

module _ (x : Page) (formed : page_formed (said x) ≡ true) (e : page_sound (said x) ≡ true) where
  -- a sound page has no more rows than fit: threads
  pub threads_few : x.threads ≤ 32
  threads_few = omega (arith, threads_many x, (facts (said x) formed e).few)

  -- mutexes
  mutexes_few : x.mutexes ≤ 16
  mutexes_few = omega (arith, mutexes_many x, (facts (said x) formed e).few_mutexes)

  -- condition variables
  ties_few : x.conditions ≤ 16
  ties_few = omega (arith, ties_many x, (facts (said x) formed e).few_ties)

  -- the rows of the mutexes
  mutexes_said : mutex_rows x.mutexrows x.mutexes ≡ tabulate 16 (mutex_in (rows_of (said x)))
  unfolding mutex_rows rows_of said
  mutexes_said = table_said 16 x.mutexes (λ m. get_or x.mutexrows m no_mutex_row) free_row mutexes_few
      (λ y. record { ceiling = y.ceiling; owner = y.owner; count = y.count }) (λ m. mutex_said (get_or x.mutexrows m no_mutex_row)) no_mutex (λ i l. refl) refl

  -- and the ties
  ties_said : tie_rows x.ties x.conditions ≡ tabulate 16 (tied (rows_of (said x)))
  unfolding tie_rows rows_of said
  ties_said = table_said 16 x.conditions (λ c. get_or x.ties c 0) 255 ties_few (λ y. y) (λ c. get_or x.ties c 0) 255 (λ i l. refl) refl

  -- the row of a thread that stands nowhere
  row_first : (t base level : ℕ) → base ≡ (thread (rows_of (said x)) t).base → level ≡ priority (rows_of (said x)) t
      → record { base = base; priority = level; state = 2; object = 255 } ≡ thread_in (stage_at (said x) 0 0).rows t
  unfolding state_code object_code
  row_first t base level b q = λ i. record {
    base = (b ∙ sym (first_base (said x) t)) i;
    priority = (q ∙ sym (first_priority (said x) t)) i;
    state = (ap state_code (sym (first_stands (said x) t))) i;
    object = (ap object_code (sym (first_stands (said x) t))) i;
  }

  -- the rows of the threads
  threads_said : thread_rows x.threadrows (mutex_rows x.mutexrows x.mutexes) x.threads ≡ tabulate 32 (thread_in (stage_at (said x) 0 0).rows)
  unfolding thread_rows
  threads_said = table_is 32 x.threads (λ t. running_row ms (get_or x.threadrows t no_thread_row) t) blank_row threads_few (thread_in (stage_at (said x) 0 0).rows) used past
    where
      ms : List scheduler.Mutex
      ms = mutex_rows x.mutexrows x.mutexes

      -- a thread in use
      used : (t : ℕ) → t < 32 → t < x.threads → running_row ms (get_or x.threadrows t no_thread_row) t ≡ thread_in (stage_at (said x) 0 0).rows t
      used t l b = unfold running_row in (row_first t base (max base (highest_in ms t)) base_is (unfold priority in (ap₂ max base_is highest)))
        where
          base : ℕ
          base = (get_or x.threadrows t no_thread_row).base

          base_is : (get_or x.threadrows t no_thread_row).base ≡ (thread (rows_of (said x)) t).base
          base_is = sym (ap (λ (y : Thread). y.base) (thread_of_lem (said x) t) ∙ ap (λ (y : rules.ThreadRow). y.base) (thread_said_lem x t b))

          highest : highest_in (mutex_rows x.mutexrows x.mutexes) t ≡ highest_ceiling (rows_of (said x)).mutexes t
          highest = ap (λ m. highest_in m t) mutexes_said ∙ highest_stands (rows_of (said x)) t l (facts (said x) formed e).few_mutexes

      -- one that is not there owns nothing
      past : (t : ℕ) → t < 32 → x.threads ≤ t → blank_row ≡ thread_in (stage_at (said x) 0 0).rows t
      past t l b = row_first t 0 0 none (none ∙ sym (priority_base (rows_of (said x)) t owns))
        where
          none : 0 ≡ (thread (rows_of (said x)) t).base
          none = sym (ap (λ (y : Thread). y.base) (get_or-eq_default (rows_of (said x)).threads no_thread {n = t} (rw (threads_many x) b)))

          owns : (m : ℕ) → (mutex (rows_of (said x)) m).owner ≡ t → ⊥
          owns m d = omega (arith, ((facts (said x) formed e).held m (λ z. omega (arith, z, d, l))).exists, d, threads_many x, b)

  -- the running thread
  runner_is_said : runner_in x.threadrows (min x.threads 32) 0 ≡ (rows_of (said x)).runner
  runner_is_said = ap (λ n. runner_in x.threadrows n 0) (all_fit x.threads 32 threads_few)
      ∙ runner_said x.threadrows x.threads 0 (said x).threads (rows_many x) (λ i l. ap (λ j. thread_said (get_or x.threadrows j no_thread_row)) (from_zero i) ∙ sym (thread_said_lem x i l))
      ∙ (unfold rows_of in refl)
    where
      from_zero : (i : ℕ) → 0 + i ≡ i
      from_zero i = omega arith

  -- nobody is in a queue
  links_said : empty_links ≡ links_of (flatten (all_sets (stage_at (said x) 0 0).sets))
  unfolding links_of empty_links
  links_said = ap (λ l. record { next = l }) (sym (tabulate_one 32 255)
      ∙ tabulate_same 32 (λ t. 255) (λ t. link_of t (flatten (all_sets (stage_at (said x) 0 0).sets))) (λ t. sym (link_none t (flatten (all_sets (stage_at (said x) 0 0).sets)) (absent (first_queued (said x)) t (first_stands (said x) t)))))

  -- and every set is empty
  empty_said : (w : Where) → empty_queues ≡ queues_of (set_at (stage_at (said x) 0 0).sets w)
  empty_said w = sym (ap queues_of (first_sets (said x) w) ∙ (unfold queues_of empty_set empty_queues ends_of in refl))

  -- so are those of all places of one kind
  sets_said : (place : ℕ → Where) → replicate 16 empty_queues ≡ tabulate 16 (λ m. queues_of (set_at (stage_at (said x) 0 0).sets (place m)))
  sets_said place = sym (tabulate_one 16 empty_queues) ∙ tabulate_same 16 (λ m. empty_queues) (λ m. queues_of (set_at (stage_at (said x) 0 0).sets (place m))) (λ m. empty_said (place m))

  -- all of it together
  pub blank_stands : blank_scheduler x ≡ scheduler_of (stage_at (said x) 0 0)
  unfolding blank_scheduler scheduler_of threads_of stage_at stage set_at
  blank_stands = λ i. record {
    threads = record { rows = threads_said i; links = links_said i; ready = empty_said ready i };
    mutexes = mutexes_said i;
    formutex = sets_said for_mutex i;
    ties = ties_said i;
    oncondition = sets_said on_condition i;
    running = runner_is_said i;
  }
