-- A page's rows and a state's rows: each number of a row and what it means tell each other, row by row and table by table, and the one
-- running thread of a table is found in it.
-- Assumes nothing.
use Prim.Native.Nat.{ℕ, zero, suc, ◌+◌, ◌<◌}
use mathlib.Core.Path.{◌≡◌, refl, sym, ap₂, ◌∙◌}
use mathlib.Core.Bool.{Bool, true, false, not, ◌||◌}
use mathlib.Core.List.{List, [], ◌∷◌, map}
use native.Mathlib.Omega.{arith}
use native.Mathlib.Nat.{not-suc-le-zero, le_of_suc-le-suc}
use lib.ListN.{length, get_or, get_or-map}
use lib.Seq.{ext_get_or}
use lib.Dec.{eqb, ltb, leb}
use borrow.Author.Tests.{eqb-true, ltb-false, leb-true, not-true}
use Rattle.laws.specs.Lists.{tabulate}
use Rattle.laws.proofs.Bools.{by_cases, nor_left, nor_right, and_left, and_right, and_both}
use Rattle.laws.proofs.Lists.{by_equal, length_tabulate, get_d_tabulate}
use Rattle.units.specs.Units.{outside}
use Rattle.rules.specs.State.{Where, running, ready, for_mutex, on_condition, same, Thread, TimerState, stopped, one_shot, periodic, Timer, no_thread, thread}
use Rattle.rules.specs.Page.{ThreadRow, TimerRow, Page, no_row, thread_row, where_of, timer_state_of, thread_of, timer_of, runner_from, rows_of, object_sound, thread_formed, timer_formed, each_row, state_code, object_code, timer_code, timer_row_of}
use Rattle.rules_soundness.proofs.Rows.{same_true}

-- ---- numbers and what they mean

-- where a thread stands is read from its two numbers
pub where_found : (w : Where) → where_of (state_code w) (object_code w) ≡ w
unfolding where_of state_code object_code
where_found running = refl
where_found ready = refl
where_found (for_mutex m) = refl
where_found (on_condition c) = refl

-- its state is 1 to 4, and its object 255 for 1 and 2
pub state_formed : (w : Where) → not (outside 1 4 (state_code w)) ≡ true
unfolding state_code
state_formed running = refl
state_formed ready = refl
state_formed (for_mutex m) = refl
state_formed (on_condition c) = refl

pub object_formed : (w : Where) → (leb 3 (state_code w) || eqb (object_code w) 255) ≡ true
unfolding state_code object_code
object_formed running = refl
object_formed ready = refl
object_formed (for_mutex m) = refl
object_formed (on_condition c) = refl

-- a thread state is 1, 2, 3 or 4
by_state : (X : ℕ → Type 0) (n : ℕ) → not (outside 1 4 n) ≡ true → X 1 → X 2 → X 3 → X 4 → X n
by_state X n e a b c d =
    let z = not-true (outside 1 4 n) e in
    let low = ltb-false n 1 (nor_left (ltb n 1) (ltb 4 n) z) in
    let high = ltb-false 4 n (nor_right (ltb n 1) (ltb 4 n) z) in
    by_equal n 1 (λ q. rw q a) (λ q. by_equal n 2 (λ r. rw r b) (λ r. by_equal n 3 (λ v. rw v c) (λ v.
    let w : n ≡ 4 = omega (arith, low, high, q, r, v) in rw w d)))

-- and the two numbers are read from where the thread stands
pub state_found : (x : ThreadRow) → thread_formed x ≡ true → state_code (where_of x.state x.object) ≡ x.state
unfolding where_of state_code
state_found x e = by_state (λ n. state_code (where_of n x.object) ≡ n) x.state e refl refl refl refl

pub object_found : (x : ThreadRow) → thread_formed x ≡ true → object_sound x ≡ true → object_code (where_of x.state x.object) ≡ x.object
unfolding where_of object_code
object_found x e = by_state (λ n. (leb 3 n || eqb x.object 255) ≡ true → object_code (where_of n x.object) ≡ x.object) x.state e none none (λ h. refl) (λ h. refl)
  where
    none : eqb x.object 255 ≡ true → 255 ≡ x.object
    none h = sym (eqb-true x.object 255 h)

-- timers
pub timer_found : (x : Timer) → timer_of (timer_row_of x) ≡ x
timer_found x = λ i. record { state = go x.state i; condition = x.condition; length = x.length; left = x.left }
  where
    go : (s : TimerState) → timer_state_of (timer_code s) ≡ s
    go stopped = unfold timer_state_of timer_code in refl
    go one_shot = unfold timer_state_of timer_code in refl
    go periodic = unfold timer_state_of timer_code in refl

pub timer_formed_lem : (x : Timer) → timer_formed (timer_row_of x) ≡ true
timer_formed_lem x = go x.state
  where
    go : (s : TimerState) → leb (timer_code s) 2 ≡ true
    go stopped = unfold timer_code in refl
    go one_shot = unfold timer_code in refl
    go periodic = unfold timer_code in refl

pub timer_row_found : (x : TimerRow) → timer_formed x ≡ true → timer_row_of (timer_of x) ≡ x
timer_row_found x e = λ i. record { state = go i; condition = x.condition; length = x.length; left = x.left }
  where
    go : timer_code (timer_state_of x.state) ≡ x.state
    go = unfold timer_state_of timer_code in by_equal x.state 0 (λ q. rw q) (λ q. by_equal x.state 1 (λ r. rw r) (λ r.
        let w : x.state ≡ 2 = omega (arith, leb-true x.state 2 e, q, r) in rw w))

-- ---- tables

module _ {A : Type 0} (f : A → Bool) where
  -- each row of a table passes
  pub row_passes : (l : List A) (i : ℕ) (d : A) → each_row f l ≡ true → i < length l → f (get_or l i d) ≡ true
  unfolding each_row
  row_passes [] i d e h = absurd (not-suc-le-zero h)
  row_passes (x ∷ l) zero d e h = and_left (f x) (each_row f l) e
  row_passes (x ∷ l) (suc i) d e h = row_passes l i d (and_right (f x) (each_row f l) e) (le_of_suc-le-suc h)

  pub tabulate_passes : (n : ℕ) (g : ℕ → A) → ((i : ℕ) → f (g i) ≡ true) → each_row f (tabulate n g) ≡ true
  unfolding each_row tabulate
  tabulate_passes zero g h = refl
  tabulate_passes (suc n) g h = and_both (f (g 0)) (each_row f (tabulate n (λ i. g (suc i)))) (h 0) (tabulate_passes n (λ i. g (suc i)) (λ i. h (suc i)))

  pub map_passes : {B : Type 0} (g : B → A) (l : List B) → ((x : B) → f (g x) ≡ true) → each_row f (map g l) ≡ true
  unfolding each_row
  map_passes g [] h = refl
  map_passes g (x ∷ l) h = and_both (f (g x)) (each_row f (map g l)) (h x) (map_passes g l h)

  -- a table there and back
  pub map_back : {B : Type 0} (to : A → B) (back : B → A) → ((x : A) → f x ≡ true → back (to x) ≡ x) → (l : List A) → each_row f l ≡ true → map back (map to l) ≡ l
  unfolding each_row
  map_back to back h [] e = refl
  map_back to back h (x ∷ l) e = ap₂ (λ y m. y ∷ m) (h x (and_left (f x) (each_row f l) e)) (map_back to back h l (and_right (f x) (each_row f l) e))

-- every row passes what every value passes
pub all_pass : {A : Type 0} (l : List A) → each_row (λ x. true) l ≡ true
unfolding each_row
all_pass [] = refl
all_pass (x ∷ l) = all_pass l

-- a table by its rows
pub tabulate_is : {A : Type 0} (d : A) (n : ℕ) (g : ℕ → A) (l : List A) → length l ≡ n → ((i : ℕ) → i < n → g i ≡ get_or l i d) → tabulate n g ≡ l
tabulate_is d n g l e h = ext_get_or d (tabulate n g) l (length_tabulate n g ∙ sym e) (λ i b. let z = rw (length_tabulate n g) at b in get_d_tabulate n g i d z ∙ h i z)

-- a thread of the rows is what the page's row says, also outside the table
pub thread_of_lem : (p : Page) (t : ℕ) → thread (rows_of p) t ≡ thread_of (thread_row p t)
unfolding rows_of where_of
thread_of_lem p t = get_or-map thread_of p.threads t no_row

-- ---- the running thread

-- it is found where it stands
pub runner_is : (l : List Thread) (i t : ℕ) → t < length l → (get_or l t no_thread).stands ≡ running → ((u : ℕ) → u < length l → (get_or l u no_thread).stands ≡ running → u ≡ t) → runner_from i l ≡ i + t
unfolding runner_from same
runner_is [] i t h e only = absurd (not-suc-le-zero h)
runner_is (x ∷ l) i zero h e only = rw e (omega arith)
runner_is (x ∷ l) i (suc t) h e only = by_cases (same x.stands running)
    (λ y. absurd (omega (arith, only 0 (omega arith) (same_true x.stands running y))))
    (λ y. rw y (runner_is l (suc i) t (le_of_suc-le-suc h) e (λ u k z. omega (arith, only (suc u) (omega arith) z)) ∙ omega arith))

-- and 255 where none runs
pub runner_none : (l : List Thread) (i : ℕ) → ((u : ℕ) → u < length l → same (get_or l u no_thread).stands running ≡ false) → runner_from i l ≡ 255
unfolding runner_from
runner_none [] i h = refl
runner_none (x ∷ l) i h = rw (h 0 (omega arith)) (runner_none l (suc i) (λ u k. h (suc u) (omega arith)))
