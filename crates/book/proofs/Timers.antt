-- A tick: the timers that are due in the book are those that have one tick left, and each leaves the two alike.
-- Assumes nothing.
use Prim.Native.Nat.{ℕ, zero, suc, ◌+◌, ◌-◌, ◌<◌, ◌≤◌}
use mathlib.Core.Path.{◌≡◌, refl, sym, ap, ap₂, ◌∙◌, subst}
use mathlib.Core.Bool.{Bool, true, false, cond, ◌&&◌, false≢true}
use mathlib.Core.List.{List, [], ◌∷◌, ◌++◌, map}
use native.Mathlib.Omega.{arith}
use native.Mathlib.Nat.{not-suc-le-zero, le_of_suc-le-suc}
use lib.ListN.{length, get_or, set, take, length-map, length-append, get_or-map}
use lib.Seq.{set-get_or, take_all}
use lib.Dec.{eqb, ltb}
use borrow.Author.Tests.{eqb-true, eq-eqb, ne_eqb}
use Rattle.laws.proofs.Bools.{by_cases, and_left, and_right}
use Rattle.laws.proofs.Lists.{by_equal}
use Rattle.rules.specs.State.{TimerState, stopped, one_shot, periodic, Scheduler}
use Rattle.rules.specs.State as S
use Rattle.rules.specs.Effects.{goes, is_due, after_due, ticked, due_conditions, signalled, signalled_each}
use Rattle.rules_soundness.proofs.Next.{Kept}
use Rattle.rules_soundness.proofs.Calls.{Going, Left, AllBelow, left_each}
use Rattle.book.specs.Book.{Book, Timer, Found, nobody, somebody, mutex, tied, timer, stopped_timer, with_timers, next_tick, stand, own, priority, stands_at, highest_earliest, arrive, arrive_in_front}
use Rattle.book.specs.Turns.{runs, run, run_first, acquire, become_owner, hand_over, release, tie, wait, leave, untie, wake, signal, signals, renewed, expire, expire_below, turn_to, run_next}
use Rattle.book.proofs.Alike.{Alike}
use Rattle.book.proofs.Calls.{alike_signalled}

-- ---- what signals and the rule of three leave as they were

pub record Timeless (b l : Book) : Type 0 where
  pub timers : l.timers ≡ b.timers
  pub count : l.count ≡ b.count

timeless_trans : {b l i : Book} → Timeless b l → Timeless l i → Timeless b i
timeless_trans x y = record { timers = y.timers ∙ x.timers; count = y.count ∙ x.count }

timeless_self : (b : Book) → Timeless b b
timeless_self b = record { timers = refl; count = refl }

-- one of two
timeless_cond : (b : Book) (y : Bool) (l i : Book) → Timeless b l → Timeless b i → Timeless b (cond y l i)
timeless_cond b true l i x z = x
timeless_cond b false l i x z = z

timeless_arrive : (b : Book) (t : ℕ) (w : S.Where) → Timeless b (arrive b t w)
unfolding arrive stand
timeless_arrive b t w = record { timers = refl; count = refl }

timeless_front : (b : Book) (t : ℕ) → Timeless b (arrive_in_front b t)
unfolding arrive_in_front stand
timeless_front b t = record { timers = refl; count = refl }

timeless_leave : (b : Book) (m t : ℕ) → Timeless b (leave b m t)
unfolding leave
timeless_leave b m t = timeless_cond b (eqb (mutex b m).owner 255) (become_owner b m t) (arrive b t (S.for_mutex m))
    (unfold become_owner arrive stand own in record { timers = refl; count = refl }) (timeless_arrive b t (S.for_mutex m))

timeless_untie : (b : Book) (c : ℕ) (f : Found) → Timeless b (untie b c f)
unfolding untie tie
timeless_untie b c nobody = record { timers = refl; count = refl }
timeless_untie b c (somebody t) = timeless_self b

pub timeless_wake : (b : Book) (c : ℕ) (f : Found) → Timeless b (wake b c f).book
unfolding wake
timeless_wake b c nobody = timeless_self b
timeless_wake b c (somebody t) = timeless_trans (timeless_leave b (tied b c) t) (timeless_untie (leave b (tied b c) t) c (highest_earliest (leave b (tied b c) t) (S.on_condition c)))

timeless_run : (b : Book) (f : Found) → Timeless b (run b f)
unfolding run stand
timeless_run b nobody = timeless_self b
timeless_run b (somebody t) = record { timers = refl; count = refl }

timeless_turn : (at_tick : Bool) (b : Book) (f : Found) → Timeless b (turn_to at_tick b f)
unfolding turn_to
timeless_turn at_tick b nobody = timeless_self b
timeless_turn at_tick b (somebody t) = timeless_cond b (ltb (priority b b.runner) (priority b t)) _ _
    (timeless_trans (timeless_front b b.runner) (timeless_run (arrive_in_front b b.runner) (highest_earliest (arrive_in_front b b.runner) S.ready)))
    (timeless_cond b (at_tick && eqb (priority b b.runner) (priority b t)) _ _
    (timeless_trans (timeless_arrive b b.runner S.ready) (timeless_run (arrive b b.runner S.ready) (highest_earliest (arrive b b.runner S.ready) S.ready))) (timeless_self b))

pub timeless_next : (at_tick : Bool) (b : Book) → Timeless b (run_next at_tick b)
unfolding run_next
timeless_next at_tick b = timeless_cond b b.started _ b
    (timeless_cond b (stands_at b S.running b.runner) _ _ (timeless_turn at_tick b (highest_earliest b S.ready)) (timeless_run b (highest_earliest b S.ready))) (timeless_self b)

-- ---- one timer

-- a timer as the kernel keeps it: with the ticks left
abbrev pub left_at : ℕ → Timer → S.Timer
left_at now x = record { state = x.state; condition = x.condition; length = x.length; left = x.due - now }

-- whether a timer is due at tick n
abbrev due_at : ℕ → Timer → Bool
due_at n x = runs x.state && eqb x.due n

-- a timer after tick n
abbrev pub after_tick : ℕ → Timer → Timer
after_tick n x = cond (due_at n x) (renewed x x.state) x

pub runs_goes : (s : TimerState) → goes s ≡ runs s
unfolding runs
runs_goes stopped = refl
runs_goes one_shot = refl
runs_goes periodic = refl

-- due at the next tick is one tick left
one_left : (now due : ℕ) → eqb (due - now) 1 ≡ eqb due (now + 1)
one_left now due = by_equal due (now + 1)
    (λ e. eq-eqb (due - now) 1 (omega arith) ∙ sym (eq-eqb due (now + 1) e))
    (λ e. ne_eqb (due - now) 1 (λ z. e (omega arith)) ∙ sym (ne_eqb due (now + 1) e))

due_alike : (now : ℕ) (x : Timer) → is_due (left_at now x) ≡ due_at (now + 1) x
due_alike now x = ap₂ ◌&&◌ (runs_goes x.state) (one_left now x.due)

-- a timer that was due
expired_alike : (now : ℕ) (x : Timer) (s : TimerState) → x.due ≡ now + 1 → runs s ≡ true → after_due s (left_at now x) ≡ left_at (now + 1) (renewed x s)
unfolding runs renewed
expired_alike now x stopped e r = absurd (false≢true r)
expired_alike now x one_shot e r = λ i. record { state = stopped; condition = 255; length = 0; left = none i }
  where
    none : 0 ≡ 0 - (now + 1)
    none = omega arith
expired_alike now x periodic e r = λ i. record { state = periodic; condition = x.condition; length = x.length; left = again i }
  where
    again : x.length ≡ x.due + x.length - (now + 1)
    again = omega (arith, e)

-- a timer after one more tick
ticked_alike : (now : ℕ) (x : Timer) → ticked (left_at now x) ≡ left_at (now + 1) (after_tick (now + 1) x)
unfolding ticked
ticked_alike now x = rw (due_alike now x) (by_cases (due_at (now + 1) x)
    (λ e. rw e (expired_alike now x x.state (eqb-true x.due (now + 1) (and_right (runs x.state) (eqb x.due (now + 1)) e)) (and_left (runs x.state) (eqb x.due (now + 1)) e)))
    (λ e. rw e (λ i. record { state = x.state; condition = x.condition; length = x.length; left = fewer i })))
  where
    fewer : x.due - now - 1 ≡ x.due - (now + 1)
    fewer = omega arith

pub all_ticked : (now : ℕ) (xs : List Timer) → map ticked (map (left_at now) xs) ≡ map (left_at (now + 1)) (map (after_tick (now + 1)) xs)
all_ticked now [] = refl
all_ticked now (x ∷ xs) = ap₂ (λ y ys. y ∷ ys) (ticked_alike now x) (all_ticked now xs)

-- ---- the timers one after the other

module _ {A : Type 0} (f : A → A) where
  -- the first i of a list changed
  changed : ℕ → List A → List A
  changed zero xs = xs
  changed (suc i) [] = []
  changed (suc i) (x ∷ xs) = f x ∷ changed i xs

  changed_at : (i : ℕ) (xs : List A) (d : A) → get_or (changed i xs) i d ≡ get_or xs i d
  unfolding changed
  changed_at zero xs d = refl
  changed_at (suc i) [] d = refl
  changed_at (suc i) (x ∷ xs) d = changed_at i xs d

  changed_next : (i : ℕ) (xs : List A) (d : A) → set (changed i xs) i (f (get_or xs i d)) ≡ changed (suc i) xs
  unfolding changed
  changed_next zero [] d = refl
  changed_next zero (x ∷ xs) d = refl
  changed_next (suc i) [] d = refl
  changed_next (suc i) (x ∷ xs) d = ap (λ l. f x ∷ l) (changed_next i xs d)

  changed_all : (xs : List A) → changed (length xs) xs ≡ map f xs
  unfolding changed
  changed_all [] = refl
  changed_all (x ∷ xs) = ap (λ l. f x ∷ l) (changed_all xs)

-- the condition variables of the due ones among the first i, and one more
due_next_lem : (i : ℕ) (xs : List S.Timer) (d : S.Timer) → i < length xs
    → due_conditions (take (suc i) xs) ≡ due_conditions (take i xs) ++ cond (is_due (get_or xs i d)) ((get_or xs i d).condition ∷ []) []
unfolding due_conditions
due_next_lem i [] d l = absurd (not-suc-le-zero l)
due_next_lem zero (x ∷ xs) d l = refl
due_next_lem (suc i) (x ∷ xs) d l = by_cases (is_due x)
    (λ e. rw e (ap (λ q. x.condition ∷ q) (due_next_lem i xs d (le_of_suc-le-suc l))))
    (λ e. rw e (due_next_lem i xs d (le_of_suc-le-suc l)))

-- all of them exist if all of the table's do
due_first : (n i : ℕ) (xs : List S.Timer) → AllBelow n (due_conditions xs) → AllBelow n (due_conditions (take i xs))
unfolding due_conditions
due_first n zero xs h = tt
due_first n (suc i) [] h = tt
due_first n (suc i) (x ∷ xs) h = go (is_due x) h (due_first n i xs)
  where
    go : (y : Bool) → AllBelow n (cond y (x.condition ∷ due_conditions xs) (due_conditions xs)) → (AllBelow n (due_conditions xs) → AllBelow n (due_conditions (take i xs)))
        → AllBelow n (cond y (x.condition ∷ due_conditions (take i xs)) (due_conditions (take i xs)))
    go true q r = (q.0, r q.1)
    go false q r = r q

below_last : (n : ℕ) (cs : List ℕ) (c : ℕ) → AllBelow n (cs ++ (c ∷ [])) → c < n
below_last n [] c h = h.0
below_last n (d ∷ cs) c h = below_last n cs c h.1

each_append : (h : Scheduler) (cs ds : List ℕ) → signalled_each h (cs ++ ds) ≡ signalled_each (signalled_each h cs) ds
unfolding signalled_each
each_append h [] ds = refl
each_append h (c ∷ cs) ds = each_append (signalled h c) cs ds

-- ---- the tick

-- what a timer of the book that may be due leaves
expire_timers : (b : Book) (i : ℕ) → (expire b i).book.timers ≡ set b.timers i (after_tick b.count (timer b i))
unfolding expire
expire_timers b i = by_cases (due_at b.count (timer b i))
    (λ e. rw e (timeless_wake (renewing b i) (timer b i).condition (highest_earliest (renewing b i) (S.on_condition (timer b i).condition))).timers)
    (λ e. rw e (sym (set-get_or b.timers i stopped_timer)))
  where
    renewing : Book → ℕ → Book
    renewing b i = with_timers b (set b.timers i (renewed (timer b i) (timer b i).state))

expire_count : (b : Book) (i : ℕ) → (expire b i).book.count ≡ b.count
unfolding expire
expire_count b i = by_cases (due_at b.count (timer b i))
    (λ e. rw e (timeless_wake (renewing b i) (timer b i).condition (highest_earliest (renewing b i) (S.on_condition (timer b i).condition))).count)
    (λ e. rw e)
  where
    renewing : Book → ℕ → Book
    renewing b i = with_timers b (set b.timers i (renewed (timer b i) (timer b i).state))

-- timers are no part of what is alike
alike_timers : {h : Scheduler} {b : Book} (xs : List Timer) → Alike h b → Alike h (with_timers b xs)
alike_timers xs a = record { rows = a.rows; marked = a.marked }

-- a timer that may be due, on both sides
expire_alike : {h : Scheduler} {b : Book} → Alike h b → Kept h → (i : ℕ) → (due_at b.count (timer b i) ≡ true → (timer b i).condition < length h.rows.ties)
    → Alike (signalled_each h (cond (due_at b.count (timer b i)) ((timer b i).condition ∷ []) [])) (expire b i).book
unfolding expire signalled_each
expire_alike {h} {b} a o i there = by_cases (due_at b.count (timer b i))
    (λ e. rw e (alike_signalled (alike_timers (set b.timers i (renewed (timer b i) (timer b i).state)) a) o (timer b i).condition (there e)))
    (λ e. rw e a)

expire_given : (b : Book) (i : ℕ) → (expire b i).given ≡ length (cond (due_at b.count (timer b i)) ((timer b i).condition ∷ []) [])
unfolding expire
expire_given b i = by_cases (due_at b.count (timer b i)) (λ e. rw e) (λ e. rw e)

module _ {h : Scheduler} {b : Book} (a : Alike h b) (o : Kept h) (g : Going h.rows) (exist : AllBelow (length h.rows.ties) (due_conditions (map (left_at b.count) b.timers))) where
  -- the kernel's timers
  abbrev kept_timers : List S.Timer
  kept_timers = map (left_at b.count) b.timers

  -- the scheduler and the book after the first i timers
  abbrev signalled_first : ℕ → Scheduler
  signalled_first i = signalled_each h (due_conditions (take i kept_timers))

  record Upto (i : ℕ) : Type 0 where
    alike : Alike (signalled_first i) (expire_below i (next_tick b)).book
    given : (expire_below i (next_tick b)).given ≡ length (due_conditions (take i kept_timers))
    timers : (expire_below i (next_tick b)).book.timers ≡ changed (after_tick (b.count + 1)) i b.timers
    count : (expire_below i (next_tick b)).book.count ≡ b.count + 1

  -- the condition variable of timer i, if that is due
  abbrev perhaps : ℕ → List ℕ
  perhaps i = let x = get_or b.timers i stopped_timer in cond (due_at (b.count + 1) x) (x.condition ∷ []) []

  first_next : (i : ℕ) → i < length b.timers → due_conditions (take (suc i) kept_timers) ≡ due_conditions (take i kept_timers) ++ perhaps i
  first_next i l = due_next_lem i kept_timers (left_at b.count stopped_timer) (rw (length-map b.timers (left_at b.count)) l)
      ∙ ap (λ q. due_conditions (take i kept_timers) ++ q) (ap (λ (x : S.Timer). cond (is_due x) (x.condition ∷ []) []) (get_or-map (left_at b.count) b.timers i stopped_timer)
      ∙ ap (λ y. cond y ((get_or b.timers i stopped_timer).condition ∷ []) []) (due_alike b.count (get_or b.timers i stopped_timer)))

  module _ (i : ℕ) (l : i < length b.timers) (u : Upto i) where
    abbrev before_it : Book
    before_it = (expire_below i (next_tick b)).book

    so_far : Left Going h (signalled_first i)
    so_far = left_each (due_conditions (take i kept_timers)) o g (due_first (length h.rows.ties) i kept_timers exist)

    is_timer : timer before_it i ≡ get_or b.timers i stopped_timer
    is_timer = ap (λ xs. get_or xs i stopped_timer) u.timers ∙ changed_at (after_tick (b.count + 1)) i b.timers stopped_timer

    is_perhaps : cond (due_at before_it.count (timer before_it i)) ((timer before_it i).condition ∷ []) [] ≡ perhaps i
    is_perhaps = ap₂ (λ n (x : Timer). cond (due_at n x) (x.condition ∷ []) []) u.count is_timer

    there : due_at (b.count + 1) (get_or b.timers i stopped_timer) ≡ true → (get_or b.timers i stopped_timer).condition < length (signalled_first i).rows.ties
    there e = rw so_far.ties (below_last (length h.rows.ties) (due_conditions (take i kept_timers)) (get_or b.timers i stopped_timer).condition
        (subst (AllBelow (length h.rows.ties)) (first_next i l ∙ ap (λ y. due_conditions (take i kept_timers) ++ cond y ((get_or b.timers i stopped_timer).condition ∷ []) []) e)
        (due_first (length h.rows.ties) (suc i) kept_timers exist)))

    next : Upto (suc i)
    unfolding expire_below
    next = record {
      alike = subst (λ cs. Alike (signalled_each h cs) (expire before_it i).book) (sym (first_next i l))
          (subst (λ k. Alike k (expire before_it i).book) (sym (each_append h (due_conditions (take i kept_timers)) (perhaps i)))
          (subst (λ cs. Alike (signalled_each (signalled_first i) cs) (expire before_it i).book) is_perhaps
          (expire_alike u.alike so_far.kept i (λ e. rw is_timer (there (sym (ap₂ due_at u.count is_timer) ∙ e))))));
      given = ap₂ ◌+◌ u.given (expire_given before_it i ∙ ap length is_perhaps) ∙ sym (length-append (due_conditions (take i kept_timers)) (perhaps i)) ∙ ap length (sym (first_next i l));
      timers = expire_timers before_it i ∙ rw (u.timers, u.count, changed_at (after_tick (b.count + 1)) i b.timers stopped_timer) (changed_next (after_tick (b.count + 1)) i b.timers stopped_timer);
      count = expire_count before_it i ∙ u.count;
    }

  upto : (i : ℕ) → i ≤ length b.timers → Upto i
  unfolding expire_below due_conditions signalled_each changed
  upto zero l = record { alike = record { rows = a.rows; marked = a.marked }; given = refl; timers = refl; count = refl }
  upto (suc i) l = next i l (upto i (omega arith))

  -- all of them
  all_taken : take (length b.timers) kept_timers ≡ kept_timers
  all_taken = take_all (length b.timers) kept_timers (rw (length-map b.timers (left_at b.count)) (omega arith))

  abbrev whole : Upto (length b.timers)
  whole = upto (length b.timers) (omega arith)

  pub tick_alike : Alike (signalled_each h (due_conditions kept_timers)) (expire_below (length b.timers) (next_tick b)).book
  tick_alike = subst (λ xs. Alike (signalled_each h (due_conditions xs)) (expire_below (length b.timers) (next_tick b)).book) all_taken whole.alike

  pub tick_given : length (due_conditions kept_timers) ≡ (expire_below (length b.timers) (next_tick b)).given
  tick_given = sym (whole.given ∙ ap (λ xs. length (due_conditions xs)) all_taken)

  pub tick_timers : (expire_below (length b.timers) (next_tick b)).book.timers ≡ map (after_tick (b.count + 1)) b.timers
  tick_timers = whole.timers ∙ changed_all (after_tick (b.count + 1)) b.timers

  pub tick_count : (expire_below (length b.timers) (next_tick b)).book.count ≡ b.count + 1
  tick_count = whole.count

-- ---- what the other calls leave as it was

pub timeless_own : (b : Book) (m t n : ℕ) → Timeless b (own b m t n)
unfolding own
timeless_own b m t n = record { timers = refl; count = refl }

pub timeless_first : (b : Book) → Timeless b (run_first b)
timeless_first b = timeless_run b (highest_earliest b S.ready)

pub timeless_acquire : (b : Book) (m : ℕ) → Timeless b (acquire b m)
unfolding acquire
timeless_acquire b m = timeless_cond b (eqb (mutex b m).owner b.runner) _ _ (timeless_own b m b.runner ((mutex b m).count + 1))
    (timeless_cond b (eqb (mutex b m).owner 255) _ _ (timeless_own b m b.runner 1) (timeless_arrive b b.runner (S.for_mutex m)))

timeless_hand : (b : Book) (m : ℕ) (f : Found) → Timeless b (hand_over b m f)
unfolding hand_over become_owner
timeless_hand b m nobody = timeless_own b m 255 0
timeless_hand b m (somebody t) = timeless_trans (timeless_own b m t 1) (timeless_arrive (own b m t 1) t S.ready)

pub timeless_release : (b : Book) (m : ℕ) → Timeless b (release b m)
unfolding release
timeless_release b m = timeless_cond b (ltb 1 (mutex b m).count) _ _ (timeless_own b m b.runner ((mutex b m).count - 1)) (timeless_hand b m (highest_earliest b (S.for_mutex m)))

pub timeless_wait : (b : Book) (c m : ℕ) → Timeless b (wait b c m)
unfolding wait
timeless_wait b c m = timeless_trans (timeless_release b m) (timeless_trans tied_now (timeless_arrive (tie (release b m) c m) (release b m).runner (S.on_condition c)))
  where
    tied_now : Timeless (release b m) (tie (release b m) c m)
    tied_now = unfold tie in record { timers = refl; count = refl }

pub timeless_signals : (n : ℕ) (b : Book) (c : ℕ) → Timeless b (signals n b c).book
unfolding signals
timeless_signals zero b c = timeless_self b
timeless_signals (suc n) b c = timeless_trans (timeless_wake b c (highest_earliest b (S.on_condition c))) (timeless_signals n (signal b c).book c)
