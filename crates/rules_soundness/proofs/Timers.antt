-- Timers stay sound when one is set, added or stopped, when a tick passes, and when condition variables are added.
-- Assumes nothing.
use Prim.Native.Nat.{ℕ, zero, suc, ◌-◌, ◌<◌, ◌≤◌}
use mathlib.Core.Path.{◌≡◌, refl, ap}
use mathlib.Core.Bool.{Bool, true, false, cond, not, ◌&&◌}
use mathlib.Core.List.{List, [], ◌∷◌, ◌++◌, map}
use native.Mathlib.Omega.{arith}
use native.Mathlib.Nat.{le_trans}
use lib.ListN.{length, set}
use lib.Dec.{eqb, ltb, leb}
use borrow.Author.Tests.{not-true, eqb-true, eqb-false, ltb-true, lt-ltb, leb-true, le-leb}
use Rattle.laws.proofs.Bools.{by_cases, and_left, and_right, and_both}
use Rattle.units.specs.Units.{outside}
use Rattle.units.proofs.Lengths.{repeat_some, repeat_most, repeat_within}
use Rattle.calls.specs.declared.Kind.{Kind}
use Rattle.calls.specs.declared.Kind.TheVariants.{OneShot, Periodic}
use Rattle.rules.specs.State.{TimerState, stopped, one_shot, periodic, Timer, Rows, stopped_timer, timer}
use Rattle.rules.specs.Effects.{started_timer, goes, is_due, after_due, ticked, due_conditions}
use Rattle.rules.specs.Sound.{most_left, timer_sound, timers_sound, none_goes}
use Rattle.rules_soundness.proofs.Tests.{inside, to_inside}
use Rattle.rules_soundness.proofs.Calls.{AllBelow}

-- what a running timer has, where there are n condition variables
pub record Goes (n : ℕ) (x : Timer) : Type 0 where
  pub exists : x.condition < n
  pub long : 1 ≤ x.length
  pub fits : x.length ≤ 65535
  pub some : 1 ≤ x.left
  pub short : x.left ≤ 65535
  pub most : x.left ≤ most_left x.state x.length

-- the clause on a running timer, where there are n condition variables, test by test
abbrev there : ℕ → Timer → Bool
there n x = ltb x.condition n

abbrev lasts : Timer → Bool
lasts x = not (outside 1 65535 x.length)

abbrev waiting : Timer → Bool
waiting x = not (outside 1 65535 x.left)

abbrev soon : Timer → Bool
soon x = leb x.left (most_left x.state x.length)

abbrev going_test : ℕ → Timer → Bool
going_test n x = there n x && lasts x && waiting x && soon x

goes_test : (n : ℕ) (x : Timer) → Goes n x → going_test n x ≡ true
goes_test n x g =
    and_both (there n x && lasts x && waiting x) (soon x)
    (and_both (there n x && lasts x) (waiting x)
    (and_both (there n x) (lasts x) (lt-ltb x.condition n g.exists) (to_inside 1 65535 x.length g.long g.fits))
    (to_inside 1 65535 x.left g.some g.short))
    (le-leb x.left (most_left x.state x.length) g.most)

test_goes : (n : ℕ) (x : Timer) → going_test n x ≡ true → Goes n x
test_goes n x e =
    let three = and_left (there n x && lasts x && waiting x) (soon x) e in
    let two = and_left (there n x && lasts x) (waiting x) three in
    let long-enough = inside 1 65535 x.length (and_right (there n x) (lasts x) two) in
    let left-enough = inside 1 65535 x.left (and_right (there n x && lasts x) (waiting x) three) in
    record {
      exists = ltb-true x.condition n (and_left (there n x) (lasts x) two);
      long = long-enough.0;
      fits = long-enough.1;
      some = left-enough.0;
      short = left-enough.1;
      most = leb-true x.left (most_left x.state x.length) (and_right (there n x && lasts x && waiting x) (soon x) e);
    }

-- ---- one timer

pub timer_going : (k : Rows) (x : Timer) → goes x.state ≡ true → Goes (length k.ties) x → timer_sound k x ≡ true
timer_going k x e g = rw e (goes_test (length k.ties) x g)

pub going_timer : (k : Rows) (x : Timer) → goes x.state ≡ true → timer_sound k x ≡ true → Goes (length k.ties) x
going_timer k x e t = test_goes (length k.ties) x (rw e at t)

-- a timer as it is started for n ticks: a periodic one has its repeat and one tick more left, or its repeat where n is 1
pub started_goes : (m d n : ℕ) (kind : Kind) → d < m → 1 ≤ n → n ≤ 65535 → Goes m (started_timer d kind n)
started_goes m d n OneShot there some most = record { exists = there; long = some; fits = most; some = some; short = most; most = omega arith }
started_goes m d n Periodic there some most =
    record { exists = there; long = repeat_some n; fits = le_trans (repeat_within n some) most; some = some; short = most; most = repeat_most n }

timer_more : (k l : Rows) (x : Timer) → length k.ties ≤ length l.ties → timer_sound k x ≡ true → timer_sound l x ≡ true
timer_more k l x h e = go (goes x.state) refl
  where
    go : (b : Bool) → goes x.state ≡ b → timer_sound l x ≡ true
    go true q = let g = going_timer k x q e in timer_going l x q (record { exists = le_trans g.exists h; long = g.long; fits = g.fits; some = g.some; short = g.short; most = g.most })
    go false q = rw q (rw q at e)

-- a timer after one more tick
timer_ticked : (k : Rows) (x : Timer) → timer_sound k x ≡ true → timer_sound k (ticked x) ≡ true
unfolding ticked
timer_ticked k x e = go x.state refl
  where
    -- one that runs on
    runs_on : goes x.state ≡ true → eqb x.left 1 ≡ false → timer_sound k (record { state = x.state; condition = x.condition; length = x.length; left = x.left - 1 }) ≡ true
    runs_on q n =
        let g = going_timer k x q e in
        timer_going k (record { state = x.state; condition = x.condition; length = x.length; left = x.left - 1 }) q
        (record { exists = g.exists; long = g.long; fits = g.fits; some = omega (arith, g.some, eqb-false x.left 1 n); short = omega (arith, g.short); most = omega (arith, g.most) })

    go : (s : TimerState) → x.state ≡ s → timer_sound k (cond (is_due x) (after_due x.state x) (record { state = x.state; condition = x.condition; length = x.length; left = x.left - 1 })) ≡ true
    go stopped q =
        let r = rw q at e in
        let l = eqb-true x.left 0 (and_right (eqb x.condition 255 && eqb x.length 0) (eqb x.left 0) r) in
        rw q (rw l (and_both (eqb x.condition 255 && eqb x.length 0) true (and_left (eqb x.condition 255 && eqb x.length 0) (eqb x.left 0) r) refl))
    go one_shot q = by_cases (eqb x.left 1)
        (λ y. rw (q, y))
        (λ y. rw (ap goes q, y) (runs_on (ap goes q) y))
    go periodic q = by_cases (eqb x.left 1)
        (λ y. rw (q, y) (let g = going_timer k x (ap goes q) e in goes_test (length k.ties) (record { state = periodic; condition = x.condition; length = x.length; left = x.length })
        (record { exists = g.exists; long = g.long; fits = g.fits; some = g.long; short = g.fits; most = omega arith })))
        (λ y. rw (ap goes q, y) (runs_on (ap goes q) y))

-- ---- the table

-- each timer of a sound table is sound, and outside the table it is stopped
pub timer_at_lem : (k : Rows) (ts : List Timer) → timers_sound k ts ≡ true → (i : ℕ) → timer_sound k (timer ts i) ≡ true
unfolding timers_sound
timer_at_lem k [] e i = refl
timer_at_lem k (x ∷ ts) e zero = and_left (timer_sound k x) (timers_sound k ts) e
timer_at_lem k (x ∷ ts) e (suc i) = timer_at_lem k ts (and_right (timer_sound k x) (timers_sound k ts) e) i

pub timers_more : (k l : Rows) (ts : List Timer) → length k.ties ≤ length l.ties → timers_sound k ts ≡ true → timers_sound l ts ≡ true
unfolding timers_sound
timers_more k l [] h e = refl
timers_more k l (x ∷ ts) h e = and_both (timer_sound l x) (timers_sound l ts)
    (timer_more k l x h (and_left (timer_sound k x) (timers_sound k ts) e))
    (timers_more k l ts h (and_right (timer_sound k x) (timers_sound k ts) e))

pub timers_set : (k : Rows) (ts : List Timer) (i : ℕ) (x : Timer) → timers_sound k ts ≡ true → timer_sound k x ≡ true → timers_sound k (set ts i x) ≡ true
unfolding timers_sound
timers_set k [] i x e h = refl
timers_set k (y ∷ ts) zero x e h = and_both (timer_sound k x) (timers_sound k ts) h (and_right (timer_sound k y) (timers_sound k ts) e)
timers_set k (y ∷ ts) (suc i) x e h = and_both (timer_sound k y) (timers_sound k (set ts i x))
    (and_left (timer_sound k y) (timers_sound k ts) e)
    (timers_set k ts i x (and_right (timer_sound k y) (timers_sound k ts) e) h)

pub timers_created : (k : Rows) (ts : List Timer) → timers_sound k ts ≡ true → timers_sound k (ts ++ (stopped_timer ∷ [])) ≡ true
unfolding timers_sound
timers_created k [] e = refl
timers_created k (y ∷ ts) e = and_both (timer_sound k y) (timers_sound k (ts ++ (stopped_timer ∷ [])))
    (and_left (timer_sound k y) (timers_sound k ts) e)
    (timers_created k ts (and_right (timer_sound k y) (timers_sound k ts) e))

pub timers_ticked : (k : Rows) (ts : List Timer) → timers_sound k ts ≡ true → timers_sound k (map ticked ts) ≡ true
unfolding timers_sound
timers_ticked k [] e = refl
timers_ticked k (y ∷ ts) e = and_both (timer_sound k (ticked y)) (timers_sound k (map ticked ts))
    (timer_ticked k y (and_left (timer_sound k y) (timers_sound k ts) e))
    (timers_ticked k ts (and_right (timer_sound k y) (timers_sound k ts) e))

-- the condition variables of due timers exist
pub due_below : (k : Rows) (ts : List Timer) → timers_sound k ts ≡ true → AllBelow (length k.ties) (due_conditions ts)
unfolding timers_sound due_conditions
due_below k [] e = tt
due_below k (x ∷ ts) e = go (is_due x) refl (due_below k ts (and_right (timer_sound k x) (timers_sound k ts) e))
  where
    go : (b : Bool) → is_due x ≡ b → AllBelow (length k.ties) (due_conditions ts) → AllBelow (length k.ties) (cond b (x.condition ∷ due_conditions ts) (due_conditions ts))
    go true q r = ((going_timer k x (and_left (goes x.state) (eqb x.left 1) q) (and_left (timer_sound k x) (timers_sound k ts) e)).exists, r)
    go false q r = r

-- where no timer of a table runs, none does at any id
pub none_goes_at : (ts : List Timer) → none_goes ts ≡ true → (i : ℕ) → goes (timer ts i).state ≡ false
unfolding none_goes
none_goes_at [] e i = refl
none_goes_at (y ∷ ts) e zero = not-true (goes y.state) (and_left (not (goes y.state)) (none_goes ts) e)
none_goes_at (y ∷ ts) e (suc i) = none_goes_at ts (and_right (not (goes y.state)) (none_goes ts) e) i

pub none_goes_created : (ts : List Timer) → none_goes ts ≡ true → none_goes (ts ++ (stopped_timer ∷ [])) ≡ true
unfolding none_goes
none_goes_created [] e = refl
none_goes_created (y ∷ ts) e = and_both (not (goes y.state)) (none_goes (ts ++ (stopped_timer ∷ [])))
    (and_left (not (goes y.state)) (none_goes ts) e)
    (none_goes_created ts (and_right (not (goes y.state)) (none_goes ts) e))
