-- A state or a page was sound before document 02, L5, exactly if it is sound and no timer has more ticks left than n; so what was sound is sound.
-- Assumes nothing.
use Prim.Native.Nat.{ℕ, ◌≤◌}
use mathlib.Core.Path.{◌≡◌, refl, sym, ap, ◌∙◌}
use mathlib.Core.Bool.{Bool, true, false, ◌&&◌, false≢true}
use mathlib.Core.List.{List, [], ◌∷◌, map}
use native.Mathlib.Omega.{arith}
use native.Mathlib.Nat.{le_trans}
use lib.ListN.{length}
use lib.Dec.{eqb, ltb, leb}
use borrow.Author.Tests.{eqb-true, lt-ltb, ltb-true, leb-true, le-leb}
use Rattle.laws.proofs.Bools.{and_left, and_right, and_both}
use Rattle.rules.specs.State.{TimerState, stopped, one_shot, periodic, Timer, Rows, State}
use Rattle.rules.specs.Effects.{goes}
use Rattle.rules.specs.Sound.{all, each, most_left, timer_sound, timers_sound, clauses, queue_clauses, sound}
use Rattle.rules.specs.Page.{Page, timer_of, rows_of, place_sound, object_sound, each_row, page_sound}
use Rattle.rules.specs.Earlier.{timer_sound_before, timers_sound_before, clauses_before, none_above_n, sound_before, page_sound_before}
use Rattle.rules_soundness.proofs.Tests.{iff, all_true, true_all}
use Rattle.rules_soundness.proofs.Timers.{timer_going, going_timer}

-- ---- one timer

-- up to n ticks left are up to the most of its kind
within_most : (x : Timer) → goes x.state ≡ true → x.left ≤ x.length → x.left ≤ most_left x.state x.length
within_most x runs up-to-n = go x.state runs
  where
    go : (s : TimerState) → goes s ≡ true → x.left ≤ most_left s x.length
    go stopped q = absurd (false≢true q)
    go one_shot q = up-to-n
    go periodic q = omega (arith, up-to-n)

module _ (k : Rows) (x : Timer) where
  abbrev there : Bool
  there = ltb x.condition (length k.ties)

  abbrev some : Bool
  some = leb 1 x.left

  abbrev up_to_n : Bool
  up_to_n = leb x.left x.length

  abbrev fits : Bool
  fits = leb x.length 65535

  -- a running one
  going_before : goes x.state ≡ true → (there && some && up_to_n && fits) ≡ true → (timer_sound k x && up_to_n) ≡ true
  going_before runs e =
      let three = and_left (there && some && up_to_n) fits e in
      let two = and_left (there && some) up_to_n three in
      let short = leb-true x.length 65535 (and_right (there && some && up_to_n) fits e) in
      let up-to-n = leb-true x.left x.length (and_right (there && some) up_to_n three) in
      let one_left = leb-true 1 x.left (and_right there some two) in
      and_both (timer_sound k x) up_to_n
      (timer_going k x runs (record {
        exists = ltb-true x.condition (length k.ties) (and_left there some two);
        long = le_trans one_left up-to-n;
        fits = short;
        some = one_left;
        short = le_trans up-to-n short;
        most = within_most x runs up-to-n;
      }))
      (and_right (there && some) up_to_n three)

  before_going : goes x.state ≡ true → (timer_sound k x && up_to_n) ≡ true → (there && some && up_to_n && fits) ≡ true
  before_going runs e =
      let g = going_timer k x runs (and_left (timer_sound k x) up_to_n e) in
      and_both (there && some && up_to_n) fits
      (and_both (there && some) up_to_n (and_both there some (lt-ltb x.condition (length k.ties) g.exists) (le-leb 1 x.left g.some)) (and_right (timer_sound k x) up_to_n e))
      (le-leb x.length 65535 g.fits)

  -- a stopped one has 0 and 0
  stopped_before : (eqb x.condition 255 && eqb x.length 0 && eqb x.left 0) ≡ true → up_to_n ≡ true
  stopped_before e = le-leb x.left x.length (omega (arith, eqb-true x.left 0 (and_right (eqb x.condition 255 && eqb x.length 0) (eqb x.left 0) e)))

  timer_before : timer_sound_before k x ≡ (timer_sound k x && up_to_n)
  timer_before = iff (timer_sound_before k x) (timer_sound k x && up_to_n) (forth (goes x.state) refl) (back (goes x.state) refl)
    where
      forth : (b : Bool) → goes x.state ≡ b → timer_sound_before k x ≡ true → (timer_sound k x && up_to_n) ≡ true
      forth true q e = going_before q (rw q at e)
      forth false q e = let rests = rw q at e in and_both (timer_sound k x) up_to_n (rw q rests) (stopped_before rests)

      back : (b : Bool) → goes x.state ≡ b → (timer_sound k x && up_to_n) ≡ true → timer_sound_before k x ≡ true
      back true q e = rw q (before_going q e)
      back false q e = rw q (rw q at (and_left (timer_sound k x) up_to_n e))

-- ---- the table, and all clauses

-- two pairs of tests, put together in another way
crosswise : (a b c d : Bool) → (a && b && (c && d)) ≡ (a && c && (b && d))
crosswise true true c d = refl
crosswise true false true d = refl
crosswise true false false d = refl
crosswise false b c d = refl

timers_before : (k : Rows) (ts : List Timer) → timers_sound_before k ts ≡ (timers_sound k ts && none_above_n ts)
unfolding timers_sound_before timers_sound none_above_n
timers_before k [] = refl
timers_before k (x ∷ ts) =
    (λ i. timer_before k x i && timers_before k ts i)
    ∙ crosswise (timer_sound k x) (leb x.left x.length) (timers_sound k ts) (none_above_n ts)

clauses_before_lem : (k : Rows) (count : ℕ) (ts : List Timer) → all (clauses_before k count ts) ≡ (all (clauses k count ts) && none_above_n ts)
clauses_before_lem k count ts = iff (all (clauses_before k count ts)) (all (clauses k count ts) && none_above_n ts) forth back
  where
    forth : all (clauses_before k count ts) ≡ true → (all (clauses k count ts) && none_above_n ts) ≡ true
    forth e =
        let (within, (bases, (ceilings, (idle, (runner, (above, (objects, (mutexes, (conditions, (timers, rests)))))))))) = all_true (clauses_before k count ts) e in
        let both = sym (timers_before k ts) ∙ timers in
        and_both (all (clauses k count ts)) (none_above_n ts)
        (true_all (clauses k count ts) (within, (bases, (ceilings, (idle, (runner, (above, (objects, (mutexes, (conditions, (and_left (timers_sound k ts) (none_above_n ts) both, rests)))))))))))
        (and_right (timers_sound k ts) (none_above_n ts) both)

    back : (all (clauses k count ts) && none_above_n ts) ≡ true → all (clauses_before k count ts) ≡ true
    back e =
        let (within, (bases, (ceilings, (idle, (runner, (above, (objects, (mutexes, (conditions, (timers, rests)))))))))) = all_true (clauses k count ts) (and_left (all (clauses k count ts)) (none_above_n ts) e) in
        let both = and_both (timers_sound k ts) (none_above_n ts) timers (and_right (all (clauses k count ts)) (none_above_n ts) e) in
        true_all (clauses_before k count ts) (within, (bases, (ceilings, (idle, (runner, (above, (objects, (mutexes, (conditions, (timers_before k ts ∙ both, rests))))))))))

-- ---- states and pages

-- a test may stand last
to_the_end : (a b c : Bool) → (a && b && c) ≡ (a && c && b)
to_the_end true true true = refl
to_the_end true true false = refl
to_the_end true false true = refl
to_the_end true false false = refl
to_the_end false b c = refl

pub sound_before_exactly : (s : State) → sound_before s ≡ (sound s && none_above_n s.timers)
unfolding sound_before sound
sound_before_exactly s =
    let k = s.scheduler.rows in
    let queues = all (queue_clauses k s.scheduler.sets) in
    ap (λ b. b && queues) (clauses_before_lem k s.count s.timers) ∙ to_the_end (all (clauses k s.count s.timers)) (none_above_n s.timers) queues

pub page_before_exactly : (p : Page) → page_sound_before p ≡ (page_sound p && none_above_n (map timer_of p.timers))
unfolding page_sound_before page_sound
page_before_exactly p =
    let k = rows_of p in
    let ts = map timer_of p.timers in
    let now = all (clauses k p.count ts) in
    let objects = each_row object_sound p.threads in
    let places = each (length p.threads) (place_sound p) in
    ap (λ b. b && objects && places) (clauses_before_lem k p.count ts)
    ∙ ap (λ b. b && places) (to_the_end now (none_above_n ts) objects)
    ∙ to_the_end (now && objects) (none_above_n ts) places

pub sound_before_is_sound : (s : State) → sound_before s ≡ true → sound s ≡ true
sound_before_is_sound s e = and_left (sound s) (none_above_n s.timers) (sym (sound_before_exactly s) ∙ e)

pub page_before_is_sound : (p : Page) → page_sound_before p ≡ true → page_sound p ≡ true
page_before_is_sound p e = and_left (page_sound p) (none_above_n (map timer_of p.timers)) (sym (page_before_exactly p) ∙ e)
