-- What the test of the places says: of each thread that is in a queue, as many there have a smaller place as its place says, and it alone has its
-- place. With it the queues that a page describes hold exactly those who stand there, in order of their places.
-- Assumes nothing.
use Prim.Native.Nat.{ℕ, ◌<◌}
use mathlib.Core.Path.{◌≡◌, refl, sym, ap, ◌∙◌, subst}
use mathlib.Core.Bool.{Bool, true, false, ◌&&◌}
use mathlib.Core.List.{[]}
use native.Mathlib.Omega.{arith}
use lib.ListN.{length, length-map}
use lib.Dec.{eqb, ltb}
use borrow.Author.Tests.{eqb-true, eqb-false, eq-eqb, le-ltb}
use Rattle.laws.proofs.Bools.{by_cases, self, and_left, and_right, and_both, and_false, cond_true, cond_false}
use Rattle.laws.proofs.Lists.{length_tabulate, get_d_tabulate}
use Rattle.rules.specs.Queues.{queue}
use Rattle.rules.specs.State.{Where, running, ready, for_mutex, on_condition, same, Rows, thread, at, priority}
use Rattle.rules.specs.Sound.{mem}
use Rattle.rules.specs.Page.{Page, thread_row, thread_of, rows_of, in_queue, queue_of, set_of, how_many, together, place_sound}
use Rattle.rules_soundness.proofs.Tests.{iff}
use Rattle.rules_soundness.proofs.Fits.{Ordered, ordered_mono, Fits}
use Rattle.rules_soundness.proofs.Rows.{same_self, same_true, standing_exists}
use Rattle.rules_soundness.proofs.Facts.{Apart}
use Rattle.rules_pages.proofs.Counts.{many_below, many_only}
use Rattle.rules_pages.proofs.Sorted.{Before, in_sorted, of_sorted, ordered_sorted}

-- ---- standing

-- a place is running or it is not, whichever stands first
pub same_running : (w : Where) → same w running ≡ same running w
unfolding same
same_running running = refl
same_running ready = refl
same_running (for_mutex m) = refl
same_running (on_condition c) = refl

-- a thread stands where it stands, and at one place only
pub stands_at_lem : (k : Rows) (t : ℕ) → at k (thread k t).stands t ≡ true
unfolding at
stands_at_lem k t = same_self (thread k t).stands

pub at_stands : (k : Rows) (w : Where) (t : ℕ) → at k w t ≡ true → (thread k t).stands ≡ w
unfolding at
at_stands k w t e = same_true (thread k t).stands w e

pub not_run : (k : Rows) (w : Where) (t : ℕ) → same running w ≡ false → at k w t ≡ true → at k running t ≡ false
not_run k w t n e = unfold at in (rw (at_stands k w t e) (same_running w ∙ n))

-- who stands with t stands in the queue of t
pub together_in : (k : Rows) (w : Where) (q t : ℕ) → in_queue k w q t ≡ true → (u : ℕ) → together k t u ≡ in_queue k w q u
together_in k w q t e u =
    rw (at_stands k w t (and_left (at k w t) (eqb (priority k t) q) e))
    (ap (λ x. in_queue k w x u) (eqb-true (priority k t) q (and_right (at k w t) (eqb (priority k t) q) e)))

-- ---- the test and what it says

-- of n threads with rows k and these places, what is so of thread t
pub record Placed (n : ℕ) (k : Rows) (place : ℕ → ℕ) (t : ℕ) : Type 0 where
  pub runs : at k running t ≡ true → place t ≡ 0
  pub counted : at k running t ≡ false → how_many n (λ u. together k t u && ltb (place u) (place t)) ≡ place t
  pub single : at k running t ≡ false → how_many n (λ u. together k t u && eqb (place u) (place t)) ≡ 1

-- the place that a page gives
abbrev pub place_in : Page → ℕ → ℕ
place_in p t = (thread_row p t).place

-- all of a page's threads are placed
abbrev pub AllPlaced : Page → Type 0
AllPlaced p = (t : ℕ) → t < length p.threads → Placed (length p.threads) (rows_of p) (place_in p) t

module _ (p : Page) (t : ℕ) where
  -- how many of its queue have a smaller place, and how many the same
  abbrev before_me : ℕ
  before_me = how_many (length p.threads) (λ u. together (rows_of p) t u && ltb (place_in p u) (place_in p t))

  abbrev beside_me : ℕ
  beside_me = how_many (length p.threads) (λ u. together (rows_of p) t u && eqb (place_in p u) (place_in p t))

  -- the test of a thread that does not run
  abbrev in_a_queue : Bool
  in_a_queue = eqb before_me (place_in p t) && eqb beside_me 1

  -- the test says it
  pub test_placed : place_sound p t ≡ true → Placed (length p.threads) (rows_of p) (place_in p) t
  test_placed e = record {
    runs = λ r. eqb-true (place_in p t) 0 (sym (cond_true (at (rows_of p) running t) (eqb (place_in p t) 0) in_a_queue r) ∙ e);
    counted = λ r. eqb-true before_me (place_in p t) (and_left (eqb before_me (place_in p t)) (eqb beside_me 1) (queued r));
    single = λ r. eqb-true beside_me 1 (and_right (eqb before_me (place_in p t)) (eqb beside_me 1) (queued r));
  }
    where
      queued : at (rows_of p) running t ≡ false → in_a_queue ≡ true
      queued r = sym (cond_false (at (rows_of p) running t) (eqb (place_in p t) 0) in_a_queue r) ∙ e

  -- and is met by it
  pub placed_test : Placed (length p.threads) (rows_of p) (place_in p) t → place_sound p t ≡ true
  placed_test h = by_cases (at (rows_of p) running t)
      (λ r. cond_true (at (rows_of p) running t) (eqb (place_in p t) 0) in_a_queue r ∙ eq-eqb (place_in p t) 0 (h.runs r))
      (λ r. cond_false (at (rows_of p) running t) (eqb (place_in p t) 0) in_a_queue r
      ∙ and_both (eqb before_me (place_in p t)) (eqb beside_me 1) (eq-eqb before_me (place_in p t) (h.counted r)) (eq-eqb beside_me 1 (h.single r)))

-- ---- the queues that a page describes

-- those of a smaller place come first, and of one place those of a smaller id
pub ordered_before : (p : Page) (w : Where) (q : ℕ) → Ordered (Before (place_in p)) (queue_of p w q)
unfolding queue_of
ordered_before p w q = ordered_sorted (length p.threads) (in_queue (rows_of p) w q) (place_in p)

-- a queue of a set
pub set_queue : (p : Page) (w : Where) (q : ℕ) → q < 16 → queue (set_of p w) q ≡ queue_of p w q
unfolding set_of
set_queue p w q l = get_d_tabulate 16 (queue_of p w) q [] l

-- the queues of a page whose places are sound
module _ (p : Page) (placed : AllPlaced p) (w : Where) (n : same running w ≡ false) where
  -- who stands there exists
  pub in_table : (t : ℕ) → at (rows_of p) w t ≡ true → t < length p.threads
  in_table t e = unfold rows_of in (rw (length-map p.threads thread_of) at (standing_exists (rows_of p) w t n e))

  -- and its place is below the number of threads
  place_low : (t : ℕ) → at (rows_of p) w t ≡ true → place_in p t < length p.threads
  place_low t e = subst (λ x. x < length p.threads) ((placed t (in_table t e)).counted (not_run (rows_of p) w t n e))
      (many_below (length p.threads) t (λ u. together (rows_of p) t u && ltb (place_in p u) (place_in p t)) (in_table t e)
      (rw (le-ltb (place_in p t) (place_in p t) (omega arith)) (and_false (together (rows_of p) t t))))

  -- so it is in the queue of its priority
  pub who : (q u : ℕ) → mem u (queue_of p w q) ≡ in_queue (rows_of p) w q u
  unfolding queue_of
  who q u = iff (mem u (queue_of p w q)) (in_queue (rows_of p) w q u)
      (of_sorted (length p.threads) (in_queue (rows_of p) w q) (place_in p) u)
      (λ e. let a = and_left (at (rows_of p) w u) (eqb (priority (rows_of p) u) q) e in
      in_sorted (length p.threads) (in_queue (rows_of p) w q) (place_in p) u (in_table u a) e (place_low u a))

  -- two of one queue with one place are one
  place_one : (q t u : ℕ) → in_queue (rows_of p) w q t ≡ true → in_queue (rows_of p) w q u ≡ true → place_in p u ≡ place_in p t → u ≡ t
  place_one q t u e g z =
      let a = and_left (at (rows_of p) w t) (eqb (priority (rows_of p) t) q) e in
      let b = and_left (at (rows_of p) w u) (eqb (priority (rows_of p) u) q) g in
      many_only (length p.threads) t u (λ v. together (rows_of p) t v && eqb (place_in p v) (place_in p t)) ((placed t (in_table t a)).single (not_run (rows_of p) w t n a)) (in_table t a) (in_table u b)
      (and_both (together (rows_of p) t t) (eqb (place_in p t) (place_in p t)) (together_in (rows_of p) w q t e t ∙ e) (self (place_in p t)))
      (and_both (together (rows_of p) t u) (eqb (place_in p u) (place_in p t)) (together_in (rows_of p) w q t e u ∙ g) (eq-eqb (place_in p u) (place_in p t) z))

  -- each has a smaller place than those behind it
  pub ordered_place : (q : ℕ) → Ordered (λ u v. place_in p u < place_in p v) (queue_of p w q)
  ordered_place q = ordered_mono (Before (place_in p)) (λ u v. place_in p u < place_in p v) (queue_of p w q)
      (λ u v a b h. by_cases (eqb (place_in p u) (place_in p v))
      (λ e. let z = eqb-true (place_in p u) (place_in p v) e in absurd (omega (arith, h.1 z, place_one q v u (sym (who q v) ∙ b) (sym (who q u) ∙ a) z)))
      (λ e. omega (arith, h.0, eqb-false (place_in p u) (place_in p v) e)))
      (ordered_before p w q)

  -- the set of them fits
  pub fits_of : ((u : ℕ) → at (rows_of p) w u ≡ true → priority (rows_of p) u < 16) → Fits (at (rows_of p) w) (priority (rows_of p)) Apart (set_of p w)
  fits_of low = record {
    size = unfold set_of in (length_tabulate 16 (queue_of p w));
    who = λ q u l. rw (set_queue p w q l) (who q u);
    order = λ q l. rw (set_queue p w q l) (ordered_mono (λ u v. place_in p u < place_in p v) Apart (queue_of p w q) (λ u v a b h z. omega (arith, h, ap (place_in p) z)) (ordered_place q));
    low = low;
  }
