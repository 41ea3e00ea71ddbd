-- The stores of each function that changes a row, a link, a queue, a tie or the running thread, as the change of the scheduler.
-- Assumes nothing.
use Prim.Native.Nat.{ℕ, ◌+◌, ◌*◌, ◌%◌, ◌<◌, ◌≤◌}
use mathlib.Core.Path.{◌≡◌, ◌∙◌}
use mathlib.Core.List.{List}
use native.Mathlib.Omega.{arith}
use lib.ListN.{length, set, length-set}
use lib.Seq.{get_or-set_same, get_or-set_other}
use Rattle.value_effects.specs.Effects.{with_mutex, with_tie}
use Rattle.place_tables.specs.Cells.{cell, scheduler_in}
use Rattle.place_tables.specs.Changes.{with_running, with_thread, with_link, with_queue}
use Rattle.place_tables.proofs.Storing.{thread_changed, link_changed, mutex_changed, tie_changed, running_changed, queue_changed}

-- what was stored at a place is there
stored : (k : List ℕ) (i v : ℕ) → i < length k → cell (set k i v) i ≡ v
stored k i v h = get_or-set_same k i v 0 h

-- and another place is as it was
kept : (k : List ℕ) (i v j : ℕ) → (j ≡ i → ⊥) → cell (set k i v) j ≡ cell k j
kept k i v j h = get_or-set_other k i j v 0 h

-- ---- runs of stores

-- two
module _ (k : List ℕ) (a x y : ℕ) (fits : a + 2 ≤ length k) where
  abbrev pub two : List ℕ
  two = set (set k a x) (a + 1) y

  pub two_else : (j : ℕ) → (a ≤ j → j < a + 2 → ⊥) → cell two j ≡ cell k j
  two_else j o = kept (set k a x) (a + 1) y j (λ e. o (omega arith) (omega arith)) ∙ kept k a x j (λ e. o (omega arith) (omega arith))

  pub two_0 : cell two a ≡ x
  two_0 = kept (set k a x) (a + 1) y a (λ e. omega arith) ∙ stored k a x (omega arith)

  pub two_1 : cell two (a + 1) ≡ y
  two_1 = stored (set k a x) (a + 1) y (rw (length-set k a x) (omega arith))

-- three
module _ (k : List ℕ) (a x y z : ℕ) (fits : a + 3 ≤ length k) where
  abbrev pub three : List ℕ
  three = set (two k a x y (omega arith)) (a + 2) z

  pub three_else : (j : ℕ) → (a ≤ j → j < a + 3 → ⊥) → cell three j ≡ cell k j
  three_else j o = kept (two k a x y (omega arith)) (a + 2) z j (λ e. o (omega arith) (omega arith)) ∙ two_else k a x y (omega arith) j (λ u v. o u (omega arith))

  pub three_0 : cell three a ≡ x
  three_0 = kept (two k a x y (omega arith)) (a + 2) z a (λ e. omega arith) ∙ two_0 k a x y (omega arith)

  pub three_1 : cell three (a + 1) ≡ y
  three_1 = kept (two k a x y (omega arith)) (a + 2) z (a + 1) (λ e. omega arith) ∙ two_1 k a x y (omega arith)

  pub three_2 : cell three (a + 2) ≡ z
  three_2 = stored (two k a x y (omega arith)) (a + 2) z (rw (length-set (set k a x) (a + 1) y, length-set k a x) (omega arith))

-- four
module _ (k : List ℕ) (a x y z w : ℕ) (fits : a + 4 ≤ length k) where
  abbrev pub four : List ℕ
  four = set (three k a x y z (omega arith)) (a + 3) w

  pub four_else : (j : ℕ) → (a ≤ j → j < a + 4 → ⊥) → cell four j ≡ cell k j
  four_else j o = kept (three k a x y z (omega arith)) (a + 3) w j (λ e. o (omega arith) (omega arith)) ∙ three_else k a x y z (omega arith) j (λ u v. o u (omega arith))

  pub four_0 : cell four a ≡ x
  four_0 = kept (three k a x y z (omega arith)) (a + 3) w a (λ e. omega arith) ∙ three_0 k a x y z (omega arith)

  pub four_1 : cell four (a + 1) ≡ y
  four_1 = kept (three k a x y z (omega arith)) (a + 3) w (a + 1) (λ e. omega arith) ∙ three_1 k a x y z (omega arith)

  pub four_2 : cell four (a + 2) ≡ z
  four_2 = kept (three k a x y z (omega arith)) (a + 3) w (a + 2) (λ e. omega arith) ∙ three_2 k a x y z (omega arith)

  pub four_3 : cell four (a + 3) ≡ w
  four_3 = stored (three k a x y z (omega arith)) (a + 3) w (rw (length-set (set (set k a x) (a + 1) y) (a + 2) z, length-set (set k a x) (a + 1) y, length-set k a x) (omega arith))

-- ---- what they change

module _ (k : List ℕ) (long : length k ≡ 1281) where
  pub thread_put : (t b p s o : ℕ) → scheduler_in (set (set (set (set k (t % 32 * 4) b) (t % 32 * 4 + 1) p) (t % 32 * 4 + 2) s) (t % 32 * 4 + 3) o)
      ≡ with_thread (scheduler_in k) t (record { base = b; priority = p; state = s; object = o })
  thread_put t b p s o = thread_changed k (four k a b p s o fits) t (record { base = b; priority = p; state = s; object = o }) (four_else k a b p s o fits)
      (λ i. record { base = four_0 k a b p s o fits i; priority = four_1 k a b p s o fits i; state = four_2 k a b p s o fits i; object = four_3 k a b p s o fits i })
    where
      a : ℕ
      a = t % 32 * 4

      fits : a + 4 ≤ length k
      fits = omega (arith, long)

  pub link_put : (t v : ℕ) → scheduler_in (set k (128 + t % 32) v) ≡ with_link (scheduler_in k) t v
  link_put t v = link_changed k (set k (128 + t % 32) v) t v (λ j o. kept k (128 + t % 32) v j (λ e. o (omega arith) (omega arith))) (stored k (128 + t % 32) v (omega (arith, long)))

  pub mutex_put : (m x y z : ℕ) → scheduler_in (set (set (set k (1216 + m % 16 * 3) x) (1216 + m % 16 * 3 + 1) y) (1216 + m % 16 * 3 + 2) z)
      ≡ with_mutex (scheduler_in k) m (record { ceiling = x; owner = y; count = z })
  mutex_put m x y z = mutex_changed k (three k a x y z fits) m (record { ceiling = x; owner = y; count = z }) (λ j o. three_else k a x y z fits j (λ u v. o u (omega arith)))
      (λ i. record { ceiling = three_0 k a x y z fits i; owner = three_1 k a x y z fits i; count = three_2 k a x y z fits i })
    where
      a : ℕ
      a = 1216 + m % 16 * 3

      fits : a + 3 ≤ length k
      fits = omega (arith, long)

  pub tie_put : (c v : ℕ) → scheduler_in (set k (1264 + c % 16) v) ≡ with_tie (scheduler_in k) c v
  tie_put c v = tie_changed k (set k (1264 + c % 16) v) c v (λ j o. kept k (1264 + c % 16) v j (λ e. o (omega arith) (omega arith))) (stored k (1264 + c % 16) v (omega (arith, long)))

  pub running_put : (v : ℕ) → scheduler_in (set k 1280 v) ≡ with_running (scheduler_in k) v
  running_put v = running_changed k (set k 1280 v) v (λ j o. kept k 1280 v j (λ e. o (omega arith) (omega arith))) (stored k 1280 v (omega (arith, long)))

  pub queue_put : (n p x y : ℕ) → n < 33 → p < 16 → scheduler_in (set (set k (160 + n * 32 + p * 2) x) (160 + n * 32 + p * 2 + 1) y)
      ≡ with_queue (scheduler_in k) n p (record { first = x; last = y })
  queue_put n p x y l m = queue_changed k (two k a x y fits) n p (record { first = x; last = y }) l m (λ j o. two_else k a x y fits j (λ u v. o u (omega arith)))
      (λ i. record { first = two_0 k a x y fits i; last = two_1 k a x y fits i })
    where
      a : ℕ
      a = 160 + n * 32 + p * 2

      fits : a + 2 ≤ length k
      fits = omega (arith, long)
