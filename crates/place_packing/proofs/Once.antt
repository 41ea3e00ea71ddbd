-- Two arrays of 1,281 bytes in which the same scheduler stands are one: each byte is part of one row, link, queue or tie, or is the running thread.
-- Assumes nothing.
use Prim.Native.Nat.{ℕ, ◌+◌, ◌-◌, ◌*◌, ◌/◌, ◌%◌, ◌<◌, ◌≤◌}
use mathlib.Core.Path.{◌≡◌, sym, ap, ◌∙◌}
use mathlib.Core.List.{List}
use native.Mathlib.Omega.{arith}
use lib.ListN.{length}
use lib.Seq.{ext_get_or}
use Rattle.laws.proofs.Lists.{by_equal, by_below}
use Rattle.queue.specs.declared.Queue.{Queue}
use Rattle.value_tables.specs.declared.Thread.{Thread}
use Rattle.value_tables.specs.Tables.{row_of}
use Rattle.value_effects.specs.declared.Mutex.{Mutex}
use Rattle.value_effects.specs.declared.Scheduler.{Scheduler}
use Rattle.value_effects.specs.Effects.{mutex_of}
use Rattle.place_tables.specs.Cells.{cell, thread_in, link_in, queue_in, mutex_in, tie_in, scheduler_in}
use Rattle.place_tables.specs.Changes.{link_of, tie_of, queue_numbered}
use Rattle.place_tables.proofs.Storing.{queue_read}
use Rattle.place_packing.proofs.Reading.{thread_within, link_within, mutex_within, tie_within}

module _ (k z : List ℕ) (same : scheduler_in k ≡ scheduler_in z) where
  -- ---- rows

  -- the row of a thread
  thread_same : (t : ℕ) → t < 32 → thread_in k t ≡ thread_in z t
  thread_same t h = sym (thread_within k t h) ∙ ap (λ (x : Scheduler). row_of x.threads t) same ∙ thread_within z t h

  -- a link
  link_same : (t : ℕ) → t < 32 → link_in k t ≡ link_in z t
  link_same t h = sym (link_within k t h) ∙ ap (λ x. link_of x t) same ∙ link_within z t h

  -- a queue
  queue_same : (n p : ℕ) → n < 33 → p < 16 → queue_in k n p ≡ queue_in z n p
  queue_same n p h l = sym (queue_read k n p h l) ∙ ap (λ x. queue_numbered x n p) same ∙ queue_read z n p h l

  -- the row of a mutex
  mutex_same : (m : ℕ) → m < 16 → mutex_in k m ≡ mutex_in z m
  mutex_same m h = sym (mutex_within k m h) ∙ ap (λ x. mutex_of x m) same ∙ mutex_within z m h

  -- a tie
  tie_same : (c : ℕ) → c < 16 → tie_in k c ≡ tie_in z c
  tie_same c h = sym (tie_within k c h) ∙ ap (λ x. tie_of x c) same ∙ tie_within z c h

  -- ---- bytes

  -- a byte by another name of its place
  named : (j i : ℕ) → j ≡ i → cell k i ≡ cell z i → cell k j ≡ cell z j
  named j i e s = ap (cell k) e ∙ s ∙ sym (ap (cell z) e)

  -- of the row of a thread
  thread_byte : (j : ℕ) → j < 128 → cell k j ≡ cell z j
  thread_byte j h =
      let row = thread_same (j / 4) (omega arith) in
      by_equal (j % 4) 0 (λ e. named j (j / 4 * 4) (omega arith) (ap (λ (x : Thread). x.base) row))
      (λ a. by_equal (j % 4) 1 (λ e. named j (j / 4 * 4 + 1) (omega arith) (ap (λ (x : Thread). x.priority) row))
      (λ b. by_equal (j % 4) 2 (λ e. named j (j / 4 * 4 + 2) (omega arith) (ap (λ (x : Thread). x.state) row))
      (λ c. named j (j / 4 * 4 + 3) (omega (arith, a, b, c)) (ap (λ (x : Thread). x.object) row))))

  -- of a link
  link_byte : (j : ℕ) → 128 ≤ j → j < 160 → cell k j ≡ cell z j
  link_byte j l h = named j (128 + (j - 128)) (omega arith) (link_same (j - 128) (omega arith))

  -- of a queue
  queue_byte : (j : ℕ) → 160 ≤ j → j < 1216 → cell k j ≡ cell z j
  queue_byte j l h =
      let n = (j - 160) / 32 in
      let p = (j - 160) % 32 / 2 in
      let ends = queue_same n p (omega arith) (omega arith) in
      by_equal (j % 2) 0 (λ e. named j (160 + n * 32 + p * 2) (omega arith) (ap (λ (x : Queue). x.first) ends))
      (λ a. named j (160 + n * 32 + p * 2 + 1) (omega (arith, a)) (ap (λ (x : Queue). x.last) ends))

  -- of the row of a mutex
  mutex_byte : (j : ℕ) → 1216 ≤ j → j < 1264 → cell k j ≡ cell z j
  mutex_byte j l h =
      let m = (j - 1216) / 3 in
      let row = mutex_same m (omega arith) in
      by_equal ((j - 1216) % 3) 0 (λ e. named j (1216 + m * 3) (omega arith) (ap (λ (x : Mutex). x.ceiling) row))
      (λ a. by_equal ((j - 1216) % 3) 1 (λ e. named j (1216 + m * 3 + 1) (omega arith) (ap (λ (x : Mutex). x.owner) row))
      (λ b. named j (1216 + m * 3 + 2) (omega (arith, a, b)) (ap (λ (x : Mutex). x.count) row)))

  -- of a tie
  tie_byte : (j : ℕ) → 1264 ≤ j → j < 1280 → cell k j ≡ cell z j
  tie_byte j l h = named j (1264 + (j - 1264)) (omega arith) (tie_same (j - 1264) (omega arith))

  -- the running thread
  running_byte : (j : ℕ) → 1280 ≤ j → j < 1281 → cell k j ≡ cell z j
  unfolding scheduler_in
  running_byte j l h = named j 1280 (omega arith) (ap (λ (x : Scheduler). x.running) same)

  -- each byte
  byte : (j : ℕ) → j < 1281 → cell k j ≡ cell z j
  byte j h =
      by_below j 128 (thread_byte j)
      (λ a. by_below j 160 (link_byte j a)
      (λ b. by_below j 1216 (queue_byte j b)
      (λ c. by_below j 1264 (mutex_byte j c)
      (λ d. by_below j 1280 (tie_byte j d)
      (λ e. running_byte j e h)))))

-- arrays in which the same scheduler stands are one
pub bytes_once : (k z : List ℕ) → length k ≡ 1281 → length z ≡ 1281 → scheduler_in k ≡ scheduler_in z → k ≡ z
bytes_once k z l m same = ext_get_or 0 k z (l ∙ sym m) (λ j h. byte k z same j (omega (arith, l)))

-- so the promise of `packed` leaves one result
pub packed_once : (x : Scheduler) (r q : List ℕ) → length r ≡ 1281 → length q ≡ 1281 → scheduler_in r ≡ x → scheduler_in q ≡ x → r ≡ q
packed_once x r q l m e f = bytes_once r q l m (e ∙ sym f)
