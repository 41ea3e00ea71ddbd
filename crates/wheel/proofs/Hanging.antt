-- A timer in the words: one timer's ticks left changed, and from it start, stop and the ticks left.
-- Assumes nothing.
use Prim.Native.Nat.{ℕ, ◌+◌, ◌%◌, ◌<◌, ◌≤◌}
use mathlib.Core.Path.{◌≡◌, refl, sym, ap, ◌∙◌}
use mathlib.Core.Bool.{Bool, true, false, xor, ◌||◌}
use mathlib.Core.List.{List}
use native.Mathlib.Omega.{arith}
use lib.ListN.{length, get_or, set}
use lib.Dec.{eqb, ltb}
use lib.Bits.{bit_or, bit_xor}
use borrow.Author.Tests.{eq-eqb, ne_eqb, eqb-true, eqb-false, lt-ltb, le-ltb, lt-leb, le-leb, ltb-true, ltb-false}
use Rattle.laws.specs.Lists.{tabulate}
use Rattle.laws.specs.Bits.{word_of}
use Rattle.laws.proofs.Bools.{by_cases, or_false, or_right}
use Rattle.laws.proofs.Lists.{get_d_tabulate, set_tabulate_below}
use Rattle.laws.proofs.Bits.{word_same, or_words, xor_words, xor_false}
use Rattle.wheel.specs.Hung.{Hung, Good, left, with_left, started, stopped, spoke_of, turns_of, hangs}
use Rattle.wheel.specs.Inside.{Tables, laid, tables_of, words_of, turns_at, spoke_at, position_at, bit_of, hung_on, hung_in, taken_off, taken_in, way_in}
use Rattle.wheel.proofs.Lefts.{left_same, left_other, position_same, stopped_same, left_past}
use Rattle.wheel.proofs.Words as words
use Rattle.wheel.proofs.Words.{sized, timer_put}
use Rattle.wheel.proofs.Turning.{off, none, on, way}
use Rattle.wheel.proofs.Visits.{bit_word}

-- ---- one timer's ticks left changed

module _ (h : Hung) (i r : ℕ) where
  -- the others hang where they did
  hangs_other : (s j : ℕ) → (j ≡ i → ⊥) → hangs h s j ≡ hangs (with_left h i r) s j
  unfolding hangs
  hangs_other s j n = rw (left_other h i r j n, position_same h i r)

  hangs_same : (s : ℕ) → i < length h.lefts → hangs (with_left h i r) s i ≡ eqb (spoke_of h.position r) s
  unfolding hangs
  hangs_same s l = rw (left_same h i r l, position_same h i r)

  -- a tabulate of what each timer's ticks left make has one entry changed
  entry_changed : (f : ℕ → ℕ) → i < length h.lefts → i < 32 → (v : ℕ) → v ≡ f r
      → set (tabulate 32 (λ j. f (left h j))) i v ≡ tabulate 32 (λ j. f (left (with_left h i r) j))
  entry_changed f m l v e =
      set_tabulate_below 32 (λ j. f (left h j)) (λ j. f (left (with_left h i r) j)) i v l (rw (left_same h i r m) e) (λ j k o. rw (left_other h i r j o))

  -- tables agree with those of the changed timer if their spokes do, and the timer's own turns and spoke
  changed : (g : Good h) → i < 32 → (spokes : List ℕ) → spokes ≡ (tables_of (with_left h i r)).spokes
      → (n s : ℕ) → n ≡ turns_of r → s ≡ spoke_of h.position r
      → ◌≡◌ {A = Tables}
      (record { spokes = spokes; turns = set (tables_of h).turns i n; spoke = set (tables_of h).spoke i s; position = (tables_of h).position })
      (tables_of (with_left h i r))
  unfolding tables_of with_left
  changed g l spokes e n s p q =
      let m : i < length h.lefts = omega (arith, g.timers) in
      let a = entry_changed turns_of m l n p in
      let b = entry_changed (spoke_of h.position) m l s q in
      λ x. record { spokes = e x; turns = a x; spoke = b x; position = h.position }

  -- a set is that of the timers on s if the others agree, and the timer i does
  word_but : (p : ℕ → Bool) (s : ℕ) → ((j : ℕ) → (j ≡ i → ⊥) → p j ≡ hangs (with_left h i r) s j) → p i ≡ hangs (with_left h i r) s i
      → word_of 32 p ≡ word_of 32 (hangs (with_left h i r) s)
  word_but p s a b =
      word_same 32 p (hangs (with_left h i r) s)
      (λ j l. by_cases (eqb j i) (λ y. rw (eqb-true j i y) b) (λ y. a j (eqb-false j i y)))

  -- the spokes with one word changed, that of the set p, which differs from the timers on s in the timer i alone
  spokes_changed : (s w : ℕ) (p : ℕ → Bool) → s < 64 → w ≡ word_of 32 p
      → ((j : ℕ) → (j ≡ i → ⊥) → p j ≡ hangs h s j)
      → p i ≡ hangs (with_left h i r) s i
      → ((z : ℕ) → z < 64 → (z ≡ s → ⊥) → hangs h z i ≡ hangs (with_left h i r) z i)
      → set (tables_of h).spokes s w ≡ (tables_of (with_left h i r)).spokes
  unfolding tables_of
  spokes_changed s w p k e a b o =
      let here : word_of 32 p ≡ word_of 32 (hangs (with_left h i r) s) = word_but p s (λ j n. a j n ∙ hangs_other s j n) b in
      set_tabulate_below 64 (λ z. word_of 32 (hangs h z)) (λ z. word_of 32 (hangs (with_left h i r) z)) s w k (e ∙ here)
      (λ z m n. word_but (hangs h z) z (λ j. hangs_other z j) (o z m n))

-- what the operations read of a spoke, of a timer and of the position
module _ (h : Hung) where
  pub spoke_word : (s : ℕ) → s < 64 → get_or (words_of h) s 0 ≡ word_of 32 (hangs h s)
  unfolding tables_of
  spoke_word s l = words.word_at (tables_of h) (sized h) s l ∙ get_d_tabulate 64 (λ z. word_of 32 (hangs h z)) s 0 l

  pub spoke_at_lem : (i : ℕ) → i < 32 → spoke_at (words_of h) i ≡ spoke_of h.position (left h i)
  unfolding tables_of
  spoke_at_lem i l = words.spoke_at_lem (tables_of h) (sized h) i l ∙ get_d_tabulate 32 (λ j. spoke_of h.position (left h j)) i 0 l

  pub turns_at_lem : (i : ℕ) → i < 32 → turns_at (words_of h) i ≡ turns_of (left h i)
  unfolding tables_of
  turns_at_lem i l = words.turns_at_lem (tables_of h) (sized h) i l ∙ get_d_tabulate 32 (λ j. turns_of (left h j)) i 0 l

  pub position_at_lem : position_at (words_of h) ≡ h.position
  unfolding tables_of
  position_at_lem = words.position_at_lem (tables_of h) (sized h)

  -- whether a timer of known spoke hangs on s
  pub hangs_at : (i s t : ℕ) → spoke_of h.position (left h i) ≡ t → hangs h s i ≡ eqb t s
  unfolding hangs
  hangs_at i s t e = rw e

-- ---- how a timer stands

-- it is none of the 32, it is stopped, or it runs
data Standing (h : Hung) (i : ℕ) : Type 0 where
  past : 32 ≤ i → Standing h i
  still : i < 32 → left h i ≡ 0 → Standing h i
  runs : i < 32 → 0 < left h i → Standing h i

standing : (h : Hung) (i : ℕ) → Standing h i
standing h i =
    by_cases (ltb i 32)
    (λ l. by_cases (eqb (left h i) 0)
    (λ e. still (ltb-true i 32 l) (eqb-true (left h i) 0 e))
    (λ e. runs (ltb-true i 32 l) (omega (arith, eqb-false (left h i) 0 e))))
    (λ l. past (ltb-false i 32 l))

-- a stopped timer's spoke is none, a running timer's one of the 64
spoke_still : (h : Hung) (i : ℕ) → i < 32 → left h i ≡ 0 → spoke_at (words_of h) i ≡ 255
spoke_still h i l e = spoke_at_lem h i l ∙ rw (e, none h.position)

spoke_runs : (h : Hung) (i : ℕ) → i < 32 → 0 < left h i → spoke_at (words_of h) i < 64
spoke_runs h i l k = rw (spoke_at_lem h i l, on h.position (left h i) k) (omega arith)

-- ---- start

module _ (h : Hung) (g : Good h) (i n : ℕ) where
  -- a stopped timer hung on the spoke of n ticks
  hung_on_lem : (s : ℕ) → s ≡ (h.position + n) % 64 → i < 32 → left h i ≡ 0 → 0 < n → hung_on (words_of h) i n s ≡ words_of (with_left h i n)
  unfolding hung_on
  hung_on_lem s d l e k =
      let m : i < length h.lefts = omega (arith, g.timers) in
      let at : spoke_of h.position n ≡ s = on h.position n k ∙ sym d in
      let new : (z : ℕ) → hangs (with_left h i n) z i ≡ eqb s z = λ z. hangs_same h i n z m ∙ rw at in
      let old : (z : ℕ) → hangs h z i ≡ eqb 255 z = λ z. hangs_at h i z 255 (rw e (none h.position)) in
      timer_put (tables_of h) (sized h) s _ i _ s (omega arith) l
      ∙ ap laid
      (changed h i n g l (set (tables_of h).spokes s (bit_or (get_or (words_of h) s 0) (bit_of i)))
      (spokes_changed h i n s _ (λ j. hangs h s j || eqb j i) (omega arith)
      (rw (spoke_word h s (omega arith), bit_word i l) (or_words 32 (hangs h s) (λ j. eqb j i)))
      (λ j o. rw (ne_eqb j i o) (or_false (hangs h s j)))
      (rw (new s, eq-eqb s s refl, eq-eqb i i refl) (or_right (hangs h s i) true refl))
      (λ z b o. rw (new z, old z, ne_eqb 255 z (λ y. omega arith)) (sym (ne_eqb s z (λ y. o (sym y))))))
      (turns_of n) s refl (sym at))

  start_by : Standing h i → hung_in (words_of h) i n ≡ words_of (started h i n)
  unfolding hung_in started
  start_by (past l) = rw (le-leb 32 i l, le-ltb i 32 l)
  start_by (runs l k) =
      rw (lt-leb 32 i l, lt-ltb i 32 l, lt-ltb _ 64 (spoke_runs h i l k), ne_eqb (left h i) 0 (λ z. omega arith))
  start_by (still l e) =
      rw (lt-leb 32 i l, lt-ltb i 32 l, spoke_still h i l e, eq-eqb (left h i) 0 e)
      (by_cases (eqb n 0)
      (λ z. rw (z, le-ltb 0 n (omega (arith, eqb-true n 0 z))))
      (λ z. rw (z, lt-ltb 0 n (omega (arith, eqb-false n 0 z))) (hung_on_lem _ (rw (position_at_lem h) (omega (arith, g.place))) l e (omega (arith, eqb-false n 0 z)))))

  -- starting in the words is starting
  pub start_inside : hung_in (words_of h) i n ≡ words_of (started h i n)
  start_inside = start_by (standing h i)

-- ---- stop

module _ (h : Hung) (g : Good h) (i : ℕ) where
  -- a running timer taken off its spoke
  taken_off_lem : (s : ℕ) → s ≡ spoke_of h.position (left h i) → i < 32 → 0 < left h i → taken_off (words_of h) i s ≡ words_of (stopped h i)
  unfolding taken_off turns_of xor stopped
  taken_off_lem s d l k =
      let m : i < length h.lefts = omega (arith, g.timers) in
      let a : s < 64 = omega (arith, on h.position (left h i) k) in
      let new : (z : ℕ) → z < 64 → hangs (with_left h i 0) z i ≡ false = λ z b. hangs_same h i 0 z m ∙ off h.position z b in
      let old : (z : ℕ) → hangs h z i ≡ eqb s z = λ z. hangs_at h i z s (sym d) in
      timer_put (tables_of h) (sized h) s _ i 0 255 a l
      ∙ ap laid
      (changed h i 0 g l (set (tables_of h).spokes s (bit_xor (get_or (words_of h) s 0) (bit_of i)))
      (spokes_changed h i 0 s _ (λ j. xor (hangs h s j) (eqb j i)) a
      (rw (spoke_word h s a, bit_word i l) (xor_words 32 (hangs h s) (λ j. eqb j i)))
      (λ j o. rw (ne_eqb j i o) (xor_false (hangs h s j)))
      (rw (new s a, old s, eq-eqb s s refl, eq-eqb i i refl))
      (λ z b o. rw (new z b, old z) (ne_eqb s z (λ y. o (sym y)))))
      0 255 refl (sym (none h.position)))

  stop_by : Standing h i → taken_in (words_of h) i ≡ words_of (stopped h i)
  unfolding taken_in
  stop_by (past l) = rw (le-leb 32 i l, stopped_same h i (left_past h g i l))
  stop_by (still l e) = rw (lt-leb 32 i l, spoke_still h i l e, stopped_same h i e)
  stop_by (runs l k) = rw (lt-leb 32 i l, lt-leb 64 _ (spoke_runs h i l k)) (taken_off_lem _ (spoke_at_lem h i l) l k)

  -- stopping in the words is stopping
  pub stop_inside : taken_in (words_of h) i ≡ words_of (stopped h i)
  stop_inside = stop_by (standing h i)

  -- ---- ticks left

  left_by : Standing h i → way_in (words_of h) i ≡ left h i
  unfolding way_in
  left_by (past l) = rw (le-leb 32 i l) (sym (left_past h g i l))
  left_by (still l e) = rw (lt-leb 32 i l, spoke_still h i l e) (sym e)
  left_by (runs l k) =
      rw (
        lt-leb 32 i l,
        lt-leb 64 _ (spoke_runs h i l k),
        spoke_at_lem h i l,
        turns_at_lem h i l,
        on h.position (left h i) k,
        position_at_lem h,
      )
      (way h.position (left h i) g.place k (g.short i))

  -- the ticks left in the words are the ticks left
  pub left_inside : way_in (words_of h) i ≡ left h i
  left_inside = left_by (standing h i)
