-- A broadcast signals as often as there are threads: each signal takes one waiter away, then none is left, and more signals do nothing.
-- Assumes nothing.
use Prim.Native.Nat.{ℕ, zero, suc, ◌+◌, ◌-◌, ◌<◌, ◌≤◌}
use mathlib.Core.Path.{◌≡◌, refl, sym, ap, ◌∙◌, subst}
use mathlib.Core.Bool.{Bool, true, false, cond}
use native.Mathlib.Omega.{arith}
use native.Mathlib.Nat.{not-suc-le-zero}
use lib.ListN.{length, length-set}
use lib.Dec.{eqb}
use lib.IntN.{ℤ}
use borrow.Author.Tests.{eqb-true, eqb-false}
use Rattle.laws.proofs.Bools.{by_cases, self}
use Rattle.laws.proofs.Lists.{by_equal}
use Rattle.rules.specs.State.{Where, ready, for_mutex, on_condition, same}
use Rattle.rules.specs.Page.{how_many}
use Rattle.rules_pages.proofs.Counts.{many_more}
use Rattle.book.specs.Book.{Book, Thread, Found, nobody, somebody, thread, mutex, tied, own, stand, above, marks_for, stands_at, highest_earliest, arrive}
use Rattle.book.specs.Turns.{Outcome, become_owner, tie, leave, untie, wake, signal, signals}
use Rattle.book.proofs.Alike.{thread_moved, thread_other}
use Rattle.book.proofs.Search.{none_found, found_there}

-- ---- how many pass a test

many_most : (n : ℕ) (f : ℕ → Bool) → how_many n f ≤ n
unfolding how_many
many_most zero f = omega arith
many_most (suc n) f = by_cases (f n) (λ e. rw e (omega (arith, many_most n f))) (λ e. rw e (omega (arith, many_most n f)))

many_zero : (n : ℕ) (f : ℕ → Bool) → how_many n f ≤ 0 → (u : ℕ) → u < n → f u ≡ false
unfolding how_many
many_zero zero f h u l = absurd (not-suc-le-zero l)
many_zero (suc n) f h u l = go (f n) refl h (many_zero n f)
  where
    go : (y : Bool) → f n ≡ y → cond y 1 0 + how_many n f ≤ 0 → (how_many n f ≤ 0 → (v : ℕ) → v < n → f v ≡ false) → f u ≡ false
    go true q i r = absurd (omega arith)
    go false q i r = by_equal u n (λ e. rw e q) (λ e. r (omega arith) u (omega arith))

-- ---- a signal takes one waiter away

module _ (c : ℕ) where
  -- thread t has left condition variable c
  record Leaves (t : ℕ) (b l : Book) : Type 0 where
    size : length l.threads ≡ length b.threads
    others : (u : ℕ) → stands_at l (on_condition c) u ≡ cond (eqb u t) false (stands_at b (on_condition c) u)

  leaves_stand : (b : Book) (t : ℕ) (w : Where) (z : ℤ) → t < length b.threads → same w (on_condition c) ≡ false → Leaves t b (stand b t w z)
  leaves_stand b t w z l n = record {
    size = unfold stand in length-set b.threads t (record { base = (thread b t).base; stands = w; mark = z });
    others = λ u. by_cases (eqb u t)
        (λ e. rw (e, eqb-true u t e) (ap (λ (x : Thread). same x.stands (on_condition c)) (thread_moved b t w z l) ∙ n))
        (λ e. rw e (ap (λ (x : Thread). same x.stands (on_condition c)) (thread_other b t w z u (eqb-false u t e))));
  }

  leaves_leave : (b : Book) (m t : ℕ) → t < length b.threads → Leaves t b (leave b m t)
  unfolding leave
  leaves_leave b m t l = by_cases (eqb (mutex b m).owner 255)
      (λ e. rw e (owner (unfold own in (leaves_stand (own b m t 1) t ready (above (marks_for (own b m t 1) t ready)) (unfold own in l) (unfold same in refl)))))
      (λ e. rw e (unfold arrive in (leaves_stand b t (for_mutex m) (above (marks_for b t (for_mutex m))) l (unfold same in refl))))
    where
      owner : Leaves t (own b m t 1) (stand (own b m t 1) t ready (above (marks_for (own b m t 1) t ready))) → Leaves t b (become_owner b m t)
      owner x = unfold become_owner arrive in record { size = unfold own in x.size; others = unfold own in x.others }

  leaves_untie : (b l : Book) (t : ℕ) (f : Found) → Leaves t b l → Leaves t b (untie l c f)
  unfolding untie tie
  leaves_untie b l t nobody x = record { size = x.size; others = x.others }
  leaves_untie b l t (somebody u) x = x

  leaves_wake : (b : Book) (t : ℕ) → t < length b.threads → Leaves t b (wake b c (somebody t)).book
  unfolding wake
  leaves_wake b t l = leaves_untie b (leave b (tied b c) t) t (highest_earliest (leave b (tied b c) t) (on_condition c)) (leaves_leave b (tied b c) t l)

  -- how many wait on c
  abbrev waiting : Book → ℕ
  waiting b = how_many (length b.threads) (stands_at b (on_condition c))

  one_less : (b l : Book) (t : ℕ) → Leaves t b l → stands_at b (on_condition c) t ≡ true → t < length b.threads → waiting b ≡ suc (waiting l)
  one_less b l t x e k = many_more (length b.threads) t (stands_at b (on_condition c)) (stands_at l (on_condition c)) k (x.others t ∙ rw (self t))
      (λ v z. by_cases (eqb v t) (λ y. rw (y, eqb-true v t y) e) (λ y. rw y (sym (x.others v ∙ rw y))))
      ∙ ap (λ n. suc (how_many n (stands_at l (on_condition c)))) (sym x.size)

  -- a signal that finds somebody leaves one waiter fewer
  fewer : (n t : ℕ) (b : Book) → highest_earliest b (on_condition c) ≡ somebody t → waiting b ≤ suc n → waiting (signal b c).book ≤ n
  fewer n t b e h =
      let x = found_there b (on_condition c) t e in
      let less : waiting (wake b c (somebody t)).book ≤ n = omega (arith, one_less b (wake b c (somebody t)).book t (leaves_wake b t x.1) x.0 x.1, h) in
      subst (λ f. waiting (wake b c f).book ≤ n) (sym e) less

  -- ---- so many signals are enough

  -- with no waiter signals do nothing
  no_more : (n : ℕ) (b : Book) → highest_earliest b (on_condition c) ≡ nobody → signals n b c ≡ record { book = b; given = 0 }
  unfolding signals wake
  no_more zero b e = refl
  no_more (suc n) b e = rw (e, wake) (rw (no_more n b e))

  -- one signal, then the others
  then_others : Outcome → Outcome → Outcome
  then_others s o = record { book = o.book; given = s.given + o.given }

  one_then : (n : ℕ) (b : Book) → signals (suc n) b c ≡ then_others (signal b c) (signals n (signal b c).book c)
  unfolding signals then_others
  one_then n b = refl

  enough : (n m : ℕ) (b : Book) → waiting b ≤ n → signals (n + m) b c ≡ signals n b c
  enough zero m b h =
      let e = none_found b (on_condition c) (length b.threads) (many_zero (length b.threads) (stands_at b (on_condition c)) h) in
      no_more (zero + m) b e ∙ sym (no_more zero b e)
  enough (suc n) m b h = go (highest_earliest b (on_condition c)) refl (enough n m)
    where
      go : (f : Found) → highest_earliest b (on_condition c) ≡ f → ((l : Book) → waiting l ≤ n → signals (n + m) l c ≡ signals n l c) → signals (suc n + m) b c ≡ signals (suc n) b c
      go nobody e r = no_more (suc n + m) b e ∙ sym (no_more (suc n) b e)
      go (somebody t) e r =
          let more : suc n + m ≡ suc (n + m) = omega arith in
          ap (λ k. signals k b c) more ∙ one_then (n + m) b
          ∙ ap (then_others (signal b c)) (r (signal b c).book (fewer n t b e h)) ∙ sym (one_then n b)

  -- after as many signals as there are waiters nobody waits there
  none_left : (n : ℕ) (b : Book) → waiting b ≤ n → highest_earliest (signals n b c).book (on_condition c) ≡ nobody
  unfolding signals
  none_left zero b h = none_found b (on_condition c) (length b.threads) (many_zero (length b.threads) (stands_at b (on_condition c)) h)
  none_left (suc n) b h = go (highest_earliest b (on_condition c)) refl (none_left n)
    where
      go : (f : Found) → highest_earliest b (on_condition c) ≡ f → ((l : Book) → waiting l ≤ n → highest_earliest (signals n l c).book (on_condition c) ≡ nobody)
          → highest_earliest (signals n (signal b c).book c).book (on_condition c) ≡ nobody
      go nobody e r = ap (λ (o : Outcome). highest_earliest o.book (on_condition c)) (no_more (suc n) b e) ∙ e
      go (somebody t) e r = r (signal b c).book (fewer n t b e h)

-- as many as there are threads do what 32 do
pub signals_enough : (b : Book) (c : ℕ) → length b.threads ≤ 32 → signals 32 b c ≡ signals (length b.threads) b c
signals_enough b c l =
    let e : 32 ≡ length b.threads + (32 - length b.threads) = omega arith in
    ap (λ n. signals n b c) e ∙ enough c (length b.threads) (32 - length b.threads) b (many_most (length b.threads) (stands_at b (on_condition c)))

-- a broadcast signals until none waits
pub broadcast_leaves_none : (b : Book) (c : ℕ) → highest_earliest (signals (length b.threads) b c).book (on_condition c) ≡ nobody
broadcast_leaves_none b c = none_left c (length b.threads) b (many_most (length b.threads) (stands_at b (on_condition c)))
