-- The moves keep a scheduler and a book alike: a thread that is in no queue arrives at the back or the front, the first of a queue leaves, a mutex
-- changes hands, a tie changes.
-- Assumes nothing.
use Prim.Native.Nat.{ℕ, ◌<◌}
use mathlib.Core.Path.{◌≡◌, refl, sym, ap, ◌∙◌, subst}
use mathlib.Core.Bool.{true, false, ◌&&◌}
use mathlib.Core.List.{List, [], ◌∷◌, ◌++◌, tail}
use lib.ListN.{length, set}
use lib.Seq.{set-get_or}
use lib.Dec.{eqb}
use lib.IntN.{ℤ}
use borrow.Author.Tests.{eq-eqb, ne_eqb}
use Rattle.laws.proofs.Bools.{no_way, and_both, cond_false}
use Rattle.rules.specs.Queues.{queue, to_back, to_front, first_leaves}
use Rattle.rules.specs.State.{Where, running, ready, Rows, Sets, Scheduler, with_rows, set_at, put_set}
use Rattle.rules.specs.State as S
use Rattle.rules.specs.Sound.{mem}
use Rattle.rules_soundness.proofs.Fits.{Ordered, here, here_prio}
use Rattle.rules_soundness.proofs.Rows.{Real, not_running, standing_exists, at_stand, priority_stand, length_stand, length_own, length_tie}
use Rattle.rules_soundness.proofs.Facts.{Queued}
use Rattle.rules_soundness.proofs.Calls.{stands_there}
use Rattle.book.specs.Book.{Book, stand, own, priority, stands_at, there, above, below, marks_for, arrive, arrive_in_front}
use Rattle.book.specs.Turns.{tie}
use Rattle.book.proofs.Marks.{under_above, over_below}
use Rattle.book.proofs.Alike.{rows_in, mark_of, threads_in_lem, at_in, priority_in, stand_in, own_in, tie_in_lem, mark_new, mark_old, Earlier, Marked, Alike, ordered_back, ordered_tail, has_set, marked_set, marked_but, marked_rows}

-- who stands nowhere is in no queue
pub in_no_queue : {k : Rows} {s : Sets} → Queued k s → (t : ℕ) → (S.thread k t).stands ≡ running → (w : Where) → Real k w → (p : ℕ) → p < 16 → mem t (queue (set_at s w) p) ≡ false
in_no_queue {k} q t e w r p l = (q.fits w r).who p t l ∙ ap (λ x. x && eqb (S.priority k t) p) nowhere
  where
    nowhere : S.at k w t ≡ false
    nowhere = unfold S.at in (rw e (not_running (length k.mutexes) (length k.ties) w r))

-- a thread that runs is put nowhere where it is
pub stand_running : (k : Rows) (t : ℕ) → (S.thread k t).stands ≡ running → S.stand k t running ≡ k
unfolding S.stand
stand_running k t e = ap (S.with_threads k)
    (ap (λ w. set k.threads t (record { base = (S.thread k t).base; stands = w })) (sym e) ∙ set-get_or k.threads t S.no_thread)

-- ---- arriving

-- thread t, which is in no queue, arrives at w
module _ (k : Rows) (s : Sets) (b : Book) (t : ℕ) (w : Where) (q : Queued (S.stand k t running) s) (m : Marked k s (mark_of b)) (exists : t < length k.threads) (r : Real k w)
    (low : S.priority k t < 16) (e : k ≡ rows_in b) where
  -- the queue that it joins
  abbrev line : List ℕ
  line = queue (set_at s w) (S.priority k t)

  in_book : (u : ℕ) → u < length k.threads → u < length b.threads
  in_book u l = subst (λ n. u < n) (ap (λ (x : Rows). length x.threads) e ∙ threads_in_lem b) l

  exists_in_lem : t < length b.threads
  exists_in_lem = in_book t exists

  away : (v : Where) → Real k v → (p : ℕ) → p < 16 → mem t (queue (set_at s v) p) ≡ false
  away v z p l = in_no_queue q t (stands_there k t running exists) v (unfold S.stand in z) p l

  not_t : (u : ℕ) → mem u line ≡ true → u ≡ t → ⊥
  not_t u i z = no_way (mem t line) (rw z at i) (away w r (S.priority k t) low)

  -- whoever is in that queue stands there with the same priority
  waits_there : (u : ℕ) → mem u line ≡ true → there b w (priority b t) u ≡ true
  waits_there u i = and_both (stands_at b w u) (eqb (priority b u) (priority b t)) stands (eq-eqb (priority b u) (priority b t) alike)
    where
      moved : S.at (S.stand k t running) w u ≡ true
      moved = here (q.fits w (unfold S.stand in r)) (S.priority k t) u low i

      stands : stands_at b w u ≡ true
      stands =
          sym (at_in b w u) ∙ ap (λ x. S.at x w u) (sym e)
          ∙ sym (at_stand k t running w u exists ∙ cond_false (eqb u t) (S.same running w) (S.at k w u) (ne_eqb u t (not_t u i))) ∙ moved

      alike : priority b u ≡ priority b t
      alike =
          sym (priority_in b u) ∙ ap (λ x. S.priority x u) (sym e) ∙ sym (priority_stand k t running u exists)
          ∙ here_prio (q.fits w (unfold S.stand in r)) (S.priority k t) u low i ∙ ap (λ x. S.priority x t) e ∙ priority_in b t

  below_all : (u : ℕ) → mem u line ≡ true → u < length b.threads
  below_all u i = in_book u (standing u (here (q.fits w (unfold S.stand in r)) (S.priority k t) u low i))
    where
      standing : (u : ℕ) → S.at (S.stand k t running) w u ≡ true → u < length k.threads
      standing u z = rw (← length_stand k t running) (standing_exists (S.stand k t running) w u (not_running (length k.mutexes) (length k.ties) w r) z)

  -- with mark z, in a queue that is in order of the marks
  lands : (z : ℤ) (x : List ℕ) → Ordered (Earlier (mark_of (stand b t w z))) x
      → Alike (record { rows = S.stand k t w; sets = put_set s w (set (set_at s w) (S.priority k t) x) }) (stand b t w z)
  lands z x o = record {
    rows = ap (λ l. S.stand l t w) e ∙ stand_in b t w z;
    marked = unfold S.stand in (marked_set k s w (has_set q w (unfold S.stand in r)) (q.fits w (unfold S.stand in r)).size (S.priority k t) x (mark_of (stand b t w z)) (remarked z) o);
  }
    where
      remarked : (z : ℤ) → Marked k s (mark_of (stand b t w z))
      remarked z = marked_but k s (mark_of b) (mark_of (stand b t w z)) t m away (mark_old b t w z)

  -- the others of that queue keep their marks
  in_order_lem : (z : ℤ) → Ordered (Earlier (mark_of (stand b t w z))) line
  in_order_lem z = marked_but k s (mark_of b) (mark_of (stand b t w z)) t m away (mark_old b t w z) w r (S.priority k t) low

  pub lands_back : Alike (record { rows = S.stand k t w; sets = put_set s w (to_back (set_at s w) (S.priority k t) t) }) (arrive b t w)
  unfolding to_back arrive
  lands_back = lands z (line ++ (t ∷ [])) (ordered_back (Earlier (mark_of (stand b t w z))) line t (in_order_lem z)
      (λ u i. rw (mark_new b t w z exists_in_lem, mark_old b t w z u (not_t u i)) (under_above b w (priority b t) (length b.threads) u (below_all u i) (waits_there u i))))
    where
      z : ℤ
      z = above (marks_for b t w)

  pub lands_front : Alike (record { rows = S.stand k t w; sets = put_set s w (to_front (set_at s w) (S.priority k t) t) }) (stand b t w (below (marks_for b t w)))
  unfolding to_front
  lands_front = lands z (t ∷ line)
      (λ u i. rw (mark_new b t w z exists_in_lem, mark_old b t w z u (not_t u i)) (over_below b w (priority b t) (length b.threads) u (below_all u i) (waits_there u i)), in_order_lem z)
    where
      z : ℤ
      z = below (marks_for b t w)

-- a thread that runs arrives
module _ {h : Scheduler} {b : Book} (a : Alike h b) (q : Queued h.rows h.sets) (t : ℕ) (exists : t < length h.rows.threads) (runs : (S.thread h.rows t).stands ≡ running) (low : S.priority h.rows t < 16) where
  aside : Queued (S.stand h.rows t running) h.sets
  aside = rw (stand_running h.rows t runs) q

  pub alike_arrive : (w : Where) → Real h.rows w → Alike (S.arrive h t w) (arrive b t w)
  unfolding S.arrive
  alike_arrive w r = lands_back h.rows h.sets b t w aside a.marked exists r low a.rows

  pub alike_front : Alike (S.arrive_in_front h t) (arrive_in_front b t)
  unfolding S.arrive_in_front arrive_in_front
  alike_front = lands_front h.rows h.sets b t ready aside a.marked exists tt low a.rows

-- ---- leaving

-- the queues stay in order when the first leaves
pub marked_leave : (k : Rows) (s : Sets) (mark : ℕ → ℤ) → Queued k s → Marked k s mark → (w : Where) → Real k w → (p : ℕ) → p < 16 → Marked k (put_set s w (first_leaves (set_at s w) p)) mark
unfolding first_leaves
marked_leave k s mark q m w r p l = marked_set k s w (has_set q w r) (q.fits w r).size p (tail (queue (set_at s w) p)) mark m (ordered_tail (Earlier mark) (queue (set_at s w) p) (m w r p l))

-- ---- changing hands, and ties

module _ {h : Scheduler} {b : Book} (a : Alike h b) where
  pub alike_own : (m t n : ℕ) → Alike (with_rows h (S.own h.rows m t n)) (own b m t n)
  alike_own m t n = record {
    rows = ap (λ k. S.own k m t n) a.rows ∙ own_in b m t n;
    marked = unfold own in (marked_rows h.rows (S.own h.rows m t n) h.sets (mark_of b) (length_own h.rows m t n) (unfold S.own in refl) a.marked);
  }

  pub alike_tie : (c m : ℕ) → Alike (with_rows h (S.tie h.rows c m)) (tie b c m)
  alike_tie c m = record {
    rows = ap (λ k. S.tie k c m) a.rows ∙ tie_in_lem b c m;
    marked = unfold tie in (marked_rows h.rows (S.tie h.rows c m) h.sets (mark_of b) (unfold S.tie in refl) (length_tie h.rows c m) a.marked);
  }
