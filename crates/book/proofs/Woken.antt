-- A waiter on a condition variable that becomes ready owns its mutex: whoever stood on a condition variable before a call and is ready or running
-- after it owns then the mutex that the condition variable was tied to. Shown on the book, and carried to document 01's definition.
-- Assumes nothing.
use Prim.Native.Nat.{ℕ, zero, suc, ◌<◌}
use mathlib.Core.Path.{◌≡◌, refl, sym, ap, ◌∙◌, subst}
use mathlib.Core.Bool.{Bool, true, false, cond, ◌&&◌, false≢true, true≢false}
use mathlib.Core.List.{List}
use native.Mathlib.Omega.{arith}
use native.Mathlib.Nat.{not-suc-le-zero}
use lib.ListN.{length, get_or, set, length-set, get_or-append, get_or-eq_default}
use lib.Seq.{get_or-set_same, get_or-set_other}
use lib.Dec.{eqb, ltb}
use lib.IntN.{ℤ, pos}
use borrow.Author.Tests.{eqb-true}
use Rattle.laws.proofs.Bools.{by_cases, no_way}
use Rattle.laws.proofs.Lists.{by_equal, by_below}
use Rattle.calls.specs.declared.Call.{Call}
use Rattle.calls.specs.declared.Call.TheVariants.{Start, CreateThread, CreateMutex, CreateCondition, CreateTimer, Acquire, Release, Wait, Signal, Broadcast, StartTimer, StopTimer, Tick}
use Rattle.calls.specs.Answers.{number_of}
use Rattle.rules.specs.State.{Where, running, ready, for_mutex, on_condition, same, waits, Mutex}
use Rattle.rules_soundness.proofs.Rows.{same_true, same_self}
use Rattle.book.specs.Book.{Book, no_thread, no_mutex, Thread, Found, nobody, somebody, thread, mutex, tied, timer, with_timers, next_tick, now_started, stand, own, priority, stands_at, better, first_below, highest_earliest, above, below, marks_for, arrive, arrive_in_front}
use Rattle.book.specs.Turns.{runs, run, run_first, create_thread, acquire, become_owner, hand_over, release, tie, wait, leave, untie, wake, signal, signals, renewed, expire, expire_below, verdict, outcome, turn_to, run_next, is_tick, turn}
use Rattle.book.proofs.Alike.{thread_moved, thread_other}
use Rattle.book.proofs.Search.{found_there}

-- one of two books
either : (P : Book → Type 0) (y : Bool) (l i : Book) → (y ≡ true → P l) → (y ≡ false → P i) → P (cond y l i)
either P true l i p q = p refl
either P false l i p q = q refl

module _ (t : ℕ) where
  -- ---- thread t stays where it is

  -- another thread moves
  other_moves : (b : Book) (u : ℕ) (w : Where) (z : ℤ) → (u ≡ t → ⊥) → thread (stand b u w z) t ≡ thread b t
  other_moves b u w z n = thread_other b u w z t (λ e. n (sym e))

  -- who stands where t does not is not t
  not_t : (b : Book) (u : ℕ) (v : Where) → stands_at b v u ≡ true → stands_at b v t ≡ false → u ≡ t → ⊥
  not_t b u v e n q = no_way (stands_at b v t) (subst (λ i. stands_at b v i ≡ true) q e) n

  -- t stands neither ready nor running
  abbrev Aside : Book → Type 0
  Aside b = (stands_at b ready t ≡ false) × (stands_at b running t ≡ false)

  -- the rule of three moves t nowhere
  abbrev Stays : Book → Book → Type 0
  Stays b l = thread l t ≡ thread b t

  stays_run : (b : Book) → stands_at b ready t ≡ false → (f : Found) → highest_earliest b ready ≡ f → Stays b (run b f)
  unfolding run
  stays_run b n nobody e = refl
  stays_run b n (somebody u) e = other_moves b u running (pos 0) (not_t b u ready (found_there b ready u e).0 n)

  -- another goes back to the ready queues, and the first runs
  stays_back : (b : Book) (u : ℕ) (z : ℤ) → (u ≡ t → ⊥) → stands_at b ready t ≡ false → Stays b (run_first (stand b u ready z))
  stays_back b u z n e = stays_run (stand b u ready z) (ap (λ (x : Thread). same x.stands ready) (other_moves b u ready z n) ∙ e) (highest_earliest (stand b u ready z) ready) refl ∙ other_moves b u ready z n

  stays_turn : (at_tick : Bool) (b : Book) → Aside b → stands_at b running b.runner ≡ true → (f : Found) → Stays b (turn_to at_tick b f)
  unfolding turn_to
  stays_turn at_tick b a c nobody = refl
  stays_turn at_tick b a c (somebody u) = either (Stays b) (ltb (priority b b.runner) (priority b u)) _ _
      (λ y. unfold arrive_in_front in (stays_back b b.runner (below (marks_for b b.runner ready)) (not_t b b.runner running c a.1) a.0))
      (λ y. either (Stays b) (at_tick && eqb (priority b b.runner) (priority b u)) _ _
      (λ z. unfold arrive in (stays_back b b.runner (above (marks_for b b.runner ready)) (not_t b b.runner running c a.1) a.0)) (λ z. refl))

  stays_next : (at_tick : Bool) (b : Book) → Aside b → Stays b (run_next at_tick b)
  unfolding run_next
  stays_next at_tick b a = either (Stays b) b.started _ b
      (λ y. either (Stays b) (stands_at b running b.runner) _ _ (λ z. stays_turn at_tick b a z (highest_earliest b ready)) (λ z. stays_run b a.0 (highest_earliest b ready) refl))
      (λ y. refl)

-- the rule of three changes no mutex
abbrev Calm : Book → Book → Type 0
Calm b l = l.mutexes ≡ b.mutexes

calm_run : (b : Book) (f : Found) → Calm b (run b f)
unfolding run stand
calm_run b nobody = refl
calm_run b (somebody u) = refl

calm_turn : (at_tick : Bool) (b : Book) (f : Found) → Calm b (turn_to at_tick b f)
unfolding turn_to
calm_turn at_tick b nobody = refl
calm_turn at_tick b (somebody u) = either (Calm b) (ltb (priority b b.runner) (priority b u)) _ _
    (λ y. unfold arrive_in_front stand in (calm_run (arrive_in_front b b.runner) (highest_earliest (arrive_in_front b b.runner) ready)))
    (λ y. either (Calm b) (at_tick && eqb (priority b b.runner) (priority b u)) _ _
    (λ z. unfold arrive stand in (calm_run (arrive b b.runner ready) (highest_earliest (arrive b b.runner ready) ready))) (λ z. refl))

calm_next : (at_tick : Bool) (b : Book) → Calm b (run_next at_tick b)
unfolding run_next
calm_next at_tick b = either (Calm b) b.started _ b
    (λ y. either (Calm b) (stands_at b running b.runner) _ _ (λ z. calm_turn at_tick b (highest_earliest b ready)) (λ z. calm_run b (highest_earliest b ready)))
    (λ y. refl)

-- ---- the calls that signal nobody leave a waiter where it is

-- where t stands not, if it stands on a condition variable
elsewhere : (b : Book) (t c : ℕ) (v : Where) → stands_at b (on_condition c) t ≡ true → same (on_condition c) v ≡ false → stands_at b v t ≡ false
elsewhere b t c v e n = ap (λ w. same w v) (same_true (thread b t).stands (on_condition c) e) ∙ n

module _ (b : Book) (t c : ℕ) (e : stands_at b (on_condition c) t ≡ true) where
  pub on_the_list : t < length b.threads
  on_the_list = by_below t (length b.threads) (λ l. l) (λ l. absurd (false≢true
      (sym (ap (λ (x : Thread). same x.stands (on_condition c)) (get_or-eq_default b.threads no_thread l) ∙ (unfold same in refl)) ∙ e)))

  stays_create : (p : ℕ) → Stays t b (create_thread b p)
  unfolding create_thread
  stays_create p = get_or-append b.threads _ no_thread t on_the_list

  stays_start : Stays t b (run_first (now_started b))
  stays_start = stays_run t (now_started b) (elsewhere b t c ready e (unfold same in refl)) (highest_earliest (now_started b) ready) refl

  stays_hand : (m : ℕ) (f : Found) → highest_earliest b (for_mutex m) ≡ f → Stays t b (hand_over b m f)
  unfolding hand_over become_owner arrive
  stays_hand m nobody q = unfold own in refl
  stays_hand m (somebody u) q =
      other_moves t (own b m u 1) u ready (above (marks_for (own b m u 1) u ready)) (not_t t b u (for_mutex m) (found_there b (for_mutex m) u q).0 (elsewhere b t c (for_mutex m) e (unfold same in refl)))
      ∙ (unfold own in refl)

  stays_release : (m : ℕ) → Stays t b (release b m)
  unfolding release
  stays_release m = either (Stays t b) (ltb 1 (mutex b m).count) _ _ (λ y. unfold own in refl) (λ y. stays_hand m (highest_earliest b (for_mutex m)) refl)

  -- the caller runs
  module _ (calls : stands_at b running b.runner ≡ true) where
    not_caller : b.runner ≡ t → ⊥
    not_caller = not_t t b b.runner running calls (elsewhere b t c running e (unfold same in refl))

    stays_acquire : (m : ℕ) → Stays t b (acquire b m)
    unfolding acquire
    stays_acquire m = either (Stays t b) (eqb (mutex b m).owner b.runner) _ _ (λ y. unfold own in refl)
        (λ y. either (Stays t b) (eqb (mutex b m).owner 255) _ _ (λ z. unfold own in refl) (λ z. unfold arrive in (other_moves t b b.runner (for_mutex m) (above (marks_for b b.runner (for_mutex m))) not_caller)))

    -- the caller is still the one that runs after a release
    same_caller : (m : ℕ) → (release b m).runner ≡ b.runner
    unfolding release
    same_caller m = either (λ l. l.runner ≡ b.runner) (ltb 1 (mutex b m).count) _ _ (λ y. unfold own in refl) (λ y. go (highest_earliest b (for_mutex m)))
      where
        go : (f : Found) → (hand_over b m f).runner ≡ b.runner
        go nobody = unfold hand_over own in refl
        go (somebody u) = unfold hand_over become_owner arrive stand own in refl

    stays_wait : (d m : ℕ) → Stays t b (wait b d m)
    unfolding wait arrive
    stays_wait d m =
        other_moves t (tie (release b m) d m) (release b m).runner (on_condition d) (above (marks_for (tie (release b m) d m) (release b m).runner (on_condition d))) (λ q. not_caller (sym (same_caller m) ∙ q))
        ∙ (unfold tie in (stays_release m))

-- ---- a signal moves a waiter towards its mutex

-- thread t waits on a condition variable tied to mutex m, or for m, or owns m
data Toward (t m : ℕ) (b : Book) : Type 0 where
  waits_on : (c : ℕ) → stands_at b (on_condition c) t ≡ true → tied b c ≡ m → Toward t m b
  waits_for : stands_at b (for_mutex m) t ≡ true → Toward t m b
  owns_it : (mutex b m).owner ≡ t → Toward t m b

record On (t m : ℕ) (b : Book) : Type 0 where
  exists : t < length b.threads
  real : m < length b.mutexes
  toward : Toward t m b

-- whoever stands at a place is found there, or another is
pub stands_found : (b : Book) (w : Where) (u : ℕ) → stands_at b w u ≡ true → (n : ℕ) → u < n → first_below b w n ≡ nobody → ⊥
unfolding first_below
stands_found b w u e zero l q = not-suc-le-zero l
stands_found b w u e (suc n) l q = go (stands_at b w n) refl q (stands_found b w u e n)
  where
    somebody_better : (f : Found) → better b n f ≡ nobody → ⊥
    somebody_better nobody z = unfold better in (let y : ◌≡◌ {A = ℕ} 0 1 = cc in omega arith)
    somebody_better (somebody v) z = unfold better in (let y : ◌≡◌ {A = ℕ} 0 1 = cc in omega arith)

    go : (y : Bool) → stands_at b w n ≡ y → cond y (better b n (first_below b w n)) (first_below b w n) ≡ nobody → (u < n → first_below b w n ≡ nobody → ⊥) → ⊥
    go true i z r = somebody_better (first_below b w n) z
    go false i z r = by_equal u n (λ g. no_way (stands_at b w n) (subst (λ j. stands_at b w j ≡ true) g e) i) (λ g. r (omega arith) z)

module _ (t m : ℕ) (small : t ≡ 255 → ⊥) where
  -- who owns m keeps it when another mutex, or a free one, changes hands
  keeps_owner : (b : Book) (i u n : ℕ) → (mutex b i).owner ≡ 255 → (mutex b m).owner ≡ t → (mutex (own b i u n) m).owner ≡ t
  unfolding own
  keeps_owner b i u n free q = by_equal m i
      (λ g. absurd (small (sym q ∙ ap (λ j. (mutex b j).owner) g ∙ free)))
      (λ g. ap (λ (x : Mutex). x.owner) (get_or-set_other b.mutexes i m (record { ceiling = (mutex b i).ceiling; owner = u; count = n }) no_mutex g) ∙ q)

  module _ (b : Book) (o : On t m b) where
    -- t itself leaves its condition variable
    arrives : Toward t m (leave b m t)
    unfolding leave
    arrives = either (Toward t m) (eqb (mutex b m).owner 255) _ _
        (λ y. owns_it (unfold become_owner arrive stand own in (ap (λ (x : Mutex). x.owner) (get_or-set_same b.mutexes m (record { ceiling = (mutex b m).ceiling; owner = t; count = 1 }) no_mutex o.real))))
        (λ y. waits_for (unfold arrive in (ap (λ (x : Thread). same x.stands (for_mutex m)) (thread_moved b t (for_mutex m) (above (marks_for b t (for_mutex m))) o.exists) ∙ same_self (for_mutex m))))

    -- another leaves its condition variable
    passes : (i u : ℕ) → (u ≡ t → ⊥) → Stays t b (leave b i u)
    unfolding leave
    passes i u n = either (Stays t b) (eqb (mutex b i).owner 255) _ _
        (λ y. unfold become_owner arrive in (other_moves t (own b i u 1) u ready (above (marks_for (own b i u 1) u ready)) n ∙ (unfold own in refl)))
        (λ y. unfold arrive in (other_moves t b u (for_mutex i) (above (marks_for b u (for_mutex i))) n))

    leave_ties : (i u : ℕ) → (leave b i u).ties ≡ b.ties
    unfolding leave
    leave_ties i u = either (λ l. l.ties ≡ b.ties) (eqb (mutex b i).owner 255) _ _ (λ y. unfold become_owner arrive stand own in refl) (λ y. unfold arrive stand in refl)

    leave_owner : (i u : ℕ) → (mutex b m).owner ≡ t → (mutex (leave b i u) m).owner ≡ t
    unfolding leave
    leave_owner i u q = either (λ l. (mutex l m).owner ≡ t) (eqb (mutex b i).owner 255) _ _
        (λ y. unfold become_owner arrive stand in (keeps_owner b i u 1 (eqb-true (mutex b i).owner 255 y) q)) (λ y. unfold arrive stand in q)

    goes : (d u : ℕ) → stands_at b (on_condition d) u ≡ true → Toward t m b → Toward t m (leave b (tied b d) u)
    goes d u e (owns_it q) = owns_it (leave_owner (tied b d) u q)
    goes d u e (waits_for q) = by_equal u t
        (λ g. absurd (true≢false (sym (subst (λ j. stands_at b (on_condition d) j ≡ true) g e) ∙ ap (λ w. same w (on_condition d)) (same_true (thread b t).stands (for_mutex m) q) ∙ (unfold same in refl))))
        (λ g. waits_for (ap (λ (x : Thread). same x.stands (for_mutex m)) (passes (tied b d) u g) ∙ q))
    goes d u e (waits_on c q z) = by_equal u t
        (λ g. let is : tied b d ≡ m = ap (tied b) (same_place (subst (λ j. stands_at b (on_condition d) j ≡ true) g e)) ∙ z in
        subst (λ j. Toward t m (leave b (tied b d) j)) (sym g) (subst (λ i. Toward t m (leave b i t)) (sym is) arrives))
        (λ g. waits_on c (ap (λ (x : Thread). same x.stands (on_condition c)) (passes (tied b d) u g) ∙ q) (ap (λ ts. get_or ts c 255) (leave_ties (tied b d) u) ∙ z))
      where
        same_place : stands_at b (on_condition d) t ≡ true → d ≡ c
        same_place y = sym (eqb-true c d (unfold same in (sym (ap (λ w. same w (on_condition d)) (same_true (thread b t).stands (on_condition c) q)) ∙ y)))

    -- no thread and no mutex is lost
    leave_threads : (i u : ℕ) → length (leave b i u).threads ≡ length b.threads
    unfolding leave
    leave_threads i u = either (λ l. length l.threads ≡ length b.threads) (eqb (mutex b i).owner 255) _ _
        (λ y. unfold become_owner arrive stand own in (length-set b.threads u _)) (λ y. unfold arrive stand in (length-set b.threads u _))

    leave_mutexes : (i u : ℕ) → length (leave b i u).mutexes ≡ length b.mutexes
    unfolding leave
    leave_mutexes i u = either (λ l. length l.mutexes ≡ length b.mutexes) (eqb (mutex b i).owner 255) _ _
        (λ y. unfold become_owner arrive stand own in (length-set b.mutexes i (record { ceiling = (mutex b i).ceiling; owner = u; count = 1 }))) (λ y. unfold arrive stand in refl)

    on_leave : (d u : ℕ) → stands_at b (on_condition d) u ≡ true → On t m (leave b (tied b d) u)
    on_leave d u e = record {
      exists = rw (leave_threads (tied b d) u) o.exists;
      real = rw (leave_mutexes (tied b d) u) o.real;
      toward = goes d u e o.toward;
    }

    -- the tie ends only where t does not wait
    toward_untie : (d : ℕ) → highest_earliest b (on_condition d) ≡ nobody → Toward t m b → Toward t m (tie b d 255)
    unfolding tie
    toward_untie d n (waits_on c q z) = by_equal c d
        (λ g. absurd (stands_found b (on_condition d) t (subst (λ j. stands_at b (on_condition j) t ≡ true) g q) (length b.threads) o.exists n))
        (λ g. waits_on c q (get_or-set_other b.ties d c 255 255 g ∙ z))
    toward_untie d n (waits_for q) = waits_for q
    toward_untie d n (owns_it q) = owns_it q

    on_untie : (d : ℕ) (f : Found) → highest_earliest b (on_condition d) ≡ f → On t m (untie b d f)
    unfolding untie
    on_untie d nobody n = record { exists = unfold tie in o.exists; real = unfold tie in o.real; toward = toward_untie d n o.toward }
    on_untie d (somebody u) n = o

  on_wake : (b : Book) → On t m b → (d : ℕ) (f : Found) → highest_earliest b (on_condition d) ≡ f → On t m (wake b d f).book
  unfolding wake
  on_wake b o d nobody e = o
  on_wake b o d (somebody u) e = on_untie (leave b (tied b d) u) (on_leave b o d u (found_there b (on_condition d) u e).0) d (highest_earliest (leave b (tied b d) u) (on_condition d)) refl

  on_signals : (n : ℕ) (b : Book) → On t m b → (d : ℕ) → On t m (signals n b d).book
  unfolding signals
  on_signals zero b o d = o
  on_signals (suc n) b o d = on_signals n (signal b d).book (on_wake b o d (highest_earliest b (on_condition d)) refl) d

  -- timers and the tick count are no part of it
  on_timers : (b l : Book) → l.threads ≡ b.threads → l.mutexes ≡ b.mutexes → l.ties ≡ b.ties → On t m b → On t m l
  on_timers b l p q r o = record {
    exists = rw p o.exists;
    real = rw q o.real;
    toward = go o.toward;
  }
    where
      stood : (w : Where) → stands_at b w t ≡ true → stands_at l w t ≡ true
      stood w z = ap (λ (ts : List Thread). same (get_or ts t no_thread).stands w) p ∙ z

      go : Toward t m b → Toward t m l
      go (waits_on c y z) = waits_on c (stood (on_condition c) y) (ap (λ ts. get_or ts c 255) r ∙ z)
      go (waits_for y) = waits_for (stood (for_mutex m) y)
      go (owns_it y) = owns_it (ap (λ (ms : List Mutex). (get_or ms m no_mutex).owner) q ∙ y)

  on_expire : (b : Book) → On t m b → (i : ℕ) → On t m (expire b i).book
  unfolding expire
  on_expire b o i = by_cases (runs (timer b i).state && eqb (timer b i).due b.count)
      (λ e. rw e (on_wake (renewing) (on_timers b renewing refl refl refl o) (timer b i).condition (highest_earliest renewing (on_condition (timer b i).condition)) refl))
      (λ e. rw e o)
    where
      renewing : Book
      renewing = with_timers b (set b.timers i (renewed (timer b i) (timer b i).state))

  on_tick : (n : ℕ) (b : Book) → On t m b → On t m (expire_below n b).book
  unfolding expire_below
  on_tick zero b o = o
  on_tick (suc n) b o = on_expire (expire_below n b).book (on_tick n b o) n

  -- after the rule of three t is ready or running only if it owns m
  on_next_lem : (at_tick : Bool) (b : Book) → On t m b → waits (thread (run_next at_tick b) t).stands ≡ false → (mutex (run_next at_tick b) m).owner ≡ t
  on_next_lem at_tick b o n = go o.toward
    where
      waiting : (w : Where) → stands_at b w t ≡ true → same w ready ≡ false → same w running ≡ false → waits w ≡ true → (mutex (run_next at_tick b) m).owner ≡ t
      waiting w z p q y =
          let is = same_true (thread b t).stands w z in
          no_way (waits w) y (sym (ap (λ (x : Thread). waits x.stands) (stays_next t at_tick b (ap (λ v. same v ready) is ∙ p, ap (λ v. same v running) is ∙ q)) ∙ ap waits is) ∙ n)

      go : Toward t m b → (mutex (run_next at_tick b) m).owner ≡ t
      go (waits_on c z y) = waiting (on_condition c) z (unfold same in refl) (unfold same in refl) refl
      go (waits_for z) = waiting (for_mutex m) z (unfold same in refl) (unfold same in refl) refl
      go (owns_it z) = ap (λ (ms : List Mutex). (get_or ms m no_mutex).owner) (calm_next at_tick b) ∙ z

-- one who stayed on a condition variable is still there after the rule of three
still_waits : (at_tick : Bool) (b l : Book) (t c : ℕ) → stands_at b (on_condition c) t ≡ true → Stays t b l → waits (thread (run_next at_tick l) t).stands ≡ true
still_waits at_tick b l t c e s =
    let is : (thread l t).stands ≡ on_condition c = ap (λ (x : Thread). x.stands) s ∙ same_true (thread b t).stands (on_condition c) e in
    ap (λ (x : Thread). waits x.stands) (stays_next t at_tick l (ap (λ v. same v ready) is ∙ (unfold same in refl), ap (λ v. same v running) is ∙ (unfold same in refl))) ∙ ap waits is

-- ---- one call of the book

module _ (b : Book) (t c : ℕ) (e : stands_at b (on_condition c) t ≡ true) (small : t ≡ 255 → ⊥) (real : tied b c < length b.mutexes) (calls : stands_at b running b.runner ≡ true) where
  begins : On t (tied b c) b
  begins = record { exists = on_the_list b t c e; real = real; toward = waits_on c e refl }

  -- t is where it was, and so not ready or running
  stays_there : {X : Type 0} (at_tick : Bool) (l : Book) → Stays t b l → waits (thread (run_next at_tick l) t).stands ≡ false → X
  stays_there at_tick l s n = no_way (waits (thread (run_next at_tick l) t).stands) (still_waits at_tick b l t c e s) n

  outcome_woken : (call : Call) → waits (thread (run_next (is_tick call) (outcome b call).book) t).stands ≡ false → (mutex (run_next (is_tick call) (outcome b call).book) (tied b c)).owner ≡ t
  unfolding outcome
  outcome_woken Start n = stays_there (is_tick Start) (run_first (now_started b)) (stays_start b t c e) n
  outcome_woken (CreateThread p) n = stays_there (is_tick (CreateThread p)) (create_thread b p) (stays_create b t c e p) n
  outcome_woken (CreateMutex p) n = stays_there (is_tick (CreateMutex p)) (outcome b (CreateMutex p)).book refl n
  outcome_woken CreateCondition n = stays_there (is_tick CreateCondition) (outcome b CreateCondition).book refl n
  outcome_woken CreateTimer n = stays_there (is_tick CreateTimer) (outcome b CreateTimer).book refl n
  outcome_woken (Acquire m) n = stays_there (is_tick (Acquire m)) (acquire b m) (stays_acquire b t c e calls m) n
  outcome_woken (Release m) n = stays_there (is_tick (Release m)) (release b m) (stays_release b t c e m) n
  outcome_woken (Wait d m) n = stays_there (is_tick (Wait d m)) (wait b d m) (stays_wait b t c e calls d m) n
  outcome_woken (Signal d) n = on_next_lem t (tied b c) small (is_tick (Signal d)) (signal b d).book (on_wake t (tied b c) small b begins d (highest_earliest b (on_condition d)) refl) n
  outcome_woken (Broadcast d) n = on_next_lem t (tied b c) small (is_tick (Broadcast d)) (signals (length b.threads) b d).book (on_signals t (tied b c) small (length b.threads) b begins d) n
  outcome_woken (StartTimer i d kind v) n = stays_there (is_tick (StartTimer i d kind v)) (outcome b (StartTimer i d kind v)).book refl n
  outcome_woken (StopTimer i) n = stays_there (is_tick (StopTimer i)) (outcome b (StopTimer i)).book refl n
  outcome_woken Tick n = on_next_lem t (tied b c) small (is_tick Tick) (expire_below (length b.timers) (next_tick b)).book
      (on_tick t (tied b c) small (length b.timers) (next_tick b) (on_timers t (tied b c) small b (next_tick b) refl refl refl begins)) n

  pub turn_woken : (call : Call) → waits (thread (turn b call).book t).stands ≡ false → (mutex (turn b call).book (tied b c)).owner ≡ t
  unfolding turn
  turn_woken call = by_cases (eqb (number_of (verdict b call)) 0)
      (λ y. rw y (outcome_woken call))
      (λ y. rw y (λ n. no_way (waits (thread b t).stands) (ap waits (same_true (thread b t).stands (on_condition c) e)) n))
