-- A page of the code that was made for a page says that page, as long as its tables are within their limits; and tables that are blank past
-- their rows are those made for what they say.
-- Assumes nothing.
use Prim.Native.Nat.{ℕ, ◌≤◌}
use mathlib.Core.Path.{◌≡◌, refl, sym, ap, ◌∙◌}
use mathlib.Core.List.{List}
use native.Mathlib.Omega.{arith}
use lib.ListN.{length, get_or, get_or-eq_default}
use Rattle.laws.specs.Lists.{tabulate}
use Rattle.laws.proofs.Lists.{by_below, length_tabulate, get_d_tabulate, tabulate_below}
use Rattle.rules.specs.State.{no_mutex}
use Rattle.rules.specs.Page.{Page, no_row}
use Rattle.rules_pages.proofs.Rows.{tabulate_is}
use Rattle.page.specs.Says.{thread_said, mutex_said, timer_said, thread_for, mutex_for, timer_for, no_thread_row, no_mutex_row, no_timer_row, stopped_timer_row, said, page_for}

-- the tables are not longer than the code's
pub record Fits (p : Page) : Type 0 where
  pub threads : length p.threads ≤ 32
  pub mutexes : length p.mutexes ≤ 16
  pub ties : length p.ties ≤ 16
  pub timers : length p.timers ≤ 32

-- a table's first rows, read from what was made of all of them
back : {A B : Type 0} (n : ℕ) (f : A → B) (g : B → A) (d : A) (z : B) (l : List A) → length l ≤ n → ((a : A) → g (f a) ≡ a)
    → tabulate (length l) (λ i. g (get_or (tabulate n (λ j. f (get_or l j d))) i z)) ≡ l
back n f g d z l h r =
    tabulate_is d (length l) (λ i. g (get_or (tabulate n (λ j. f (get_or l j d))) i z)) l refl
    (λ i b. ap g (get_d_tabulate n (λ j. f (get_or l j d)) i z (omega arith)) ∙ r (get_or l i d))

-- a table made anew from its first rows, where the rows past them are blank
pub forth : {A B : Type 0} (n k : ℕ) (f : A → B) (g : B → A) (d : A) (z : B) (row : ℕ → B) → k ≤ n → ((b : B) → f (g b) ≡ b) → ((j : ℕ) → k ≤ j → row j ≡ f d)
    → tabulate n (λ j. f (get_or (tabulate k (λ i. g (get_or (tabulate n row) i z))) j d)) ≡ tabulate n row
forth n k f g d z row h r blank =
    tabulate_below n (λ j. f (get_or (tabulate k (λ i. g (get_or (tabulate n row) i z))) j d)) row
    (λ j l. by_below j k
    (λ b. ap f (get_d_tabulate k (λ i. g (get_or (tabulate n row) i z)) j d b) ∙ r (get_or (tabulate n row) j z) ∙ get_d_tabulate n row j z l)
    (λ b. ap f (get_or-eq_default (tabulate k (λ i. g (get_or (tabulate n row) i z))) d {n = j} (rw (length_tabulate k (λ i. g (get_or (tabulate n row) i z))) b)) ∙ sym (blank j b)))

-- what was written for a page is what it says
pub said_for : (p : Page) → Fits p → said (page_for p) ≡ p
unfolding said page_for
said_for p h = λ i. record {
  started = p.started;
  count = p.count;
  threads = back 32 thread_for thread_said no_row no_thread_row p.threads h.threads (λ a. refl) i;
  mutexes = back 16 mutex_for mutex_said no_mutex no_mutex_row p.mutexes h.mutexes (λ a. refl) i;
  ties = back 16 (λ a. a) (λ a. a) 255 0 p.ties h.ties (λ a. refl) i;
  timers = back 32 timer_for timer_said stopped_timer_row no_timer_row p.timers h.timers (λ a. refl) i;
}
