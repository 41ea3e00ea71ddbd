-- One turn of each loop that builds an engine, and a table made entry by entry of which n rows are in use.
-- Assumes nothing.
use Prim.Native.Nat.{ℕ, suc, ◌+◌, ◌-◌, ◌<◌, ◌≤◌, min}
use mathlib.Core.Path.{◌≡◌, refl, sym, ap, ◌∙◌}
use mathlib.Core.Bool.{cond}
use mathlib.Core.List.{List}
use native.Mathlib.Omega.{arith}
use lib.ListN.{get_or, set, replicate}
use lib.Dec.{eqb, ltb}
use borrow.Author.Tests.{eq-eqb, ne_eqb, lt-ltb, le-ltb}
use Rattle.std.specs.Fn.{Mut, Called}
use Rattle.std.specs.Array.{IsFromFnResult}
use Rattle.laws.specs.Filling.{filled}
use Rattle.laws.proofs.Filling.{fill_none, fill_next}
use Rattle.laws.proofs.Lists.{by_below, tabulate_below}
use Rattle.laws.proofs.Making.{made}
use Rattle.page.specs.declared.ThreadRow.{ThreadRow}
use Rattle.page.specs.Says.{no_thread_row}
use Rattle.page_building.specs.Building.{runner_in}

-- ---- row after row

-- what is made of the rows below i, of as many as are wanted and fit
module _ {A : Type 0} (size : ℕ) (upto : ℕ → A) where
  pub record Going (n most i : ℕ) (made : A) : Type 0 where
    pub bound : most ≡ min n size
    pub room : i ≤ most
    pub so_far : made ≡ upto i

  -- nothing at first
  pub going_starts : (n most : ℕ) (made : A) → most ≡ min n size → made ≡ upto 0 → Going n most 0 made
  going_starts n most made e h = record { bound = e; room = omega arith; so_far = h }

  -- one row more at each turn
  pub going_turns : (n most i : ℕ) (made after : A) (turn : A → A) → Going n most i made → i < most → after ≡ turn made → turn (upto i) ≡ upto (suc i) → Going n most (i + 1) after
  going_turns n most i made after turn h l d e = record { bound = h.bound; room = omega arith; so_far = d ∙ ap turn h.so_far ∙ e ∙ ap upto (omega arith) }

  -- and all of them at the end
  pub going_ends : (n most i : ℕ) (made : A) → Going n most i made → most ≤ i → made ≡ upto (min n size)
  going_ends n most i made h l = h.so_far ∙ ap upto (omega (arith, h.bound, h.room))

-- ---- tables

module _ {A : Type 0} (size : ℕ) (f : ℕ → A) (d : A) where
  -- the first rows are filled
  abbrev pub Filling : ℕ → ℕ → ℕ → List A → Type 0
  Filling n most i made = Going size (filled size f d) n most i made

  -- none at first
  pub filling_starts : (n most : ℕ) → most ≡ min n size → Filling n most 0 (replicate size d)
  filling_starts n most e = going_starts size (filled size f d) n most (replicate size d) e (fill_none size f d)

  -- one more at each turn
  pub filling_turns : (n most i : ℕ) (made : List A) → Filling n most i made → i < most → Filling n most (i + 1) (set made i (f i))
  filling_turns n most i made h l = going_turns size (filled size f d) n most i made (set made i (f i)) (λ x. set x i (f i)) h l refl (fill_next size f d i (f i) (omega (arith, h.bound)) refl ∙ ap (filled size f d) (omega arith))

  -- and all at the end
  pub filling_ends : (n most i : ℕ) (made : List A) → Filling n most i made → most ≤ i → made ≡ filled size f d (min n size)
  filling_ends = going_ends size (filled size f d)

-- a table made entry by entry, of whose rows n are in use and the others blank
pub in_use : {F A : Type 0} {g : Mut F (ℕ × Unit {0}) A} {f : F} {l : List A} (size n : ℕ) (h : ℕ → A) (d : A)
    → ((i : ℕ) (a : A) (k : F) → i < size → Called g f (i, tt) a k → (k ≡ f) × (a ≡ cond (ltb i n) (h i) d)) → IsFromFnResult g f l size → l ≡ filled size h d (min n size)
unfolding filled
in_use size n h d call r = made size (λ i. cond (ltb i n) (h i) d) call r d ∙ tabulate_below size _ _ (λ i l. ap (λ b. cond b (h i) d) (by_below i n
    (λ low. lt-ltb i n low ∙ sym (lt-ltb i (min n size) (omega arith)))
    (λ high. le-ltb i n high ∙ sym (le-ltb i (min n size) (omega arith)))))

-- ---- the search for the running thread

-- the search from t on gives what the whole search gives
pub record Searching (rows : List ThreadRow) (n most t : ℕ) : Type 0 where
  pub bound : most ≡ min n 32
  pub room : t ≤ most
  pub rest : runner_in rows (most - t) t ≡ runner_in rows (min n 32) 0

-- one step of it
runner_step : (rows : List ThreadRow) (n m t : ℕ) → n ≡ suc m → runner_in rows n t ≡ cond (eqb (get_or rows t no_thread_row).state 2) t (runner_in rows m (suc t))
unfolding runner_in
runner_step rows n m t e = rw e

-- it is the whole search at first
pub searching_starts : (rows : List ThreadRow) (n most : ℕ) → most ≡ min n 32 → Searching rows n most 0
searching_starts rows n most e = record { bound = e; room = omega arith; rest = ap (λ k. runner_in rows k 0) whole }
  where
    whole : most - 0 ≡ min n 32
    whole = omega (arith, e)

-- it ends where one runs
pub searching_found : (rows : List ThreadRow) (n most t : ℕ) → Searching rows n most t → t < most → (get_or rows t no_thread_row).state ≡ 2 → t ≡ runner_in rows (min n 32) 0
searching_found rows n most t h l e =
    let s : runner_in rows (most - t) t ≡ t = runner_step rows (most - t) (most - (t + 1)) t (omega arith) ∙ rw (eq-eqb (get_or rows t no_thread_row).state 2 e) in
    sym s ∙ h.rest

-- and else goes on
pub searching_turns : (rows : List ThreadRow) (n most t : ℕ) → Searching rows n most t → t < most → ((get_or rows t no_thread_row).state ≡ 2 → ⊥) → Searching rows n most (t + 1)
searching_turns rows n most t h l e = record {
  bound = h.bound;
  room = omega arith;
  rest = let one : t + 1 ≡ suc t = omega arith in
      let s : runner_in rows (most - t) t ≡ runner_in rows (most - (t + 1)) (suc t) = runner_step rows (most - t) (most - (t + 1)) t (omega arith) ∙ rw (ne_eqb (get_or rows t no_thread_row).state 2 e) in
      ap (λ k. runner_in rows (most - (t + 1)) k) one ∙ sym s ∙ h.rest;
}

-- to the last
pub searching_ends : (rows : List ThreadRow) (n most t : ℕ) → Searching rows n most t → most ≤ t → 255 ≡ runner_in rows (min n 32) 0
searching_ends rows n most t h l = let z : most - t ≡ 0 = omega arith in none (rw z at h.rest)
  where
    none : runner_in rows 0 t ≡ runner_in rows (min n 32) 0 → 255 ≡ runner_in rows (min n 32) 0
    none e = unfold runner_in in e
