-- Tables in their words: a word read is one entry of the tables, and a word stored is one entry changed.
-- Assumes nothing.
use Prim.Native.Nat.{ℕ, ◌+◌, ◌<◌}
use mathlib.Core.Path.{◌≡◌, ap, ◌∙◌}
use mathlib.Core.List.{List, [], ◌∷◌, ◌++◌}
use native.Mathlib.Omega.{arith}
use lib.ListN.{length, get_or, set, length-set, get_or-append}
use lib.Seq.{get_or-append-add, set-append_left}
use Rattle.laws.proofs.Lists.{length_tabulate, set_append_add}
use Rattle.wheel.specs.Hung.{Hung}
use Rattle.wheel.specs.Inside.{Tables, laid, tables_of, turns_at, spoke_at, position_at}

-- ---- of two lists, the second

module _ (a b : List ℕ) (i j : ℕ) (e : j ≡ length a + i) where
  -- a word read behind the first
  read_behind : get_or (a ++ b) j 0 ≡ get_or b i 0
  read_behind = rw e (get_or-append-add a b i 0)

  -- a word stored behind the first
  put_behind : (v : ℕ) → set (a ++ b) j v ≡ a ++ set b i v
  put_behind v = rw e (set_append_add a b i v)

-- ---- tables with one entry changed

-- another word of the spoke s
abbrev pub with_word : Tables → ℕ → ℕ → Tables
with_word t s v = record { spokes = set t.spokes s v; turns = t.turns; spoke = t.spoke; position = t.position }

-- other turns left to the timer i
abbrev pub with_turns : Tables → ℕ → ℕ → Tables
with_turns t i v = record { spokes = t.spokes; turns = set t.turns i v; spoke = t.spoke; position = t.position }

-- another spoke of the timer i
abbrev pub with_spoke : Tables → ℕ → ℕ → Tables
with_spoke t i v = record { spokes = t.spokes; turns = t.turns; spoke = set t.spoke i v; position = t.position }

-- another position
abbrev pub with_position : Tables → ℕ → Tables
with_position t v = record { spokes = t.spokes; turns = t.turns; spoke = t.spoke; position = v }

-- 64 spokes, and turns and spokes of 32 timers
pub record Sized (t : Tables) : Type 0 where
  pub spokes : length t.spokes ≡ 64
  pub turns : length t.turns ≡ 32
  pub spoke : length t.spoke ≡ 32

-- those for a position and the ticks left are so
pub sized : (h : Hung) → Sized (tables_of h)
unfolding tables_of
sized h = record { spokes = length_tabulate 64 _; turns = length_tabulate 32 _; spoke = length_tabulate 32 _ }

module _ (t : Tables) (f : Sized t) where
  -- what stands behind the turns
  abbrev behind_turns : List ℕ
  behind_turns = t.spoke ++ (t.position ∷ [])

  -- what stands behind the spokes
  abbrev behind_spokes : List ℕ
  behind_spokes = t.turns ++ behind_turns

  -- ---- one word read

  -- that of the spoke s
  pub word_at : (s : ℕ) → s < 64 → get_or (laid t) s 0 ≡ get_or t.spokes s 0
  unfolding laid
  word_at s l = get_or-append t.spokes behind_spokes 0 s (omega (arith, f.spokes))

  -- the turns left to the timer i
  pub turns_at_lem : (i : ℕ) → i < 32 → turns_at (laid t) i ≡ get_or t.turns i 0
  unfolding laid
  turns_at_lem i l =
      read_behind t.spokes behind_spokes i (64 + i) (omega (arith, f.spokes))
      ∙ get_or-append t.turns behind_turns 0 i (omega (arith, f.turns))

  -- the spoke of the timer i
  pub spoke_at_lem : (i : ℕ) → i < 32 → spoke_at (laid t) i ≡ get_or t.spoke i 0
  unfolding laid
  spoke_at_lem i l =
      read_behind t.spokes behind_spokes (32 + i) (96 + i) (omega (arith, f.spokes))
      ∙ read_behind t.turns behind_turns i (32 + i) (omega (arith, f.turns))
      ∙ get_or-append t.spoke (t.position ∷ []) 0 i (omega (arith, f.spoke))

  -- the position
  pub position_at_lem : position_at (laid t) ≡ t.position
  unfolding laid
  position_at_lem =
      read_behind t.spokes behind_spokes 64 128 (omega (arith, f.spokes))
      ∙ read_behind t.turns behind_turns 32 64 (omega (arith, f.turns))
      ∙ read_behind t.spoke (t.position ∷ []) 0 32 (omega (arith, f.spoke))

  -- ---- one word stored

  -- that of the spoke s
  pub word_put : (s v : ℕ) → s < 64 → set (laid t) s v ≡ laid (with_word t s v)
  unfolding laid
  word_put s v l = set-append_left t.spokes behind_spokes s v (omega (arith, f.spokes))

  -- the turns left to the timer i
  pub turns_put : (i v : ℕ) → i < 32 → set (laid t) (64 + i) v ≡ laid (with_turns t i v)
  unfolding laid
  turns_put i v l =
      put_behind t.spokes behind_spokes i (64 + i) (omega (arith, f.spokes)) v
      ∙ ap (λ b. t.spokes ++ b) (set-append_left t.turns behind_turns i v (omega (arith, f.turns)))

  -- the spoke of the timer i
  pub spoke_put : (i v : ℕ) → i < 32 → set (laid t) (96 + i) v ≡ laid (with_spoke t i v)
  unfolding laid
  spoke_put i v l =
      put_behind t.spokes behind_spokes (32 + i) (96 + i) (omega (arith, f.spokes)) v
      ∙ ap (λ b. t.spokes ++ b)
      (put_behind t.turns behind_turns i (32 + i) (omega (arith, f.turns)) v
      ∙ ap (λ b. t.turns ++ b) (set-append_left t.spoke (t.position ∷ []) i v (omega (arith, f.spoke))))

  -- the position
  pub position_put : (v : ℕ) → set (laid t) 128 v ≡ laid (with_position t v)
  unfolding laid
  position_put v =
      put_behind t.spokes behind_spokes 64 128 (omega (arith, f.spokes)) v
      ∙ ap (λ b. t.spokes ++ b)
      (put_behind t.turns behind_turns 32 64 (omega (arith, f.turns)) v
      ∙ ap (λ b. t.turns ++ b) (put_behind t.spoke (t.position ∷ []) 0 32 (omega (arith, f.spoke)) v))

-- three words: that of the spoke s, then the turns and the spoke of the timer i
pub timer_put : (t : Tables) → Sized t → (s v i u w : ℕ) → s < 64 → i < 32
    → set (set (set (laid t) s v) (64 + i) u) (96 + i) w ≡ laid (with_spoke (with_turns (with_word t s v) i u) i w)
timer_put t f s v i u w l m =
    let a : Sized (with_word t s v) = record { spokes = length-set t.spokes s v ∙ f.spokes; turns = f.turns; spoke = f.spoke } in
    let b : Sized (with_turns (with_word t s v) i u) = record { spokes = a.spokes; turns = length-set t.turns i u ∙ f.turns; spoke = f.spoke } in
    ap (λ k. set (set k (64 + i) u) (96 + i) w) (word_put t f s v l)
    ∙ ap (λ k. set k (96 + i) w) (turns_put (with_word t s v) a i u m)
    ∙ spoke_put (with_turns (with_word t s v) i u) b i w m
