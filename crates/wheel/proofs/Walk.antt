-- The loop over the bits of a spoke's word: what it knows at each turn, and what it comes to.
-- Assumes nothing.
use Prim.Native.Nat.{ℕ, suc, ◌+◌, ◌-◌, ◌<◌, ◌≤◌}
use mathlib.Core.Path.{◌≡◌, refl, sym, ap, ◌∙◌}
use mathlib.Core.List.{List, ◌∷◌}
use native.Mathlib.Omega.{arith}
use lib.ListN.{length, set}
use lib.Bits.{bit_and, bit_or, and_le_r}
use lib.Count.{count_trailing_zeros}
use borrow.Author.Tests.{eq-eqb, ne_eqb}
use Rattle.laws.specs.Bits.{members, holds}
use Rattle.laws.proofs.Bits.{members_first, members_none, trailing_lt, among_length}
use Rattle.wheel.specs.declared.Ticked.{Ticked}
use Rattle.wheel.specs.Inside.{turns_at, bit_of, midst, visit, visited}

-- what the loop knows with the timers of a word still to visit: they make the whole, and there is room to count them
pub record Going (whole : Ticked) (k : List ℕ) (word d n : ℕ) : Type 0 where
  pub fits : word < 4294967296
  pub room : n + length (members 32 word) ≤ 32
  pub makes : whole ≡ visited (members 32 word) (midst k d n)

-- at first the whole is still to do
pub goes : (k : List ℕ) (word : ℕ) → word < 4294967296 → Going (visited (members 32 word) (midst k 0 0)) k word 0 0
goes k word f = record { fits = f; room = omega (arith, among_length 32 (λ i. holds i word)); makes = refl }

module _ (whole : Ticked) (k : List ℕ) (word d n : ℕ) (g : Going whole k word d n) where
  -- at the end nothing is left to visit
  pub gone : word ≡ 0 → midst k d n ≡ whole
  unfolding visited
  gone e = sym (g.makes ∙ rw (e, members_none 32))

  module _ (l : 0 < word) where
    -- the lowest id is one of the 32
    pub id_lt : count_trailing_zeros 32 word < 32
    id_lt = trailing_lt 32 word l g.fits

    -- a turn: the lowest is visited, and the others are left
    goes_on : (z : List ℕ) (e : ℕ) → visit (midst k d n) (count_trailing_zeros 32 word) ≡ midst z e (n + 1)
        → Going whole z (bit_and word (word - 1)) e (n + 1)
    unfolding visited
    goes_on z e q =
        let lowest : members 32 word ≡ count_trailing_zeros 32 word ∷ members 32 (bit_and word (word - 1)) = members_first 32 word l g.fits in
        let c : length (members 32 word) ≡ suc (length (members 32 (bit_and word (word - 1)))) = ap length lowest in
        record {
          fits = omega (arith, and_le_r word (word - 1), g.fits);
          room = omega (arith, g.room);
          makes = g.makes ∙ ap (λ (is : List ℕ). visited is (midst k d n)) lowest ∙ ap (visited (members 32 (bit_and word (word - 1)))) q;
        }

    -- with no turn left it comes due
    pub goes_due : (z : List ℕ) (e : ℕ) → turns_at k (count_trailing_zeros 32 word) ≡ 0
        → z ≡ set k (96 + count_trailing_zeros 32 word) 255 → e ≡ bit_or d (bit_of (count_trailing_zeros 32 word))
        → Going whole z (bit_and word (word - 1)) e (n + 1)
    unfolding visit
    goes_due z e t p q = rw (p, q) (goes_on _ _ (rw (eq-eqb _ _ t)))

    -- else it has a turn less
    pub goes_round : (z : List ℕ) (e : ℕ) → (turns_at k (count_trailing_zeros 32 word) ≡ 0 → ⊥)
        → z ≡ set k (64 + count_trailing_zeros 32 word) (turns_at k (count_trailing_zeros 32 word) - 1) → e ≡ d
        → Going whole z (bit_and word (word - 1)) e (n + 1)
    unfolding visit
    goes_round z e t p q = rw (p, q) (goes_on _ _ (rw (ne_eqb _ _ t)))
