-- Where a thread stands, told by the kind of its state and its object.
-- Assumes nothing.
use Prim.Native.Nat.{ℕ}
use mathlib.Core.Path.{◌≡◌, refl}
use mathlib.Core.Bool.{Bool, true, false, cond, ◌||◌}
use lib.Dec.{eqb, ltb}
use Rattle.rules.specs.State.{Where, running, ready, for_mutex, on_condition, same}
use Rattle.rules.specs.Page.{where_of}
use Rattle.sound_standing.specs.Standing.{kind_of}

-- where, by the tests for the first three states
abbrev pub place : Bool → Bool → Bool → ℕ → Where
place a b d o = cond a ready (cond b running (cond d (for_mutex o) (on_condition o)))

-- the kind, by the same tests
abbrev pub number : Bool → Bool → Bool → ℕ
number a b d = cond a 1 (cond b 2 (cond d 3 4))

-- two threads stand at one place if their kinds are the same and, where they wait, their objects
places : (a b d a' b' d' : Bool) (o o' : ℕ)
    → same (place a b d o) (place a' b' d' o') ≡ cond (eqb (number a b d) (number a' b' d')) (ltb (number a b d) 3 || eqb o o') false
unfolding same
places true b d true b' d' o o' = refl
places true b d false true d' o o' = refl
places true b d false false true o o' = refl
places true b d false false false o o' = refl
places false true d true b' d' o o' = refl
places false true d false true d' o o' = refl
places false true d false false true o o' = refl
places false true d false false false o o' = refl
places false false true true b' d' o o' = refl
places false false true false true d' o o' = refl
places false false true false false true o o' = refl
places false false true false false false o o' = refl
places false false false true b' d' o o' = refl
places false false false false true d' o o' = refl
places false false false false false true o o' = refl
places false false false false false false o o' = refl

-- the same of states and objects
pub same_kinds : (s o s' o' : ℕ) → same (where_of s o) (where_of s' o') ≡ cond (eqb (kind_of s) (kind_of s')) (ltb (kind_of s) 3 || eqb o o') false
unfolding where_of kind_of
same_kinds s o s' o' = places (eqb s 1) (eqb s 2) (eqb s 3) (eqb s' 1) (eqb s' 2) (eqb s' 3) o o'
