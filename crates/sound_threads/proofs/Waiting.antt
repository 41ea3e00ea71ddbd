-- What the kind of a thread's state tells: whether it waits, and whether what it waits for exists; and two tests as bits.
-- Assumes nothing.
use Prim.Native.Nat.{ℕ}
use mathlib.Core.Path.{◌≡◌, refl}
use mathlib.Core.Bool.{Bool, true, false, cond, not, ◌||◌, beq}
use lib.Dec.{eqb, ltb}
use Rattle.rules.specs.State.{waits}
use Rattle.rules.specs.Page.{where_of}
use Rattle.sound_standing.specs.Standing.{kind_of}
use Rattle.sound_standing.proofs.Standing.{place, number}
use Rattle.sound_threads.specs.Threads.{exists_in}

-- what is waited for exists
found : (n k : ℕ) (a b d : Bool) (o : ℕ) → exists_in n k (place a b d o) ≡ (ltb (number a b d) 3 || cond (eqb (number a b d) 3) (ltb o n) (ltb o k))
unfolding exists_in
found n k true b d o = refl
found n k false true d o = refl
found n k false false true o = refl
found n k false false false o = refl

-- the same of a state and an object
pub exists_kind : (n k s o : ℕ) → exists_in n k (where_of s o) ≡ (ltb (kind_of s) 3 || cond (eqb (kind_of s) 3) (ltb o n) (ltb o k))
unfolding where_of kind_of
exists_kind n k s o = found n k (eqb s 1) (eqb s 2) (eqb s 3) o

-- whether a thread waits for nothing
waiting : (a b d : Bool) (o : ℕ) → not (waits (place a b d o)) ≡ ltb (number a b d) 3
waiting true b d o = refl
waiting false true d o = refl
waiting false false true o = refl
waiting false false false o = refl

-- the same of a state and an object
pub idle_kind : (s o : ℕ) → not (waits (where_of s o)) ≡ ltb (kind_of s) 3
unfolding where_of kind_of
idle_kind s o = waiting (eqb s 1) (eqb s 2) (eqb s 3) o

-- two tests are one exactly if their bits are
pub one_bit : (a b : Bool) → beq a b ≡ eqb (cond a 1 0) (cond b 1 0)
one_bit true true = refl
one_bit true false = refl
one_bit false true = refl
one_bit false false = refl
