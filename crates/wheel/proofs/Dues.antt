-- Who came due: the ids of a set of timers, in order, taken off one by one.
-- Assumes nothing.
use Prim.Native.Nat.{◌<◌}
use mathlib.Core.Path.{◌≡◌, ◌∙◌}
use mathlib.Core.List.{[], ◌∷◌}
use native.Mathlib.Omega.{arith}
use lib.Dec.{eqb}
use lib.Count.{count_trailing_zeros, trailing_of_zero}
use borrow.Author.Tests.{ne_eqb, eqb-true, eqb-false}
use Rattle.laws.proofs.Bools.{by_cases}
use Rattle.laws.proofs.Bits.{members_first, members_none}
use Rattle.wheel.specs.declared.Due.{Due}
use Rattle.wheel.specs.Inside.{lowest_off}
use Rattle.wheel.specs.Promise.{ids_of, without_first, first, rest}
use Rattle.wheel.specs.Promise.Opened.{ids_are, without_is}

module _ (d : Due) (fits : d.ids < 4294967296) where
  ids_none : d.ids ≡ 0 → ids_of d ≡ []
  ids_none e = ids_are d ∙ rw e (members_none 32)

  ids_first : 0 < d.ids → ids_of d ≡ count_trailing_zeros 32 d.ids ∷ ids_of (without_first d)
  unfolding lowest_off
  ids_first l = rw (without_is d, ids_are d, ids_are (lowest_off d), ne_eqb d.ids 0 (λ e. omega arith)) (members_first 32 d.ids l fits)

  -- the lowest bit's number is the first id, or 32 for none
  pub first_id : count_trailing_zeros 32 d.ids ≡ first (ids_of d)
  first_id = by_cases (eqb d.ids 0)
      (λ e. rw (ids_none (eqb-true _ _ e), eqb-true d.ids 0 e) (trailing_of_zero 32))
      (λ e. rw (ids_first (omega (arith, eqb-false d.ids 0 e))))

  -- without the lowest bit, the others
  pub rest_ids : ids_of (without_first d) ≡ rest (ids_of d)
  unfolding lowest_off
  rest_ids = by_cases (eqb d.ids 0)
      (λ e. rw (without_is d, e, ids_none (eqb-true _ _ e)))
      (λ e. rw (ids_first (omega (arith, eqb-false d.ids 0 e))))
