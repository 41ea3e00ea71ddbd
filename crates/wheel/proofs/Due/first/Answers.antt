-- `wheel::Due::first` meets its contract: the trailing zeros are the lowest id. Assumes nothing.
use native.Mathlib.Omega.{arith}
use lib.Count.{trailing_le}
use Rattle.wheel.proofs.Dues.{first_id}
use Rattle.wheel.proofs.Due.first.Goals as goal

pub overflow_cast-result : goal.overflow_cast-result
overflow_cast-result c = record { fits = omega (arith, trailing_le 32 c.args.self.ids) }

pub returns : goal.returns
returns c = first_id c.args.self (omega arith)
