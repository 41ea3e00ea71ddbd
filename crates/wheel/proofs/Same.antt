-- The comparison of their words decides whether two wheels are one.
-- Assumes nothing.
use lib.Dec.{eqb}
use Rattle.laws.specs.Same.{same_list, Decides}
use Rattle.laws.proofs.Same.{numbers, lists, through}
use Rattle.wheel.specs.declared.Wheel.{Wheel}

-- two wheels are one if their words are
pub wheels : Decides (λ (w v : Wheel). same_list eqb w.words v.words)
wheels = through (λ (w : Wheel). w.words) (λ w v e i. record { words = e i }) (lists numbers)
