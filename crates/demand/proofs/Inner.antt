-- After one test of soundness the inner step repeated, which the loops over many rows are proved against, is the public step repeated.
-- Assumes nothing.
use Prim.Native.Nat.{ℕ}
use mathlib.Core.Path.{◌≡◌, refl, sym, ◌∙◌}
use mathlib.Core.Bool.{true}
use mathlib.Core.List.{List, map}
use Rattle.calls.specs.declared.Answer.{Answer}
use Rattle.calls.specs.Rows.{decoded}
use Rattle.rules.specs.State.{State}
use Rattle.rules.specs.Sound.{sound}
use Rattle.value_engine.specs.Stands.{engine_of}
use Rattle.run_rows.specs.Many.{inner_answers, inner_final}
use Rattle.run_rows.proofs.Inner.{inner_rows_step}
use Rattle.kernel.specs.declared.Kernel.{Kernel}
use Rattle.kernel.specs.Kernels.{kernel_of}
use Rattle.demand.specs.Demand.{Repeats}
use Rattle.demand.proofs.Demand.{rows_step}

-- the answers and the kernel after them are the same
pub inner_is_public : (s : State) → sound s ≡ true → (rows : List (List ℕ)) (answers : List Answer) (y : Kernel) → Repeats (kernel_of s) (map decoded rows) answers y
    → (answers ≡ inner_answers (engine_of s) rows) × (y ≡ record { engine = inner_final (engine_of s) rows })
inner_is_public s e rows answers y w =
    let public = rows_step s e (kernel_of s) refl (map decoded rows) answers y w in
    let inner = inner_rows_step s e rows in
    (public.0 ∙ sym inner.0, public.1 ∙ (λ i. record { engine = sym inner.1 i }))
