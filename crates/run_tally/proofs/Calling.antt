-- A row by a public call of a kernel that describes a sound state is the row of its engine, and the kernel after it describes a sound state.
-- Assumes nothing.
use Rattle.std.proofs.Common.{◌≡◌, ℕ, true, List, sym, ap, ◌∙◌}
use Rattle.calls.specs.Rows.{decoded}
use Rattle.rules.specs.State.{State}
use Rattle.rules.specs.Sound.{sound}
use Rattle.rules.specs.Step.{step_row}
use Rattle.rules_soundness.proofs.Kept.{row_keeps}
use Rattle.value_engine.specs.declared.Stepped as engine
use Rattle.value_engine.specs.Stands as stands
use Rattle.kernel.specs.declared.Kernel.{Kernel}
use Rattle.kernel.specs.declared.Stepped.{Stepped}
use Rattle.kernel.specs.Kernels.{kernel_of, Steps, stepped_of}
use Rattle.run_rows.specs.Rows.{row_model}
use Rattle.run_rows.proofs.Inner.{row_steps}
use Rattle.run_tally.specs.declared.Called.{Called}
use Rattle.run_tally.specs.Sums.{add_weight, tally_from, Describes, tally_row}

-- a kernel that describes the sound state s, and what a public call gives for a row
module _ (c : Called) (row : List ℕ) (r : Stepped) (s : State) (o : sound s ≡ true) (d : c.kernel ≡ kernel_of s) (steps : Steps c.kernel (decoded row) r) where
  -- it is document 01's row
  public_row : r ≡ stepped_of (step_row s row)
  unfolding step_row
  public_row = steps.of_sound s o d

  -- and so is the row of its engine
  inner_row : row_model c.kernel.engine row ≡ stands.stepped_of (step_row s row)
  inner_row = ap (λ (x : Kernel). row_model x.engine row) d ∙ row_steps s o row

  row_called : (sum : ℕ) → sum ≡ add_weight c.sum r.answer → tally_from (record { kernel = r.kernel; sum = sum }) ≡ tally_row (tally_from c) row
  row_called sum added = λ i. record {
    engine = (ap (λ (q : Stepped). q.kernel.engine) public_row ∙ sym (ap (λ (q : engine.Stepped). q.engine) inner_row)) i;
    made = (added ∙ ap (λ (q : Stepped). add_weight c.sum q.answer) public_row ∙ sym (ap (λ (q : engine.Stepped). add_weight c.sum q.answer) inner_row)) i;
  }

pub called_row : (c : Called) (row : List ℕ) (r : Stepped) (sum : ℕ) → Steps c.kernel (decoded row) r → sum ≡ add_weight c.sum r.answer
    → Describes c → Describes (record { kernel = r.kernel; sum = sum }) × (tally_from (record { kernel = r.kernel; sum = sum }) ≡ tally_row (tally_from c) row)
called_row c row r sum steps added w = (
  ((step_row w.0 row).state, row_keeps w.0 row w.1, ap (λ (q : Stepped). q.kernel) (public_row c row r w.0 w.1 w.2 steps)),
  row_called c row r w.0 w.1 w.2 steps sum added,
)
