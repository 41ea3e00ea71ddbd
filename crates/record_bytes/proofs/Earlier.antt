-- A record that loaded before document 02, L5, loads, and gives the state that it describes. Assumes nothing.
use Prim.Native.Nat.{ℕ}
use mathlib.Core.Path.{◌≡◌}
use mathlib.Core.Bool.{true}
use mathlib.Core.List.{List}
use Rattle.calls.specs.declared.Verdict.TheVariants.{Done}
use Rattle.rules.specs.Page.{described_by}
use Rattle.rules.specs.Earlier.{page_sound_before}
use Rattle.rules_soundness.proofs.Earlier.{page_before_is_sound}
use Rattle.record_bytes.specs.Record.{page_in, formed}
use Rattle.record_bytes.specs.Loading.{load}

pub record_before_loads : (bytes : List ℕ) → formed bytes ≡ true → page_sound_before (page_in bytes) ≡ true → load bytes ≡ record { answer = Done; state = described_by (page_in bytes) }
unfolding load
record_before_loads bytes form before = rw (form, page_before_is_sound (page_in bytes) before)
