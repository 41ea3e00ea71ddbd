-- What loading and saving promise, for every list of bytes, every kernel and every buffer whatever.
-- Assumes nothing.
use Rattle.std.specs.Prelude.{ℕ, ◌≡◌, true, List}
use Rattle.calls.specs.declared.Verdict.TheVariants.{NotSound}
use Rattle.calls.specs.Answers.{number_of}
use Rattle.rules.specs.State.{State, boot}
use Rattle.rules.specs.Sound.{sound}
use Rattle.record_bytes.specs.Loading as loading
use Rattle.kernel.specs.declared.Kernel.{Kernel}
use Rattle.kernel.specs.Kernels.{kernel_of, SoundKernel}
use Rattle.record.specs.declared.Loaded.{Loaded}
use Rattle.record.specs.declared.Saved.{Saved}

-- the answer and the kernel of a load of document 01
abbrev pub loaded_of : loading.Loaded → Loaded
loaded_of l = record { answer = number_of l.answer; kernel = kernel_of l.state }

-- a refused load hands back the boot state
abbrev pub refused_model : ℕ → Loaded
refused_model answer = record { answer = answer; kernel = kernel_of boot }

-- the answer and the length of a save of document 01
abbrev pub saved_of : loading.Saved → Saved
saved_of s = record { answer = number_of s.answer; length = s.length }

-- what a save gives: of a kernel that describes a sound state, document 01's save, every byte of the buffer included; of one that is not sound,
-- answer 1, length 0, and the buffer as it was
pub record Saves (x : Kernel) (before : List ℕ) (r : Saved) (after : List ℕ) : Type 0 where
  pub of_sound : (s : State) → sound s ≡ true → x ≡ kernel_of s → (r ≡ saved_of (loading.save s before)) × (after ≡ (loading.save s before).buffer)
  pub of_unsound : (SoundKernel x → ⊥) → (r ≡ record { answer = number_of NotSound; length = 0 }) × (after ≡ before)
