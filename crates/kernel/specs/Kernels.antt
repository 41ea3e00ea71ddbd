-- What the kernel promises: which kernel describes a state, when a kernel is sound, and what a call or a row gives, for every kernel whatever.
-- Assumes nothing.
use Rattle.std.specs.Prelude.{Option, Some, None}
use Rattle.std.specs.Prelude.{ℕ, ◌≡◌, true}
use Rattle.calls.specs.declared.Call.{Call}
use Rattle.calls.specs.declared.Verdict.{Verdict}
use Rattle.calls.specs.declared.Verdict.TheVariants.{NotSound, WrongRow}
use Rattle.calls.specs.Answers.{number_of}
use Rattle.rules.specs.State.{State}
use Rattle.rules.specs.Page.{Page, described_by, page_formed, page_sound}
use Rattle.rules.specs.Sound.{sound}
use Rattle.rules.specs.Step as step
use Rattle.rules.specs.Step.{step_decoded}
use Rattle.value_engine.specs.Stands.{engine_of}
use Rattle.kernel.specs.declared.Kernel.{Kernel}
use Rattle.kernel.specs.declared.Stepped.{Stepped}

-- the kernel that describes a state
abbrev pub kernel_of : State → Kernel
kernel_of s = record { engine = engine_of s }

-- a kernel is sound exactly if some sound page describes it and all it keeps besides follows from that page
abbrev pub SoundKernel : Kernel → Type 0
SoundKernel x = (p : Page) × (page_formed p ≡ true) × (page_sound p ≡ true) × (x ≡ kernel_of (described_by p))

-- the kernel and the answer of a step of document 01
abbrev pub stepped_of : step.Stepped → Stepped
stepped_of r = record { kernel = kernel_of r.state; answer = r.answer }

-- a refusal of a kernel that is not sound: given and running are 255, nothing changes
abbrev pub refusal : Kernel → ℕ → Stepped
refusal x number = record { kernel = x; answer = record { number = number; given = 255; running = 255 } }

-- why a kernel that is not sound refuses: 17 comes before 1
abbrev pub unsound_verdict : Option Call → Verdict
unsound_verdict None = WrongRow
unsound_verdict (Some call) = NotSound

-- what a row that was taken apart gives: of a kernel that describes a sound state, document 01's step; of one that is not sound, a refusal
pub record Steps (x : Kernel) (row : Option Call) (r : Stepped) : Type 0 where
  pub of_sound : (s : State) → sound s ≡ true → x ≡ kernel_of s → r ≡ stepped_of (step_decoded s row)
  pub of_unsound : (SoundKernel x → ⊥) → r ≡ refusal x (number_of (unsound_verdict row))
