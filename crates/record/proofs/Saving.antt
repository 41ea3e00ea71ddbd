-- The three ends of a save are document 01's, every byte of the buffer included; and what the promise of a save allows is one result, and one only.
-- Assumes nothing.
use Prim.Native.Nat.{ℕ, ◌+◌, ◌<◌, ◌≤◌}
use mathlib.Core.Path.{◌≡◌, refl, sym, ap, ◌∙◌, subst}
use mathlib.Core.Logic.{◌⊎◌, inl, inr, ◌↔◌}
use mathlib.Core.Bool.{Bool, true, false, true≢false}
use mathlib.Core.List.{List, ◌++◌}
use native.Mathlib.Omega.{arith}
use lib.ListN.{length, drop}
use lib.Seq.{sets, sets-eq}
use borrow.Author.Tests.{lt-ltb}
use Rattle.calls.specs.declared.Verdict.TheVariants.{NotSound}
use Rattle.calls.specs.Answers.{number_of}
use Rattle.rules.specs.State.{State}
use Rattle.rules.specs.Sound.{sound}
use Rattle.rules.specs.Page.{page_of}
use Rattle.record_bytes.specs.Record.{record_of}
use Rattle.record_bytes.specs.Loading.{saved, save}
use Rattle.record_bytes.proofs.Loading.{save_done, save_short}
use Rattle.rules_pages.proofs.Pages.{page_of_sound}
use Rattle.value_engine.specs.Stands.{engine_of}
use Rattle.page.specs.declared.Page.{Page}
use Rattle.page.specs.Says.{said, page_for}
use Rattle.page.proofs.Says.{said_for}
use Rattle.kernel.specs.declared.Kernel.{Kernel}
use Rattle.kernel.specs.Kernels.{kernel_of, SoundKernel}
use Rattle.kernel.proofs.Sound.{page_fits, state_sound, sound_state, one_state}
use Rattle.kernel.proofs.Promised.{sound_or_not}
use Rattle.record.specs.declared.Saved.{Saved}
use Rattle.record.specs.Records.{saved_of, Saves}

module _ (x : Kernel) (before : List ℕ) {b : Bool} (tested : (b ≡ true) ↔ SoundKernel x) where
  -- not sound
  pub unsound : (r : Saved) → b ≡ false → r ≡ record { answer = number_of NotSound; length = 0 } → Saves x before r before
  unsound r n e = record {
    of_sound = λ s o d. absurd (true≢false (sym (tested.1 (state_sound x s o d)) ∙ n));
    of_unsound = λ w. (e, refl);
  }

  module _ (t : b ≡ true) (p : Page) (means : (s : State) → sound s ≡ true → x.engine ≡ engine_of s → p ≡ page_for (page_of s)) where
    -- the record of the page is the state's
    same : (s : State) → sound s ≡ true → x ≡ kernel_of s → record_of (said p) ≡ saved s
    same s o d =
        let w = page_of_sound s o in
        ap record_of (ap said (means s o (ap (λ (y : Kernel). y.engine) d)) ∙ said_for (page_of s) (page_fits (page_of s) w.0 w.1))

    -- the buffer is too short
    pub short : (r : Saved) → length before < length (record_of (said p)) → r ≡ record { answer = 16; length = 0 } → Saves x before r before
    short r l e = record {
      of_sound = λ s o d. let q = save_short s before o (lt-ltb (length before) (length (saved s)) (subst (λ k. length before < length k) (same s o d) l)) in (e ∙ sym (ap saved_of q), sym (ap (λ y. y.buffer) q));
      of_unsound = λ w. absurd (w (tested.0 t));
    }

    -- done
    pub done_save : (r : Saved) (after : List ℕ) → length (record_of (said p)) ≤ length before → r ≡ record { answer = 0; length = length (record_of (said p)) } → after ≡ sets before 0 (record_of (said p)) → Saves x before r after
    done_save r after l e w = record {
      of_sound = λ s o d.
          let q = save_done s before o (subst (λ k. length k ≤ length before) (same s o d) l) in
          (e ∙ ap (λ k. record { answer = 0; length = length k }) (same s o d) ∙ sym (ap saved_of q), w ∙ ap (sets before 0) (same s o d) ∙ first (saved s) (subst (λ k. length k ≤ length before) (same s o d) l) ∙ sym (ap (λ y. y.buffer) q));
      of_unsound = λ n. absurd (n (tested.0 t));
    }
      where
        first : (l : List ℕ) → length l ≤ length before → sets before 0 l ≡ l ++ drop (length l) before
        first l h = let z : 0 + length l ≡ length l = omega arith in sets-eq l before 0 (omega arith) ∙ ap (λ k. l ++ drop k before) z

-- any two results that the promise of a save allows are equal, the buffers too
pub saves_once : (x : Kernel) (before : List ℕ) (r q : Saved) (a c : List ℕ) → Saves x before r a → Saves x before q c → (r ≡ q) × (a ≡ c)
saves_once x before r q a c m n = go (sound_or_not x)
  where
    go : SoundKernel x ⊎ (SoundKernel x → ⊥) → (r ≡ q) × (a ≡ c)
    go (inl w) =
        let s = sound_state x w in
        let one = m.of_sound s.0 s.1 s.2 in
        let other = n.of_sound s.0 s.1 s.2 in
        (one.0 ∙ sym other.0, one.1 ∙ sym other.1)
    go (inr w) =
        let one = m.of_unsound w in
        let other = n.of_unsound w in
        (one.0 ∙ sym other.0, one.1 ∙ sym other.1)

-- the promise of a save can be met, of every kernel whatever and every buffer
pub saves_met : (x : Kernel) (before : List ℕ) → (r : Saved) × (after : List ℕ) × Saves x before r after
saves_met x before = go (sound_or_not x)
  where
    go : SoundKernel x ⊎ (SoundKernel x → ⊥) → (r : Saved) × (after : List ℕ) × Saves x before r after
    go (inl w) =
        let s = sound_state x w in
        let one : (t : State) → sound t ≡ true → x ≡ kernel_of t → s.0 ≡ t = λ t o d. one_state s.0 t s.1 o (sym s.2 ∙ d) in (
          saved_of (save s.0 before),
          (save s.0 before).buffer,
          record {
            of_sound = λ t o d. (ap (λ (z : State). saved_of (save z before)) (one t o d), ap (λ (z : State). (save z before).buffer) (one t o d));
            of_unsound = λ n. absurd (n w);
          },
        )
    go (inr n) = (
      record { answer = number_of NotSound; length = 0 },
      before,
      record { of_sound = λ t o d. absurd (n (state_sound x t o d)); of_unsound = λ m. (refl, refl) },
    )
