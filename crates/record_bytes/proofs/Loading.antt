-- Loading undoes saving and saving undoes loading, and a refusal leaves what the document says.
-- Assumes nothing.
use Prim.Native.Nat.{ℕ, ◌+◌, ◌*◌, ◌≤◌}
use mathlib.Core.Path.{◌≡◌, refl, sym, ap, ◌∙◌}
use mathlib.Core.Bool.{true, false}
use mathlib.Core.List.{List, ◌++◌}
use native.Mathlib.Omega.{arith}
use lib.ListN.{length, take, drop, length-map, length-append, length-drop}
use lib.Seq.{take_at, drop_at}
use lib.Dec.{ltb}
use borrow.Author.Tests.{le-ltb, ltb-false}
use Rattle.laws.proofs.Bools.{by_cases}
use Rattle.laws.proofs.Lists.{length_tabulate}
use Rattle.calls.specs.Answers.{number_of}
use Rattle.calls.specs.declared.Verdict.{Verdict}
use Rattle.calls.specs.declared.Verdict.TheVariants.{Done, NotSound, WrongRecord, BufferShort}
use Rattle.rules.specs.State.{State, boot}
use Rattle.rules.specs.Sound.{sound}
use Rattle.rules.specs.Page.{described_by, page_sound, page_of, row_at, timer_row_of}
use Rattle.rules_soundness.proofs.Tested.{sound_facts}
use Rattle.rules_soundness.proofs.Kept.{boot_is_sound}
use Rattle.rules_pages.proofs.Pages.{page_of_sound, described_is_sound}
use Rattle.record_bytes.specs.Record.{AreBytes, record_of, page_in, formed}
use Rattle.record_bytes.specs.Loading.{Loaded, load, Saved, saved, save}
use Rattle.record_bytes.proofs.Reading.{length_record, read_written}
use Rattle.record_bytes.proofs.Writing.{states_formed_lem, written_read}

-- ---- when each is done

-- of right form and sound
pub load_done : (bytes : List ℕ) → formed bytes ≡ true → page_sound (page_in bytes) ≡ true → load bytes ≡ record { answer = Done; state = described_by (page_in bytes) }
unfolding load
load_done bytes f e = rw (f, e)

-- of wrong form: 15
pub load_wrong : (bytes : List ℕ) → formed bytes ≡ false → load bytes ≡ record { answer = WrongRecord; state = boot }
unfolding load
load_wrong bytes f = rw f

-- of right form and not sound: 1
pub load_unsound : (bytes : List ℕ) → formed bytes ≡ true → page_sound (page_in bytes) ≡ false → load bytes ≡ record { answer = NotSound; state = boot }
unfolding load
load_unsound bytes f e = rw (f, e)

-- sound, in a buffer that is long enough
pub save_done : (s : State) (buffer : List ℕ) → sound s ≡ true → length (saved s) ≤ length buffer
    → save s buffer ≡ record { answer = Done; length = length (saved s); buffer = saved s ++ drop (length (saved s)) buffer }
unfolding save
save_done s buffer e h = rw (e, le-ltb (length buffer) (length (saved s)) h)

-- not sound: 1
pub save_unsound : (s : State) (buffer : List ℕ) → sound s ≡ false → save s buffer ≡ record { answer = NotSound; length = 0; buffer = buffer }
unfolding save
save_unsound s buffer e = rw e

-- sound, in a buffer shorter than the record: 16
pub save_short : (s : State) (buffer : List ℕ) → sound s ≡ true → ltb (length buffer) (length (saved s)) ≡ true → save s buffer ≡ record { answer = BufferShort; length = 0; buffer = buffer }
unfolding save
save_short s buffer e h = rw (e, h)

-- by the answers of a load, and of a save
by_load : {X : Type 0} (bytes : List ℕ) → (formed bytes ≡ true → page_sound (page_in bytes) ≡ true → X) → ((v : Verdict) → load bytes ≡ record { answer = v; state = boot } → (number_of v ≡ 0 → ⊥) → X) → X
by_load bytes y n = by_cases (formed bytes)
    (λ f. by_cases (page_sound (page_in bytes)) (λ e. y f e) (λ e. n NotSound (load_unsound bytes f e) (λ z. omega arith)))
    (λ f. n WrongRecord (load_wrong bytes f) (λ z. omega arith))

by_save : {X : Type 0} (s : State) (buffer : List ℕ) → (sound s ≡ true → length (saved s) ≤ length buffer → X) → ((v : Verdict) → save s buffer ≡ record { answer = v; length = 0; buffer = buffer } → X) → X
by_save s buffer y n = by_cases (sound s)
    (λ e. by_cases (ltb (length buffer) (length (saved s))) (λ h. n BufferShort (save_short s buffer e h)) (λ h. y e (ltb-false (length buffer) (length (saved s)) h)))
    (λ e. n NotSound (save_unsound s buffer e))

-- ---- refusals

-- a load that is refused returns the boot state
pub refused_load_is_boot : (bytes : List ℕ) → ((load bytes).answer ≡ Done → ⊥) → (load bytes).state ≡ boot
refused_load_is_boot bytes n = by_load bytes (λ f e. absurd (n (ap (λ (x : Loaded). x.answer) (load_done bytes f e)))) (λ v e z. ap (λ (x : Loaded). x.state) e)

-- a save that is refused writes nothing and answers length 0
pub refused_save_writes_nothing : (s : State) (buffer : List ℕ) → ((save s buffer).answer ≡ Done → ⊥) → ((save s buffer).length ≡ 0) × ((save s buffer).buffer ≡ buffer)
refused_save_writes_nothing s buffer n = by_save s buffer
    (λ e h. absurd (n (ap (λ (x : Saved). x.answer) (save_done s buffer e h))))
    (λ v e. (ap (λ (x : Saved). x.length) e, ap (λ (x : Saved). x.buffer) e))

-- a load that is done was of right form and sound
pub done_load : (bytes : List ℕ) → (load bytes).answer ≡ Done → (formed bytes ≡ true) × (page_sound (page_in bytes) ≡ true)
done_load bytes d = by_load bytes (λ f e. (f, e)) (λ v e z. absurd (z (ap number_of (sym (ap (λ (x : Loaded). x.answer) e) ∙ d))))

-- whatever a load answers, the state that it returns is sound
pub loaded_is_sound : (bytes : List ℕ) → sound (load bytes).state ≡ true
loaded_is_sound bytes = by_load bytes
    (λ f e. ap (λ (x : Loaded). sound x.state) (load_done bytes f e) ∙ (described_is_sound (page_in bytes) (states_formed_lem bytes f) e).0)
    (λ v e z. ap (λ (x : Loaded). sound x.state) e ∙ boot_is_sound)

-- ---- a save

-- a save leaves the length of the buffer, and what follows the record
pub save_leaves_the_rest : (s : State) (buffer : List ℕ) → (length (save s buffer).buffer ≡ length buffer) × (drop (save s buffer).length (save s buffer).buffer ≡ drop (save s buffer).length buffer)
save_leaves_the_rest s buffer = by_save s buffer
    (λ e h. rw (save_done s buffer e h) (omega (arith, length-append (saved s) (drop (length (saved s)) buffer), length-drop (length (saved s)) buffer), drop_at (saved s) (drop (length (saved s)) buffer) (length (saved s)) refl))
    (λ v e. rw e (refl, refl))

-- a sound state's record has 24 bytes, 4 for each thread, mutex and condition variable and 8 for each timer
pub record_length : (s : State)
    → length (saved s) ≡ 24 + 4 * length s.scheduler.rows.threads + 4 * length s.scheduler.rows.mutexes + 4 * length s.scheduler.rows.ties + 8 * length s.timers
unfolding page_of
record_length s = omega (arith, length_record (page_of s), length_tabulate (length s.scheduler.rows.threads) (row_at s.scheduler), length-map s.timers timer_row_of)

-- at most 536
pub longest_record : (s : State) → sound s ≡ true → length (saved s) ≤ 536
longest_record s e =
    let o = sound_facts s e in
    omega (arith, record_length s, o.facts.few, o.facts.few_mutexes, o.facts.few_ties, o.few_timers)

-- ---- there and back

-- the record of a sound state loads as that state
pub record_loads : (s : State) → sound s ≡ true → load (saved s) ≡ record { answer = Done; state = s }
record_loads s e =
    let w = page_of_sound s e in
    let r = read_written (page_of s) w.0 w.1 in
    load_done (saved s) r.0 (ap page_sound r.1 ∙ w.1) ∙ (λ i. record { answer = Done; state = (ap described_by r.1 ∙ w.2) i })

-- what a save has written loads as the state that was saved
pub load_after_save : (s : State) (buffer : List ℕ) → sound s ≡ true → length (saved s) ≤ length buffer
    → load (take (save s buffer).length (save s buffer).buffer) ≡ record { answer = Done; state = s }
load_after_save s buffer e h =
    ap (λ (x : Saved). load (take x.length x.buffer)) (save_done s buffer e h)
    ∙ ap load (take_at (saved s) (drop (length (saved s)) buffer) (length (saved s)) refl)
    ∙ record_loads s e

-- so equal records are of equal states
pub record_tells : (s s' : State) → sound s ≡ true → sound s' ≡ true → saved s ≡ saved s' → s ≡ s'
record_tells s s' e e' q = ap (λ (x : Loaded). x.state) (sym (record_loads s e) ∙ ap load q ∙ record_loads s' e')

-- bytes that load are the record of the state that they load as
pub loaded_record : (bytes : List ℕ) → AreBytes bytes → (load bytes).answer ≡ Done → (sound (load bytes).state ≡ true) × (saved (load bytes).state ≡ bytes)
loaded_record bytes b d =
    let w = done_load bytes d in
    let r = described_is_sound (page_in bytes) (states_formed_lem bytes w.0) w.1 in (
      loaded_is_sound bytes,
      ap (λ (x : Loaded). saved x.state) (load_done bytes w.0 w.1) ∙ ap record_of r.1 ∙ written_read bytes w.0 b,
    )

-- bytes that load are saved as the same bytes, in any buffer that is long enough
pub loads_saves_same : (bytes buffer : List ℕ) → AreBytes bytes → (load bytes).answer ≡ Done → length bytes ≤ length buffer
    → save (load bytes).state buffer ≡ record { answer = Done; length = length bytes; buffer = bytes ++ drop (length bytes) buffer }
loads_saves_same bytes buffer b d h =
    let w = loaded_record bytes b d in
    let enough : length (saved (load bytes).state) ≤ length buffer = rw w.1 h in
    save_done (load bytes).state buffer w.0 enough
    ∙ ap (λ l. record { answer = Done; length = length l; buffer = l ++ drop (length l) buffer }) w.1
