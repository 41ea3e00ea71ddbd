-- Demand 3 for the code: from boot or a record that loads, through any number of calls and rows, whatever the promises of the code allow, the answers
-- and the saved record equal those of the plain book; and there is something that they allow.
-- Assumes nothing.
use Rattle.std.specs.Prelude.{Option}
use Prim.Native.Nat.{ℕ, suc, ◌≤◌}
use mathlib.Core.Path.{◌≡◌, refl, sym, ap, ap₂, ◌∙◌, subst}
use mathlib.Core.Bool.{true}
use mathlib.Core.List.{List, [], ◌∷◌, ◌++◌}
use native.Mathlib.Omega.{arith}
use lib.ListN.{length, drop}
use Rattle.calls.specs.declared.Answer.{Answer}
use Rattle.calls.specs.declared.Call.{Call}
use Rattle.calls.specs.declared.Verdict.{Verdict}
use Rattle.calls.specs.declared.Verdict.TheVariants.{Done, NotSound, Stopped, AlreadyStarted, NoSuchId, IdleCaller, OutOfRange, TableFull, AboveCeiling, NotOwner, CountFull, HoldingMore, TiedElsewhere, TimerRunning, TimerStopped, WrongRecord, BufferShort, WrongRow}
use Rattle.calls.specs.Answers.{number_of}
use Rattle.rules.specs.State.{State, boot}
use Rattle.rules.specs.Sound.{sound}
use Rattle.rules.specs.Step.{step_decoded}
use Rattle.rules_soundness.proofs.Kept.{decoded_keeps, boot_is_sound}
use Rattle.book.specs.Book.{Book}
use Rattle.book.specs.Shown.{book_boot, enter}
use Rattle.book.specs.Answers.{answers_of, final_of}
use Rattle.book.proofs.Demand.{rows_keep}
use Rattle.record_bytes.specs.Record.{page_in}
use Rattle.record_bytes.specs.Loading.{load, saved}
use Rattle.record_bytes.proofs.Loading.{loaded_is_sound, save_done}
use Rattle.record_bytes.specs.Demand.{EqualBytes}
use Rattle.record_bytes.proofs.Demand.{demand_3_records, demand_3_records_from_boot}
use Rattle.kernel.specs.declared.Kernel.{Kernel}
use Rattle.kernel.specs.declared.Stepped.{Stepped}
use Rattle.kernel.specs.Kernels.{kernel_of, stepped_of}
use Rattle.kernel.proofs.Promised.{steps_met}
use Rattle.record.specs.declared.Loaded.{Loaded}
use Rattle.record.specs.Records.{loaded_of, saved_of}
use Rattle.demand.specs.Demand.{Repeats, SavesRecord, Agrees, Demand3}

-- ---- any number of calls and rows

-- whatever the public step repeated gives is what document 01's definition gives
pub rows_step : (s : State) → sound s ≡ true → (x : Kernel) → x ≡ kernel_of s → (rows : List (Option Call)) (answers : List Answer) (y : Kernel) → Repeats x rows answers y
    → (answers ≡ answers_of s rows) × (y ≡ kernel_of (final_of s rows))
unfolding answers_of final_of
rows_step s e x d [] answers y w = (w.0, w.1 ∙ d)
rows_step s e x d (row ∷ rows) answers y w =
    let one : w.0 ≡ stepped_of (step_decoded s row) = w.2.of_sound s e d in
    let others = rows_step (step_decoded s row).state (decoded_keeps s row e) w.0.kernel (ap (λ (r : Stepped). r.kernel) one) rows w.1 y w.4 in
    (w.3 ∙ ap₂ (λ (r : Stepped) rest. r.answer ∷ rest) one others.0, others.1)

-- such a run exists, from every kernel whatever: the promises can be met
pub run_exists : (x : Kernel) (rows : List (Option Call)) → (answers : List Answer) × (y : Kernel) × Repeats x rows answers y
run_exists x [] = ([], x, (refl, refl))
run_exists x (row ∷ rows) =
    let one = steps_met x row in
    let others = run_exists one.0.kernel rows in
    (one.0.answer ∷ others.0, others.1, (one.0, others.0, one.1, refl, others.2))

-- ---- saving

-- whatever a save of a sound state gives is its record
saves_its_record : (s : State) → sound s ≡ true → (y : Kernel) → y ≡ kernel_of s → (bytes : List ℕ) → saved s ≡ bytes → SavesRecord y bytes
saves_its_record s e y d bytes same before r after w long =
    let o = w.of_sound s e d in
    let q = save_done s before e (subst (λ l. length l ≤ length before) (sym same) long) in
    (o.0 ∙ ap saved_of q ∙ ap (λ l. record { answer = 0; length = length l }) same, o.1 ∙ ap (λ z. z.buffer) q ∙ ap (λ l. l ++ drop (length l) before) same)

-- ---- demand 3

-- state and book that are equal in bytes make kernel and book agree
agree : (s : State) (b : Book) → sound s ≡ true → EqualBytes s b → (x : Kernel) → x ≡ kernel_of s → Agrees x b
agree s b e equal x d rows answers y w =
    let r = rows_step s e x d rows answers y w in
    (r.0 ∙ (equal rows).0, saves_its_record (final_of s rows) (rows_keep s e rows) y r.1 _ (equal rows).1)

-- ---- the answer 0 of a load

-- a number above 0 is not 0
apart : {n : ℕ} → suc n ≡ 0 → ⊥
apart e = omega (arith, e)

-- of the document's numbers 0 is done
zero_is_done : (v : Verdict) → number_of v ≡ 0 → v ≡ Done
zero_is_done Done e = refl
zero_is_done NotSound e = absurd (apart e)
zero_is_done Stopped e = absurd (apart e)
zero_is_done AlreadyStarted e = absurd (apart e)
zero_is_done NoSuchId e = absurd (apart e)
zero_is_done IdleCaller e = absurd (apart e)
zero_is_done OutOfRange e = absurd (apart e)
zero_is_done TableFull e = absurd (apart e)
zero_is_done AboveCeiling e = absurd (apart e)
zero_is_done NotOwner e = absurd (apart e)
zero_is_done CountFull e = absurd (apart e)
zero_is_done HoldingMore e = absurd (apart e)
zero_is_done TiedElsewhere e = absurd (apart e)
zero_is_done TimerRunning e = absurd (apart e)
zero_is_done TimerStopped e = absurd (apart e)
zero_is_done WrongRecord e = absurd (apart e)
zero_is_done BufferShort e = absurd (apart e)
zero_is_done WrongRow e = absurd (apart e)

-- ---- the theorem

-- from boot: whatever `Kernel::boot` promises
pub kernel_agrees_from_boot : (x : Kernel) → x ≡ kernel_of boot → Agrees x book_boot
kernel_agrees_from_boot x d = agree boot book_boot boot_is_sound demand_3_records_from_boot x d

-- from a record that loads: whatever `load` promises, where it answers 0
pub kernel_agrees_from_record : (bytes : List ℕ) (l : Loaded) → l ≡ loaded_of (load bytes) → l.answer ≡ 0 → Agrees l.kernel (enter (page_in bytes))
kernel_agrees_from_record bytes l d z =
    let loads = zero_is_done (load bytes).answer (sym (ap (λ (k : Loaded). k.answer) d) ∙ z) in
    agree (load bytes).state (enter (page_in bytes)) (loaded_is_sound bytes) (demand_3_records bytes loads) l.kernel (ap (λ (k : Loaded). k.kernel) d)

-- the kernel agrees with the plain book, from boot and from a record, through any number of calls and rows
pub kernel_agrees_with_the_book : Demand3
kernel_agrees_with_the_book = record { from_boot = kernel_agrees_from_boot; from_record = kernel_agrees_from_record; allowed = run_exists }
