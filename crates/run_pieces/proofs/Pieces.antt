-- Pieces are as one: whatever the promises of a run allow, fed in any pieces and closed, is the text of the whole run by document 01, and its end is the
-- save of the state after the whole rows.
-- Assumes nothing.
use Rattle.std.specs.Prelude.{None}
use Prim.Native.Nat.{ℕ, ◌%◌, ◌<◌, min}
use mathlib.Core.Path.{◌≡◌, refl, sym, ap, ap₂, ◌∙◌, subst}
use mathlib.Core.Bool.{true, false, cond}
use mathlib.Core.List.{List, [], ◌∷◌, ◌++◌, flatten, append_assoc, append-nil}
use native.Mathlib.Omega.{arith}
use borrow.Author.Tests.{eq-eqb, ne_eqb, eqb-true, eqb-false}
use lib.Dec.{eqb}
use lib.ListN.{length, take, length-append, length-take}
use Rattle.laws.proofs.Bools.{by_cases}
use Rattle.calls.specs.declared.Answer.{Answer}
use Rattle.calls.specs.Answers.{number_of}
use Rattle.rules.specs.State.{State}
use Rattle.rules.specs.Sound.{sound}
use Rattle.rules.specs.Step.{step_decoded}
use Rattle.rules_soundness.proofs.Kept.{boot_is_sound}
use Rattle.record_bytes.proofs.Loading.{loaded_is_sound}
use Rattle.value_engine.specs.declared.Engine.{Engine}
use Rattle.value_engine.specs.Stands.{engine_of}
use Rattle.place_step.specs.Turning.{wrong_row_model}
use Rattle.run_rows.proofs.Meaning.{wrong_row_steps}
use Rattle.kernel.specs.declared.Kernel.{Kernel}
use Rattle.kernel.specs.Kernels.{kernel_of}
use Rattle.run_text.specs.Texts.{heading_bytes, refusal_bytes}
use Rattle.run_rows.specs.Many.{rows_in, inner_answers, inner_final}
use Rattle.run_lines.specs.Output.{last_after, numbered}
use Rattle.run_rows.proofs.Inner.{inner_rows_step, rows_keep}
use Rattle.run_pieces.specs.declared.Run.{Run}
use Rattle.run_pieces.specs.Whole.{Start, AtBoot, AtRecord, begun, taken, state_after, cut_answer, answers_to, text_of_run, run_end}
use Rattle.run_pieces.specs.Pieces.{run_at, kept_by, rest_of, after, told, opening, lines_by, cut_of, cut_by, fed_text, fed_run, closed_text, closed_run, Feeds, EndsAs}
use Rattle.run_pieces.proofs.Joining.{rest_length, rows_join, no_rows, kept_after, answers_join, final_join, answers_length, numbered_join}

-- ---- the answers to all bytes, by the engine

-- one for each whole row, and one for a last row that is cut short
inner_whole : Engine → List ℕ → List Answer
inner_whole x bytes = inner_answers x (rows_in bytes) ++ cut_of (length bytes % 8) (inner_final x (rows_in bytes))

-- bytes and then more: the answers to the whole rows, and then those to what is behind them with the others
whole_join : (x : Engine) (b c : List ℕ) → inner_whole x (b ++ c) ≡ inner_answers x (rows_in b) ++ inner_whole (inner_final x (rows_in b)) (rest_of b ++ c)
unfolding inner_whole
whole_join x b c =
    let y = inner_final x (rows_in b) in
    let rest = rest_of b ++ c in
    let left : length (b ++ c) % 8 ≡ length rest % 8 = omega (arith, length-append b c, length-append (rest_of b) c, rest_length b) in
    let rows = rows_join b c in
    let cut : cut_of (length (b ++ c) % 8) (inner_final x (rows_in (b ++ c))) ≡ cut_of (length rest % 8) (inner_final y (rows_in rest)) =
    ap₂ cut_of left (ap (inner_final x) rows ∙ final_join x (rows_in b) (rows_in rest)) in
    ap₂ ◌++◌ (ap (inner_answers x) rows ∙ answers_join x (rows_in b) (rows_in rest)) cut
    ∙ append_assoc (inner_answers x (rows_in b)) (inner_answers y (rows_in rest)) (cut_of (length rest % 8) (inner_final y (rows_in rest)))

-- fewer than 8 bytes: there is at most a row that is cut short
whole_cut : (x : Engine) (bytes : List ℕ) (count : ℕ) → rows_in bytes ≡ [] → length bytes % 8 ≡ count → (inner_whole x bytes ≡ cut_of count x) × (inner_final x (rows_in bytes) ≡ x)
unfolding inner_whole inner_answers inner_final
whole_cut x bytes count none left = (rw (none, left), rw none)

-- from a sound state they are document 01's
whole_means : (s : State) → sound s ≡ true → (bytes : List ℕ) → inner_whole (engine_of s) bytes ≡ answers_to s bytes
unfolding inner_whole answers_to cut_of cut_answer
whole_means s e bytes =
    let rows = inner_rows_step s e (rows_in bytes) in
    let cut : wrong_row_model (inner_final (engine_of s) (rows_in bytes)) ≡ (step_decoded (state_after s bytes) None).answer = ap wrong_row_model rows.1 ∙ wrong_row_steps (state_after s bytes) (rows_keep s e (rows_in bytes)) in
    ap₂ ◌++◌ rows.0 (ap (λ a. cond (eqb (length bytes % 8) 0) [] (a ∷ [])) cut)

-- ---- pieces

-- once something is written, nothing stands first
opened_once : (refused : ℕ) → opening true refused ≡ []
unfolding opening
opened_once refused = refl

-- what is written of a run that goes on, and where it ends
feeds_go : (pieces : List (List ℕ)) (x : Run) (written : List ℕ) (y : Run) → x.refused ≡ 0 → length (kept_by x) ≡ x.count → Feeds x pieces written y
    → (written ≡ opening x.opened x.refused ++ numbered x.last (inner_whole x.engine (kept_by x ++ flatten pieces)))
    × (y.engine ≡ inner_final x.engine (rows_in (kept_by x ++ flatten pieces))) × (y.refused ≡ 0)
unfolding flatten
feeds_go [] x written y goes keeps w =
    let few : length (kept_by x) < 8 = omega (arith, length-take (min x.count 7) x.kept) in
    let bytes = append-nil (kept_by x) in
    let none = ap rows_in bytes ∙ no_rows (kept_by x) few in
    let gives = w.3 in
    let run : y ≡ closed_run x = w.5 ∙ gives.run_after in
    let left : length (kept_by x ++ []) % 8 ≡ x.count = ap (λ l. length l % 8) bytes ∙ omega (arith, few, keeps) in
    let cut = whole_cut x.engine (kept_by x ++ []) x.count none left in
    let text : closed_text x ≡ opening x.opened x.refused ++ numbered x.last (cut_by x) = unfold closed_text in (rw (eq-eqb x.refused 0 goes)) in
    let reached : (closed_run x).engine ≡ x.engine = unfold closed_run in (rw (eq-eqb x.refused 0 goes)) in
    let still : (closed_run x).refused ≡ x.refused = unfold closed_run in (rw (eq-eqb x.refused 0 goes)) in (
      w.4 ∙ gives.text_first ∙ text ∙ ap (λ a. opening x.opened x.refused ++ numbered x.last a) (sym cut.0),
      ap (λ (z : Run). z.engine) run ∙ reached ∙ sym cut.1,
      ap (λ (z : Run). z.refused) run ∙ still ∙ goes,
    )
feeds_go (piece ∷ pieces) x written y goes keeps w =
    let bytes = kept_by x ++ piece in
    let z = after x bytes in
    let gives = w.4 in
    let run : w.0.run ≡ z = gives.run_after ∙ (unfold fed_run in (rw (eq-eqb x.refused 0 goes))) in
    let on = feeds_go pieces z w.3 y goes (ap length (kept_after x bytes) ∙ rest_length bytes) (subst (λ (v : Run). Feeds v pieces w.3 y) run w.6) in
    let all : bytes ++ flatten pieces ≡ kept_by x ++ (piece ++ flatten pieces) = append_assoc (kept_by x) piece (flatten pieces) in
    let kept : kept_by z ++ flatten pieces ≡ rest_of bytes ++ flatten pieces = ap (λ l. l ++ flatten pieces) (kept_after x bytes) in
    let rows = inner_answers x.engine (rows_in bytes) in
    let more = inner_whole z.engine (kept_by z ++ flatten pieces) in
    let joined : rows ++ more ≡ inner_whole x.engine (kept_by x ++ (piece ++ flatten pieces)) =
    ap (λ l. rows ++ inner_whole z.engine l) kept ∙ sym (whole_join x.engine bytes (flatten pieces)) ∙ ap (inner_whole x.engine) all in
    let first : take w.0.used w.2 ≡ opening x.opened x.refused ++ lines_by x bytes = gives.text_first ∙ (unfold fed_text in (rw (eq-eqb x.refused 0 goes))) in
    let others : w.3 ≡ numbered (last_after x.last (length rows)) more = on.0 ∙ ap (λ h. h ++ numbered z.last more) (opened_once x.refused) ∙ ap (λ n. numbered (last_after x.last n) more) (sym (answers_length x.engine (rows_in bytes))) in (
      w.5 ∙ ap₂ ◌++◌ first others ∙ append_assoc (opening x.opened x.refused) (lines_by x bytes) (numbered (last_after x.last (length rows)) more)
          ∙ ap (λ l. opening x.opened x.refused ++ l) (sym (numbered_join x.last rows more) ∙ ap (numbered x.last) joined),
      on.1 ∙ ap (λ l. inner_final z.engine (rows_in l)) kept ∙ sym (final_join x.engine (rows_in bytes) (rows_in (rest_of bytes ++ flatten pieces)))
          ∙ ap (inner_final x.engine) (sym (rows_join bytes (flatten pieces)) ∙ ap rows_in all),
      on.2,
    )

-- what is written of a refused run
feeds_refused : (pieces : List (List ℕ)) (x : Run) (written : List ℕ) (y : Run) → (x.refused ≡ 0 → ⊥) → Feeds x pieces written y
    → (written ≡ opening x.opened x.refused) × (y.refused ≡ x.refused)
feeds_refused [] x written y n w =
    let gives = w.3 in
    let run : y ≡ told x = w.5 ∙ gives.run_after ∙ (unfold closed_run in (rw (ne_eqb x.refused 0 n))) in
    let text : closed_text x ≡ opening x.opened x.refused = unfold closed_text in (rw (ne_eqb x.refused 0 n) (append-nil (opening x.opened x.refused))) in
    (w.4 ∙ gives.text_first ∙ text, ap (λ (z : Run). z.refused) run)
feeds_refused (piece ∷ pieces) x written y n w =
    let gives = w.4 in
    let run : w.0.run ≡ told x = gives.run_after ∙ (unfold fed_run in (rw (ne_eqb x.refused 0 n))) in
    let text : fed_text x piece ≡ opening x.opened x.refused = unfold fed_text in (rw (ne_eqb x.refused 0 n) (append-nil (opening x.opened x.refused))) in
    let on = feeds_refused pieces (told x) w.3 y n (subst (λ (v : Run). Feeds v pieces w.3 y) run w.6) in
    let others : w.3 ≡ [] = on.0 ∙ opened_once x.refused in
    (w.5 ∙ ap₂ ◌++◌ (gives.text_first ∙ text) others ∙ append-nil (opening x.opened x.refused), on.1)

-- ---- the theorem

-- a run begins at a sound state
begins_sound : (start : Start) → sound (begun start).state ≡ true
begins_sound AtBoot = boot_is_sound
begins_sound (AtRecord bytes) = loaded_is_sound bytes

-- a run that goes on, by document 01
goes_as_one : (start : Start) → taken start ≡ true → (pieces : List (List ℕ)) (written : List ℕ) (y : Run) → Feeds (run_at start) pieces written y
    → (written ≡ text_of_run start (flatten pieces)) × EndsAs y (run_end start (flatten pieces))
unfolding text_of_run run_end
goes_as_one start t pieces written y w =
    let s = (begun start).state in
    let bytes = flatten pieces in
    let e = begins_sound start in
    let goes = eqb-true _ _ t in
    let all = feeds_go pieces (run_at start) written y goes refl w in
    let heads : opening false (number_of (begun start).answer) ≡ heading_bytes = unfold opening in (rw t) in
    let kernel : ◌≡◌ {A = Kernel} (record { engine = y.engine }) (kernel_of (state_after s bytes)) = λ i. record { engine = (all.1 ∙ (inner_rows_step s e (rows_in bytes)).1) i } in
    rw t
    (all.0 ∙ ap₂ (λ h a. h ++ numbered 0 a) heads (whole_means s e bytes), λ before r buffer ends. (ends.of_run all.2).of_sound (state_after s bytes) (rows_keep s e (rows_in bytes)) kernel)

-- a refused one
refused_as_one : (start : Start) → taken start ≡ false → (pieces : List (List ℕ)) (written : List ℕ) (y : Run) → Feeds (run_at start) pieces written y
    → (written ≡ text_of_run start (flatten pieces)) × EndsAs y (run_end start (flatten pieces))
unfolding text_of_run run_end
refused_as_one start f pieces written y w =
    let refused = eqb-false _ _ f in
    let all = feeds_refused pieces (run_at start) written y refused w in
    let tells : opening false (number_of (begun start).answer) ≡ refusal_bytes (number_of (begun start).answer) = unfold opening in (rw f) in
    rw f
    (all.0 ∙ tells, λ before r buffer ends. let o = ends.of_refused (λ z. refused (sym all.1 ∙ z)) in (o.0 ∙ ap (λ n. record { answer = n; length = 0 }) all.1, o.1))

-- from boot or from a record, fed in any pieces, cut anywhere, and closed: the texts one after the other are the text of the whole run on the bytes joined,
-- and what is saved at the end is the save of the state after their whole rows; of a refused record it is the one line, and ending refuses
pub pieces_are_one : (start : Start) (x : Run) → x ≡ run_at start → (pieces : List (List ℕ)) (written : List ℕ) (y : Run) → Feeds x pieces written y
    → (written ≡ text_of_run start (flatten pieces)) × EndsAs y (run_end start (flatten pieces))
pieces_are_one start x e pieces written y w =
    let begins = subst (λ (v : Run). Feeds v pieces written y) e w in
    by_cases (taken start) (λ t. goes_as_one start t pieces written y begins) (λ f. refused_as_one start f pieces written y begins)
