-- Texts laid first in a buffer: what stands first, the kept bytes and a piece, and the lines behind them.
-- Assumes nothing.
use Prim.Native.Nat.{ℕ, ◌+◌, ◌*◌, ◌-◌, ◌/◌, ◌<◌, ◌≤◌, min}
use mathlib.Core.Path.{◌≡◌, sym, ap, ap₂, ◌∙◌}
use mathlib.Core.Bool.{Bool}
use mathlib.Core.List.{List, ◌++◌}
use native.Mathlib.Nat.{zero-add}
use native.Mathlib.Omega.{arith}
use borrow.Author.Tests.{le-leb}
use lib.Dec.{eqb}
use lib.ListN.{length, take, drop, replicate, length-append, length-drop, length-replicate, replicate-append-replicate}
use lib.Seq.{take-append_seam, take-append-add, drop-append-le, drop_at, take_at, take_all}
use Rattle.laws.proofs.Bools.{by_cases}
use Rattle.laws.proofs.Lists.{by_below}
use Rattle.run_rows.specs.Rows.{row_at}
use Rattle.run_text.specs.declared.Text.{Text}
use Rattle.run_text.specs.Texts.{text_of, bytes_of, refused_bytes, refusal_bytes, laid, collected, used_after}
use Rattle.run_text.proofs.Collecting.{bytes_of_lem}
use Rattle.run_text.proofs.Putting.{refusal_fits}
use Rattle.run_lines.proofs.Order.{laid_laid, length_laid}
use Rattle.run_pieces.specs.declared.Run.{Run}
use Rattle.run_pieces.specs.declared.Fed.{Fed}
use Rattle.run_pieces.specs.Pieces.{rest_of, padded, opening, Gives}

-- what stands first in a text has at most 48 bytes
pub opening_fits : (opened : Bool) (refused : ℕ) → refused < 256 → length (opening opened refused) ≤ 48
unfolding opening refusal_bytes
opening_fits opened refused h =
    by_cases opened (λ e. rw e (omega arith))
    (λ e. by_cases (eqb refused 0) (λ f. rw (e, f) (omega arith)) (λ f. rw (e, f) (refusal_fits refused_bytes refused (omega arith) h)))

-- a text that is collected first, as the code does it
pub opening_laid : (opened : Bool) (refused : ℕ) (l o : List ℕ) (t : Text) (used : ℕ) (o' : List ℕ) → opening opened refused ≡ l → t ≡ text_of l
    → used ≡ used_after o 0 (bytes_of t) → o' ≡ collected o 0 (bytes_of t) → (used ≡ used_after o 0 (opening opened refused)) × (o' ≡ collected o 0 (opening opened refused))
opening_laid opened refused l o t used o' e f g h =
    let holds : bytes_of t ≡ opening opened refused = ap bytes_of f ∙ bytes_of_lem l ∙ sym e in
    (g ∙ ap (used_after o 0) holds, h ∙ ap (collected o 0) holds)

-- laid first, where there is room
pub first_laid : (o l : List ℕ) → length l ≤ length o → (used_after o 0 l ≡ length l) × (collected o 0 l ≡ laid o 0 l)
unfolding used_after collected
first_laid o l h =
    let room : 0 + length l ≤ length o = omega arith in
    (rw (le-leb _ _ room) (zero-add (length l)), rw (le-leb _ _ room))

-- laid behind what is laid first
pub laid_on : (o a b : List ℕ) → length a ≤ length o → laid (laid o 0 a) (length a) b ≡ laid o 0 (a ++ b)
laid_on o a b h = ap (λ k. laid (laid o 0 a) k b) (sym (zero-add (length a))) ∙ laid_laid o 0 a b (omega arith)

-- the same in a buffer that has room
then_laid : (o a b : List ℕ) → length a + length b ≤ length o
    → (used_after (laid o 0 a) (length a) b ≡ length (a ++ b)) × (collected (laid o 0 a) (length a) b ≡ laid o 0 (a ++ b))
unfolding used_after collected
then_laid o a b h =
    let room : length a + length b ≤ length (laid o 0 a) = omega (arith, length_laid o 0 a (omega arith)) in
    (rw (le-leb _ _ room) (sym (length-append a b)), rw (le-leb _ _ room) (laid_on o a b (omega arith)))

-- one list laid first and another behind it, as the code does it
pub joined_laid : (o a b : List ℕ) → length a + length b ≤ length o → (u : ℕ) (o' : List ℕ) (v : ℕ) (o'' : List ℕ) → u ≡ used_after o 0 a → o' ≡ collected o 0 a
    → v ≡ used_after o' u b → o'' ≡ collected o' u b → (v ≡ length (a ++ b)) × (o'' ≡ laid o 0 (a ++ b))
joined_laid o a b h u o' v o'' e f g k =
    let first = first_laid o a (omega arith) in
    let second = then_laid o a b h in
    (g ∙ ap₂ (λ p q. used_after p q b) (f ∙ first.1) (e ∙ first.0) ∙ second.0, k ∙ ap₂ (λ p q. collected p q b) (f ∙ first.1) (e ∙ first.0) ∙ second.1)

-- so many zeros
abbrev zeros : ℕ → List ℕ
zeros n = replicate n 0

-- of a block of 8,192 bytes no more are held
pub take_least : (held : ℕ) (block : List ℕ) → length block ≡ 8192 → take (min held 8192) block ≡ take held block
take_least held block e =
    by_below held 8192
    (λ h. let is : min held 8192 ≡ held = omega arith in ap (λ n. take n block) is)
    (λ h. let is : min held 8192 ≡ 8192 = omega arith in ap (λ n. take n block) is ∙ take_all 8192 block (omega arith) ∙ sym (take_all held block (omega arith)))

-- zeros are zeros and zeros
zeros_split : (size n : ℕ) → n ≤ size → zeros size ≡ zeros n ++ zeros (size - n)
zeros_split size n h =
    let sum : size ≡ n + (size - n) = omega arith in
    ap zeros sum ∙ sym (replicate-append-replicate n (size - n) 0)

-- zeros behind some zeros
zeros_behind : (size n : ℕ) → n ≤ size → drop n (zeros size) ≡ zeros (size - n)
zeros_behind size n h = ap (drop n) (zeros_split size n h) ∙ drop_at (zeros n) (zeros (size - n)) n (length-replicate n 0)

-- the first of some zeros
first_zeros : (size n : ℕ) → n ≤ size → take n (zeros size) ≡ zeros n
first_zeros size n h = ap (take n) (zeros_split size n h) ∙ take_at (zeros n) (zeros (size - n)) n (length-replicate n 0)

-- bytes that are laid into zeros leave these as long as they were
pub joined_size : (size : ℕ) (bytes joined : List ℕ) (count : ℕ) → count ≡ length bytes → joined ≡ laid (replicate size 0) 0 bytes → count ≤ size → length joined ≡ size
joined_size size bytes joined count e f h = ap length f ∙ length_laid (zeros size) 0 bytes (omega (arith, length-replicate {A = ℕ} size 0)) ∙ length-replicate size 0

-- and stand first in them
pub joined_first : (size : ℕ) (bytes joined : List ℕ) (count : ℕ) → count ≡ length bytes → joined ≡ laid (replicate size 0) 0 bytes → take count joined ≡ bytes
joined_first size bytes joined count e f = ap₂ take e f ∙ take-append_seam bytes (drop (0 + length bytes) (zeros size))

-- the 8 bytes behind the whole rows of bytes that are laid into zeros
pub rest_kept : (size : ℕ) (bytes : List ℕ) → length bytes / 8 * 8 + 8 ≤ size → row_at (laid (replicate size 0) 0 bytes) (length bytes / 8 * 8) ≡ padded (rest_of bytes)
unfolding row_at
rest_kept size bytes h =
    let n = length bytes in
    let at = n / 8 * 8 in
    let more = zeros (size - n) in
    let behind : drop (0 + n) (zeros size) ≡ more = ap (λ k. drop k (zeros size)) (zero-add n) ∙ zeros_behind size n (omega arith) in
    let joined : laid (zeros size) 0 bytes ≡ bytes ++ more = ap (λ z. bytes ++ z) behind in
    let long : length (bytes ++ more) ≡ size = length-append bytes more ∙ ap (λ k. n + k) (length-replicate (size - n) 0) ∙ omega arith in
    let size_of_lem : length (rest_of bytes) ≡ n - at = length-drop at bytes in
    let eight : 8 ≡ length (rest_of bytes) + (8 - length (rest_of bytes)) = omega arith in
    rw (joined, le-leb (at + 8) (length (bytes ++ more)) (omega (arith, long)), drop-append-le at bytes more (omega arith))
    (ap (λ k. take k (rest_of bytes ++ more)) eight ∙ take-append-add (rest_of bytes) more (8 - length (rest_of bytes)) ∙ ap (λ z. rest_of bytes ++ z) (first_zeros (size - n) (8 - length (rest_of bytes)) (omega arith)))

-- what is used and the buffer as they are to be
pub gives_made : (run : Run) (text before : List ℕ) (r : Fed) (buffer : List ℕ) → r.run ≡ run → r.used ≡ length text → buffer ≡ laid before 0 text → Gives run text before r buffer
gives_made run text before r buffer e f g =
    let front : take (length text) (laid before 0 text) ≡ text = take-append_seam text (drop (0 + length text) before) in
    let first : take r.used buffer ≡ text = ap₂ take f g ∙ front in
    let long : length text ≤ length (laid before 0 text) = simp length-append (omega arith) in
    record { run_after = e; text_first = first; rest = g; within = (rw (f, g) long, f ∙ sym (ap length first)) }
