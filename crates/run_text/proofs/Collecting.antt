-- A text laid after the used part of a buffer, and where there is no room.
-- Assumes nothing.
use Prim.Native.Nat.{ℕ, ◌+◌, ◌-◌, ◌<◌, ◌≤◌}
use mathlib.Core.Path.{◌≡◌, refl, sym, ◌∙◌}
use mathlib.Core.List.{List, [], append_assoc}
use native.Mathlib.Nat.{add-zero}
use native.Mathlib.Omega.{arith}
use borrow.Author.Tests.{le-leb, lt-leb}
use lib.ListN.{length, take, drop, replicate, length-replicate, take-append-drop, drop_of_length-le}
use lib.Seq.{paste, take-length, drop_at}
use borrow.Rule.Slice.PartMut.{put_mid}
use Rattle.std.proofs.lemmas.Slice.{put_mid-paste}
use Rattle.laws.proofs.Lists.{by_below}
use Rattle.run_text.specs.Texts.{text_of, bytes_of, collected, used_after}

-- no room: nothing changes
pub no_room : (buffer : List ℕ) (used : ℕ) (l : List ℕ) → length buffer < used + length l
    → (used ≡ used_after buffer used l) × (buffer ≡ collected buffer used l)
unfolding used_after collected
no_room buffer used l h = (rw (lt-leb _ _ h), rw (lt-leb _ _ h))

-- room: a copy in the place after the used part is the whole list there
pub has_room : (buffer : List ℕ) (used : ℕ) (l : List ℕ) → used + length l ≤ length buffer
    → (used + length l ≡ used_after buffer used l) × (put_mid used (used + length l - used) buffer l ≡ collected buffer used l)
unfolding used_after collected
has_room buffer used l h =
    let copied : put_mid used (used + length l - used) buffer l ≡ paste buffer used l (length l) =
    put_mid-paste used (used + length l - used) buffer l l (length l) refl (omega arith) refl in
    (rw (le-leb _ _ h), copied ∙ rw (take-length l, le-leb _ _ h) (append_assoc (take used buffer) l (drop (used + length l) buffer)))

-- an empty list changes nothing
pub nothing_laid : (buffer : List ℕ) (used : ℕ) → (used ≡ used_after buffer used []) × (buffer ≡ collected buffer used [])
unfolding used_after collected
nothing_laid buffer used =
    by_below (length buffer) (used + 0) (no_room buffer used [])
    (λ h. (rw (le-leb _ _ h, add-zero), rw (le-leb _ _ h, add-zero) (sym (take-append-drop used buffer))))

-- a text that begins past its end is empty
pub past_end : (buffer : List ℕ) (used : ℕ) (bytes : List ℕ) (from : ℕ) → length bytes < from
    → (used ≡ used_after buffer used (drop from bytes)) × (buffer ≡ collected buffer used (drop from bytes))
past_end buffer used bytes from h = rw (drop_of_length-le bytes {i = from} (omega arith)) (nothing_laid buffer used)

-- the bytes of a text that was made of a list are the list
pub bytes_of_lem : (l : List ℕ) → bytes_of (text_of l) ≡ l
unfolding text_of
bytes_of_lem l = drop_at (replicate (48 - length l) 0) l (48 - length l) (length-replicate _ _)
