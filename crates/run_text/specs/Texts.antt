-- The text of a run: a number in decimal, the line of a row, the heading, and the value that holds a text.
-- Assumes nothing.
use Rattle.std.specs.Prelude.{ℕ, zero, suc, ◌+◌, ◌-◌, ◌/◌, ◌%◌, cond, List, [], ◌∷◌, ◌++◌, length, take, drop, set, replicate, ltb, leb}
use Rattle.calls.specs.declared.Answer.{Answer}
use Rattle.run_text.specs.declared.Text.{Text}

-- ---- what is written

-- the decimal digits of n, the first one first and no zero in front, in at most so many turns
unfoldable pub digits_in : ℕ → ℕ → List ℕ
digits_in zero n = []
digits_in (suc turns) n = cond (ltb n 10) ((48 + n % 10) ∷ []) (digits_in turns (n / 10) ++ ((48 + n % 10) ∷ []))

-- the decimal digits of n: it has fewer than n + 1 of them, or one
unfoldable pub digits : ℕ → List ℕ
digits n = digits_in (suc n) n

-- the line of row n: n and the three numbers of the answer, with a blank between, and a line feed
unfoldable pub line_bytes : ℕ → Answer → List ℕ
line_bytes n answer = digits n ++ (32 ∷ digits answer.number ++ (32 ∷ digits answer.given ++ (32 ∷ digits answer.running ++ (10 ∷ []))))

-- `line answer given running` and a line feed
abbrev pub heading_bytes : List ℕ
heading_bytes =
    108 ∷ 105 ∷ 110 ∷ 101 ∷ 32 ∷ 97 ∷ 110 ∷ 115 ∷ 119 ∷ 101 ∷ 114 ∷ 32 ∷ 103 ∷ 105 ∷ 118 ∷ 101 ∷ 110 ∷ 32 ∷ 114 ∷ 117 ∷ 110 ∷ 110 ∷ 105 ∷ 110 ∷ 103 ∷ 10 ∷ []

-- `record refused` and a blank
abbrev pub refused_bytes : List ℕ
refused_bytes = 114 ∷ 101 ∷ 99 ∷ 111 ∷ 114 ∷ 100 ∷ 32 ∷ 114 ∷ 101 ∷ 102 ∷ 117 ∷ 115 ∷ 101 ∷ 100 ∷ 32 ∷ []

-- the line of a record that is refused: `record refused`, a blank, the answer, and a line feed
unfoldable pub refusal_bytes : ℕ → List ℕ
refusal_bytes answer = refused_bytes ++ (digits answer ++ (10 ∷ []))

-- `save refused` and a blank
abbrev pub unsaved_bytes : List ℕ
unsaved_bytes = 115 ∷ 97 ∷ 118 ∷ 101 ∷ 32 ∷ 114 ∷ 101 ∷ 102 ∷ 117 ∷ 115 ∷ 101 ∷ 100 ∷ 32 ∷ []

-- the line of a save that is refused: `save refused`, a blank, the answer, and a line feed
unfoldable pub save_refusal_bytes : ℕ → List ℕ
save_refusal_bytes answer = unsaved_bytes ++ (digits answer ++ (10 ∷ []))

-- the line of record n: n, the answer to its load and the length of its save, with a blank between, and a line feed
unfoldable pub entry_bytes : ℕ → ℕ → ℕ → List ℕ
entry_bytes n answer length = digits n ++ (32 ∷ digits answer ++ (32 ∷ digits length ++ (10 ∷ [])))

-- ---- the value that holds it

-- the text of a list of at most 48 bytes: they stand at the end, and the unused bytes in front are 0
unfoldable pub text_of : List ℕ → Text
text_of l = record { bytes = replicate (48 - length l) 0 ++ l; from = 48 - length l }

-- one byte more in front
unfoldable pub put_model : Text → ℕ → Text
put_model t b = let from = (t.from % 48 + 47) % 48 in record { bytes = set t.bytes from b; from = from }

-- a list of bytes in front
unfoldable pub put_all : Text → List ℕ → Text
put_all t [] = t
put_all t (b ∷ l) = put_model (put_all t l) b

-- the bytes of a text
abbrev pub bytes_of : Text → List ℕ
bytes_of t = drop t.from t.bytes

-- ---- a buffer of which a part at the beginning is used

-- a list of bytes laid after the used part: what stands before it and after it is as it was
abbrev pub laid : List ℕ → ℕ → List ℕ → List ℕ
laid buffer used l = take used buffer ++ (l ++ drop (used + length l) buffer)

-- the buffer with a list of bytes laid after the used part, if it has room for it
unfoldable pub collected : List ℕ → ℕ → List ℕ → List ℕ
collected buffer used l = cond (leb (used + length l) (length buffer)) (laid buffer used l) buffer

-- how much of the buffer is used then
unfoldable pub used_after : List ℕ → ℕ → List ℕ → ℕ
used_after buffer used l = cond (leb (used + length l) (length buffer)) (used + length l) used
