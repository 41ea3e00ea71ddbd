-- Putting bytes in front of a text, and the line as one list of them.
-- Assumes nothing.
use Prim.Native.Nat.{ℕ, ◌+◌, ◌-◌, ◌/◌, ◌%◌, ◌^◌, ◌<◌, ◌≤◌}
use mathlib.Core.Path.{◌≡◌, refl, sym, ap, ◌∙◌}
use mathlib.Core.List.{List, [], ◌∷◌, ◌++◌, append_assoc, reverse}
use native.Mathlib.Omega.{arith}
use lib.ListN.{length, replicate, length-append, length-replicate, replicate-append-replicate}
use lib.Seq.{set_at}
use Rattle.std.specs.List.{fold}
use Rattle.std.proofs.lemmas.List.{reverse-append}
use Rattle.std.proofs.lemmas.List.Sums.{fold-append}
use Rattle.calls.specs.declared.Answer.{Answer}
use Rattle.run_text.specs.declared.Text.{Text}
use Rattle.run_text.specs.Texts.{text_of, put_model, put_all, digits, line_bytes, entry_bytes}
use Rattle.run_text.proofs.Digits.{one_digit, last_digit, few_digits}

-- a byte in front of a text that has room
put_text : (l : List ℕ) (b : ℕ) → length l < 48 → put_model (text_of l) b ≡ text_of (b ∷ l)
unfolding put_model text_of
put_text l b h =
    let from : ((48 - length l) % 48 + 47) % 48 ≡ 47 - length l = omega arith in
    let room : 48 - length l ≡ (47 - length l) + 1 = omega arith in
    let zeros : replicate (48 - length l) 0 ++ l ≡ replicate (47 - length l) 0 ++ (0 ∷ l) =
    rw (room, ← replicate-append-replicate {A = ℕ} (47 - length l) 1 0) (append_assoc (replicate (47 - length l) 0) (0 ∷ []) l) in
    let left : 48 - length (b ∷ l) ≡ 47 - length l = omega arith in
    rw (from, zeros, left, set_at (replicate (47 - length l) 0) 0 l b (47 - length l) (length-replicate _ _))

-- a list of bytes in front of none
pub put_all_lem : (l : List ℕ) → length l ≤ 48 → put_all (text_of []) l ≡ text_of l
unfolding put_all
put_all_lem [] h = refl
put_all_lem (b ∷ l) h = rw (put_all_lem l (omega arith)) (put_text l b (omega arith))

-- two lists of bytes are put one after the other, the last first
pub put_append : (t : Text) (xs ys : List ℕ) → put_all t (xs ++ ys) ≡ put_all (put_all t ys) xs
unfolding put_all
put_append t [] ys = refl
put_append t (x ∷ xs) ys = ap (λ u. put_model u x) (put_append t xs ys)

-- a byte in front of a list, and none
put_first : (t : Text) (b : ℕ) (l : List ℕ) → put_all t (b ∷ l) ≡ put_model (put_all t l) b
unfolding put_all
put_first t b l = refl

put_none : (t : Text) → put_all t [] ≡ t
unfolding put_all
put_none t = refl

-- a list of bytes, put in front one by one from its last to its first
pub put_backwards : (t : Text) (l : List ℕ) → fold put_model t (reverse l) ≡ put_all t l
unfolding put_all
put_backwards t [] = refl
put_backwards t (b ∷ l) =
    ap (fold put_model t) (reverse-append (b ∷ []) l) ∙ fold-append put_model t (reverse l) (b ∷ []) ∙ ap (λ u. put_model u b) (put_backwards t l)

-- one digit, and then the digits of the tenth
pub number_on : (t : Text) (n : ℕ) → 10 ≤ n → put_all t (digits n) ≡ put_all (put_model t (48 + n % 10)) (digits (n / 10))
unfolding put_all
number_on t n h = rw (last_digit n h) (put_append t (digits (n / 10)) ((48 + n % 10) ∷ []))

-- the first digit
pub number_ends : (t : Text) (n : ℕ) → n < 10 → put_all t (digits n) ≡ put_model t (48 + n % 10)
unfolding put_all
number_ends t n h = rw (one_digit n h)

-- a line has at most 48 bytes
pub line_fits : (n : ℕ) (answer : Answer) → n < 2 ^ 64 → answer.number < 256 → answer.given < 65536 → answer.running < 256 → length (line_bytes n answer) ≤ 48
unfolding line_bytes
line_fits n answer a b c d =
    simp length-append (omega (arith, few_digits 19 n (omega arith), few_digits 2 answer.number (omega arith), few_digits 4 answer.given (omega arith), few_digits 2 answer.running (omega arith)))

-- a line is put together from its end
pub line_put : (n : ℕ) (answer : Answer) → n < 2 ^ 64 → answer.number < 256 → answer.given < 65536 → answer.running < 256
    → put_all (put_model (put_all (put_model (put_all (put_model (put_all (put_model (text_of []) 10) (digits answer.running)) 32) (digits answer.given)) 32) (digits answer.number)) 32) (digits n)
    ≡ text_of (line_bytes n answer)
unfolding line_bytes
line_put n answer a b c d = sym (simp (put_append, put_first, put_none)) ∙ put_all_lem (line_bytes n answer) (line_fits n answer a b c d)

-- the line of what is refused has at most 48 bytes
pub refusal_fits : (words : List ℕ) (answer : ℕ) → length words ≤ 15 → answer < 256 → length (words ++ (digits answer ++ (10 ∷ []))) ≤ 48
refusal_fits words answer w h = simp length-append (omega (arith, few_digits 2 answer (omega arith)))

-- the line of what is refused is put together from its end
pub refusal_put : (words : List ℕ) (answer : ℕ) → length words ≤ 15 → answer < 256
    → put_all (put_all (put_model (text_of []) 10) (digits answer)) words ≡ text_of (words ++ (digits answer ++ (10 ∷ [])))
unfolding put_all
refusal_put words answer w h = sym (simp put_append) ∙ put_all_lem (words ++ (digits answer ++ (10 ∷ []))) (refusal_fits words answer w h)

-- the line of a record in a list is put together from its end
pub entry_put : (n answer size : ℕ) → n < 2 ^ 64 → answer < 256 → size < 65536
    → put_all (put_model (put_all (put_model (put_all (put_model (text_of []) 10) (digits size)) 32) (digits answer)) 32) (digits n)
    ≡ text_of (entry_bytes n answer size)
unfolding entry_bytes
entry_put n answer size a b c =
    let fits : length (entry_bytes n answer size) ≤ 48 =
    simp length-append (omega (arith, few_digits 19 n (omega arith), few_digits 2 answer (omega arith), few_digits 4 size (omega arith))) in
    sym (simp (put_append, put_first, put_none)) ∙ put_all_lem (entry_bytes n answer size) fits
