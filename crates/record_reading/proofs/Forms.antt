-- The tests of the code decide right form: the counts fit, the states are among the document's, and the bytes are the record of the page read.
-- Assumes nothing.
use Rattle.std.specs.Prelude.{Some, None}
use Rattle.std.proofs.lemmas.Option.{none-some, cond_some}
use Prim.Native.Nat.{ℕ, ◌+◌, ◌%◌, ◌<◌, ◌≤◌}
use mathlib.Core.Path.{◌≡◌, refl, sym, ap, ap₂, ◌∙◌, subst}
use mathlib.Core.Bool.{Bool, true, false, ◌||◌, ◌&&◌}
use mathlib.Core.List.{List, ◌++◌}
use native.Mathlib.Omega.{arith}
use lib.ListN.{length, get_or, drop, replicate, length-replicate, get_or-append}
use lib.Seq.{sets, sets-eq}
use lib.Dec.{eqb, ltb, leb}
use borrow.Author.Tests.{eqb-true, leb-true, ltb-false, le-leb, eq-eqb}
use Rattle.laws.specs.Lists.{tabulate}
use Rattle.laws.proofs.Bools.{by_cases, and_left, and_right, and_both, nor_right, denied, self, refuted, no_way, cond_true, cond_false}
use Rattle.rules.specs.Page.{thread_formed, timer_formed, each_row, page_formed}
use Rattle.rules_soundness.proofs.Tests.{AllTrue, all_true, iff, each_at, at_each}
use Rattle.rules_pages.proofs.Rows.{tabulate_is}
use Rattle.record_bytes.specs.Record.{AreBytes, byte, word_at, header_in, header_of, record_of, page_in, counts_fit, right_form, formed}
use Rattle.record_bytes.proofs.Reading.{form_written}
use Rattle.record_bytes.proofs.Writing.{states_formed_lem, written_read}
use Rattle.page.specs.declared.Page.{Page}
use Rattle.page.specs.Says.{thread_said, timer_said, no_thread_row, no_timer_row, said, page_for}
use Rattle.record_writing.proofs.Whole.{header, total_is}
use Rattle.record_reading.specs.Rows.{read_model, open_model, fitting, agree, same_bytes}
use Rattle.record_reading.proofs.Tables.{read_page_lem, read_blank}

-- ---- the states

module _ (x : Page) where
  abbrev thread_states : Bool
  thread_states = each_row thread_formed (tabulate x.threads (λ t. thread_said (get_or x.threadrows t no_thread_row)))

  abbrev timer_states : Bool
  timer_states = each_row timer_formed (tabulate x.timers (λ i. timer_said (get_or x.timerrows i no_timer_row)))

  -- a thread of no such state
  pub thread_unformed : thread_states ≡ false → false ≡ page_formed (said x)
  unfolding page_formed said
  thread_unformed e = sym (ap (λ b. b && timer_states) e)

  -- where all threads are formed, the timers decide
  pub threads_are_formed : (r : Bool) → thread_states ≡ true → r ≡ timer_states → r ≡ page_formed (said x)
  unfolding page_formed said
  threads_are_formed r e f = f ∙ sym (ap (λ b. b && timer_states) e)

-- ---- the same bytes

-- a list is its bytes
listed : (l : List ℕ) → tabulate (length l) (byte l) ≡ l
listed l = tabulate_is 0 (length l) (byte l) l refl (λ i h. refl)

-- lists that pass the test are one
same_lists : (one other : List ℕ) → same_bytes one other ≡ true → one ≡ other
unfolding same_bytes
same_lists one other e =
    let two = and_right (leb (length other) 536) (eqb (length one) (length other) && agree (length other) one other) e in
    let n = eqb-true (length one) (length other) (and_left (eqb (length one) (length other)) (agree (length other) one other) two) in
    let a = and_right (eqb (length one) (length other)) (agree (length other) one other) two in
    sym (listed one) ∙ tabulate_is 0 (length one) (byte one) other (sym n)
    (λ i h. eqb-true (byte one i) (byte other i) (each_at (length other) (λ j. eqb (byte one j) (byte other j)) a i (subst (λ k. i < k) n h)))

-- and a list that is not too long passes against itself
same_self : (l : List ℕ) → length l ≤ 536 → same_bytes l l ≡ true
unfolding same_bytes
same_self l h = and_both (leb (length l) 536) (eqb (length l) (length l) && agree (length l) l l) (le-leb (length l) 536 h)
    (and_both (eqb (length l) (length l)) (agree (length l) l l) (self (length l)) (at_each (length l) (λ i. eqb (byte l i) (byte l i)) (λ i k. self (byte l i))))

module _ (bytes written : List ℕ) where
  -- a record that is too long
  pub too_long_lem : 536 < length written → false ≡ same_bytes bytes written
  unfolding same_bytes
  too_long_lem h = sym (refuted (leb (length written) 536 && (eqb (length bytes) (length written) && agree (length written) bytes written)) (λ e. let l = leb-true (length written) 536 (and_left (leb (length written) 536) (eqb (length bytes) (length written) && agree (length written) bytes written) e) in omega arith))

  -- or of another length
  pub other_length : (length bytes ≡ length written → ⊥) → false ≡ same_bytes bytes written
  other_length h = sym (refuted (same_bytes bytes written) (λ e. h (ap length (same_lists bytes written e))))

  -- else its bytes decide, written into a buffer of 536 bytes
  pub bytes_decide : (r : Bool) (buffer : List ℕ) → length written ≤ 536 → length bytes ≡ length written → buffer ≡ sets (replicate 536 0) 0 written → r ≡ agree (length written) bytes buffer → r ≡ same_bytes bytes written
  unfolding same_bytes
  bytes_decide r buffer h e w a =
      a ∙ ap (λ l. agree (length written) bytes l) (w ∙ sets-eq written (replicate 536 0) 0 (omega (arith, length-replicate {A = ℕ} 536 0))) ∙ agreeing
      ∙ sym (ap₂ (λ x y. x && (y && agree (length written) bytes written)) (le-leb (length written) 536 h) (eq-eqb (length bytes) (length written) e))
    where
      others : List ℕ
      others = drop (0 + length written) (replicate 536 0)

      agreeing : agree (length written) bytes (written ++ others) ≡ agree (length written) bytes written
      agreeing = each_same (length written) (λ i l. ap (eqb (byte bytes i)) (get_or-append written others 0 i l))
        where
          each_same : (n : ℕ) → ((i : ℕ) → i < n → eqb (byte bytes i) (byte (written ++ others) i) ≡ eqb (byte bytes i) (byte written i)) → agree n bytes (written ++ others) ≡ agree n bytes written
          each_same n s = iff (agree n bytes (written ++ others)) (agree n bytes written)
              (λ t. at_each n (λ i. eqb (byte bytes i) (byte written i)) (λ i l. sym (s i l) ∙ each_at n (λ j. eqb (byte bytes j) (byte (written ++ others) j)) t i l))
              (λ t. at_each n (λ i. eqb (byte bytes i) (byte (written ++ others) i)) (λ i l. s i l ∙ each_at n (λ j. eqb (byte bytes j) (byte written j)) t i l))

-- ---- right form

module _ (bytes : List ℕ) where
  -- the counts that the header says
  abbrev counts_fitting : Bool
  counts_fitting = fitting (word_at bytes 0) (word_at bytes 2) (word_at bytes 4) (word_at bytes 6)

  -- the page that is read with them
  abbrev read_page : Page
  read_page = read_model bytes (word_at bytes 0 % 256) (word_at bytes 2 % 256) (word_at bytes 4 % 256) (word_at bytes 6 % 256)

  -- right form has counts that fit
  counts_right : formed bytes ≡ true → counts_fitting ≡ true
  unfolding header_in
  counts_right f = (all_true (right_form bytes) (unfold formed in f)).1.0

  -- counts that do not fit
  counts_wrong : counts_fitting ≡ false → formed bytes ≡ false
  counts_wrong e = refuted (formed bytes) (λ f. no_way counts_fitting (counts_right f) e)

  module _ (e : counts_fitting ≡ true) where
    -- what their tests say
    limits : AllTrue (counts_fit (header_in bytes))
    unfolding header_in
    limits = all_true (counts_fit (header_in bytes)) e

    few : (word_at bytes 0 ≤ 32) × (word_at bytes 2 ≤ 16) × (word_at bytes 4 ≤ 16) × (word_at bytes 6 ≤ 32)
    unfolding header_in
    few = (
      ltb-false 32 (word_at bytes 0) (nor_right (ltb (word_at bytes 0) 1) (ltb 32 (word_at bytes 0)) (denied (ltb (word_at bytes 0) 1 || ltb 32 (word_at bytes 0)) limits.0)),
      leb-true (word_at bytes 2) 16 limits.1.0,
      leb-true (word_at bytes 4) 16 limits.1.1.0,
      leb-true (word_at bytes 6) 32 limits.1.1.1.0,
    )

    -- so they are read as they are
    counts_kept : read_page ≡ read_model bytes (word_at bytes 0) (word_at bytes 2) (word_at bytes 4) (word_at bytes 6)
    counts_kept =
        let t : word_at bytes 0 % 256 ≡ word_at bytes 0 = omega (arith, few.0) in
        let m : word_at bytes 2 % 256 ≡ word_at bytes 2 = omega (arith, few.1) in
        let c : word_at bytes 4 % 256 ≡ word_at bytes 4 = omega (arith, few.2) in
        let i : word_at bytes 6 % 256 ≡ word_at bytes 6 = omega (arith, few.3) in
        λ j. read_model bytes (t j) (m j) (c j) (i j)

    -- a buffer of right form holds the page that is read
    page_held : formed bytes ≡ true → said read_page ≡ page_in bytes
    unfolding header_in
    page_held f = ap said counts_kept ∙ read_page_lem bytes f few.0 few.1 few.2 few.3

    -- and it is the page for what the buffer says
    page_for_lem : formed bytes ≡ true → read_page ≡ page_for (page_in bytes)
    page_for_lem f = counts_kept ∙ sym (read_blank bytes (word_at bytes 0) (word_at bytes 2) (word_at bytes 4) (word_at bytes 6) few.0 few.1 few.2 few.3) ∙ ap page_for (ap said (sym counts_kept) ∙ page_held f)

    -- the counts of that page fit
    page_fits : AllTrue (counts_fit (header_of (said read_page)))
    unfolding header_in read_model
    page_fits = subst (λ x. AllTrue (counts_fit (header_of (said x)))) (sym counts_kept) (subst (λ h. AllTrue (counts_fit h)) (sym (header (read_model bytes (word_at bytes 0) (word_at bytes 2) (word_at bytes 4) (word_at bytes 6)))) limits)

    -- the record of that page is not too long
    short : length (record_of (said read_page)) ≤ 536
    unfolding read_model
    short = subst (λ x. length (record_of (said x)) ≤ 536) (sym counts_kept) (omega (arith, total_is (read_model bytes (word_at bytes 0) (word_at bytes 2) (word_at bytes 4) (word_at bytes 6)), few.0, few.1, few.2, few.3))

    -- the tests decide
    pub form_decided : AreBytes bytes → (page_formed (said read_page) && same_bytes bytes (record_of (said read_page))) ≡ formed bytes
    form_decided b = iff (page_formed (said read_page) && same_bytes bytes (record_of (said read_page))) (formed bytes) passed right
      where
        passed : (page_formed (said read_page) && same_bytes bytes (record_of (said read_page))) ≡ true → formed bytes ≡ true
        passed p = subst (λ l. formed l ≡ true) (sym (same_lists bytes (record_of (said read_page)) (and_right (page_formed (said read_page)) (same_bytes bytes (record_of (said read_page))) p)))
            (form_written (said read_page) page_fits (and_left (page_formed (said read_page)) (same_bytes bytes (record_of (said read_page))) p))

        right : formed bytes ≡ true → (page_formed (said read_page) && same_bytes bytes (record_of (said read_page))) ≡ true
        right f = and_both (page_formed (said read_page)) (same_bytes bytes (record_of (said read_page))) (ap page_formed (page_held f) ∙ states_formed_lem bytes f)
            (subst (λ l. same_bytes l (record_of (said read_page)) ≡ true) (ap record_of (page_held f) ∙ written_read bytes f b) (same_self (record_of (said read_page)) short))

-- ---- what `open` hands back

module _ (bytes : List ℕ) where
  -- by the form
  model_wrong : formed bytes ≡ false → open_model bytes ≡ None
  unfolding open_model
  model_wrong f = cond_false (formed bytes) (Some (page_for (page_in bytes))) None f

  model_right : formed bytes ≡ true → open_model bytes ≡ Some (page_for (page_in bytes))
  unfolding open_model
  model_right f = cond_true (formed bytes) (Some (page_for (page_in bytes))) None f

module _ (bytes : List ℕ) {t m c i : ℕ} {fit : Bool} (et : t ≡ word_at bytes 0) (em : m ≡ word_at bytes 2) (ec : c ≡ word_at bytes 4) (ei : i ≡ word_at bytes 6) (ef : fit ≡ fitting t m c i) where
  -- the test of the counts
  tested : fit ≡ counts_fitting bytes
  tested = ef ∙ (λ j. fitting (et j) (em j) (ec j) (ei j))

  -- counts that do not fit: wrong form
  pub opened_wrong : fit ≡ false → None ≡ open_model bytes
  opened_wrong e = sym (model_wrong bytes (counts_wrong bytes (sym tested ∙ e)))

  -- counts that fit: the tests decide, of the page that was read
  module _ (x : Page) (right : Bool) (e : fit ≡ true) (b : AreBytes bytes) (ex : x ≡ read_model bytes (t % 256) (m % 256) (c % 256) (i % 256)) (er : right ≡ (page_formed (said x) && same_bytes bytes (record_of (said x)))) where
    same : x ≡ read_page bytes
    same = ex ∙ (λ j. read_model bytes (et j % 256) (em j % 256) (ec j % 256) (ei j % 256))

    decided : right ≡ formed bytes
    decided = er ∙ ap (λ y. page_formed (said y) && same_bytes bytes (record_of (said y))) same ∙ form_decided bytes (sym tested ∙ e) b

    -- wrong form
    pub opened_unformed : right ≡ false → None ≡ open_model bytes
    opened_unformed f = sym (model_wrong bytes (sym decided ∙ f))

    -- right form
    pub opened_right : right ≡ true → Some x ≡ open_model bytes
    opened_right f =
        let right-form = sym decided ∙ f in
        ap Some (same ∙ page_for_lem bytes (sym tested ∙ e) right-form) ∙ sym (model_right bytes right-form)

-- ---- what the page then says

module _ (bytes : List ℕ) where
  -- none: the buffer is of wrong form
  pub told_wrong : None ≡ open_model bytes → formed bytes ≡ false
  told_wrong e = by_cases (formed bytes) (λ f. absurd (none-some (page_for (page_in bytes)) (e ∙ model_right bytes f))) (λ f. f)

  -- a page: the buffer is of right form
  pub told_form : (p : Page) → Some p ≡ open_model bytes → formed bytes ≡ true
  unfolding open_model
  told_form p e = (cond_some (formed bytes) (page_for (page_in bytes)) p (sym e)).0

  -- and the page says what the buffer does
  pub told_page : (p : Page) → Some p ≡ open_model bytes → said p ≡ page_in bytes
  unfolding open_model
  told_page p e =
      let f = told_form p e in
      let fits = counts_right bytes f in
      ap said (sym (cond_some (formed bytes) (page_for (page_in bytes)) p (sym e)).1 ∙ sym (page_for_lem bytes fits f)) ∙ page_held bytes fits f
