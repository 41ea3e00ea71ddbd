-- The three ends of a load are document 01's.
-- Assumes nothing.
use Prim.Native.Nat.{ℕ}
use mathlib.Core.Path.{◌≡◌, sym, ap, ◌∙◌}
use mathlib.Core.Bool.{Bool, true, false, ◌&&◌}
use mathlib.Core.List.{List}
use Rattle.laws.proofs.Bools.{and_right, and_both, refuted, no_way}
use Rattle.rules.specs.Page.{described_by, page_formed, page_sound}
use Rattle.record_bytes.specs.Record.{page_in, formed}
use Rattle.record_bytes.specs.Loading.{load}
use Rattle.record_bytes.proofs.Writing.{states_formed_lem}
use Rattle.record_bytes.proofs.Loading.{load_done, load_wrong, load_unsound}
use Rattle.value_engine.specs.declared.Engine.{Engine}
use Rattle.value_engine.specs.Stands.{engine_of}
use Rattle.page.specs.declared.Page.{Page}
use Rattle.page.specs.Says.{said}
use Rattle.record.specs.declared.Loaded.{Loaded}
use Rattle.record.specs.Records.{loaded_of, refused_model}

module _ (bytes : List ℕ) where
  -- wrong form
  pub wrong : (r : Loaded) → formed bytes ≡ false → r ≡ refused_model 15 → r ≡ loaded_of (load bytes)
  wrong r f e = e ∙ sym (ap loaded_of (load_wrong bytes f))

  module _ (f : formed bytes ≡ true) (x : Page) (says : said x ≡ page_in bytes) {b : Bool} (tested : b ≡ (page_formed (said x) && page_sound (said x))) where
    -- the test of the page
    test : b ≡ (page_formed (page_in bytes) && page_sound (page_in bytes))
    test = tested ∙ ap (λ p. page_formed p && page_sound p) says

    -- not sound
    pub unsound : (r : Loaded) → b ≡ false → r ≡ refused_model 1 → r ≡ loaded_of (load bytes)
    unsound r n e = e ∙ sym (ap loaded_of (load_unsound bytes f (refuted (page_sound (page_in bytes)) (λ t. no_way b (test ∙ and_both (page_formed (page_in bytes)) (page_sound (page_in bytes)) (states_formed_lem bytes f) t) n))))

    -- done: the kernel that is built of the page
    pub done_load : (y : Engine) → b ≡ true → (page_formed (said x) ≡ true → page_sound (said x) ≡ true → y ≡ engine_of (described_by (said x)))
        → record { answer = 0; kernel = record { engine = y } } ≡ loaded_of (load bytes)
    done_load y t built =
        let right = and_right (page_formed (page_in bytes)) (page_sound (page_in bytes)) (sym test ∙ t) in
        let e = built (ap page_formed says ∙ states_formed_lem bytes f) (ap page_sound says ∙ right) ∙ ap (λ p. engine_of (described_by p)) says in
        (λ i. record { answer = 0; kernel = record { engine = e i } }) ∙ sym (ap loaded_of (load_done bytes f right))
