-- Pages and states are one to one where they are sound: a sound state's page is formed, sound and describes it; a sound page describes a sound
-- state, whose page it is. So a state is sound exactly if some sound page describes it. The boot page is among them.
-- Assumes nothing.
use Prim.Native.Nat.{ℕ}
use mathlib.Core.Path.{◌≡◌, refl, sym, ap, ◌∙◌, subst}
use mathlib.Core.Logic.{◌↔◌}
use mathlib.Core.Bool.{true, false}
use mathlib.Core.List.{[], ◌∷◌, flatten}
use Rattle.laws.specs.Lists.{among, tabulate}
use Rattle.laws.proofs.Bools.{and_left}
use Rattle.rules.specs.Queues.{empty_set, to_back}
use Rattle.rules.specs.State.{State, same, at, highest_ceiling, priority, owned, set_at, boot}
use Rattle.rules.specs.Sound.{all, each, timers_sound, none_goes, clauses, queue_clauses, sound}
use Rattle.rules.specs.Page.{Page, where_of, runner_from, rows_of, queue_of, set_of, described_by, how_many, each_row, page_formed, page_sound, state_code, object_code, ahead, page_of}
use Rattle.rules_soundness.proofs.Tested.{sound_facts}
use Rattle.rules_pages.proofs.FromPage.{described_sound, page_back}
use Rattle.rules_pages.proofs.FromState.{page_formed_lem, page_sound_lem, state_back}

-- the page of a sound state is formed and sound, and describes that state
pub page_of_sound : (s : State) → sound s ≡ true → (page_formed (page_of s) ≡ true) × (page_sound (page_of s) ≡ true) × (described_by (page_of s) ≡ s)
page_of_sound s e = (page_formed_lem s, page_sound_lem s (sound_facts s e) rows, state_back s (sound_facts s e))
  where
    rows : all (clauses s.scheduler.rows s.count s.timers) ≡ true
    rows = unfold sound in (and_left (all (clauses s.scheduler.rows s.count s.timers)) (all (queue_clauses s.scheduler.rows s.scheduler.sets)) (unfold sound in e))

-- the state that a sound page describes is sound, and that page is its page
pub described_is_sound : (p : Page) → page_formed p ≡ true → page_sound p ≡ true → (sound (described_by p) ≡ true) × (page_of (described_by p) ≡ p)
described_is_sound p f e = (described_sound p e, page_back p e f)

-- a state is sound exactly if some sound page describes it
pub sound_exactly_if_described : (s : State) → (sound s ≡ true) ↔ ((p : Page) × (page_formed p ≡ true) × (page_sound p ≡ true) × (described_by p ≡ s))
sound_exactly_if_described s = (
  λ e. let w = page_of_sound s e in (page_of s, w.0, w.1, w.2),
  λ w. subst (λ x. sound x ≡ true) w.3 (described_is_sound w.0 w.1 w.2).0,
)

-- and one page only
pub described_once : (p q : Page) → page_formed p ≡ true → page_sound p ≡ true → page_formed q ≡ true → page_sound q ≡ true → described_by p ≡ described_by q → p ≡ q
described_once p q f e g h d = sym (described_is_sound p f e).1 ∙ ap page_of d ∙ (described_is_sound q g h).1

-- ---- boot

-- a page of one thread of base b, ready, and nothing else
abbrev pub only_thread : ℕ → Page
only_thread b = record { started = false; count = 0; threads = record { base = b; state = 1; object = 255; place = 0 } ∷ []; mutexes = []; ties = []; timers = [] }

-- it is boot's page, for base 0
pub boot_page : page_of boot ≡ record { started = false; count = 0; threads = record { base = 0; state = 1; object = 255; place = 0 } ∷ []; mutexes = []; ties = []; timers = [] }
unfolding page_of boot tabulate state_code object_code at same priority highest_ceiling set_at ahead empty_set to_back
boot_page = refl

pub boot_described : described_by (only_thread 0) ≡ boot
unfolding described_by boot rows_of set_of queue_of tabulate flatten among where_of runner_from at same priority highest_ceiling empty_set to_back
boot_described = refl

-- and it is formed and sound
pub boot_page_sound : (page_formed (only_thread 0) ≡ true) × (page_sound (only_thread 0) ≡ true)
unfolding page_formed page_sound each timers_sound none_goes each_row how_many rows_of where_of runner_from at same priority highest_ceiling owned
boot_page_sound = (refl, refl)

-- with base 1 it is not sound
pub base_1_unsound : page_sound (only_thread 1) ≡ false
unfolding page_sound each timers_sound none_goes each_row how_many rows_of where_of runner_from at same priority highest_ceiling owned
base_1_unsound = refl
