-- The test decides soundness: the page that describes the kernel is sound and the engine built from it is the kernel's own, exactly if some sound
-- page describes the kernel and all it keeps besides follows from that page. And both round trips between sound pages and kernels.
-- Assumes nothing.
use Prim.Native.Nat.{◌≤◌}
use mathlib.Core.Path.{◌≡◌, sym, ap, ◌∙◌, subst}
use mathlib.Core.Logic.{◌↔◌}
use mathlib.Core.Bool.{Bool, true}
use lib.ListN.{length-map}
use Rattle.laws.proofs.Bools.{and_left, and_right, and_both}
use Rattle.rules.specs.State.{State}
use Rattle.rules.specs.Sound.{sound}
use Rattle.rules.specs.Page.{Page, thread_of, timer_of, rows_of, described_by, page_formed, page_sound, page_of}
use Rattle.rules_soundness.proofs.Tested.{sound_facts}
use Rattle.rules_pages.proofs.Pages.{page_of_sound, described_is_sound}
use Rattle.value_engine.specs.Stands.{engine_of}
use Rattle.page.specs.Says.{said, page_for}
use Rattle.page.proofs.Says.{Fits, said_for}
use Rattle.page_describing.specs.Describing.{describe_model}
use Rattle.page_describing.proofs.Means.{describe_means}
use Rattle.page_building.specs.Building.{build_model}
use Rattle.sound_engine.specs.Rebuilding.{Follows}
use Rattle.page_building.proofs.Means.{build_means}
use Rattle.kernel.specs.declared.Kernel.{Kernel}
use Rattle.kernel.specs.Kernels.{kernel_of, SoundKernel}

module _ (p : Page) (f : page_formed p ≡ true) (e : page_sound p ≡ true) where
  -- the tables of a sound page are within their limits
  pub page_fits : Fits p
  page_fits =
      let o = sound_facts (described_by p) (described_is_sound p f e).0 in
      record {
        threads = subst (λ n. n ≤ 32) (length-map p.threads thread_of) (unfold described_by rows_of in o.facts.few);
        mutexes = unfold described_by rows_of in o.facts.few_mutexes;
        ties = unfold described_by rows_of in o.facts.few_ties;
        timers = subst (λ n. n ≤ 32) (length-map p.timers timer_of) (unfold described_by in o.few_timers);
      }

  -- the page that describes the engine of a sound page is that page
  pub described_again : describe_model (engine_of (described_by p)) ≡ page_for p
  described_again = let w = described_is_sound p f e in describe_means (described_by p) w.0 ∙ ap page_for w.1

  -- and says it
  pub says_it : said (describe_model (engine_of (described_by p))) ≡ p
  says_it = ap said described_again ∙ said_for p page_fits

  -- the engine that is built from it
  pub built : build_model (page_for p) ≡ engine_of (described_by p)
  built =
      let s = said_for p page_fits in
      build_means (page_for p) (ap page_formed s ∙ f) (ap page_sound s ∙ e) ∙ ap (λ q. engine_of (described_by q)) s

  -- describe after build is the same page
  pub describe_after_build : describe_model (build_model (page_for p)) ≡ page_for p
  describe_after_build = ap describe_model built ∙ described_again

-- build after describe is the same engine, of every sound state
pub build_after_describe : (s : State) → sound s ≡ true → build_model (describe_model (engine_of s)) ≡ engine_of s
build_after_describe s e =
    let w = page_of_sound s e in
    ap build_model (describe_means s e) ∙ built (page_of s) w.0 w.1 ∙ ap engine_of w.2

-- ---- the test

-- the page of a sound kernel says what the sound page says
passes : (x : Kernel) → (w : SoundKernel x) → said (describe_model x.engine) ≡ w.0
passes x w = ap (λ y. said (describe_model y.engine)) w.3 ∙ says_it w.0 w.1 w.2

-- a test of whether the engine follows from its page is one of whether the kernel is sound
pub follows_decides : (x : Kernel) (r : Bool) → (r ≡ true) ↔ Follows x.engine → (r ≡ true) ↔ SoundKernel x
follows_decides x r same = (
  λ t. let f = same.0 t in
      let formed = and_left (page_formed own) (page_sound own) f.0 in
      let right = and_right (page_formed own) (page_sound own) f.0 in
      (own, formed, right, λ i. record { engine = (f.1 ∙ made formed right) i }),
  λ w. let formed = ap page_formed (passes x w) ∙ w.1 in
      let right = ap page_sound (passes x w) ∙ w.2 in
      same.1 (and_both (page_formed own) (page_sound own) formed right, ap (λ (y : Kernel). y.engine) w.3 ∙ ap (λ q. engine_of (described_by q)) (sym (passes x w)) ∙ sym (made formed right)),
)
  where
    own : Page
    own = said (describe_model x.engine)

    made : page_formed own ≡ true → page_sound own ≡ true → build_model (describe_model x.engine) ≡ engine_of (described_by own)
    made formed right = build_means (describe_model x.engine) formed right

-- ---- states and pages

-- a kernel that describes a sound state is sound
pub state_sound : (x : Kernel) (s : State) → sound s ≡ true → x ≡ kernel_of s → SoundKernel x
state_sound x s e d = let w = page_of_sound s e in (page_of s, w.0, w.1, d ∙ ap kernel_of (sym w.2))

-- and a sound kernel describes a sound state
pub sound_state : (x : Kernel) → SoundKernel x → (s : State) × (sound s ≡ true) × (x ≡ kernel_of s)
sound_state x w = (described_by w.0, (described_is_sound w.0 w.1 w.2).0, w.3)

-- a kernel describes one sound state only
pub one_state : (s t : State) → sound s ≡ true → sound t ≡ true → kernel_of s ≡ kernel_of t → s ≡ t
one_state s t e f d =
    let a = page_of_sound s e in
    let b = page_of_sound t f in
    let same : page_of s ≡ page_of t = sym (said_for (page_of s) (page_fits (page_of s) a.0 a.1)) ∙ ap said (sym (describe_means s e) ∙ ap (λ x. describe_model x.engine) d ∙ describe_means t f) ∙ said_for (page_of t) (page_fits (page_of t) b.0 b.1) in
    sym a.2 ∙ ap described_by same ∙ b.2
