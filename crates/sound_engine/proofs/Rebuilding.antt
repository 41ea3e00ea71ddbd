-- Arrays that are the same as the built ones stand for what is built, and what is built of an engine's own page decides whether the engine follows from it.
-- Assumes nothing.
use Prim.Native.Nat.{ℕ}
use mathlib.Core.Path.{◌≡◌, sym, ap, ◌∙◌, subst}
use mathlib.Core.Logic.{◌↔◌}
use mathlib.Core.Bool.{Bool, true, false, ◌&&◌, true≢false}
use mathlib.Core.List.{List}
use Rattle.laws.proofs.Bools.{and_left, and_right, and_both}
use Rattle.wheel.specs.Promise.{wheel_in}
use Rattle.value_engine.specs.declared.Engine.{Engine}
use Rattle.place_tables.specs.Cells.{scheduler_in}
use Rattle.place_clock.specs.Clock.{clock_in, clock_of}
use Rattle.page.specs.declared.Page.{Page}
use Rattle.page_describing.specs.Describing.{describe_model}
use Rattle.page_building.specs.Building.{build_model}
use Rattle.sound_engine.specs.Rebuilding.{Rebuilt, page_passes, Follows}

-- three arrays and three that are built from a page, and the tests of each pair
module _ (k l t u w v : List ℕ) (p : Page)
    (cells : scheduler_in l ≡ (build_model p).scheduler) (clock : clock_in u ≡ clock_of (build_model p).timers (build_model p).count) (wheel : wheel_in v ≡ (build_model p).wheel)
    (a b c : Bool) (scheduled : (a ≡ true) ↔ (scheduler_in k ≡ scheduler_in l)) (timed : (b ≡ true) ↔ (clock_in t ≡ clock_in u)) (hung : (c ≡ true) ↔ (wheel_in w ≡ wheel_in v)) where
  pub tables_decide : (r : Bool) → r ≡ (a && b && c) → (r ≡ true) ↔ Rebuilt k t w p
  tables_decide r e = (
    λ h. let all = sym e ∙ h in let two = and_left (a && b) c all in (
      scheduled.0 (and_left a b two) ∙ cells,
      timed.0 (and_right a b two) ∙ clock,
      hung.0 (and_right (a && b) c all) ∙ wheel,
    ),
    λ g. e ∙ and_both (a && b) c (and_both a b (scheduled.1 (g.0 ∙ sym cells)) (timed.1 (g.1 ∙ sym clock))) (hung.1 (g.2 ∙ sym wheel)),
  )

-- where the page does not pass, the engine does not follow from it
pub page_refuses : (x : Engine) → page_passes x ≡ false → (false ≡ true) ↔ Follows x
page_refuses x e = (λ t. absurd (true≢false (sym t)), λ w. absurd (true≢false (sym w.0 ∙ e)))

-- an engine whose tables are built from its own page is built from it, since whether started and the counts are the page's
own_whole : (x : Engine) (k t w : List ℕ) → scheduler_in k ≡ x.scheduler → clock_in t ≡ clock_of x.timers x.count → wheel_in w ≡ x.wheel → Rebuilt k t w (describe_model x) → x ≡ build_model (describe_model x)
unfolding build_model describe_model
own_whole x k t w cells clock wheel g = λ i. record {
  scheduler = (sym cells ∙ g.0) i;
  timers = ((sym clock ∙ g.1) i).timers;
  wheel = (sym wheel ∙ g.2) i;
  started = x.started;
  threads = x.threads;
  mutexes = x.mutexes;
  conditions = x.conditions;
  timercount = x.timercount;
  count = ((sym clock ∙ g.1) i).count;
}

-- where it passes, the tables that are built from it decide
pub tables_tell : (x : Engine) (k t w : List ℕ) (p : Page) (r : Bool) → scheduler_in k ≡ x.scheduler → clock_in t ≡ clock_of x.timers x.count → wheel_in w ≡ x.wheel → p ≡ describe_model x
    → page_passes x ≡ true → (r ≡ true) ↔ Rebuilt k t w p → (r ≡ true) ↔ Follows x
tables_tell x k t w p r cells clock wheel page passes same = (
  λ h. (passes, own_whole x k t w cells clock wheel (subst (Rebuilt k t w) page (same.0 h))),
  λ f. same.1 (subst (Rebuilt k t w) (sym page) (
    cells ∙ ap (λ (y : Engine). y.scheduler) f.1,
    clock ∙ ap (λ (y : Engine). clock_of y.timers y.count) f.1,
    wheel ∙ ap (λ (y : Engine). y.wheel) f.1,
  )),
)
