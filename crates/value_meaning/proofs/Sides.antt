-- The sets of queues side by side: where each place's set stands among them, and what putting one changes.
-- Assumes nothing.
use Prim.Native.Nat.{ℕ, suc, ◌+◌, ◌<◌}
use mathlib.Core.Path.{◌≡◌, refl, sym, ap, ◌∙◌}
use mathlib.Core.List.{[], ◌∷◌}
use native.Mathlib.Omega.{arith}
use lib.ListN.{length, set, length-append, get_or-append}
use lib.Seq.{get_or-append-add, set-append_left}
use Rattle.laws.specs.Counting.{at}
use Rattle.laws.proofs.Lists.{get_d_any, set_append_add}
use Rattle.rules.specs.Queues.{QueueSet, empty_set}
use Rattle.rules.specs.State.{Where, running, ready, for_mutex, on_condition, Sets, set_at, put_set}
use Rattle.rules_soundness.proofs.Rows.{Has}
use Rattle.value_meaning.specs.Stands.{all_sets}

-- the number of a place's set
unfoldable pub side : Sets → Where → ℕ
side s running = 0
side s ready = 0
side s (for_mutex m) = suc m
side s (on_condition c) = suc (length s.mutex + c)

pub side_set : (s : Sets) (w : Where) → Has s w → at (all_sets s) (side s w) ≡ set_at s w
unfolding side all_sets set_at
side_set s running h = absurd h
side_set s ready h = refl
side_set s (for_mutex m) h = get_or-append s.mutex s.condition [] m h ∙ get_d_any s.mutex m [] empty_set h
side_set s (on_condition c) h = get_or-append-add s.mutex s.condition c [] ∙ get_d_any s.condition c [] empty_set h

pub side_below : (s : Sets) (w : Where) → Has s w → side s w < length (all_sets s)
unfolding side all_sets
side_below s running h = absurd h
side_below s ready h = omega arith
side_below s (for_mutex m) h = omega (arith, length-append s.mutex s.condition)
side_below s (on_condition c) h = omega (arith, length-append s.mutex s.condition)

pub side_put : (s : Sets) (w : Where) (q : QueueSet) → Has s w → all_sets (put_set s w q) ≡ set (all_sets s) (side s w) q
unfolding side all_sets put_set
side_put s running q h = absurd h
side_put s ready q h = refl
side_put s (for_mutex m) q h = ap (λ l. s.ready ∷ l) (sym (set-append_left s.mutex s.condition m q h))
side_put s (on_condition c) q h = ap (λ l. s.ready ∷ l) (sym (set_append_add s.mutex s.condition c q))
