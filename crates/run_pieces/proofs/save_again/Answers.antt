-- `save_again` meets its contract by those of `load` and `save`: what load hands back is sound. Assumes nothing.
use mathlib.Core.Path.{ap}
use Rattle.record.specs.declared.Loaded.{Loaded}
use Rattle.record_bytes.specs.Loading.{load}
use Rattle.record_bytes.proofs.Loading.{loaded_is_sound}
use Rattle.run_pieces.proofs.save_again.Goals as goal

pub returns : goal.returns
returns c =
    let bytes = c.args.bytes.now in
    let loaded = c.load-loaded.ensures in
    let saved = c.save-saved.ensures.of_sound (load bytes).state (loaded_is_sound bytes) (ap (λ (l : Loaded). l.kernel) loaded) in
    ((λ i. record { answer = (loaded i).answer; saved = saved.0 i }), saved.1)
