-- `put_bytes` meets its contract: it is a fold from the last byte to the first. Assumes nothing.
use Rattle.std.proofs.Common.{rules, ◌≡◌, ◌∙◌}
use Rattle.std.specs.List.{fold}
use mathlib.Core.List.{reverse}
use Rattle.run_text.specs.Texts.{put_model}
use Rattle.run_text.proofs.Putting.{put_backwards}
use Rattle.run_text.proofs.put_bytes.Goals as goal

pub returns : goal.returns
returns c =
    let folded : c.fold.result ≡ fold put_model c.args.text (reverse c.args.bytes.now) = search rules in
    folded ∙ put_backwards c.args.text c.args.bytes.now
