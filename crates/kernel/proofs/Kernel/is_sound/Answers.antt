-- `Kernel::is_sound` meets its contract: a kernel is sound exactly if its engine follows from its page. Assumes nothing.
use Rattle.std.proofs.Common.{rules}
use Rattle.std.specs.Prelude.{◌≡◌, is_ok}
use Rattle.kernel.proofs.Sound.{follows_decides}
use Rattle.kernel.proofs.Kernel.is_sound.Goals as goal

pub returns : goal.returns
returns c =
    let e : c.is_ok.result ≡ is_ok c.judge.result = search rules in
    follows_decides _ _ (rw e c.judge.ensures.sound)
