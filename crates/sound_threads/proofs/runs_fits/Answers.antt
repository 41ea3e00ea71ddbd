-- `runs_fits` meets its contract: each test is asked where those before it hold. Assumes nothing.
use Rattle.std.proofs.Common.{rules}
use Rattle.rules.specs.Page.{where_of}
use Rattle.sound_threads.specs.Threads.{runs_fits}
use Rattle.sound_threads.proofs.Waiting.{one_bit}
use Rattle.sound_threads.proofs.runs_fits.Goals as goal

pub returns : goal.returns
unfolding runs_fits where_of
returns c = search (rules, one_bit)
