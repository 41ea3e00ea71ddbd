-- `states_formed` meets its contract: the threads, then the timers. Assumes nothing.
use mathlib.Core.Path.{sym, ◌∙◌}
use Rattle.record_reading.proofs.Forms.{thread_unformed, threads_are_formed}
use Rattle.record_reading.proofs.states_formed.Goals as goal

pub returns-then-not-threads : goal.returns-then-not-threads
returns-then-not-threads c =
    thread_unformed c.args.page (sym c.threads_formed-threads.ensures ∙ c.if-not-threads.true)

pub returns : goal.returns
returns c =
    threads_are_formed c.args.page _ (sym c.threads_formed-threads.ensures ∙ c.if-not-threads.false) c.timers_formed.ensures
