-- What a page of the code says, and the one page of the code that says it: blank past the counts.
-- Assumes nothing.
use Rattle.std.specs.Prelude.{false, [], length, get_or}
use Rattle.laws.specs.Lists.{tabulate}
use Rattle.units.specs.Units.{in_ticks}
use Rattle.rules.specs.State as state
use Rattle.rules.specs.Page as rules
use Rattle.value_effects.specs.declared.Mutex as scheduler
use Rattle.page.specs.declared.ThreadRow.{ThreadRow}
use Rattle.page.specs.declared.TimerRow.{TimerRow}
use Rattle.page.specs.declared.Page.{Page}

-- ---- rows

-- what the row of a thread says
abbrev pub thread_said : ThreadRow → rules.ThreadRow
thread_said row = record { base = row.base; state = row.state; object = row.object; place = row.place }

-- of a mutex
abbrev pub mutex_said : scheduler.Mutex → state.Mutex
mutex_said row = record { ceiling = row.ceiling; owner = row.owner; count = row.count }

-- of a timer
abbrev pub timer_said : TimerRow → rules.TimerRow
timer_said row = record { state = row.state; condition = row.condition; length = row.length.0; left = row.left.0 }

-- the row that says it, of a thread
abbrev pub thread_for : rules.ThreadRow → ThreadRow
thread_for row = record { base = row.base; state = row.state; object = row.object; place = row.place }

-- of a mutex
abbrev pub mutex_for : state.Mutex → scheduler.Mutex
mutex_for row = record { ceiling = row.ceiling; owner = row.owner; count = row.count }

-- of a timer
abbrev pub timer_for : rules.TimerRow → TimerRow
timer_for row = record { state = row.state; condition = row.condition; length = in_ticks row.length; left = in_ticks row.left }

-- rows that the code reads past the end of an array
abbrev pub no_thread_row : ThreadRow
no_thread_row = record { base = 0; state = 0; object = 0; place = 0 }

abbrev pub no_mutex_row : scheduler.Mutex
no_mutex_row = record { ceiling = 0; owner = 0; count = 0 }

abbrev pub no_timer_row : TimerRow
no_timer_row = record { state = 0; condition = 0; length = in_ticks 0; left = in_ticks 0 }

-- the row of a timer that is not there
abbrev pub stopped_timer_row : rules.TimerRow
stopped_timer_row = record { state = 0; condition = 255; length = 0; left = 0 }

-- ---- pages

-- what a page says: as many rows of each table as its counts have
unfoldable pub said : Page → rules.Page
said x = record {
  started = x.started;
  count = x.count;
  threads = tabulate x.threads (λ t. thread_said (get_or x.threadrows t no_thread_row));
  mutexes = tabulate x.mutexes (λ m. mutex_said (get_or x.mutexrows m no_mutex_row));
  ties = tabulate x.conditions (λ c. get_or x.ties c 0);
  timers = tabulate x.timers (λ i. timer_said (get_or x.timerrows i no_timer_row));
}

-- the page of the code that says what p says
unfoldable pub page_for : rules.Page → Page
page_for p = record {
  started = p.started;
  count = p.count;
  threads = length p.threads;
  mutexes = length p.mutexes;
  conditions = length p.ties;
  timers = length p.timers;
  threadrows = tabulate 32 (λ t. thread_for (rules.thread_row p t));
  mutexrows = tabulate 16 (λ m. mutex_for (get_or p.mutexes m state.no_mutex));
  ties = tabulate 16 (λ c. get_or p.ties c 255);
  timerrows = tabulate 32 (λ i. timer_for (get_or p.timers i stopped_timer_row));
}

-- no row at all
abbrev pub empty_page : rules.Page
empty_page = record { started = false; count = 0; threads = []; mutexes = []; ties = []; timers = [] }
