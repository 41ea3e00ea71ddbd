-- What `search` is handed at a return behind tests: the needs, how long an array is that is a field and holds structs, and the value of each
-- test from the fact that its branch tells.
-- Assumes nothing.
use borrow.Author.Rules.{rules}
use borrow.Author.Tests.{lt-ltb, le-ltb}
use Rattle.laws.proofs.Lists.{length_mapped}

pub ruleset cases = (rules, length_mapped, lt-ltb, le-ltb)
