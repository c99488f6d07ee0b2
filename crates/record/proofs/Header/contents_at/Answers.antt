use mathlib.Core.Path.{sym}
use Rattle.record.proofs.HeaderLaws.{first-start, second-start}
use Rattle.record.proofs.Header.contents_at.Goals as goal

pub returns-in-First : goal.returns-in-First
returns-in-First c = sym (first-start c.args.self c.in-First.is)

pub returns-in-Second : goal.returns-in-Second
returns-in-Second c = sym (second-start c.args.self _ c.in-Second.is)
