-- Each keyword stands in the list at its place.
use Rattle.std.proofs.Common.{Contains, refl, arith}
use Rattle.bq_lines.specs.declared.keyword.Keyword.{Keyword}
use Rattle.bq_lines.specs.declared.keyword.Keyword.TheVariants.{Machine, Admit, Retire, Draw, Install, Begin, End, Wake, Drain, Tick, Block, Pull, Show, Counter}
use Rattle.bq_lines.specs.declared.keyword.TheConstants.{KEYWORDS}
use Rattle.bq_lines.proofs.keyword.Keyword.all.Goals as goal

-- the list has each keyword
is_listed : (keyword : Keyword) → Contains KEYWORDS keyword
is_listed Machine = (0, omega arith, refl)
is_listed Admit = (1, omega arith, refl)
is_listed Retire = (2, omega arith, refl)
is_listed Draw = (3, omega arith, refl)
is_listed Install = (4, omega arith, refl)
is_listed Begin = (5, omega arith, refl)
is_listed End = (6, omega arith, refl)
is_listed Wake = (7, omega arith, refl)
is_listed Drain = (8, omega arith, refl)
is_listed Tick = (9, omega arith, refl)
is_listed Block = (10, omega arith, refl)
is_listed Pull = (11, omega arith, refl)
is_listed Show = (12, omega arith, refl)
is_listed Counter = (13, omega arith, refl)

pub returns : goal.returns
returns c = is_listed
