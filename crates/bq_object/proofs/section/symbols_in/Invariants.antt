use Rattle.std.proofs.Common.{◌≢◌, ℕ, ◌<◌}
use Rattle.bq_object.specs.declared.section.Section.{Section}
use Rattle.bq_object.specs.Sections.{IsSection}
use Rattle.bq_object.proofs.section.symbols_in.Given as goal

-- no section of symbols so far
abbrev pub invariant-loop-index : goal.invariant-loop-index
invariant-loop-index l = (k : ℕ) → k < l.index → (other : Section) → IsSection l.headers k other → other.kind ≢ 2
