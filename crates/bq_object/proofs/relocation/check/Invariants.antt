use Rattle.std.proofs.Common.{ℕ, ◌<◌}
use Rattle.bq_object.specs.declared.section.Section.{Section}
use Rattle.bq_object.specs.Sections.{IsSection}
use Rattle.bq_object.specs.Relocations.{IsSectionClear}
use Rattle.bq_object.proofs.relocation.check.Given as goal

-- no section so far changes the function
abbrev pub invariant-loop-index : goal.invariant-loop-index
invariant-loop-index l =
    (k : ℕ) → k < l.index → (section : Section) → IsSection l.headers k section → IsSectionClear l.file section l.policy
