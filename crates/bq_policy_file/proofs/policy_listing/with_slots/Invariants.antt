use Rattle.std.proofs.Common.{◌≡◌, take}
use Rattle.std.specs.String.{string_bytes}
use Rattle.bq_insn.specs.Spelling.{slot_count}
use Rattle.bq_policy_file.specs.Listed.{noted_text}
use Rattle.bq_policy_file.proofs.policy_listing.with_slots.Given as goal

-- the lines of the instructions so far, and how many slots these take
abbrev pub invariant-loop-insn : goal.invariant-loop-insn
invariant-loop-insn l = record {
  reported : string_bytes l.text ≡ noted_text 0 (take l.insn-index l.insns);
  slots : l.slot ≡ slot_count (take l.insn-index l.insns);
}
