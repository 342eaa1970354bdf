use Rattle.std.proofs.Common.{◌≡◌, ◌+◌, ◌++◌, suc, ◌≤◌, sym, ap, ◌∙◌, arith, add-one, take}
use Rattle.std.specs.Prelude.{◌&&◌, nat_le, string_bytes}
use Rattle.std.specs.List.{list_all}
use Rattle.std.proofs.lemmas.Bool.{and_parts, leb-true}
use Rattle.bq_insn.specs.Spelling.{is_insn, slot_count}
use Rattle.bq_insn.proofs.CountLemmas.{count_more, count_within}
use Rattle.bq_policy_file.proofs.NotedLemmas.{fine_at, noted_more}
use Rattle.bq_policy_file.proofs.policy_listing.with_slots.Goals as goal

pub noted_line-requires : goal.noted_line-requires
noted_line-requires c =
    let insns = c.args.insns.now in
    let parts = and_parts (list_all is_insn insns) (nat_le 1 (slot_count insns) && nat_le (slot_count insns) 4096) c.requires.whole in
    let fine = fine_at insns c.loop-insn.insn-index _ c.loop-insn-test.true parts.0 c.requires.numbers in
    record { whole = fine.0; numbers = fine.1 }

pub overflow_add-slot : goal.overflow_add-slot
overflow_add-slot c =
    let insns = c.args.insns.now in
    let k = c.loop-insn.insn-index in
    let parts = and_parts (list_all is_insn insns) (nat_le 1 (slot_count insns) && nat_le (slot_count insns) 4096) c.requires.whole in
    let few : slot_count insns ≤ 4096 =
    leb-true (slot_count insns) 4096 (and_parts (nat_le 1 (slot_count insns)) (nat_le (slot_count insns) 4096) parts.1).1 in
    let within = count_within insns (suc k) in
    let more = count_more insns k _ c.loop-insn-test.true in
    let last : c.loop-insn.slot + c.slots-slot.result ≡ slot_count (take (suc k) insns) =
    (λ i. c.loop-insn.invariant.slots i + c.slots-slot.ensures i) ∙ sym more in
    omega (arith, few, within, last)

pub loop-insn-preserved : goal.loop-insn-preserved
loop-insn-preserved c =
    let insns = c.args.insns.now in
    let k = c.loop-insn.insn-index in
    record {
      reported =
          noted_more insns k _ _ _ _ c.loop-insn.slot c.loop-insn-test.true
          c.loop-insn.invariant.reported c.loop-insn.invariant.slots c.in_ok-line.ensures
          (c.in_ok-push_str.ensures.bytes ∙ ap (λ t. string_bytes c.loop-insn.text ++ t) c.as_str.ensures.value);
      slots =
          (λ i. c.loop-insn.invariant.slots i + c.slots-slot.ensures i) ∙ sym (count_more insns k _ c.loop-insn-test.true)
          ∙ ap (λ n. slot_count (take n insns)) (sym (add-one k));
    }
