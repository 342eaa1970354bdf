-- How many slots stand before an address, and what is wrong with a program that bytes spell.
use Rattle.std.proofs.Common.{◌≡◌, ℕ, suc, ◌+◌, ◌<◌, ◌≤◌, true, false, List, ◌++◌, length, get_or, take, drop, sym, ap, ◌∙◌, arith, drop-cons}
use Rattle.std.specs.List.{list_any}
use Rattle.std.proofs.lemmas.List.{take-append-drop}
use Rattle.bq_insn.specs.declared.Insn.{Insn}
use Rattle.bq_insn.specs.declared.Insn.TheVariants.{Imm64, MapRef}
use Rattle.bq_insn.specs.Slots.{slots_of}
use Rattle.bq_insn.specs.Spelling.{slot_count, is_well_formed}
use Rattle.bq_insn.proofs.CountLemmas.{count_within}
use Rattle.bq_verify.proofs.SlotLemmas.{spread_long, few_slots}
use Rattle.bq_import.specs.Importing.{IsFirstAddress, is_address}

-- of a program they take at most 4096
pub count_few : (insns : List Insn) (k : ℕ) → is_well_formed insns ≡ true → slot_count (take k insns) ≤ 4096
count_few insns k whole =
    let few = few_slots insns whole in
    omega (arith, few, spread_long insns, count_within insns k)

-- an instruction takes at most two slots
two : (i : Insn) → slots_of i ≤ 2
two (Imm64 dst value) = omega arith
two (MapRef dst index) = omega arith
two _ = omega arith

-- the slots of some instructions and of one more are hardly more than 4096
pub slot_small : (insns : List Insn) (k slot slots : ℕ) (i : Insn)
    → is_well_formed insns ≡ true → slot ≡ slot_count (take k insns) → slots ≡ slots_of i
    → slot + slots ≤ 4098
slot_small insns k slot slots i whole counted is =
    let few = count_few insns k whole in
    let more = two i in
    omega (arith, few, counted, is, more)

-- an address that none stands before is the first
pub first_address : (insns : List Insn) (k slot : ℕ) (d : Insn)
    → k < length insns → slot ≡ slot_count (take k insns) → list_any is_address (take k insns) ≡ false
    → is_address (get_or insns k d) ≡ true
    → IsFirstAddress insns slot
first_address insns k slot d inside counted none here = record {
  before = take k insns;
  insn = get_or insns k d;
  rest = drop (suc k) insns;
  program_is = sym (take-append-drop k insns) ∙ ap (λ (rest : List Insn). take k insns ++ rest) (drop-cons insns k d inside);
  slot_is = counted;
  address = here;
  first = none;
}
