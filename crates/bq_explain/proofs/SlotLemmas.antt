-- Where the instructions of a program begin in its slots.
use Rattle.std.proofs.Common.{◌≡◌, ℕ, zero, suc, ◌+◌, ◌-◌, ◌<◌, List, [], ◌∷◌, ◌++◌, Option, Some, None, length, take, get_or, slice_get, replicate, length-append, refl, ◌∙◌, ap, arith}
use Rattle.bq_verify.proofs.SpreadLemmas.{spread_more}
use Rattle.bq_insn.specs.declared.Insn.TheVariants.{Imm64, MapRef}
use Rattle.bq_insn.specs.declared.Insn.{Insn}
use Rattle.bq_insn.specs.Slots.{slots_of, spread}
use Rattle.bq_bpf.specs.Steps.{instruction_at}

-- behind the same front two lists differ as without it
shifted : (front a b : List (Option Insn)) → instruction_at (front ++ a) (length (front ++ b)) ≡ instruction_at a (length b)
shifted [] a b = refl
shifted (x ∷ front) a b = shifted front a b

-- an instruction begins behind the slots of those before it
pub stands_behind : (insns : List Insn) (index : ℕ) (insn : Insn)
    → slice_get insns index ≡ Some insn
    → instruction_at (spread insns) (length (spread (take index insns))) ≡ Some insn
stands_behind [] index insn is = absurd cc
stands_behind (first ∷ rest) zero insn is = is
stands_behind (first ∷ rest) (suc index) insn is =
    shifted (Some first ∷ replicate (slots_of first - 1) None) (spread rest) (spread (take index rest)) ∙ stands_behind rest index insn is

-- an instruction has as many slots as it takes
slots_long : (insn : Insn) → length (Some insn ∷ replicate (slots_of insn - 1) None) ≡ slots_of insn
slots_long (Imm64 d v) = refl
slots_long (MapRef d i) = refl
slots_long _ = refl

-- behind one instruction more stand as many slots more as that takes
pub slots_more : (insns : List Insn) (i : ℕ) (past : Insn) (at slots new : ℕ)
    → i < length insns → at ≡ length (spread (take i insns)) → slots ≡ slots_of (get_or insns i past) → new ≡ at + slots
    → new ≡ length (spread (take (i + 1) insns))
slots_more insns i past at slots new lt before width is =
    let x : Insn = get_or insns i past in
    let more : List (Option Insn) = Some x ∷ replicate (slots_of x - 1) None in
    let whole : spread (take i insns) ++ more ≡ spread (take (i + 1) insns) =
    spread_more insns i past (spread (take i insns)) (spread (take i insns) ++ more) lt refl refl in
    let long : length more ≡ slots_of x = slots_long x in
    let sum : length (spread (take i insns) ++ more) ≡ length (spread (take i insns)) + length more =
    length-append (spread (take i insns)) more in
    let same : length (spread (take i insns) ++ more) ≡ length (spread (take (i + 1) insns)) = ap length whole in
    omega arith
