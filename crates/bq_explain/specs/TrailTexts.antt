-- The words that say where registers come from.
use Rattle.std.specs.Prelude.{◌≡◌, ℕ, zero, suc, ◌==◌, List, [], ◌++◌, Bool, true, false, Option, Some, None, codes, flat_map, not, slice_index_or}
use Rattle.std.specs.Fmt.{decimal}
use Rattle.bq_insn.specs.declared.Insn.{Insn}
use Rattle.bq_insn.specs.declared.Insn.TheVariants.{Call}
use Rattle.bq_asm.specs.Text.{line_body}
use Rattle.bq_bpf.specs.declared.shape.MapShape.{MapShape}
use Rattle.bq_states.specs.declared.abstract_state.AbstractValue.{AbstractValue}
use Rattle.bq_needs.specs.Texts.{known_text}
use Rattle.bq_explain.specs.declared.join_point.IncomingWay.{IncomingWay}
use Rattle.bq_explain.specs.declared.join_point.JoinPoint.{JoinPoint}
use Rattle.bq_explain.specs.declared.program_point.ProgramPoint.{ProgramPoint}
use Rattle.bq_explain.specs.declared.trail.RegisterMaker.{RegisterMaker}
use Rattle.bq_explain.specs.declared.trail.Trail.{Trail}

-- a slot, after the line of the text if there is one
abbrev pub slot_text : Option ℕ → ℕ → List ℕ
slot_text None slot = codes "slot " ++ decimal slot
slot_text (Some line) slot = codes "line " ++ (decimal line ++ (codes ", slot " ++ decimal slot))

-- the place of an instruction, by its slot
abbrev pub place_text : ProgramPoint → List ℕ
place_text place = slot_text place.line place.slot

-- the place of an instruction, and the instruction as a listing has it
abbrev pub place_line : ProgramPoint → List ℕ
place_line place = place_text place ++ (codes ":  " ++ line_body place.insn)

-- the text ends with that one
abbrev pub EndsWith : List ℕ → List ℕ → Type 0
EndsWith end text = (before : List ℕ) × (text ≡ before ++ end)

-- of a register that the instruction writes: whether the instruction is a call, which leaves each but register 0 unset
abbrev pub leaves_unset : Insn → ℕ → Bool
leaves_unset (Call helper) register = not (register == 0)
leaves_unset other register = false

-- the words that a register is unset, if it is
abbrev pub unset_outcome : ℕ → Bool → List ℕ
unset_outcome register false = []
unset_outcome register true = codes "    r" ++ (decimal register ++ codes " then is unset")

-- what a register is after the instruction that made it
abbrev pub outcome_text : List MapShape → Insn → ℕ → Option AbstractValue → List ℕ
outcome_text shapes insn register None = unset_outcome register (leaves_unset insn register)
outcome_text shapes insn register (Some k) = codes "    r" ++ (decimal register ++ (codes " then is " ++ known_text shapes k))

-- the line of an instruction that made a register: its slot, the instruction, and what the register then is
abbrev pub made_text : List MapShape → RegisterMaker → List ℕ
made_text shapes made =
    codes "  made at " ++ (place_text made.place ++ (codes ":  " ++ (line_body made.place.insn ++ (outcome_text shapes made.place.insn made.register made.known ++ codes "\n"))))

-- the line of a register that is unset on some way, if it is
abbrev pub unset_text : ℕ → Bool → List ℕ
unset_text register false = []
unset_text register true = codes "  r" ++ (decimal register ++ codes " is set by no instruction on some path from the start\n")

-- the words on the unset registers among the first ones, this many
abbrev pub unset_below : ℕ → List Bool → List ℕ
unset_below zero unset = []
unset_below (suc n) unset = unset_below n unset ++ unset_text n (slice_index_or unset n false)

-- what a register is on a way, and the instruction that the way comes from
abbrev pub way_text : List MapShape → IncomingWay → List ℕ
way_text shapes way = known_text shapes way.known ++ (codes " on the path over " ++ place_text way.place)

-- the words on a register after ways meet
abbrev pub join_outcome_text : List MapShape → Option AbstractValue → List ℕ
join_outcome_text shapes None = codes "nothing is known of it"
join_outcome_text shapes (Some k) = codes "it is " ++ known_text shapes k

-- the line of two ways that meet
abbrev pub join_text : List MapShape → JoinPoint → List ℕ
join_text shapes join =
    codes "  r" ++ (decimal join.register ++ (codes " is " ++ (way_text shapes join.first ++ (codes ", and " ++ (way_text shapes join.second
    ++ (codes "; where they meet, at slot " ++ (decimal join.slot ++ (codes ", " ++ (join_outcome_text shapes join.known ++ codes "\n")))))))))

-- a line for each instruction that made a register, in order, for each register that is unset on some way, and for each place where ways meet
abbrev pub trail_text : List MapShape → Trail → List ℕ
trail_text shapes trail =
    flat_map (made_text shapes) trail.makers.items ++ (unset_below 11 trail.unset ++ flat_map (join_text shapes) trail.joins.items)

-- the text says where the registers come from, and then on one line what helps
abbrev pub DescribesTrail : List MapShape → Trail → List ℕ → Type 0
DescribesTrail shapes trail text = (advice : List ℕ) × (text ≡ trail_text shapes trail ++ (codes "  helps: " ++ (advice ++ codes "\n")))
