-- Instructions are compared by their contents.
use Rattle.std.proofs.Common.{◌≡◌}
use Rattle.std.specs.Bool.{Decides}
use Rattle.std.specs.Cmp.{booleans_Decides}
use Rattle.std.proofs.lemmas.Bool.Decides.{Decides-eqb, Decides-int_eq}
use denote.Enum.Bare.{sameb}
use Rattle.bq_insn.specs.declared.Bits.{Bits}
use Rattle.bq_insn.specs.declared.Condition.{Condition}
use Rattle.bq_insn.specs.declared.Insn.{Insn}
use Rattle.bq_insn.specs.declared.Operation.{Operation}
use Rattle.bq_insn.specs.declared.Order.{Order}
use Rattle.bq_insn.specs.declared.Size.{Size}
use Rattle.bq_insn.specs.declared.Source.{Source}
use Rattle.bq_insn.specs.declared.Width.{Width}
use Rattle.bq_insn.specs.contracts.Bits as bits
use Rattle.bq_insn.specs.contracts.Condition as condition
use Rattle.bq_insn.specs.contracts.Insn as insn
use Rattle.bq_insn.specs.contracts.Operation as operation
use Rattle.bq_insn.specs.contracts.Order as order
use Rattle.bq_insn.specs.contracts.Size as size
use Rattle.bq_insn.specs.contracts.Source as source
use Rattle.bq_insn.specs.contracts.Width as width
use Rattle.bq_insn.specs.contracts.InsnPartialEq.TheImpl as same_insn
use Rattle.bq_insn.specs.contracts.SourcePartialEq.TheImpl as same_source
use Rattle.bq_verify.proofs.EachSlotLemmas.{◌then◌}
use Rattle.bq_installed.proofs.DecidingLemmas.{by_decides, bare_decides, no_field, last_field, and_field}

-- `==` on each type of an instruction's fields tells whether two values are the same:
bits_decides : (a b : Bits) → Decides (sameb bits.the_type a b) (a ≡ b)
bits_decides = bare_decides bits.the_type tt

condition_decides : (a b : Condition) → Decides (sameb condition.the_type a b) (a ≡ b)
condition_decides = bare_decides condition.the_type tt

operation_decides : (a b : Operation) → Decides (sameb operation.the_type a b) (a ≡ b)
operation_decides = bare_decides operation.the_type tt

order_decides : (a b : Order) → Decides (sameb order.the_type a b) (a ≡ b)
order_decides = bare_decides order.the_type tt

size_decides : (a b : Size) → Decides (sameb size.the_type a b) (a ≡ b)
size_decides = bare_decides size.the_type tt

width_decides : (a b : Width) → Decides (sameb width.the_type a b) (a ≡ b)
width_decides = bare_decides width.the_type tt

source_decides : (a b : Source) → Decides (same_source.eq-value.it a b) (a ≡ b)
source_decides =
    by_decides source.enum _ (last_field Decides-int_eq then last_field Decides-eqb then tt)

-- `==` tells whether two instructions are the same: for each variant, by its fields in their order
pub insn_decides : (a b : Insn) → Decides (same_insn.eq-value.it a b) (a ≡ b)
insn_decides =
    by_decides insn.enum _ (and_field width_decides
    (and_field operation_decides (and_field Decides-eqb (last_field source_decides)))
    then and_field width_decides (and_field bits_decides (and_field Decides-eqb (last_field Decides-eqb)))
    then and_field width_decides (last_field Decides-eqb)
    then and_field order_decides (and_field bits_decides (last_field Decides-eqb))
    then and_field size_decides (and_field booleans_Decides (and_field Decides-eqb (and_field Decides-eqb (last_field Decides-int_eq))))
    then and_field size_decides (and_field Decides-eqb (and_field Decides-int_eq (last_field Decides-int_eq)))
    then and_field size_decides (and_field Decides-eqb (and_field Decides-int_eq (last_field Decides-eqb)))
    then and_field Decides-eqb (last_field Decides-eqb)
    then and_field Decides-eqb (last_field Decides-int_eq)
    then last_field Decides-int_eq
    then last_field Decides-int_eq
    then and_field width_decides
    (and_field condition_decides (and_field Decides-eqb (and_field source_decides (last_field Decides-int_eq))))
    then last_field Decides-int_eq
    then no_field
    then tt)
