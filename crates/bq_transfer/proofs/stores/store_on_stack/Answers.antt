use Rattle.std.proofs.Common.{◌≡◌, ◌<◌, ◌≤◌, ◌+◌, ◌*◌, ◌/◌, ℕ, length, subst, sym, arith, rules, Some, ap, refl}
use Rattle.std.proofs.lemmas.Bool.{false≢true}
use Rattle.bq_transfer.proofs.WriteLemmas.{low_long, low_small, contains_keeping, plain_kept}
use Rattle.bq_states.proofs.StoreLemmas.{StackIsAsKnown-stored}
use Rattle.std.specs.Int.{bytes_low_first}
use Rattle.bq_insn.specs.Slots.{byte_count}
use Rattle.bq_insn.specs.declared.Size.{Size}
use Rattle.bq_insn.specs.declared.Size.TheVariants.{Double}
use Rattle.bq_states.specs.declared.abstract_state.ValueKind.TheVariants.{Number}
use Rattle.bq_states.proofs.WordLemmas.{number_within}
use Rattle.bq_states.proofs.PartLemmas.{contains_parts, has_written}
use Rattle.bq_states.specs.AbstractStates.{StackIsAsKnown}
use Rattle.bq_states.specs.Certainty.{IsStoredAt}
use Rattle.bq_bpf.specs.Memory.{InStack, stack_with, written}
use Rattle.bq_bpf.specs.Steps.{low_bytes, next}
use Rattle.bq_transfer.proofs.stores.store_on_stack.Goals as goal

pub returns-then-at-eq0-clause-contains : goal.returns-then-at-eq0-clause-contains
returns-then-at-eq0-clause-contains c = λ f s o v contains within d.
    let single = c.is_single.ensures.0 c.if-is_single.true in
    let double : c.args.size ≡ Double = search rules in
    let slot : ℕ = c.args.at.lo / 8 in
    let there : slot < length c.overwrite.new.state.kept =
    let eight : byte_count c.args.size ≡ 8 = ap byte_count double in
    omega (arith, c.stays.ensures.0 c.if-not-stays.false, c.overwrite.ensures.long) in
    let place : 8 * slot ≡ o = omega arith in
    let is : low_bytes c.args.size v ≡ bytes_low_first 0 8 v = ap (λ (z : Size). low_bytes z v) double in
    let long : length (low_bytes c.args.size v) ≡ 8 = ap length is in
    let keeps = StackIsAsKnown-stored f.shapes c.args.word s.stack slot v (low_bytes c.args.size v) is long d in
    rw c.keep.ensures (contains_keeping f c.overwrite.new.state
    (next (written s InStack o (low_bytes c.args.size v))) slot c.args.word there
    (subst (λ (n : ℕ). StackIsAsKnown f.shapes (Some c.args.word) (stack_with s.stack n (low_bytes c.args.size v)) slot) place keeps)
    (c.overwrite.ensures.contains f s o (low_bytes c.args.size v) contains within (low_long c.args.size v)
    (λ k lt. low_small c.args.size v k)))

pub returns-clause-contains : goal.returns-clause-contains
returns-clause-contains c = λ f s o v contains within d.
    let long = low_long c.args.size v in
    let after = c.overwrite-2.ensures.contains f s o (low_bytes c.args.size v) contains within long (λ k lt. low_small c.args.size v k) in
    let number : c.args.word.kind ≡ Number = search rules in
    let has = has_written s.stack o (byte_count c.args.size) (low_bytes c.args.size v) long in
    let parts =
    c.store_part.ensures (stack_with s.stack o (low_bytes c.args.size v)) o v within
    (number_within f.shapes c.args.word v number d) has after.parts in
    contains_parts f c.overwrite-2.new.state (next (written s InStack o (low_bytes c.args.size v))) c.store_part.new.parts parts after

pub returns-then-at-eq0-clause-slot : goal.returns-then-at-eq0-clause-slot
returns-then-at-eq0-clause-slot c =
    let single = c.is_single.ensures.0 c.if-is_single.true in
    let double : c.args.size ≡ Double = search rules in
    let eight : byte_count c.args.size ≡ 8 = ap byte_count double in
    (omega (arith, c.stays.ensures.0 c.if-not-stays.false), double, omega arith, omega arith)

pub returns-clause-accepts : goal.returns-clause-accepts
returns-clause-accepts c = λ number place low high inside.
    let stored = c.overwrite-2.ensures.stored (omega arith) in (
      refl,
      record {
        registers_same = stored.registers_same;
        stored = λ i from to. stored.stored i (omega arith) (omega arith);
        set = stored.set;
        plain = stored.plain;
      },
    )

pub returns-then-not-stays-clause-accepts : goal.returns-then-not-stays-clause-accepts
returns-then-not-stays-clause-accepts c = λ number place low high inside.
    absurd (false≢true (c.if-not-stays.ensures.1 (subst (λ (n : ℕ). n + byte_count c.args.size ≤ 512) (sym high) inside)))

pub store_part-requires-clause-small : goal.store_part-requires-clause-small
store_part-requires-clause-small c = omega (arith, c.stays.ensures.0 c.if-not-stays.false)

pub returns-clause-slot : goal.returns-clause-slot
returns-clause-slot c = tt

pub returns-then-at-eq0-clause-accepts : goal.returns-then-at-eq0-clause-accepts
returns-then-at-eq0-clause-accepts c = λ number place low high inside.
    let stored = c.overwrite.ensures.stored (c.is_single.ensures.0 c.if-is_single.true) in
    let there : IsStoredAt c.args.state.now c.overwrite.new.state place (place + byte_count c.args.size) = rw (low, high) at stored in
    rw c.keep.ensures (
      refl,
      record {
        registers_same = there.registers_same;
        stored = there.stored;
        set = there.set;
        plain =
            λ j plain. plain_kept c.overwrite.new.state.kept (c.args.at.lo / 8) j c.args.word number (there.plain j plain);
      },
    )
