use Rattle.std.proofs.Common.{◌≡◌, true, ap, arith}
use Rattle.bq_maps.specs.Arrays.{value_size_in, value_size_of}
use Rattle.bq_maps.proofs.ShapeLemmas.{there_inside}
use Rattle.bq_policy_run.specs.Naming.{SetsEntry}
use Rattle.bq_console.proofs.GivenLemmas.{none_given}
use Rattle.bq_policy_run.proofs.RefusalLemmas.{no_entry_bytes, no_entry_fits, no_entry_named, no_entry_there}
use Rattle.bq_policy_run.proofs.entries.put_entry.Goals as goal

pub returns-in_default-entry_named-clause-refused : goal.returns-in_default-entry_named-clause-refused
returns-in_default-entry_named-clause-refused c =
    none_given (SetsEntry c.args.text.now c.args.maps.now) c.refused-in_default-entry_named.result
    (no_entry_named c.args.text.now c.in-Some.place.now c.in-Some.value.now c.args.maps.now c.in-Some.ensures
    c.in_default-entry_named.ensures.none)

pub returns-in_default-2-clause-refused : goal.returns-in_default-2-clause-refused
returns-in_default-2-clause-refused c =
    let none = rw c.in_default-2.is at c.in_ok-bytes.ensures.none in
    none_given (SetsEntry c.args.text.now c.args.maps.now) c.refused-in_default-2.result
    (no_entry_bytes c.args.text.now c.in-Some.place.now c.in-Some.value.now c.args.maps.now c.in-Some.ensures none)

pub returns-then-not-lookup-clause-refused : goal.returns-then-not-lookup-clause-refused
returns-then-not-lookup-clause-refused c =
    none_given (SetsEntry c.args.text.now c.args.maps.now) c.refused-then-not-lookup.result
    (no_entry_there c.args.text.now c.in-Some.place.now c.in-Some.value.now c.args.maps.now
    c.in-Some-entry_named.map c.in-Some-entry_named.entry c.in-Some.ensures c.in-Some-entry_named.ensures.some
    (λ there. let yes : c.lookup.result ≡ true = c.lookup.ensures.1 there in cc (yes, c.if-not-lookup.true)))

pub shape-requires : goal.shape-requires
shape-requires c =
    there_inside c.args.maps.now c.in-Some-entry_named.map c.in-Some-entry_named.entry
    (c.lookup.ensures.0 c.if-not-lookup.false)

pub returns-then-len-size-clause-refused : goal.returns-then-len-size-clause-refused
returns-then-len-size-clause-refused c =
    let bytes = rw c.in-Some-2.is at c.in_ok-bytes.ensures.some in
    let size : value_size_of c.args.maps.now c.in-Some-entry_named.map ≡ c.shape.result.value_size =
    ap value_size_in c.shape.ensures.shape in
    none_given (SetsEntry c.args.text.now c.args.maps.now) c.refused-then-len-size.result
    (no_entry_fits c.args.text.now c.in-Some.place.now c.in-Some.value.now c.in-Some-2.bytes.items c.args.maps.now
    c.in-Some-entry_named.map c.in-Some-entry_named.entry c.in-Some.ensures c.in-Some-entry_named.ensures.some bytes
    (omega (arith, size)))
