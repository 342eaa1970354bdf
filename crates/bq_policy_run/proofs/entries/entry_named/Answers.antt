use Rattle.std.proofs.Common.{arith}
use Rattle.bq_policy_run.proofs.RefusalLemmas.{no_entry_colon, no_entry_map, no_entry_number, no_entry_small}
use Rattle.bq_policy_run.proofs.entries.entry_named.Goals as goal

pub returns-in_err-map-clause-none : goal.returns-in_err-map-clause-none
returns-in_err-map-clause-none c = rw c.from_residual.ensures (no_entry_colon c.args.place.now c.in_err-map.ensures)

pub returns-in_err-map-2-clause-none : goal.returns-in_err-map-2-clause-none
returns-in_err-map-2-clause-none c =
    rw c.from_residual-in_err-map-2.ensures
    (no_entry_map c.args.place.now c.in_ok-map.map.now c.in_ok-map.entry.now c.in_ok-map.ensures c.in_err-map-2.ensures.none)

pub returns-in_err-entry-clause-none : goal.returns-in_err-entry-clause-none
returns-in_err-entry-clause-none c =
    rw c.from_residual-in_err-entry.ensures
    (no_entry_number c.args.place.now c.in_ok-map.map.now c.in_ok-map.entry.now c.in_ok-map.ensures c.in_err-entry.ensures.none)

pub returns-in-Err-clause-none : goal.returns-in-Err-clause-none
returns-in-Err-clause-none c =
    no_entry_small c.args.place.now c.in_ok-map.map.now c.in_ok-map.entry.now c.in_ok-entry.entry c.in_ok-map.ensures
    c.in_ok-entry.ensures.some (omega (arith, c.in-Err.ensures))
