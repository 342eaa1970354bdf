use Rattle.std.proofs.Common.{◌≡◌, ◌-◌, ℕ, Some, false, true, arith, length, subst, sym, ◌∙◌}
use Rattle.std.specs.Prelude.{slice_set}
use Rattle.bq_bpf.specs.Steps.{instruction_at}
use Rattle.bq_import.specs.Search.{is_open}
use Rattle.bq_import.specs.Keeping.{IsKeeping}
use Rattle.bq_import.proofs.KeepLemmas.{next_in_front, one_kept, passed_over, ready_to_keep}
use Rattle.bq_import.proofs.kept.Keeping.keep.Goals as goal

pub returns-then-not-reached-slot-clause-ok : goal.returns-then-not-reached-slot-clause-ok
returns-then-not-reached-slot-clause-ok c =
    let now = c.args.self.now in
    let room = c.requires.found.room in
    let inside = c.requires.inside in
    let test = c.if-not-reached-slot.true in
    let shut : is_open c.args.reached.now c.args.slot ≡ false = grind (arith, room, inside, test) in
    passed_over c.args.maps c.args.old.now c.args.reached.now c.args.slot now.copy.slots.items now.copy.origins.items
    now.places.items c.requires.found c.requires.keeping shut

pub put-requires-clause-known : goal.put-requires-clause-known
put-requires-clause-known c = rw c.as_slice.ensures.value c.requires.keeping.known

pub put-requires-clause-ready : goal.put-requires-clause-ready
put-requires-clause-ready c =
    let now = c.args.self.now in
    let room = c.requires.found.room in
    let inside = c.requires.inside in
    let test = c.if-not-reached-slot.false in
    let begun : is_open c.args.reached.now c.args.slot ≡ true = grind (arith, room, inside, test) in
    let here : instruction_at c.args.old.now c.args.slot ≡ Some c.in-Some.insn = cc in
    rw c.as_slice.ensures.value (ready_to_keep c.args.maps c.args.old.now c.args.reached.now c.args.slot now.copy.slots.items
    now.copy.origins.items now.places.items c.requires.found c.requires.keeping c.requires.linked c.requires.forward
    c.requires.linked.gaps begun c.in-Some.insn here)

pub put-requires-clause-front : goal.put-requires-clause-front
put-requires-clause-front c =
    let now = c.args.self.now in
    let room = c.requires.found.room in
    let inside = c.requires.inside in
    let test = c.if-not-reached-slot.false in
    let begun : is_open c.args.reached.now c.args.slot ≡ true = grind (arith, room, inside, test) in
    let here : instruction_at c.args.old.now c.args.slot ≡ Some c.in-Some.insn = cc in
    next_in_front c.args.maps c.args.old.now c.args.reached.now c.args.slot now.copy.slots.items now.copy.origins.items
    now.places.items c.requires.found c.requires.keeping c.requires.linked c.requires.forward c.requires.linked.gaps begun
    c.in-Some.insn here c.find_targets-targets.result c.find_targets-targets.ensures

pub returns-clause-ok : goal.returns-clause-ok
returns-clause-ok c =
    let now = c.args.self.now in
    let more = c.put.new.self in
    let room = c.requires.found.room in
    let inside = c.requires.inside in
    let test = c.if-not-reached-slot.false in
    let begun : is_open c.args.reached.now c.args.slot ≡ true = grind (arith, room, inside, test) in
    let here : instruction_at c.args.old.now c.args.slot ≡ Some c.in-Some.insn = cc in
    let count : c.len.result ≡ length c.put.new.self.slots.items = c.len.ensures ∙ c.put.new.self.slots.ok.0 in
    subst (λ (n : ℕ).
    IsKeeping c.args.maps c.args.old.now c.args.reached.now c.args.slot c.put.new.self.slots.items
    c.put.new.self.origins.items (slice_set c.args.self.now.places.items c.args.slot (Some (n - 1)))) (sym count)
    (one_kept c.args.maps c.args.old.now c.args.reached.now c.args.slot now.copy.slots.items now.copy.origins.items
    now.places.items c.requires.found c.requires.keeping c.requires.linked c.requires.forward c.requires.linked.gaps
    begun c.in-Some.insn here more.slots.items more.origins.items c.in_ok-put.ensures.ok c.in_ok-put.ensures.grown
    c.in_ok-put.ensures.only)
