use Rattle.std.proofs.Common.{◌≡◌, ◌++◌, ℕ, map, ap, sym, ◌∙◌}
use Rattle.bq_history.specs.Whole.{others_of}
use Rattle.bq_history.specs.Items.{part_item, callers_from}
use Rattle.bq_shared.specs.Parts.{cpus_from, inboxes_from}
use Rattle.bq_shared.specs.Opened.{cpu_items, inbox_items}
use Rattle.bq_shared.proofs.OpenedLemmas.{processors_then_inboxes}
use Rattle.bq_recording.proofs.locked_parts.part_locks.Goals as goal

pub cpu_locks-requires-clause-items : goal.cpu_locks-requires-clause-items
cpu_locks-requires-clause-items g c =
    let n = c.args.count in
    let s = c.requires.items.0 in
    let base : c.open-lobby.new.all ≡ map part_item (cpus_from 0 n ++ inboxes_from 0 n) ++ callers_from 0 s =
    c.open-lobby.ensures.0 ∙ ap others_of c.requires.items.1 in (
      inbox_items 0 n ++ callers_from 0 s,
      base ∙ processors_then_inboxes n (callers_from 0 s)
          ∙ ap (λ (k : ℕ). cpu_items 0 k ++ (inbox_items 0 n ++ callers_from 0 s)) (sym c.requires.many),
    )

pub inbox_locks-requires : goal.inbox_locks-requires
inbox_locks-requires g c =
    let n = c.args.count in
    let s = c.requires.items.0 in
    let base : c.open-lobby.new.all ≡ map part_item (cpus_from 0 n ++ inboxes_from 0 n) ++ callers_from 0 s =
    c.open-lobby.ensures.0 ∙ ap others_of c.requires.items.1 in (
      callers_from 0 s,
      c.in_ok-cpus.ensures.rest (inbox_items 0 n ++ callers_from 0 s)
          (base ∙ processors_then_inboxes n (callers_from 0 s)
          ∙ ap (λ (k : ℕ). cpu_items 0 k ++ (inbox_items 0 n ++ callers_from 0 s)) (sym c.requires.many)),
    )

pub returns-clause-rest : goal.returns-clause-rest
returns-clause-rest g c = λ s e.
    let n = c.args.count in
    let base : c.open-lobby.new.all ≡ map part_item (cpus_from 0 n ++ inboxes_from 0 n) ++ callers_from 0 s =
    c.open-lobby.ensures.0 ∙ ap others_of e in
    c.in_ok-inboxes.ensures.rest (callers_from 0 s)
    (c.in_ok-cpus.ensures.rest (inbox_items 0 n ++ callers_from 0 s)
    (base ∙ processors_then_inboxes n (callers_from 0 s)
    ∙ ap (λ (k : ℕ). cpu_items 0 k ++ (inbox_items 0 n ++ callers_from 0 s)) (sym c.requires.many)))
