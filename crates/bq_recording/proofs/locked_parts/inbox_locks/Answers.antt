use Rattle.std.proofs.Common.{◌≡◌, ◌-◌, ◌++◌, ◌<◌, ◌∷◌, [], sym, rules, ap, ◌∙◌, arith}
use Rattle.bq_history.specs.Whole.{first_item, others_of}
use Rattle.bq_history.specs.Items.{part_item}
use Rattle.bq_shared.specs.Parts.{inbox_part}
use Rattle.bq_shared.specs.Opened.{inbox_items}
use Rattle.bq_shared.proofs.OpenedLemmas.{inbox_turn}
use Rattle.bq_recording.proofs.locked_parts.inbox_locks.Goals as goal

pub open-requires-clause-item : goal.open-requires-clause-item
open-requires-clause-item g c =
    let r = c.requires in
    let b : c.loop-number.number < c.args.count = omega arith in
    ap first_item (c.loop-number.invariant.1 r.0 r.1 ∙ inbox_turn c.loop-number.number c.args.count r.0 b)
    ∙ ap (λ x. part_item (inbox_part c.loop-number.number x) ∷ []) (sym c.new.ensures)

pub loop-number-preserved : goal.loop-number-preserved
loop-number-preserved g c =
    let b : c.loop-number.number < c.args.count = omega arith in (
      search rules,
      λ rest e. c.open.ensures.0 ∙ ap others_of (c.loop-number.invariant.1 rest e ∙ inbox_turn c.loop-number.number c.args.count rest b),
    )

pub returns-clause-rest : goal.returns-clause-rest
returns-clause-rest g c = λ rest e.
    let none : c.args.count - c.loop-number.number ≡ 0 = omega (arith, c.loop-number-test.false) in
    c.loop-number.invariant.1 rest e ∙ ap (λ k. inbox_items c.loop-number.number k ++ rest) none
