use Rattle.std.proofs.Common.{◌≡◌, ◌+◌, ◌≤◌, is_some, true≢false, refl, sym, ap, ◌∙◌, subst, arith}
use Rattle.bq_report.proofs.ExtentLemmas.{Read, read_passed, read_shown, spans_if}
use Rattle.bq_report.proofs.extent.Extent.of.Goals as goal
use Rattle.bq_report.proofs.extent.Extent.of.Goals.{in-Some+then-shows_processor, in-Some+else-shows_processor, in_default}

pub loop-number-preserved : goal.loop-number-preserved
loop-number-preserved c =
    let w = c.args.window.now in
    let s = c.args.schedule.now in
    let l = c.loop-number in
    let within : l.number + 1 ≤ 64 = omega arith in
    let figures = c.processor-figures.ensures in
    elim c.match-figures.branch [
      | in-Some+then-shows_processor b ↦ rw (b.first-is, b.last-is) (record {
        within = within;
        read =
            read_shown w s l.number l.first l.last b.in-Some.reading c.processor-figures.result b.min-first.result b.max-last.result figures
            (b.shows_processor.ensures.0 b.if-shows_processor.true) b.in-Some.is b.min-first.ensures b.max-last.ensures l.invariant.read;
      })
      | in-Some+else-shows_processor b ↦ rw (b.first-is, b.last-is) (record {
        within = within;
        read = read_passed w s l.number l.first l.last
            (λ shown some. true≢false (sym (b.shows_processor.ensures.1 shown) ∙ b.if-shows_processor.false)) l.invariant.read;
      })
      | in_default b ↦ rw (b.first-is, b.last-is) (record {
        within = within;
        read = read_passed w s l.number l.first l.last
            (λ shown some. true≢false (sym some ∙ ap is_some (sym (ap (λ f. f.first) figures) ∙ b.in_default.is))) l.invariant.read;
      })
    ]

pub returns-clause-extent : goal.returns-clause-extent
returns-clause-extent c =
    let end : c.loop-number.number ≡ 64 = omega (arith, c.loop-number.invariant.within, c.loop-number-test.false) in
    let read =
    subst (λ n. Read c.args.window.now c.args.schedule.now n c.loop-number.first c.loop-number.last) end
    c.loop-number.invariant.read in
    rw c.then_some.ensures ((spans_if c.args.window.now c.args.schedule.now c.loop-number.first c.loop-number.last _
    c.min-to.type_inv read c.max-from.ensures c.min-to.ensures _ refl).0)

pub returns-clause-none : goal.returns-clause-none
returns-clause-none c =
    let end : c.loop-number.number ≡ 64 = omega (arith, c.loop-number.invariant.within, c.loop-number-test.false) in
    let read =
    subst (λ n. Read c.args.window.now c.args.schedule.now n c.loop-number.first c.loop-number.last) end
    c.loop-number.invariant.read in
    rw c.then_some.ensures ((spans_if c.args.window.now c.args.schedule.now c.loop-number.first c.loop-number.last _
    c.min-to.type_inv read c.max-from.ensures c.min-to.ensures _ refl).1)
