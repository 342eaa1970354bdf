use Rattle.std.proofs.Common.{◌≡◌, ◌∙◌, ◌++◌, ap, arith, replicate}
use Rattle.bq_report.specs.Maps.{empty_map_row}
use Rattle.bq_report.proofs.DrawnLemmas.{rows_more, rows_none}
use Rattle.bq_report.proofs.map.add_rows.Goals as goal

pub loop-init : goal.loop-init
loop-init c = rows_none c.args.rows.now.items

pub loop-preserved : goal.loop-preserved
loop-preserved c =
    rows_more c.args.rows.now.items c.loop.rows.items _ c.loop.counter c.new.result c.loop.invariant
    c.new.ensures c.in_ok-push.ensures.items

pub returns : goal.returns
returns c =
    let all : c.loop.counter ≡ c.args.count = omega arith in
    c.loop.invariant ∙ ap (λ n. c.args.rows.now.items ++ replicate n empty_map_row) all
