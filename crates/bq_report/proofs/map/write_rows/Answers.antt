use Rattle.std.proofs.Common.{◌≡◌, ◌+◌, ◌<◌, ◌∙◌, ap, arith, length, refl}
use Rattle.std.specs.Prelude.{string_bytes}
use Rattle.std.proofs.lemmas.List.{get_or_default}
use Rattle.bq_report.specs.Maps.{empty_map_row, map_row_of}
use Rattle.bq_report.proofs.LegendLemmas.{draws_at, draws_more, draws_none, draws_same, rows_behind}
use Rattle.bq_report.proofs.ReportLemmas.{test_fails}
use Rattle.bq_report.proofs.map.write_rows.Goals as goal
use Rattle.bq_report.proofs.map.write_rows.Goals.{then-shows_row+in_ok-note_runs+in_ok-columns+in_ok-write_row+in_ok-note_columns, else-shows_row}

pub loop-number-init : goal.loop-number-init
loop-number-init c = record {
  count = refl;
  within = omega arith;
  rest = λ p h. refl;
  draws =
      draws_none c.args.window.now c.args.rows.now.items c.args.admitted.now c.args.grid.now c.args.legend.now
      (string_bytes c.args.text.now);
}

pub loop-number-preserved : goal.loop-number-preserved
loop-number-preserved c =
    let there : c.loop-number.number < length c.args.rows.now.items = omega (arith, c.len-number-end.ensures, c.loop-number-test.true) in
    elim c.if-shows_row.branch [
      | then-shows_row+in_ok-note_runs+in_ok-columns+in_ok-write_row+in_ok-note_columns w ↦
          let inside : c.loop-number.number < length c.loop-number.rows.items = omega (arith, there, c.loop-number.invariant.count) in
          let row : w.index_mut-row.result.now ≡ map_row_of c.args.rows.now.items c.loop-number.number =
          w.index_mut-row.ensures.value
          ∙ get_or_default c.loop-number.rows.items c.loop-number.number w.index_mut-row.result.now empty_map_row inside
          ∙ c.loop-number.invariant.rest c.loop-number.number (omega arith) in
          let behind =
          rows_behind c.args.rows.now.items c.loop-number.rows.items c.if-shows_row.rows.items c.loop-number.number _
          (ap (λ rows. rows.items) w.rows-is) c.loop-number.invariant.count c.loop-number.invariant.rest in
          record {
            count = behind.0;
            within = omega (arith, there);
            rest = behind.1;
            draws =
                draws_at c.args.window.now c.args.rows.now.items c.args.admitted.now c.args.grid.now (c.loop-number.number + 1)
                _ w.note_columns.new.self c.if-shows_row.legend _ _ _ w.legend-is (ap string_bytes w.text-is)
                (draws_more c.args.window.now c.args.rows.now.items c.args.admitted.now c.args.grid.now c.loop-number.number
                _ _ _ _ _ _ _ w.index_mut-row.result.now w.shown.result.now w.in_ok-columns.columns.items w.as_slice.result.now
                w.as_slice-then-shows_row.result.now c.loop-number.invariant.draws (c.shows_row.ensures.0 w.if-shows_row.true)
                row w.shown.ensures w.in_ok-columns.ensures w.as_slice.ensures.value w.as_slice-then-shows_row.ensures.value
                w.in_ok-note_runs.ensures w.in_ok-write_row.ensures w.in_ok-note_columns.ensures);
          }
      | else-shows_row w ↦ record {
        count = ap (λ rows. length rows.items) w.rows-is ∙ c.loop-number.invariant.count;
        within = omega (arith, there);
        rest = λ p h. ap (λ rows. map_row_of rows.items p) w.rows-is ∙ c.loop-number.invariant.rest p (omega (arith, h));
        draws =
            draws_at c.args.window.now c.args.rows.now.items c.args.admitted.now c.args.grid.now (c.loop-number.number + 1) _
            c.loop-number.legend c.if-shows_row.legend _ _ _ w.legend-is (ap string_bytes w.text-is)
            (draws_same c.args.window.now c.args.rows.now.items c.args.admitted.now c.args.grid.now c.loop-number.number _ _ _ _
            c.loop-number.invariant.draws (test_fails _ _ c.shows_row.ensures w.if-shows_row.false));
      }
    ]
