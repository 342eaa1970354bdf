use Rattle.std.specs.Prelude.{codes, string_bytes}
use Rattle.std.proofs.lemmas.Result.{on_ok_weaker}
use Rattle.bq_report.proofs.DrawnLemmas.{map_of_no_time, map_of_time, pushed}
use Rattle.bq_report.proofs.map.MapScheduleForm.end.Goals as goal

pub returns-in-Some : goal.returns-in-Some
returns-in-Some c =
    on_ok_weaker c.write_over.result
    (λ drawn. (
      c.hold_last.new.self.rows.items,
      c.in_ok-hold_last.ensures.rows,
      map_of_time c.args.self.now.window c.hold_last.new.self.window c.args.names.now c.args.schedule.now
          c.args.self.now.admitted c.hold_last.new.self.admitted c.args.self.now.width c.hold_last.new.self.width
          c.hold_last.new.self.rows.items c.in-Some.extent _ _ c.hold_last.ensures.unchanged c.in-Some.ensures.window
          c.in-Some.ensures.extent drawn,
    )) c.write_over.ensures

pub returns-in-None : goal.returns-in-None
returns-in-None c =
    on_ok_weaker c.push_str.result (λ shows. (
      c.hold_last.new.self.rows.items,
      c.in_ok-hold_last.ensures.rows,
      map_of_no_time c.args.self.now.window c.hold_last.new.self.window c.args.names.now c.args.schedule.now
          c.args.self.now.admitted c.args.self.now.width c.hold_last.new.self.rows.items _ _ c.hold_last.ensures.unchanged.0
          c.in-None.ensures.none shows,
    )) (pushed c.push_str.result (string_bytes c.args.text.now) (codes "no time passes in what is shown\n")
    (string_bytes c.push_str.new.self) c.push_str.ensures.bytes)
