use Rattle.bq_drawing.proofs.events.write_run_event.Goals as goal

pub returns : goal.returns
returns c = rw (← c.saturating_sub.ensures) c.write.ensures.bytes
