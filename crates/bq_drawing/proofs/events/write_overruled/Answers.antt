use Rattle.bq_drawing.proofs.events.write_overruled.Goals as goal

pub returns : goal.returns
returns c = rw (← c.from.ensures, ← c.word-hook.ensures) c.write.ensures.bytes
