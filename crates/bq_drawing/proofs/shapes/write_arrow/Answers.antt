use Rattle.bq_drawing.proofs.shapes.write_arrow.Goals as goal

pub returns : goal.returns
returns c = rw (← c.saturating_sub-begin.ensures, ← c.place-place.ensures, ← c.colour-colour.ensures) c.write.ensures.bytes
