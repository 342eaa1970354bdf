use Rattle.bq_drawing.proofs.shapes.write_hatched.Goals as goal

pub returns : goal.returns
returns c = rw (← c.width-width.ensures, ← c.place-place.ensures, ← c.colour-colour.ensures) c.write.ensures.bytes
