use Rattle.bq_machine.proofs.machine.Machine.owns.Goals as goal

pub returns : goal.returns
returns g c = (
  λ t s lt. c.owns.ensures.0 t s (rw c.args.self.now.seated lt),
  λ h. c.owns.ensures.1 (λ s lt. h s (rw (← c.args.self.now.seated) lt)),
)
