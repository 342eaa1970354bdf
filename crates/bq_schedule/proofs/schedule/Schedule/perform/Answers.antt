use Rattle.std.proofs.Common.{◌≡◌, ◌≢◌, ℕ, ℤ, Option, refl, sym, ◌∙◌, ap}
use Rattle.bq_hooks.specs.declared.settled.By.{By}
use Rattle.bq_parts.specs.declared.event.Event.{Event}
use Rattle.bq_parts.specs.declared.event.Event.TheVariants.{Admit, Retire, Draw, Install, BeginWake, EndWake, Drain, Tick, Block, Pull}
use Rattle.bq_parts.specs.declared.reply.Reply.{Reply}
use Rattle.bq_parts.specs.declared.reply.Reply.TheVariants.{Admitted, Retired, Drawn, Installed, Begun, Placed, Drained, Ticked, Blocked as Went, Pulled}
use Rattle.bq_schedule.specs.Figures.{Figures}
use Rattle.bq_schedule.specs.Steps.{emptied, figures_decided, performed, report_of_answer, nothing}
use Rattle.bq_schedule.specs.declared.change.Decision.{Decision}
use Rattle.bq_schedule.proofs.schedule.Schedule.perform.Goals as goal
use Rattle.bq_schedule.proofs.schedule.Schedule.perform.Goals.{in_default-via-in-Admit+in_default, in_default-via-in-EndWake+in_default, in_default-via-in-Drain+in_default, in_default-via-in-Tick+in_default, in_default-via-in-Block+in_default, in_default-via-in-Pull+in_default, in_default-via-in_default}

-- the answer changes nothing: it is of another kind than its event
abbrev Stands : Figures → Event → Reply → Type 0
Stands s e r = (performed s e r ≡ s) × (report_of_answer s e r ≡ nothing)

other_admit : (s : Figures) (id : ℕ) (nice : ℤ) (mask slice : ℕ) (r : Reply) → (r ≢ Admitted) → Stands s (Admit id nice mask slice) r
other_admit s id nice mask slice Admitted differs = absurd (differs refl)
other_admit s id nice mask slice Retired differs = (refl, refl)
other_admit s id nice mask slice (Drawn g) differs = (refl, refl)
other_admit s id nice mask slice Installed differs = (refl, refl)
other_admit s id nice mask slice (Begun t l) differs = (refl, refl)
other_admit s id nice mask slice (Placed t to b n) differs = (refl, refl)
other_admit s id nice mask slice (Drained k run b n) differs = (refl, refl)
other_admit s id nice mask slice (Ticked run b n) differs = (refl, refl)
other_admit s id nice mask slice (Went t run) differs = (refl, refl)
other_admit s id nice mask slice (Pulled t run b n) differs = (refl, refl)

other_endwake : (s : Figures) (processor now : ℕ) (r : Reply)
    → ((t to : ℕ) (b : By) (n : ℕ) → r ≢ Placed t to b n) → Stands s (EndWake processor now) r
other_endwake s processor now Admitted differs = (refl, refl)
other_endwake s processor now Retired differs = (refl, refl)
other_endwake s processor now (Drawn g) differs = (refl, refl)
other_endwake s processor now Installed differs = (refl, refl)
other_endwake s processor now (Begun t l) differs = (refl, refl)
other_endwake s processor now (Placed t to b n) differs = absurd (differs t to b n refl)
other_endwake s processor now (Drained k run b n) differs = (refl, refl)
other_endwake s processor now (Ticked run b n) differs = (refl, refl)
other_endwake s processor now (Went t run) differs = (refl, refl)
other_endwake s processor now (Pulled t run b n) differs = (refl, refl)

other_drain : (s : Figures) (processor now : ℕ) (r : Reply) → ((k : ℕ) (run : Option ℕ) (b : By) (n : ℕ) → r ≢ Drained k run b n)
    → Stands s (Drain processor now) r
other_drain s processor now Admitted differs = (refl, refl)
other_drain s processor now Retired differs = (refl, refl)
other_drain s processor now (Drawn g) differs = (refl, refl)
other_drain s processor now Installed differs = (refl, refl)
other_drain s processor now (Begun t l) differs = (refl, refl)
other_drain s processor now (Placed t to b n) differs = (refl, refl)
other_drain s processor now (Drained k run b n) differs = absurd (differs k run b n refl)
other_drain s processor now (Ticked run b n) differs = (refl, refl)
other_drain s processor now (Went t run) differs = (refl, refl)
other_drain s processor now (Pulled t run b n) differs = (refl, refl)

other_tick : (s : Figures) (processor now : ℕ) (r : Reply) → ((run : Option ℕ) (b : By) (n : ℕ) → r ≢ Ticked run b n)
    → Stands s (Tick processor now) r
other_tick s processor now Admitted differs = (refl, refl)
other_tick s processor now Retired differs = (refl, refl)
other_tick s processor now (Drawn g) differs = (refl, refl)
other_tick s processor now Installed differs = (refl, refl)
other_tick s processor now (Begun t l) differs = (refl, refl)
other_tick s processor now (Placed t to b n) differs = (refl, refl)
other_tick s processor now (Drained k run b n) differs = (refl, refl)
other_tick s processor now (Ticked run b n) differs = absurd (differs run b n refl)
other_tick s processor now (Went t run) differs = (refl, refl)
other_tick s processor now (Pulled t run b n) differs = (refl, refl)

other_block : (s : Figures) (processor now : ℕ) (r : Reply) → ((t : ℕ) (run : Option ℕ) → r ≢ Went t run) → Stands s (Block processor now) r
other_block s processor now Admitted differs = (refl, refl)
other_block s processor now Retired differs = (refl, refl)
other_block s processor now (Drawn g) differs = (refl, refl)
other_block s processor now Installed differs = (refl, refl)
other_block s processor now (Begun t l) differs = (refl, refl)
other_block s processor now (Placed t to b n) differs = (refl, refl)
other_block s processor now (Drained k run b n) differs = (refl, refl)
other_block s processor now (Ticked run b n) differs = (refl, refl)
other_block s processor now (Went t run) differs = absurd (differs t run refl)
other_block s processor now (Pulled t run b n) differs = (refl, refl)

other_pull : (s : Figures) (processor from now : ℕ) (r : Reply)
    → ((t run : Option ℕ) (b : By) (n : ℕ) → r ≢ Pulled t run b n) → Stands s (Pull processor from now) r
other_pull s processor from now Admitted differs = (refl, refl)
other_pull s processor from now Retired differs = (refl, refl)
other_pull s processor from now (Drawn g) differs = (refl, refl)
other_pull s processor from now Installed differs = (refl, refl)
other_pull s processor from now (Begun t l) differs = (refl, refl)
other_pull s processor from now (Placed t to b n) differs = (refl, refl)
other_pull s processor from now (Drained k run b n) differs = (refl, refl)
other_pull s processor from now (Ticked run b n) differs = (refl, refl)
other_pull s processor from now (Went t run) differs = (refl, refl)
other_pull s processor from now (Pulled t run b n) differs = absurd (differs t run b n refl)

other_event : (s : Figures) (e : Event) (r : Reply) → ((id : ℕ) (nice : ℤ) (mask slice : ℕ) → e ≢ Admit id nice mask slice)
    → ((processor now : ℕ) → e ≢ EndWake processor now) → ((processor now : ℕ) → e ≢ Drain processor now)
    → ((processor now : ℕ) → e ≢ Tick processor now) → ((processor now : ℕ) → e ≢ Block processor now)
    → ((processor from now : ℕ) → e ≢ Pull processor from now)
    → Stands s e r
other_event s (Admit id nice mask slice) r a w d t b p = absurd (a id nice mask slice refl)
other_event s (Retire id) r a w d t b p = (refl, refl)
other_event s Draw r a w d t b p = (refl, refl)
other_event s (Install processor hook generation policy) r a w d t b p = (refl, refl)
other_event s (BeginWake processor id) r a w d t b p = (refl, refl)
other_event s (EndWake processor now) r a w d t b p = absurd (w processor now refl)
other_event s (Drain processor now) r a w d t b p = absurd (d processor now refl)
other_event s (Tick processor now) r a w d t b p = absurd (t processor now refl)
other_event s (Block processor now) r a w d t b p = absurd (b processor now refl)
other_event s (Pull processor from now) r a w d t b p = absurd (p processor from now refl)

stands : (c : goal.After-nothing-in_default) → Stands c.args.self.now c.args.event.now c.args.reply.now
stands c = elim c.in_default.branch [
  | in_default-via-in-Admit+in_default w ↦
      rw w.in_default.is-0 (other_admit _ _ _ w.in_default.field-2-0 w.in_default.field-3-0 _ w.in_default.not-Admitted-1)
  | in_default-via-in-EndWake+in_default w ↦ rw w.in_default.is-0 (other_endwake _ _ _ _ w.in_default.not-Placed-1)
  | in_default-via-in-Drain+in_default w ↦ rw w.in_default.is-0 (other_drain _ _ _ _ w.in_default.not-Drained-1)
  | in_default-via-in-Tick+in_default w ↦ rw w.in_default.is-0 (other_tick _ _ _ _ w.in_default.not-Ticked-1)
  | in_default-via-in-Block+in_default w ↦ rw w.in_default.is-0 (other_block _ _ _ _ w.in_default.not-Blocked-1)
  | in_default-via-in-Pull+in_default w ↦ rw w.in_default.is-0 (other_pull _ _ _ _ _ w.in_default.not-Pulled-1)
  | in_default-via-in_default w ↦
      other_event _ _ _ w.in_default.not-Admit-0 w.in_default.not-EndWake-0 w.in_default.not-Drain-0 w.in_default.not-Tick-0
      w.in_default.not-Block-0 w.in_default.not-Pull-0
]

pub returns-in_default-clause-figures : goal.returns-in_default-clause-figures
returns-in_default-clause-figures c = sym (stands c).0

pub returns-in_default-clause-change : goal.returns-in_default-clause-change
returns-in_default-clause-change c = c.nothing-in_default.ensures ∙ sym (stands c).1

pub returns-in-Drain-Drained-clause-figures : goal.returns-in-Drain-Drained-clause-figures
returns-in-Drain-Drained-clause-figures c =
    let processor = c.in-Drain-Drained.processor in
    rw (c.in-Drain-Drained.is-0, c.in-Drain-Drained.is-1)
    (c.drain.ensures.figures
    ∙ ap (λ (d : Decision). emptied processor (figures_decided processor c.in-Drain-Drained.now d c.in-Drain-Drained.run' c.args.self.now))
    c.new-in-Drain-Drained.ensures)

pub returns-in-Block-Blocked-clause-figures : goal.returns-in-Block-Blocked-clause-figures
returns-in-Block-Blocked-clause-figures c = rw (c.in-Block-Blocked.is-0, c.in-Block-Blocked.is-1) c.block.ensures.figures
