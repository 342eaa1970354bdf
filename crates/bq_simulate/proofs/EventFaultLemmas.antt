-- Which faults an event cannot have: if it can be read and is not refused, it fails only if memory runs out.
use Rattle.std.proofs.Common.{ℕ, inl, inr, Option, Some, None, refl, sym, subst, ◌∙◌, arith}
use Rattle.std.proofs.lemmas.Option.{none-some}
use Rattle.bq_parts.specs.declared.event.Event.TheVariants.{Admit, Retire, Draw, Install, BeginWake, EndWake, Drain, Tick, Block, Pull}
use Rattle.bq_simulate.specs.declared.drive_fault.DriveFault.TheVariants as fault
use Rattle.bq_simulate.specs.Agreement.{IsAnswerTo, IsReadable}
use Rattle.bq_simulate.specs.AgreementLaws.{AnswersFit, OnlyMemoryIsWanted}
use Rattle.bq_simulate.specs.Drives.{ReadingFalls, reading_of_event}

-- a reading that can be given doesn't fall
readable : (last : ℕ) (reading : Option ℕ) → IsReadable last reading → ReadingFalls last reading → ⊥
readable last None h falls = falls
readable last (Some now) h (inl early) = omega (arith, h.0, early)
readable last (Some now) h (inr late) = omega (arith, h.1, late)

-- what can be read and is not refused fails only if memory is wanted
pub only_memory_is_wanted : OnlyMemoryIsWanted
only_memory_is_wanted d event fault.OutOfMemory h taken why = refl
only_memory_is_wanted d event (fault.Refused refusal) h taken why = absurd (none-some refusal (sym taken ∙ why))
only_memory_is_wanted d event fault.Reading h taken why = absurd (readable d.now (reading_of_event event) h why)

-- an answer is of its event's kind
pub answers_fit : AnswersFit
answers_fit d w v (Admit id nice mask slice) calls r step = subst (IsAnswerTo (Admit id nice mask slice)) (sym step.1.1.1) tt
answers_fit d w v (Retire id) calls r step = subst (IsAnswerTo (Retire id)) (sym step.1.1.1) tt
answers_fit d w v Draw calls r step = subst (IsAnswerTo Draw) (sym step.1.0) tt
answers_fit d w v (Install processor hook g policy) calls r step = subst (IsAnswerTo (Install processor hook g policy)) (sym step.1.1.1) tt
answers_fit d w v (BeginWake processor id) calls r step = subst (IsAnswerTo (BeginWake processor id)) (sym step.1.2.replies) tt
answers_fit d w v (EndWake processor now) calls r step = subst (IsAnswerTo (EndWake processor now)) (sym step.1.3) tt
answers_fit d w v (Drain processor now) calls r step = subst (IsAnswerTo (Drain processor now)) (sym step.1.1.3) tt
answers_fit d w v (Tick processor now) calls r step = subst (IsAnswerTo (Tick processor now)) (sym step.1.1.3) tt
answers_fit d w v (Block processor now) calls r step = subst (IsAnswerTo (Block processor now)) (sym step.1.2.1.2) tt
answers_fit d w v (Pull processor from now) calls r step = subst (IsAnswerTo (Pull processor from now)) (sym step.1.2.replies) tt
