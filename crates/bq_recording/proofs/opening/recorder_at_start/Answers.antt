use Rattle.std.proofs.Common.{◌≡◌, ◌∷◌, [], List, ℕ, replicate, ap, sym, ◌∙◌, arith}
use Rattle.bq_history.specs.Whole.{first_item, others_of}
use Rattle.bq_history.specs.Items.{journal_item}
use Rattle.bq_parts.specs.World.{opening_world}
use Rattle.bq_shared.specs.declared.journal_state.JournalState.{JournalState}
use Rattle.bq_shared.proofs.LoadLemmas.{opening_loads}
use Rattle.bq_shared.specs.Parts.{journal_state_of}
use Rattle.bq_recording.proofs.opening.recorder_at_start.Goals as goal

pub open-journal-requires : goal.open-journal-requires
open-journal-requires g c =
    let p = c.args.prepared.1 in
    let none : journal_state_of (opening_world p.setup) ≡ record { drawn = 0; loads = c.zero_loads.result } =
    ap (λ (ls : List ℕ). record { drawn = 0; loads = ls })
    (opening_loads p.setup ∙ ap (λ (n : ℕ). replicate n 0) c.requires.counts.0 ∙ sym c.zero_loads.ensures) in
    record { first = ap first_item c.named-history.ensures.1 ∙ ap (λ (k : JournalState). journal_item [] k ∷ []) none }

pub returns-clause-items : goal.returns-clause-items
returns-clause-items g c = rw c.requires.counts.0 at (c.open-journal.ensures.0 ∙ ap others_of c.named-history.ensures.1)

pub invariant_of-recorder : goal.invariant_of-recorder
invariant_of-recorder g c =
    let of = c.named-history.ensures.0 in
    record {
      few = omega (arith, ap (λ s. s.setup) of, c.requires.counts.0, c.requires.few);
      same = c.named-counters.ensures.0 ∙ c.requires.counts.1 ∙ sym (ap (λ s. s.callers) of);
    }
