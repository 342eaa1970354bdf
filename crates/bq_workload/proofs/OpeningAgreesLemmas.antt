-- The event queue of the opening, which has the first looks, agrees with the accounts.
use Rattle.std.proofs.Common.{◌≡◌, ℕ, ◌+◌, ◌<◌, ◌≤◌, inl, inr, Bool, List, [], Option, None, refl, sym, ap, ◌∙◌, subst, arith, replicate, min}
use Rattle.std.specs.Prelude.{◌&&◌, option_and_then, slice_get, if◌then◌else◌, nat_lt}
use Rattle.std.proofs.lemmas.Bool.{cases_lt, le-leb, le-ltb, lt-leb, lt-ltb}
use Rattle.std.proofs.lemmas.Option.{none-some}
use Rattle.bq_workload.specs.declared.due.Due.{Due}
use Rattle.bq_workload.specs.declared.due.Due.TheVariants.{End, Wake, Tick, Look}
use Rattle.bq_workload.specs.declared.processor_state.ProcessorState.{ProcessorState}
use Rattle.bq_workload.specs.declared.due.TheConstants.{FIRST_LOOK}
use Rattle.bq_workload.specs.declared.roster.Roster.{Roster}
use Rattle.bq_workload.specs.Accounts.{Accounts, accounts_of, processor_at_rest, first_look, opening_accounts}
use Rattle.bq_workload.specs.Dues.{IsDue, due_rank, until, AreLooks, look_of}
use Rattle.bq_workload.specs.Minima.{due_number}
use Rattle.bq_workload.specs.Next.{AgreesAt, HaveHomes, comes_at, phase_ends_at, QueueAgrees, IsAgreed}
use Rattle.bq_workload.proofs.ListLemmas.{some_or_none, at-replicate, past-replicate, there-replicate}
use Rattle.bq_workload.proofs.ProcessorAgreesLemmas.{tick_at, look_at, AgreesBut, with_end, look-of}
use Rattle.bq_disc.specs.declared.limits.TheConstants.{PROCESSORS}

-- what the same processors do not say
nothing-read : {B : Type 0} (v : ProcessorState → Option B) (count k : ℕ) (processor_state : ProcessorState)
    → v processor_state ≡ None → option_and_then v (slice_get (replicate count processor_state) k) ≡ None
nothing-read {B} v count k processor_state none = elim (some_or_none (slice_get (replicate count processor_state) k)) [
  | inl nothing ↦ ap (λ (o : Option ProcessorState). option_and_then v o) nothing
  | inr (l, at) ↦
      ap (λ (o : Option ProcessorState). option_and_then v o) at
      ∙ ap v (sym (at-replicate count k processor_state l at).1) ∙ none
]

-- no rank before those of looks, and none after the last of this many, is due at the opening
look-past : (count : ℕ) (time : Option ℕ) (rank : ℕ) → rank < FIRST_LOOK → look_of count time rank ≡ None
look-past count time rank low = ap (λ (b : Bool). if b && nat_lt rank (FIRST_LOOK + count) then time else None) (lt-leb FIRST_LOOK rank low)

look-after : (count : ℕ) (time : Option ℕ) (q : ℕ) → count ≤ q → look_of count time (FIRST_LOOK + q) ≡ None
look-after count time q high =
    ap (λ (b : Bool). if b && nat_lt (FIRST_LOOK + q) (FIRST_LOOK + count) then time else None) (le-leb FIRST_LOOK (FIRST_LOOK + q) (omega arith))
    ∙ ap (λ (b : Bool). if b then time else None) (le-ltb (FIRST_LOOK + q) (FIRST_LOOK + count) (omega arith))

-- each of this many processors looks at that time at the opening
look-within : (count : ℕ) (time : Option ℕ) (q : ℕ) → q < count → look_of count time (FIRST_LOOK + q) ≡ time
look-within count time q low =
    ap (λ (b : Bool). if b && nat_lt (FIRST_LOOK + q) (FIRST_LOOK + count) then time else None) (le-leb FIRST_LOOK (FIRST_LOOK + q) (omega arith))
    ∙ ap (λ (b : Bool). if b then time else None) (lt-ltb (FIRST_LOOK + q) (FIRST_LOOK + count) (omega arith))

-- what does not come at the opening
quiet : (end count : ℕ) (time : Option ℕ) (a : Accounts) (x : List ℕ) (due : Due)
    → AreLooks count time x → (IsDue due → due_rank due < FIRST_LOOK) → comes_at end a due ≡ None
    → AgreesAt end a x due
quiet end count time a x due looks low none = record {
  at = λ there.
      let few : due_rank due < FIRST_LOOK = low there in
      looks (due_rank due) (omega arith) ∙ ap (due_number (due_rank due)) (look-past count time (due_rank due) few)
      ∙ ap (due_number (due_rank due)) (sym none);
  there = λ t some. absurd (none-some t (sym none ∙ some));
}

-- at the opening, where the event queue has the first looks, it agrees
pub opening-agrees : (end processors balance : ℕ) (x : List ℕ)
    → processors ≤ PROCESSORS → AreLooks (min processors PROCESSORS) (option_and_then (until end) (first_look processors balance)) x
    → QueueAgrees end (opening_accounts processors balance) x
opening-agrees end processors balance x few looks =
    let processor_state : ProcessorState = processor_at_rest (first_look processors balance) in
    let time = option_and_then (until end) (first_look processors balance) in
    let count = min processors PROCESSORS in
    let all : count ≡ processors = omega arith in
    let a : Accounts = opening_accounts processors balance in
    let look : (q : ℕ) → AgreesAt end a x (Look q) = λ q. elim (cases_lt q processors) [
      | inl low ↦
          let comes : comes_at end a (Look q) ≡ time = look-of end q a processor_state (there-replicate processors q processor_state low) in
          record {
            at = λ there.
                looks (FIRST_LOOK + q) (omega arith) ∙ ap (due_number (FIRST_LOOK + q)) (look-within count time q (omega arith))
                ∙ ap (due_number (FIRST_LOOK + q)) (sym comes);
            there = λ t some. omega arith;
          }
      | inr high ↦
          let comes : comes_at end a (Look q) ≡ None =
          ap (λ (o : Option ProcessorState). option_and_then (look_at end) o)
          (past-replicate processors q processor_state high) in
          record {
            at = λ there.
                looks (FIRST_LOOK + q) (omega arith) ∙ ap (due_number (FIRST_LOOK + q)) (look-after count time q (omega arith))
                ∙ ap (due_number (FIRST_LOOK + q)) (sym comes);
            there = λ t some. absurd (none-some t (sym comes ∙ some));
          }
    ] in
    let homes : HaveHomes a = λ q task l at runs.
    absurd (none-some task (ap (λ (m : ProcessorState). m.run) (at-replicate processors q processor_state l at).1 ∙ runs)) in
    let rest : AgreesBut end PROCESSORS a x = record {
      ends = λ q other.
          quiet end count time a x (End q) looks (λ there. omega arith)
          (nothing-read (phase_ends_at end []) processors q processor_state refl);
      wakes = λ k. quiet end count time a x (Wake k) looks (λ there. omega arith) refl;
      ticks = λ q.
          quiet end count time a x (Tick q) looks (λ there. omega arith)
          (nothing-read (tick_at end) processors q processor_state refl);
      looks = look;
      homes = homes;
    } in
    record {
      all =
          with_end end PROCESSORS a x rest (quiet end count time a x (End PROCESSORS) looks (λ there. omega arith)
          (nothing-read (phase_ends_at end []) processors PROCESSORS processor_state refl));
      homes = homes;
    }

-- a roster at its opening
pub opening-agreed : (processors balance end : ℕ) (r : Roster)
    → processors ≤ PROCESSORS → accounts_of r ≡ opening_accounts processors balance → r.periods.end ≡ end
    → AreLooks (min processors PROCESSORS) (option_and_then (until end) (first_look processors balance)) r.event_queue
    → IsAgreed r
opening-agreed processors balance end r few is periods looks =
    subst (λ (n : ℕ). QueueAgrees n (accounts_of r) r.event_queue) (sym periods)
    (subst (λ (a : Accounts). QueueAgrees end a r.event_queue) (sym is) (opening-agrees end processors balance r.event_queue few looks))
