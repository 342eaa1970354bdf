-- What is there when something comes due, and from where a processor pulls.
use Rattle.std.proofs.Common.{◌≡◌, ◌≢◌, ℕ, ◌<◌, inl, inr, Bool, true, false, List, length, Option, Some, None, refl, sym, subst, ap, ◌∙◌, arith}
use Rattle.std.specs.Prelude.{◌==◌, if◌then◌else◌, option_and_then, slice_get}
use Rattle.std.specs.Option.{option_map_or}
use Rattle.std.proofs.lemmas.Bool.{eq-eqb}
use Rattle.std.proofs.lemmas.Option.{none-some, same_Some, slice_get_within}
use Rattle.bq_workload.specs.declared.due.Due.TheVariants.{Look, Tick}
use Rattle.bq_workload.specs.declared.processor_state.ProcessorState.{ProcessorState}
use Rattle.bq_workload.specs.Accounts.{Accounts, LooksAt, TicksAt}
use Rattle.bq_workload.specs.Dues.{HasLargest, IsSource, other_than, size_at, until}
use Rattle.bq_workload.specs.Next.{comes_at}
use Rattle.bq_workload.proofs.ListLemmas.{some_or_none}
use Rattle.bq_workload.proofs.ProcessorAgreesLemmas.{look-of, look_at, tick-of, tick_at}
use Rattle.bq_simulate.proofs.NothingMissedLemmas.{until_is}

-- what comes until the end, if it comes
comes_then : (end now : ℕ) (o : Option ℕ) → option_and_then (until end) o ≡ Some now → o ≡ Some now
comes_then end now None h = absurd (none-some now h)
comes_then end now (Some x) h = ap (λ (n : ℕ). Some n) (until_is end x now h).0

-- when a tick comes its processor ticks then
pub ticks_now : (end processor now : ℕ) (a : Accounts) → comes_at end a (Tick processor) ≡ Some now → TicksAt a processor now
ticks_now end processor now a comes = elim (some_or_none (slice_get a.by_processor processor)) [
  | inl none ↦ absurd (none-some now (sym (ap (λ (o : Option ProcessorState). option_and_then (tick_at end) o) none) ∙ comes))
  | inr (l, at) ↦ record { processor_state = l; at = at; tick = comes_then end now l.tick (sym (tick-of end processor a l at) ∙ comes) }
]

-- when a look comes its processor looks then
pub looks_now : (end processor now : ℕ) (a : Accounts) → comes_at end a (Look processor) ≡ Some now → LooksAt a processor now
looks_now end processor now a comes = elim (some_or_none (slice_get a.by_processor processor)) [
  | inl none ↦ absurd (none-some now (sym (ap (λ (o : Option ProcessorState). option_and_then (look_at end) o) none) ∙ comes))
  | inr (l, at) ↦ record { processor_state = l; at = at; look = comes_then end now l.look (sym (look-of end processor a l at) ∙ comes) }
]

-- a processor that has tasks is there
sized_there : (ls : List ProcessorState) (processor : ℕ) → 1 < size_at ls processor → processor < length ls
sized_there ls processor some = elim (some_or_none (slice_get ls processor)) [
  | inl none ↦ absurd (omega (arith, some, ap (λ (o : Option ProcessorState). option_map_or (λ (l : ProcessorState). l.size) o 0) none))
  | inr (l, at) ↦ slice_get_within ls processor l at
]

-- what is another than a processor
other_is : (b : Bool) (processor best from : ℕ) → (best == processor) ≡ b → (if b then None else Some best) ≡ Some from
    → (best ≡ from) × (processor ≢ from)
other_is true processor best from test h = absurd (none-some from h)
other_is false processor best from test h =
    let same : best ≡ from = same_Some best from h in
    (same, λ e. let equal : best ≡ processor = same ∙ sym e in let yes = eq-eqb best processor equal in cc)

-- the processor from which one pulls is another, and is there
pub pulls_from : (ls : List ProcessorState) (processor from : ℕ)
    → IsSource ls processor (Some from) → (from < length ls) × (processor ≢ from)
pulls_from ls processor from h = by_case h.largest h.has h.other
  where
    by_case : (largest : Option ℕ) → HasLargest ls 64 largest → Some from ≡ other_than processor largest
        → (from < length ls) × (processor ≢ from)
    by_case None has is = absurd (none-some from (sym is))
    by_case (Some best) has is =
        let o = other_is (best == processor) processor best from refl (sym is) in
        (subst (λ n. n < length ls) o.0 (sized_there ls best has.several), o.1)
