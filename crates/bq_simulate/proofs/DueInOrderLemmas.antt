-- Things that come due in their order and are met, one after another, and what the deeds of that leave.
use Rattle.std.proofs.Common.{◌≡◌, ℕ, ◌+◌, ◌≤◌, List, [], ◌∷◌, ◌++◌, refl, sym, ap, ◌∙◌, subst, arith, append-nil, length, length-append}
use Rattle.std.proofs.lemmas.Grind.{flat_map-append}
use Rattle.bq_workload.specs.declared.due.Due.{Due}
use Rattle.bq_parts.specs.declared.event.Event.{Event}
use Rattle.bq_workload.specs.declared.periods.Periods.{Periods}
use Rattle.bq_workload.specs.declared.workload.TaskKind.{TaskKind}
use Rattle.bq_workload.specs.Next.{IsNextDue}
use Rattle.bq_simulate.specs.Deeds.{Book, Deed, after_deed, after_deeds}
use Rattle.bq_simulate.specs.Steps.{AreAllMet, AreInOrder, AreJustEvents, AreMet, DeedsMeet, InstantsRise, MetDue, deeds_of}

-- some events, and then others
pub AreJustEvents-join : (xs ys : List Event) (ds es : List Deed) → AreJustEvents xs ds → AreJustEvents ys es → AreJustEvents (xs ++ ys) (ds ++ es)
AreJustEvents-join [] ys ds es h k = subst (λ (l : List Deed). AreJustEvents ys (l ++ es)) (sym h) k
AreJustEvents-join (x ∷ xs) ys ds es (reply, more, is, rest) k =
    (reply, more ++ es, ap (λ (l : List Deed). l ++ es) is, AreJustEvents-join xs ys more es rest k)

-- instants that never fall, and one more
InstantsRise-more : (first last : ℕ) (steps : List MetDue) (step : MetDue)
    → InstantsRise first steps last → last ≤ step.at → InstantsRise first (steps ++ step ∷ []) step.at
InstantsRise-more first last [] step h k = (omega (arith, h, k), omega arith)
InstantsRise-more first last (s ∷ steps) step h k = (h.0, InstantsRise-more s.at last steps step h.1 k)

-- until a later instant they never fall either
pub InstantsRise-later : (first last later : ℕ) (steps : List MetDue) → InstantsRise first steps last → last ≤ later → InstantsRise first steps later
InstantsRise-later first last later [] h k = omega (arith, h, k)
InstantsRise-later first last later (s ∷ steps) h k = (h.0, InstantsRise-later s.at last later steps h.1 k)

-- nothing has come due yet
pub AreMet-none : (kinds : List TaskKind) (seed : ℕ) (periods : Periods) (b : Book) → AreAllMet kinds seed periods 0 0 b []
AreMet-none kinds seed periods b = (record { steps = []; whole = refl; rise = omega arith; few = omega arith; order = tt }, refl)

-- what is kept after some deeds, and then others
pub after-append : (kinds : List TaskKind) (seed : ℕ) (periods : Periods) (b : Book) (xs ys : List Deed)
    → after_deeds kinds seed periods b (xs ++ ys) ≡ after_deeds kinds seed periods (after_deeds kinds seed periods b xs) ys
after-append kinds seed periods b [] ys = refl
after-append kinds seed periods b (x ∷ xs) ys = after-append kinds seed periods (after_deed kinds seed periods x b) xs ys

-- in order, and one thing more that is the next
order-more : (kinds : List TaskKind) (seed : ℕ) (periods : Periods) (b : Book) (steps : List MetDue) (step : MetDue)
    → AreInOrder kinds seed periods b steps
    → IsNextDue periods.end (after_deeds kinds seed periods b (deeds_of steps)).accounts step.due step.at
    → AreInOrder kinds seed periods b (steps ++ step ∷ [])
order-more kinds seed periods b [] step h next = (next, tt)
order-more kinds seed periods b (s ∷ steps) step h next =
    let later : after_deeds kinds seed periods b (deeds_of (s ∷ steps))
    ≡ after_deeds kinds seed periods (after_deeds kinds seed periods b s.deeds) (deeds_of steps) =
    after-append kinds seed periods b s.deeds (deeds_of steps) in (
      h.0,
      order-more kinds seed periods (after_deeds kinds seed periods b s.deeds) steps step h.1
          (subst (λ (x : Book). IsNextDue periods.end x.accounts step.due step.at) later next),
    )

-- one thing more comes due, the next
pub AreMet-more : (kinds : List TaskKind) (seed : ℕ) (periods : Periods) (b : Book) (due : Due)
    (count last now : ℕ) (ds es : List Deed)
    → last ≤ now → AreAllMet kinds seed periods count last b ds
    → IsNextDue periods.end (after_deeds kinds seed periods b ds).accounts due now → DeedsMeet due now es
    → AreAllMet kinds seed periods (count + 1) now b (ds ++ es)
AreMet-more kinds seed periods b due count last now ds es later (met, all) next meet =
    let step : MetDue = record { due = due; at = now; deeds = es; meet = meet } in
    let added : deeds_of (met.steps ++ step ∷ []) ≡ deeds_of met.steps ++ es =
    flat_map-append (λ (s : MetDue). s.deeds) met.steps (step ∷ []) ∙ ap (λ l. deeds_of met.steps ++ l) (append-nil es) in
    let longer : length (met.steps ++ step ∷ []) ≡ count + 1 = omega (arith, all, length-append met.steps (step ∷ [])) in (
      record {
        steps = met.steps ++ step ∷ [];
        whole = ap (λ l. l ++ es) met.whole ∙ sym added;
        rise = InstantsRise-more 0 last met.steps step met.rise later;
        few = omega (arith, longer);
        order =
            order-more kinds seed periods b met.steps step met.order
            (subst (λ (l : List Deed). IsNextDue periods.end (after_deeds kinds seed periods b l).accounts due now) met.whole next);
      },
      longer,
    )

-- no more than this many, until no later than this
abbrev pub AreMet-within : (kinds : List TaskKind) (seed : ℕ) (periods : Periods) (few most last end : ℕ)
    (b : Book) (ds : List Deed)
    → few ≤ most → last ≤ end → AreMet kinds seed periods few last b ds
    → AreMet kinds seed periods most end b ds
AreMet-within kinds seed periods few most last end b ds low later met = record {
  steps = met.steps;
  whole = met.whole;
  rise = InstantsRise-later 0 last end met.steps met.rise later;
  few = omega (arith, met.few, low);
  order = met.order;
}

-- as many things as were counted are met, until an end that is no earlier
pub AreAllMet-within : (kinds : List TaskKind) (seed : ℕ) (periods : Periods) (count most last end : ℕ)
    (b : Book) (ds : List Deed)
    → count ≡ most → last ≤ end → AreAllMet kinds seed periods count last b ds
    → AreAllMet kinds seed periods most end b ds
AreAllMet-within kinds seed periods count most last end b ds same later (met, all) =
    (AreMet-within kinds seed periods count most last end b ds (omega (arith, same)) later met, all ∙ same)
