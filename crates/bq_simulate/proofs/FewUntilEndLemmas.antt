-- Fewer things come until the end than are counted for all instants until then.
use Rattle.std.proofs.Common.{◌≡◌, ℕ, ◌+◌, ◌-◌, ◌*◌, ◌^◌, ◌<◌, ◌≤◌, inl, inr, List, [], ◌∷◌, length, None, sym, subst, ◌∙◌, arith}
use Rattle.std.proofs.lemmas.Bool.{cases_eq}
use Rattle.bq_parts.specs.World.{count_in}
use Rattle.bq_trace.specs.TraceEvents.{Reported, TraceEvent}
use Rattle.bq_words.specs.Sizes.{processors_in}
use Rattle.bq_workload.specs.declared.due.Due.{Due}
use Rattle.bq_workload.specs.declared.periods.Periods.{Periods}
use Rattle.bq_workload.specs.declared.workload.Workload.{Workload}
use Rattle.bq_workload.specs.Accounts.{Accounts, accounts_of}
use Rattle.bq_workload.specs.Bounds.{most_steps, steps_at_once}
use Rattle.bq_workload.specs.Next.{IsNextDue}
use Rattle.bq_workload.specs.Soundness.{first_flaw}
use Rattle.bq_simulate.specs.declared.driver.Driver.{Driver}
use Rattle.bq_simulate.specs.declared.simulation.Simulation.{Simulation}
use Rattle.bq_simulate.specs.AtOnce.{steps_left_at}
use Rattle.bq_simulate.specs.Deeds.{Book, Deed, DeedsLead}
use Rattle.bq_simulate.specs.Kept.{IsKept}
use Rattle.bq_simulate.specs.KeptLaws.{FewComeAtOnce, FewComeUntilTheEnd, DeedsLeadIn}
use Rattle.bq_simulate.specs.GoingWell.{SimulationGoesWell, HasProcessors}
use Rattle.bq_simulate.specs.Simulations.{GoesOnBy, book_of, opening_book, periods_of, with_seed}
use Rattle.bq_simulate.specs.Steps.{AreInOrder, DeedsMeet, MetDue, deeds_of}
use Rattle.bq_simulate.proofs.AllIsKeptLemmas.{all_is_kept}
use Rattle.bq_simulate.proofs.BookLemmas.{kept-by}
use Rattle.bq_simulate.proofs.FewAtOnceLemmas.{few-left, processors_in-some}
use Rattle.bq_simulate.proofs.GoesWellLemmas.{met-well, processors_kept}
use Rattle.bq_simulate.proofs.MeetAgreeLemmas.{world_of}
use Rattle.bq_simulate.proofs.MeetLeftLemmas.{meet-takes}
use Rattle.bq_simulate.proofs.SimulationAgreeLemmas.{opened_open, part}

-- One instant

-- at an instant fewer things come than are counted for it, and each takes one of those that may
pub few_come_at_once : FewComeAtOnce
few_come_at_once = record {
  few = few-left;
  met = λ w d e b c due now deeds reported sound until next meet leads h.
      omega (arith, meet-takes w d e b c due now deeds reported sound until next meet leads h);
}

-- All instants

-- `came` things have come. With those that may still come now they are no more than are counted for all instants until now
abbrev pub IsCounted : Workload → ℕ → ℕ → Accounts → Type 0
IsCounted w came now a = came + steps_left_at w.tasks.items now a ≤ (now + 1) * (steps_at_once w - 1)

-- at least one thing is counted for an instant
some-at-once : (w : Workload) → 1 ≤ steps_at_once w
some-at-once w = omega (arith, processors_in-some w.machine.size)

-- nothing has come at first
pub none-came : (w : Workload) (d : Driver) (b : Book) → first_flaw w ≡ None → IsKept w.tasks.items 0 d b
    → length b.accounts.by_processor ≡ processors_in w.machine.size
    → IsCounted w 0 0 b.accounts
none-came w d b sound h many = omega (arith, few-left w 0 d b sound h many)

-- what has come, and what comes at a later instant, is counted for all instants until that one
later-counted : (came left next now more each : ℕ) → came + left ≤ (now + 1) * each → next ≤ each
    → came + next ≤ (now + more + 1 + 1) * each
later-counted came left next now more each h few = omega (arith, h, few)

-- the next thing comes at that instant or at a later one
pub comes-counted : (w : Workload) (came last now : ℕ) (d : Driver) (b : Book)
    → first_flaw w ≡ None → last ≤ now → IsKept w.tasks.items now d b
    → length b.accounts.by_processor ≡ processors_in w.machine.size → IsCounted w came last b.accounts
    → IsCounted w came now b.accounts
comes-counted w came last now d b sound low h many counted = elim (cases_eq last now) [
  | inl same ↦ subst (λ n. IsCounted w came n b.accounts) same counted
  | inr apart ↦
      let more : ℕ = now - last - 1 in
      let is : last + more + 1 ≡ now = omega (arith, low, apart) in
      let left : ℕ = steps_left_at w.tasks.items now b.accounts in
      subst (λ n. came + left ≤ (n + 1) * (steps_at_once w - 1)) is
      (later-counted came (steps_left_at w.tasks.items last b.accounts) left last more (steps_at_once w - 1) counted
      (omega (arith, few-left w now d b sound h many)))
]

-- the next thing that comes is counted once it is met
pub met-counted : (w : Workload) (came now : ℕ) (d e : Driver) (b c : Book) (due : Due) (deeds : List Deed)
    (reported : Reported)
    → first_flaw w ≡ None → now ≤ w.machine.duration → IsNextDue w.machine.duration b.accounts due now → DeedsMeet due now deeds
    → DeedsLeadIn w d b deeds reported e c → IsKept w.tasks.items now d b → IsCounted w came now b.accounts
    → IsCounted w (came + 1) now c.accounts
met-counted w came now d e b c due deeds reported sound until next meet leads h counted =
    omega (arith, counted, meet-takes w d e b c due now deeds reported sound until next meet leads h)

-- where one more is counted for each instant, fewer things have come than are counted until a later one
below : (came left now more each : ℕ) → came + left ≤ (now + 1) * each → came < (now + more + 1) * (each + 1)
below came left now more each h = omega (arith, h)

-- fewer things have come than are counted for all instants until the end
pub counted-below : (w : Workload) (came now : ℕ) (a : Accounts)
    → now ≤ w.machine.duration → IsCounted w came now a → came < (w.machine.duration + 1) * steps_at_once w
counted-below w came now a until counted =
    let each : ℕ = steps_at_once w - 1 in
    let end : now + (w.machine.duration - now) ≡ w.machine.duration = omega (arith, until) in
    let all : each + 1 ≡ steps_at_once w = omega (arith, some-at-once w) in
    subst (λ n. came < (w.machine.duration + 1) * n) all
    (subst (λ n. came < (n + 1) * (each + 1)) end (below came (steps_left_at w.tasks.items now a) now (w.machine.duration - now) each counted))

-- A simulation that goes well

-- it goes on so from one thing to the next
pub counted-well : {S : Type 0} (takes : S → ℕ → TraceEvent → S → Type 0) (x y : S) (w : Workload)
    (due : Due) (came last now : ℕ) (s t : Simulation)
    → last ≤ now → IsNextDue s.roster.periods.end (accounts_of s.roster) due now
    → GoesOnBy takes w.tasks.items (DeedsMeet due now) x s y t → SimulationGoesWell w now s → HasProcessors w s
    → IsCounted w came last (accounts_of s.roster)
    → HasProcessors w t × IsCounted w (came + 1) now (accounts_of t.roster)
counted-well takes x y w due came last now s t low next goes_on h many counted =
    let g = goes_on h.drawn h.streams h.firsts in
    let kinds = w.tasks.items in
    let seeded : Workload = with_seed w s.seed in
    let was : Book = book_of s h.drawn in
    let is : Book = book_of t g.after in
    let leads : DeedsLeadIn seeded s.driver was g.deeds g.reports.reported t.driver is =
    subst (λ (p : Periods). DeedsLead kinds s.seed p s.driver was g.deeds g.reports.reported t.driver is)
    h.periods g.reports.holds in
    let its : IsNextDue w.machine.duration (accounts_of s.roster) due now =
    subst (λ (p : Periods). IsNextDue p.end (accounts_of s.roster) due now) h.periods next in
    let after : SimulationGoesWell w now t = met-well takes x y w due now s t goes_on h in
    let still = processors_kept kinds s.seed (periods_of w.machine) s.driver t.driver was is g.deeds g.reports.reported leads in
    let before : IsCounted w came now (accounts_of s.roster) =
    comes-counted w came last now s.driver was h.sound low h.kept many counted in (
      after.kept.agrees.mirrors.processors.many ∙ still ∙ sym h.kept.agrees.mirrors.processors.many ∙ many,
      met-counted seeded came now s.driver t.driver was is due g.deeds g.reports.reported h.sound h.until its g.are leads h.kept before,
    )

-- as many come as the bound, as far as 64 bits count, only where they do not count it
pub bound-passed : (w : Workload) (came now most : ℕ) (a : Accounts)
    → now ≤ w.machine.duration → most ≤ came → most ≡ most_steps w → IsCounted w came now a
    → 2 ^ 64 ≤ (w.machine.duration + 1) * steps_at_once w
bound-passed w came now most a until all is counted = omega (arith, all, is, counted-below w came now a until counted)

-- A whole simulation

-- fewer things come, with those that came before, than are counted for all instants until the end
steps_counted : (w : Workload) (d e : Driver) (b c : Book) (steps : List MetDue) (reported : Reported) (now came : ℕ)
    → first_flaw w ≡ None → AreInOrder w.tasks.items w.machine.seed (periods_of w.machine) b steps
    → DeedsLeadIn w d b (deeds_of steps) reported e c → now ≤ w.machine.duration → IsKept w.tasks.items now d b
    → count_in (world_of d) ≡ processors_in w.machine.size → IsCounted w came now b.accounts
    → came + length steps < (w.machine.duration + 1) * steps_at_once w
steps_counted w d e b c [] reported now came sound order leads low h count counted =
    omega (arith, counted-below w came now b.accounts low counted)
steps_counted w d e b c (step ∷ steps) reported now came sound order leads low h count counted =
    let kinds = w.tasks.items in
    let seed = w.machine.seed in
    let periods = periods_of w.machine in
    let s = part kinds seed periods d e b c step.deeds (deeds_of steps) reported leads in
    let next = all_is_kept.comes w d b step.due now step.at sound h order.0 in
    let after = all_is_kept.met w d s.mid b s.book step.due step.at step.deeds s.first sound next.1 step.meet s.one next.2 in
    let many : length b.accounts.by_processor ≡ processors_in w.machine.size = h.agrees.mirrors.processors.many ∙ count in
    let before = comes-counted w came now step.at d b sound next.0 next.2 many counted in
    let then_counted =
    met-counted w came step.at d s.mid b s.book step.due step.deeds s.first sound next.1 order.0 step.meet
    s.one next.2 before in
    let book = kept-by kinds seed periods d s.mid b s.book step.deeds s.first s.one in
    let still = processors_kept kinds seed periods d s.mid b s.book step.deeds s.first s.one ∙ count in
    omega (
      arith,
      steps_counted w s.mid e s.book c steps s.more step.at (came + 1) sound
          (subst (λ x. AreInOrder kinds seed periods x steps) (sym book) order.1) s.two next.1 after still then_counted,
    )

-- fewer things come until the end than are counted, wherever a simulation has been followed to
pub few_come_until_the_end : FewComeUntilTheEnd
few_come_until_the_end policies w reported sound s =
    let kinds = w.tasks.items in
    let seed = w.machine.seed in
    let periods = periods_of w.machine in
    let start = opening_book w.machine in
    let p = s.proceeds in
    let m = p.meets in
    let t =
    part kinds seed periods s.opening s.closing start s.book p.opening p.met s.more
    (subst (λ l. DeedsLead kinds seed periods s.opening start l s.more s.closing s.book) p.whole s.leads) in
    let o = opened_open policies w s.opening t.mid t.book p.opening s.first t.first s.starts p.opens t.one in
    let kept = all_is_kept.opened policies w s.opening t.mid t.book p.opening s.first t.first sound s.starts p.opens t.one in
    let book = kept-by kinds seed periods s.opening t.mid start t.book p.opening t.first t.one in
    let many : length t.book.accounts.by_processor ≡ processors_in w.machine.size =
    kept.agrees.mirrors.processors.many ∙ o.processors_there in
    omega (
      arith,
      steps_counted w t.mid s.closing t.book s.book m.steps t.more 0 0 sound
          (subst (λ x. AreInOrder kinds seed periods x m.steps) (sym book) m.order)
          (subst (λ l. DeedsLead kinds seed periods t.mid t.book l t.more s.closing s.book) m.whole t.two)
          (omega arith) kept o.processors_there (none-came w t.mid t.book sound kept many),
    )
