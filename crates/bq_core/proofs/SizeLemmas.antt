-- The number of processors stays, whatever happens, and so does that of the entries of the lobby.
use Rattle.std.proofs.Common.{◌≡◌, ℕ, List, [], ◌∷◌, length, ap, ◌∙◌}
use Rattle.std.specs.Prelude.{Result, Ok, Err, IfOk, OnErr}
use Rattle.std.specs.declared.vec.Vec.{Vec}
use Rattle.std.specs.declared.alloc.Global.{Global}
use Rattle.std.proofs.lemmas.List.{length-set}
use Rattle.bq_bpf.specs.declared.board.CounterCall.{CounterCall}
use Rattle.bq_disc.specs.Tasks.{Task}
use Rattle.bq_disc.specs.Discipline.{Discipline}
use Rattle.bq_parts.specs.declared.event.Event.{Event}
use Rattle.bq_parts.specs.declared.event.Event.TheVariants.{Admit, Retire, Draw, Install, BeginWake, EndWake, Drain, Tick, Block, Pull}
use Rattle.bq_parts.specs.declared.reply.Reply.{Reply}
use Rattle.bq_parts.specs.declared.refusal.Refusal.{Refusal}
use Rattle.bq_parts.specs.declared.lobby_entry.LobbyEntry.{LobbyEntry}
use Rattle.bq_parts.specs.declared.lobby_entry.LobbyEntry.TheVariants.{Sleeping, Away}
use Rattle.bq_parts.specs.Processors.{Processor}
use Rattle.bq_parts.specs.Shares.{Admits, Blocks, BeginsWake}
use Rattle.bq_parts.specs.World.{World, count_in, with_processor}
use Rattle.bq_parts.specs.Choices.{PolicySemantics}
use Rattle.bq_parts.specs.Steps.{Performs, WorldStep, WorldRun}

-- what an event does leaves as many processors
performs_count : (s : PolicySemantics) (w : World) (e : Event) (calls : List CounterCall) (r : Reply) (w' : World)
    → Performs s w e calls r w' → count_in w' ≡ count_in w
performs_count s w (Admit id nice mask slice) calls r w' h = ap count_in h.3
performs_count s w (Retire id) calls r w' h = ap count_in h.3
performs_count s w Draw calls r w' h = ap count_in h.2
performs_count s w (Install processor hook g policy) calls r w' h = ap count_in h.3 ∙ length-set w.processors processor h.0
performs_count s w (BeginWake processor id) calls r w' h = ap count_in h.4 ∙ length-set w.processors processor h.0
performs_count s w (EndWake processor now) calls r w' h = ap count_in h.4 ∙ length-set w.processors processor h.1
performs_count s w (Drain processor now) calls r w' h = ap count_in h.2 ∙ length-set w.processors processor h.0
performs_count s w (Tick processor now) calls r w' h = ap count_in h.2 ∙ length-set w.processors processor h.0
performs_count s w (Block processor now) calls r w' h = ap count_in h.4 ∙ length-set w.processors processor h.0
performs_count s w (Pull processor from now) calls r w' h =
    ap count_in h.3 ∙ length-set (with_processor w processor h.0).processors from h.1 ∙ length-set w.processors processor h.0

-- a step leaves as many processors
pub step_count : (s : PolicySemantics) (w : World) (e : Event) (calls : List CounterCall)
    (r : Result Reply Refusal) (w' : World)
    → WorldStep s w e calls r w' → count_in w' ≡ count_in w
step_count s w e calls (Ok r) w' h = performs_count s w e calls r w' h.1
step_count s w e calls (Err r) w' h = ap count_in h.1

-- steps one after another leave as many processors
pub run_count : (s : PolicySemantics) (w : World) (es : List Event) (calls : List (List CounterCall))
    (answers : List (Result Reply Refusal)) (w' : World)
    → WorldRun s w es calls answers w' → count_in w' ≡ count_in w
run_count s w [] [] [] w' run = ap count_in run
run_count s w (e ∷ es) (c ∷ calls) (a ∷ answers) w' run = run_count s run.0 es calls answers w' run.2 ∙ step_count s w e c a run.0 run.1
run_count s w es calls answers w' run = absurd run

-- whether a run was had or refused, there are as many processors afterwards
pub outcome_count : (s : PolicySemantics) (w w' : World) (es : List Event) (more : List (List CounterCall) → Type 0)
    (answer : Result (Vec (Result Reply Refusal) Global) Refusal)
    → IfOk answer (λ answers. (calls : List (List CounterCall)) × WorldRun s w es calls answers.items w' × more calls)
    → OnErr answer (w' ≡ w)
    → count_in w' ≡ count_in w
outcome_count s w w' es more (Ok answers) ok err = run_count s w es ok.0 answers.items w' ok.1
outcome_count s w w' es more (Err refusal) ok err = ap count_in err

-- an event's share in the lobby leaves an entry for each id: that of an admission
pub entries_admitted : (id : ℕ) (t : Task) (lobby lobby' : List LobbyEntry) (r : Result Reply Refusal)
    → Admits id t lobby r lobby' → length lobby' ≡ length lobby
entries_admitted id t lobby lobby' (Ok r) h = ap length h.2 ∙ length-set lobby id (Sleeping t)
entries_admitted id t lobby lobby' (Err e) h = ap length h.2

-- a block leaves the lobby as long as it was
pub entries_blocked : (d : Discipline) (processor now : ℕ) (p q : Processor) (lobby lobby' : List LobbyEntry)
    (r : Result Reply Refusal)
    → Blocks d processor now p lobby r q lobby' → length lobby' ≡ length lobby
entries_blocked d processor now p q lobby lobby' (Ok r) h = ap length h.1.3 ∙ length-set lobby h.0.id _
entries_blocked d processor now p q lobby lobby' (Err e) h = ap length h.3

-- the share of a wake that begins leaves as many entries in the lobby
pub entries_begun : (id : ℕ) (loads : List ℕ) (p q : Processor) (lobby lobby' : List LobbyEntry) (r : Result Reply Refusal)
    → BeginsWake id loads p lobby r q lobby' → length lobby' ≡ length lobby
entries_begun id loads p q lobby lobby' (Ok r) h = ap length h.away ∙ length-set lobby id Away
entries_begun id loads p q lobby lobby' (Err e) h = ap length h.2
