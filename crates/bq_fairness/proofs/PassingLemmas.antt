-- What a Tick and a Block of the world leave at their processor.
use Rattle.std.proofs.Common.{◌≡◌, ℕ, ◌<◌, ◌≤◌, Bool, true, false, List, [], ◌∷◌, Option, Some, None, Result, Ok, Err, refl, ap, sym, ◌∙◌, inl, inr, arith}
use Rattle.std.specs.Prelude.{nat_le, is_none, ◌==◌}
use Rattle.std.specs.Option.{option_map}
use Rattle.std.proofs.lemmas.List.{get_or-set_same}
use Rattle.std.proofs.lemmas.Bool.Decides.{nat_tests}
use Rattle.bq_disc.specs.Tasks.{Task}
use Rattle.bq_disc.specs.Discipline.{Discipline}
use Rattle.bq_disc.specs.OneProcessor.{Running, decided, own_preempt, ticked}
use Rattle.bq_cfs.specs.Cfs.{cfs}
use Rattle.bq_cfs.specs.Spread.{processor_passed, departed, Block as BlockAt}
use Rattle.bq_bpf.specs.declared.board.CounterCall.{CounterCall}
use Rattle.bq_hooks.specs.declared.hook.Version.{Version}
use Rattle.bq_verify.specs.Accepted.{Accepted}
use Rattle.bq_installed.specs.Installed.{InstalledFacts}
use Rattle.bq_hooks.specs.declared.settled.By.TheVariants as who
use Rattle.bq_hooks.specs.Contexts.{as_number}
use Rattle.bq_hooks.specs.Permitted.{may_preempt}
use Rattle.bq_hooks.specs.Settled.{settled as chosen}
use Rattle.bq_parts.specs.declared.event.Event.TheVariants.{Tick, Block}
use Rattle.bq_parts.specs.declared.reply.Reply.{Reply}
use Rattle.bq_parts.specs.declared.reply.Reply.TheVariants.{Ticked, Blocked}
use Rattle.bq_parts.specs.declared.refusal.Refusal.{Refusal}
use Rattle.bq_parts.specs.declared.refusal.Refusal.TheVariants as no
use Rattle.bq_parts.specs.declared.lobby_entry.LobbyEntry.{LobbyEntry}
use Rattle.bq_parts.specs.Processors.{Processor, new_processor}
use Rattle.bq_parts.specs.Refusals.{first_refusal, either_refusal}
use Rattle.bq_parts.specs.World.{World, processor_at, count_in, with_processor}
use Rattle.bq_parts.specs.Choices.{PolicySemantics, SettledChoice, SettlesBy, SettlesPreempt, by_programs}
use Rattle.bq_parts.specs.Shares.{Ticks, Blocks, after_time}
use Rattle.bq_parts.specs.Steps.{WorldStep}
use Rattle.bq_fairness.specs.Events.{after_block}
use Rattle.bq_fairness.specs.Passing.{DisciplinePasses, CfsPasses}

-- The discipline's own answer

-- a choice that is reported as the discipline's is its own, whether the policy's answer was permitted or not
own_by_test : (b : Bool) (permitted : ℕ → Bool) (r0 own : ℕ) → permitted r0 ≡ b
    → (chosen permitted (Some r0) own).by ≡ who.Discipline
    → (chosen permitted (Some r0) own).choice ≡ own
own_by_test true permitted r0 own e h = let it = rw e at h in cc
own_by_test false permitted r0 own e h = rw e refl

-- a choice that was the discipline's own is its own
own_choice : (s : PolicySemantics) (policy : Option Accepted) (context : Version → List ℕ) (installed : InstalledFacts)
    (now processor : ℕ) (permitted : ℕ → Bool) (own : ℕ) (settled : SettledChoice)
    → SettlesBy s policy context installed now processor permitted own settled → settled.by ≡ who.Discipline
    → settled.choice ≡ own
own_choice s None context installed now processor permitted own settled h e = ap (λ (x : SettledChoice). x.choice) h
own_choice s (Some policy) context installed now processor permitted own settled h e =
    h.choice ∙ own_by_test (permitted h.r0) permitted h.r0 own refl (sym h.by ∙ e)

-- an answer, read back from its number, is the same
as_bool : (b : Bool) → (as_number b == 1) ≡ b
as_bool true = refl
as_bool false = refl

-- who runs after it is by the own answer
pub own_decision : (s : PolicySemantics) (processor : ℕ) (p : Processor) (o : Option Task) (settled : SettledChoice)
    → SettlesPreempt s processor p o settled → settled.by ≡ who.Discipline
    → decided s.discipline p.running o (settled.choice == 1) ≡ decided s.discipline p.running o (own_preempt s.discipline p.running.queue o)
own_decision s processor p None settled h e = refl
own_decision s processor p (Some u) settled h e =
    let own = own_preempt s.discipline p.running.queue (Some u) in
    let choice = own_choice s p.hooks.preempt.policy _ p.hooks.preempt p.running.last processor may_preempt (as_number own) settled h e in
    ap (λ b. decided s.discipline p.running (Some u) b) (ap (λ k. k == 1) choice ∙ as_bool own)

-- Of the shares

-- what the share of a Tick whose answer is the discipline's own, and that of a Block, leave at the processor
tick_share_leaves : (d : Discipline) (p q : Processor) (processor now : ℕ) (calls : List CounterCall) (run : Option ℕ) (steps : ℕ) →
    Ticks (by_programs d) processor now p calls (Ticked run who.Discipline steps) q → q.running ≡ ticked d p.running now
tick_share_leaves d p q processor now calls run steps h =
    let c = after_time d now p in
    let by : h.0.by ≡ who.Discipline = let it = h.3 in cc in
    ap (λ (x : Processor). x.running) h.1.1 ∙ own_decision (by_programs d) processor c c.running.current h.0 h.1.0 by

block_share_leaves : (d : Discipline) (p q : Processor) (processor now : ℕ) (lobby lobby' : List LobbyEntry) (reply : Reply) →
    Blocks d processor now p lobby (Ok reply) q lobby' → q.running ≡ after_block d p.running now
block_share_leaves d p q processor now lobby lobby' reply h = ap (λ (x : Processor). x.running) h.1.1

-- Of the world

-- where the number of a processor is not refused, the world has it
in_range : (count processor : ℕ) (b : Bool) (o : Option Refusal)
    → nat_le count processor ≡ b → either_refusal (first_refusal ((b, no.NoProcessor) ∷ [])) o ≡ None
    → processor < count
in_range count processor true o e h = cc
in_range count processor false o e h = grind (arith, nat_tests)

-- a processor of the world that is written stands there
there : (w : World) (processor : ℕ) (q : Processor) → processor < count_in w → processor_at (with_processor w processor q) processor ≡ q
there w processor q l = get_or-set_same w.processors processor q new_processor l

-- where the number of a processor is not refused, what is written there is what stands there
written : (w w' v : World) (processor : ℕ) (q : Processor) (o : Option Refusal)
    → either_refusal (first_refusal ((nat_le (count_in w) processor, no.NoProcessor) ∷ [])) o ≡ None → w' ≡ v
    → processor_at v processor ≡ processor_at (with_processor w processor q) processor
    → processor_at w' processor ≡ q
written w w' v processor q o h e f =
    ap (λ (u : World). processor_at u processor) e ∙ f
    ∙ there w processor q (in_range (count_in w) processor (nat_le (count_in w) processor) o refl h)

-- what a Tick of the world whose answer is the discipline's own, and a Block, leave at their processor
tick_leaves : (d : Discipline) (w w' : World) (processor now : ℕ) (calls : List CounterCall) (run : Option ℕ) (steps : ℕ)
    → WorldStep (by_programs d) w (Tick processor now) calls (Ok (Ticked run who.Discipline steps)) w'
    → (processor_at w' processor).running ≡ ticked d (processor_at w processor).running now
tick_leaves d w w' processor now calls run steps h =
    let k = h.1 in
    ap (λ (x : Processor). x.running) (written w w' _ processor k.0 None h.0 k.2 refl)
    ∙ tick_share_leaves d (processor_at w processor) k.0 processor now calls run steps k.1

block_leaves : (d : Discipline) (w w' : World) (processor now : ℕ) (calls : List CounterCall) (task : ℕ) (run : Option ℕ)
    → WorldStep (by_programs d) w (Block processor now) calls (Ok (Blocked task run)) w'
    → (processor_at w' processor).running ≡ after_block d (processor_at w processor).running now
block_leaves d w w' processor now calls task run h =
    let k = h.1 in
    ap (λ (x : Processor). x.running) (written w w' _ processor k.0 _ h.0 k.4 refl)
    ∙ block_share_leaves d (processor_at w processor) k.0 processor now w.lobby k.1 (Blocked task run) k.2

-- under any discipline a Tick or a Block of the world leaves what that of a processor does
pub discipline_passes : DisciplinePasses
discipline_passes = record { tick_share = tick_share_leaves; block_share = block_share_leaves; tick = tick_leaves; block = block_leaves }

-- Under CFS

-- where a task runs, the Block of the laws of CFS is that of a processor
departs : (p : Running) (now : ℕ) (o : Option Task) (t : Task) (f : Task → Task)
    → option_map f o ≡ Some t → departed p now o ≡ after_block cfs p now
departs p now None t f e = cc
departs p now (Some u) t f e = refl

-- where nothing runs, the Block of the laws of CFS changes nothing
stays : (p : Running) (now : ℕ) (o : Option Task) (r : Refusal) → first_refusal ((is_none o, no.Idle) ∷ []) ≡ Some r → departed p now o ≡ p
stays p now None r e = refl
stays p now (Some u) r e = cc

-- a Block at a processor of the world is refused only because nothing runs
only_idle : (count processor : ℕ) (b : Bool) (o : Option Refusal) (r : Refusal)
    → processor < count → nat_le count processor ≡ b → either_refusal (first_refusal ((b, no.NoProcessor) ∷ [])) o ≡ Some r
    → o ≡ Some r
only_idle count processor true o r l e h = absurd (let k : count ≤ processor = grind (arith, nat_tests) in omega arith)
only_idle count processor false o r l e h = h

-- under CFS a Block of the world, done or refused, leaves what the Block of its laws does
blocked : (w w' : World) (processor now : ℕ) (calls : List CounterCall) (answer : Result Reply Refusal)
    → processor < count_in w → WorldStep (by_programs cfs) w (Block processor now) calls answer w'
    → (processor_at w' processor).running ≡ processor_passed (processor_at w processor).running (BlockAt now)
blocked w w' processor now calls (Ok r) l h =
    let p = (processor_at w processor).running in
    let k = h.1 in
    let left =
    ap (λ (x : Processor). x.running) (written w w' _ processor k.0 _ h.0 k.4 refl)
    ∙ block_share_leaves cfs (processor_at w processor) k.0 processor now w.lobby k.1 r k.2 in
    left ∙ sym (departs p now p.current k.2.0 _ k.2.1.0)
blocked w w' processor now calls (Err r) l h =
    let p = (processor_at w processor).running in
    ap (λ (v : World). (processor_at v processor).running) h.1 ∙ sym (elim h.2 [
      | inl e ↦ stays p now p.current r (only_idle (count_in w) processor (nat_le (count_in w) processor) _ r l refl e)
      | inr e ↦ absurd e.0
    ])

-- under CFS a Tick and a Block of the world are the events of its laws
pub cfs_passes : CfsPasses
cfs_passes = record { tick = tick_leaves cfs; block = blocked }
