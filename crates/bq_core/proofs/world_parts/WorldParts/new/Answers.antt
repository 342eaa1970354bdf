use Rattle.std.proofs.Common.{◌≡◌, ℕ, ◌+◌, ◌≤◌, List, [], ◌∷◌, ◌++◌, length, replicate, refl, sym, ap, ◌∙◌, arith}
use Rattle.std.proofs.lemmas.List.{length-replicate, replicate_more}
use Rattle.bq_disc.specs.Tasks.{Task}
use Rattle.bq_parts.specs.declared.lobby_entry.LobbyEntry.{LobbyEntry}
use Rattle.bq_parts.specs.declared.lobby_entry.LobbyEntry.TheVariants.{Absent}
use Rattle.bq_parts.specs.Processors.{Processor, new_processor}
use Rattle.bq_parts.specs.World.{World}
use Rattle.bq_core.proofs.world_parts.WorldParts.new.Goals as goal

-- a list of one thing many times, with one more at its end
one_more : {X : Type 0} (n : ℕ) (x v : X) (xs ys : List X) → ys ≡ xs ++ v ∷ [] → v ≡ x → xs ≡ replicate n x → ys ≡ replicate (n + 1) x
one_more {X} n x v xs ys e f h = e ∙ ap (λ (y : X). xs ++ y ∷ []) f ∙ ap (λ (zs : List X). zs ++ x ∷ []) h ∙ replicate_more n x

-- a count that is not below its end, and not above it
at_end : (n p : ℕ) → p ≤ n → n ≤ p → n ≡ p
at_end n p h k = omega arith

-- the length of a list of one thing many times
filled : {X : Type 0} (xs : List X) (n p : ℕ) (x : X) → xs ≡ replicate n x → n ≡ p → length xs ≡ p
filled xs n p x h e = ap length h ∙ length-replicate n x ∙ e

-- the world of such lists
opened : (n p many : ℕ) (cpus : List Processor) (boxes : List (List Task)) (lobby : List LobbyEntry)
    → cpus ≡ replicate n new_processor → boxes ≡ replicate n [] → lobby ≡ replicate many Absent → n ≡ p
    → ◌≡◌ {A = World} (record { processors = cpus; inboxes = boxes; lobby = lobby; drawn = 0 })
    (record { processors = replicate p new_processor; inboxes = replicate p []; lobby = replicate many Absent; drawn = 0 })
opened n p many cpus boxes lobby h k l e = rw (h, k, l, e) refl

pub processors-init : goal.processors-init
processors-init g c = record { processors = c.in_ok-cpus.ensures.items; inboxes = c.in_ok-inboxes.ensures.items }

pub processors-preserved : goal.processors-preserved
processors-preserved g c =
    let n = c.processors.counter in
    let was = c.processors.invariant in
    record {
      processors =
          one_more n new_processor c.new.result c.processors.cpus.items c.push.new.self.items c.in_ok-push.ensures.items
          c.new.ensures was.processors;
      inboxes =
          one_more n [] c.new-in-processors.result c.processors.inboxes.items c.push-in-processors.new.self.items
          c.in_ok-push-2.ensures.items c.new-in-processors.ensures was.inboxes;
    }

pub invariant_of-result : goal.invariant_of-result
invariant_of-result g c =
    let all = at_end c.processors.counter c.args.count c.processors-test.false c.processors.auto.counter-end in
    let boxes = filled c.processors.inboxes.items c.processors.counter c.args.count [] c.processors.invariant.inboxes all in (
      filled c.processors.cpus.items c.processors.counter c.args.count new_processor c.processors.invariant.processors all ∙ sym boxes,
      rw boxes c.requires.few,
      filled c.in_ok-lobby.lobby 1024 1024 Absent c.in_ok-lobby.ensures refl,
    )

pub returns : goal.returns
returns g c =
    let all = at_end c.processors.counter c.args.count c.processors-test.false c.processors.auto.counter-end in
    opened c.processors.counter c.args.count 1024 c.processors.cpus.items c.processors.inboxes.items c.in_ok-lobby.lobby
    c.processors.invariant.processors c.processors.invariant.inboxes c.in_ok-lobby.ensures all
