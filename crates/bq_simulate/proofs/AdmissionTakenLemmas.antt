-- An admission that a world takes.
use Rattle.std.proofs.Common.{◌≡◌, ℕ, ◌+◌, ◌-◌, ◌*◌, ◌/◌, ◌%◌, ◌^◌, ◌<◌, ◌≤◌, inl, inr, Bool, true, List, length, Option, Some, None, refl, sym, subst, ap, ◌∙◌, arith}
use Rattle.std.specs.Prelude.{◌&&◌, nat_le, nat_lt, Ok, slice_get, slice_set}
use Rattle.std.specs.Option.{option_map_or}
use Rattle.std.proofs.lemmas.Bool.{and_parts, cases_eq, eqb-true, le-ltb, leb-true, lt-leb, ne_eqb, or_from}
use Rattle.std.proofs.lemmas.List.{length-set}
use Rattle.std.proofs.Math.Nat.{mul-pos}
use Rattle.std.proofs.lemmas.Nat.{mod-pow-add, pow_pos}
use Rattle.std.proofs.lemmas.Option.{same_Some, slice_get_past}
use Rattle.bq_bpf.specs.declared.board.CounterCall.{CounterCall}
use Rattle.bq_disc.specs.Discipline.{Discipline}
use Rattle.bq_disc.specs.Masks.{allows}
use Rattle.bq_disc.specs.Tasks.{Task}
use Rattle.bq_disc.specs.declared.limits.TheConstants.{GREATEST_SLICE, LEAST_SLICE}
use Rattle.bq_weights.specs.VirtualTime.{is_nice}
use Rattle.bq_parts.specs.declared.event.Event.TheVariants.{Admit}
use Rattle.bq_parts.specs.declared.lobby_entry.LobbyEntry.{LobbyEntry}
use Rattle.bq_parts.specs.declared.lobby_entry.LobbyEntry.TheVariants.{Absent, Sleeping}
use Rattle.bq_parts.specs.declared.reply.Reply.{Reply}
use Rattle.bq_parts.specs.Choices.{by_programs}
use Rattle.bq_parts.specs.Moves.{admitted}
use Rattle.bq_parts.specs.Steps.{WorldStep}
use Rattle.bq_parts.specs.World.{World, entry_of_id, count_in, with_lobby}
use Rattle.bq_workload.specs.declared.progress.TaskProgress.{TaskProgress}
use Rattle.bq_workload.specs.declared.progress.TaskState.{TaskState}
use Rattle.bq_workload.specs.declared.progress.TaskState.TheVariants.{Asleep}
use Rattle.bq_workload.specs.declared.workload.TaskKind.{TaskKind}
use Rattle.bq_workload.specs.Accounts.{Accounts}
use Rattle.bq_workload.specs.Soundness.{goes_round, has_numbers}
use Rattle.bq_workload.specs.Lengths.{longest}
use Rattle.bq_workload.specs.TaskProgress.{fresh_task}
use Rattle.bq_workload.proofs.ListLemmas.{appended, appended_others}
use Rattle.bq_core.proofs.EachProcessorLemmas.{at_set_else}
use Rattle.bq_simulate.specs.Agreement.{AgreesWith, HaveProcessors, StandsAs, state_at}
use Rattle.bq_simulate.specs.AgreementLaws.{AdmissionsAreTaken, accounts_with_task}
use Rattle.bq_simulate.proofs.MirrorLemmas.{agree_after}

-- the numbers of a kind, as an admission asks for them
pub record HasNumbers (kind : TaskKind) : Type 0 where
  pub some : 1 ≤ kind.count
  pub nice : is_nice kind.nice ≡ true
  pub least : LEAST_SLICE ≤ kind.slice
  pub greatest : kind.slice ≤ GREATEST_SLICE

-- a kind whose numbers are in their ranges has them
pub numbers_of : (kind : TaskKind) → has_numbers kind ≡ true → HasNumbers kind
numbers_of kind h =
    let one : Bool = nat_le 1 kind.count in
    let two : Bool = one && is_nice kind.nice in
    let three : Bool = two && nat_le LEAST_SLICE kind.slice in
    let four : Bool = three && nat_le kind.slice GREATEST_SLICE in
    let five : Bool = four && nat_le kind.start longest in
    let to_five = and_parts five (goes_round kind.loops) h in
    let to_four = and_parts four (nat_le kind.start longest) to_five.0 in
    let to_three = and_parts three (nat_le kind.slice GREATEST_SLICE) to_four.0 in
    let to_two = and_parts two (nat_le LEAST_SLICE kind.slice) to_three.0 in
    let to_one = and_parts one (is_nice kind.nice) to_two.0 in
    record {
      some = leb-true 1 kind.count to_one.0;
      nice = to_one.1;
      least = leb-true LEAST_SLICE kind.slice to_two.1;
      greatest = leb-true kind.slice GREATEST_SLICE to_three.1;
    }

-- two numbers of which neither is 0 have a product that is not 0
product : (a b : ℕ) → 1 ≤ a → 1 ≤ b → a * b ≡ 0 → ⊥
product a b h k z = omega (arith, mul-pos {m = a} {n = b} h k, z)

-- a mask that allows a processor of the machine has one of them
mask_has_more : (mask home j : ℕ) → allows mask home ≡ true → mask % 2 ^ ((j + 1) + home) ≡ 0 → ⊥
mask_has_more mask home j h z =
    let x : ℕ = mask / 2 ^ home in
    let one : x % 2 ≡ 1 = eqb-true (x % 2) 1 h in
    let some : 1 ≤ x % 2 ^ (j + 1) = omega (arith, mod-pow-add x j 1, one) in
    product (x % 2 ^ (j + 1)) (2 ^ home) some (pow_pos home) (omega (arith, mod-pow-add mask (j + 1) home, z))

-- a mask that allows one of this many processors has one of this many lowest bits
mask_has : (mask home count : ℕ) → home < count → allows mask home ≡ true → mask % 2 ^ count ≡ 0 → ⊥
mask_has mask home count low h z =
    let e : count ≡ (count - home - 1 + 1) + home = omega arith in
    mask_has_more mask home (count - home - 1) h (subst (λ n. mask % 2 ^ n ≡ 0) e z)

-- the state of one of some tasks
abbrev state_of : Option TaskProgress → Option TaskState
state_of o = option_map_or (λ (c : TaskProgress). Some c.task_state) o None

-- a task that is admitted, and is there, leaves them in agreement
pub admit_kept : (d : Discipline) (w v : World) (a : Accounts) (c : TaskProgress) (kind : TaskKind)
    (calls : List CounterCall) (r : Reply)
    → AgreesWith w a → length a.by_task < 1024 → c.task_state ≡ Asleep → c.home < count_in w
    → WorldStep (by_programs d) w (Admit (length a.by_task) kind.nice kind.mask kind.slice) calls (Ok r) v
    → AgreesWith v (accounts_with_task c a)
admit_kept d w v a c kind calls r h few asleep low step =
    let k = step.1 in
    let n : ℕ = length a.by_task in
    let t : Task = admitted (count_in w) n kind.nice kind.mask kind.slice in
    let b : Accounts = accounts_with_task c a in
    let form : World = with_lobby w (slice_set w.lobby n (Sleeping t)) in
    let is : v ≡ form = k.3 ∙ ap (with_lobby w) k.1.2 in
    let m = h.mirrors.processors in
    let here : state_at b.by_task n ≡ Some Asleep = ap state_of (appended a.by_task c) ∙ ap (λ s. Some s) asleep in
    let homes : HaveProcessors (count_in w) b = λ task x at. elim (cases_eq task n) [
      | inl same ↦
          subst (λ (y : TaskProgress). y.home < count_in w)
          (same_Some c x (sym (appended a.by_task c) ∙ ap (slice_get b.by_task) (sym same) ∙ at)) low
      | inr apart ↦ h.homes task x (sym (appended_others a.by_task c task apart) ∙ at)
    ] in
    agree_after (by_programs d) w form v (Admit n kind.nice kind.mask kind.slice) calls r b h.orderly step is
    (length-set w.lobby n (Sleeping t) ∙ h.entries) (record { hands = h.settled.hands; inboxes = h.settled.inboxes })
    (record {
      tasks =
          at_set_else (λ i (s : LobbyEntry). StandsAs (state_at b.by_task i) s) w.lobby n (Sleeping t) Absent
          (omega (arith, h.entries, few)) (subst (λ o. StandsAs o (Sleeping t)) (sym here) (refl, refl))
          (λ i apart. subst (λ o. StandsAs o (entry_of_id w i)) (sym (ap state_of (appended_others a.by_task c i apart))) (h.mirrors.tasks i));
      processors = record { many = m.many; runs = m.runs; sizes = m.sizes };
    }) homes

-- a world takes each admission that may come
pub admissions_are_taken : AdmissionsAreTaken
admissions_are_taken d w a number home kind h may =
    let n : ℕ = length a.by_task in
    let few = may.few in
    let first = may.first in
    let its = numbers_of kind may.numbers in
    let absent = subst (λ o. StandsAs o (entry_of_id w n)) (ap state_of (slice_get_past a.by_task n (omega arith))) (h.mirrors.tasks n) in
    record {
      taken =
          rw (
            lt-leb 1024 n few,
            ne_eqb (kind.mask % 2 ^ count_in w) 0 (mask_has kind.mask home (count_in w) first.within first.allowed),
            its.nice,
            or_from (nat_lt kind.slice LEAST_SLICE) (nat_lt GREATEST_SLICE kind.slice)
                (le-ltb kind.slice LEAST_SLICE its.least) (le-ltb GREATEST_SLICE kind.slice its.greatest),
            absent,
          ) refl;
      leaves = λ calls r v step. admit_kept d w v a (fresh_task number home kind.start) kind calls r h few refl first.within step;
    }
