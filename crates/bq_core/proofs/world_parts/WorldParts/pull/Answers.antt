use Rattle.std.proofs.Common.{◌≡◌, length, ap, ◌∙◌, arith}
use Rattle.bq_parts.proofs.OnceLemmas.{each_once_two, ids_two}
use Rattle.bq_core.proofs.StepLemmas.{lent, lobby_whole, written_over, write_back_processors}
use Rattle.bq_core.proofs.ShareStepLemmas.{pulls_at}
use Rattle.bq_core.proofs.world_parts.WorldParts.pull.Goals as goal

pub pull_between-requires-clause-once : goal.pull_between-requires-clause-once
pull_between-requires-clause-once g c =
    rw (lent c.self.view_is c.as_mut_slice-cpus.ensures.value)
    (each_once_two c.args.self.now c.args.processor c.args.from c.requires.apart c.requires.orderly)

pub pull_between-requires-clause-ids : goal.pull_between-requires-clause-ids
pull_between-requires-clause-ids g c =
    rw (lent c.self.view_is c.as_mut_slice-cpus.ensures.value)
    (ids_two c.args.self.now c.args.processor c.args.from (lobby_whole c.self.view_is c.self.invariant.2) c.requires.orderly)

pub pull_between-requires-clause-few : goal.pull_between-requires-clause-few
pull_between-requires-clause-few g c = rw (ap length c.as_mut_slice-cpus.ensures.value ∙ c.self.invariant.0) c.self.invariant.1

pub pull_between-requires-clause-inside : goal.pull_between-requires-clause-inside
pull_between-requires-clause-inside g c = rw (lent c.self.view_is c.as_mut_slice-cpus.ensures.value) c.requires.inside

pub pull_between-requires-clause-inside_from : goal.pull_between-requires-clause-inside_from
pull_between-requires-clause-inside_from g c = rw (lent c.self.view_is c.as_mut_slice-cpus.ensures.value) c.requires.inside_from

pub pull_between-requires-clause-apart : goal.pull_between-requires-clause-apart
pull_between-requires-clause-apart g c = c.requires.apart

pub pull_between-requires-clause-no_calls : goal.pull_between-requires-clause-no_calls
pull_between-requires-clause-no_calls g c = c.requires.no_calls

pub invariant_of-self : goal.invariant_of-self
invariant_of-self g c =
    let long : c.self.inside.cpus.len ≡ length c.self.inside.cpus.items = omega arith in
    let same : length c.pull_between.new.cpus ≡ length c.self.inside.cpus.items =
    omega (arith, ap length c.as_mut_slice-cpus.ensures.value) in (
      ap length (written_over c.self.inside.cpus.items c.pull_between.new.cpus c.self.inside.cpus.len long same) ∙ same
          ∙ c.self.invariant.0,
      c.self.invariant.1,
      c.self.invariant.2,
    )

pub returns-clause-step : goal.returns-clause-step
returns-clause-step g c =
    let w = c.args.self.now in
    let cpus = lent c.self.view_is c.as_mut_slice-cpus.ensures.value in
    let long : c.self.inside.cpus.len ≡ length c.self.inside.cpus.items = omega arith in
    let same : length c.pull_between.new.cpus ≡ length c.self.inside.cpus.items =
    omega (arith, ap length c.as_mut_slice-cpus.ensures.value) in
    let share = c.pull_between.ensures.share in
    pulls_at g.Q.R.Discipline.discipline w _ c.args.processor c.args.from c.args.now
    c.pull_between.new.scratch c.pull_between.result c.as_mut_slice-cpus.result.now c.pull_between.new.cpus
    share.0 share.1 c.requires.inside c.requires.inside_from c.requires.apart cpus share.2 share.3
    (write_back_processors _ w c.self.inside.cpus.len c.self.inside.cpus.items c.pull_between.new.cpus c.self.view_is long same)

pub returns-clause-board : goal.returns-clause-board
returns-clause-board g c = c.pull_between.ensures.board
