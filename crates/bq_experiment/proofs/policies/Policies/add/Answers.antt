-- It is taken at the hook that was asked for.
use Rattle.std.proofs.Common.{Some, refl}
use Rattle.bq_experiment.proofs.TakingLemmas.{takes_at, reported_of}
use Rattle.bq_experiment.proofs.policies.Policies.add.Goals as goal

pub returns-clause-taken : goal.returns-clause-taken
returns-clause-taken c =
    takes_at c.add_asked.result c.args.hook _ c.args.file.now c.args.self.now c.add_asked.new.self c.add_asked.ensures.taken
    (record { hook_is = refl; maps = c.nothing-asked.ensures.maps; format = c.nothing-asked.ensures.format })

pub returns-clause-reported : goal.returns-clause-reported
returns-clause-reported c =
    reported_of c.add_asked.result (Some c.args.hook) _ c.args.file.now c.args.self.now c.add_asked.ensures.reported
    (record { hook_is = refl; maps = c.nothing-asked.ensures.maps; format = c.nothing-asked.ensures.format })
