-- It is taken at the hook that the file says.
use Rattle.std.proofs.Common.{None}
use Rattle.bq_experiment.proofs.TakingLemmas.{takes_by_head, reported_of}
use Rattle.bq_experiment.proofs.policies.Policies.add_by_head.Goals as goal

pub returns-clause-taken : goal.returns-clause-taken
returns-clause-taken c =
    takes_by_head c.add_asked.result _ c.args.file.now c.args.self.now c.add_asked.new.self c.add_asked.ensures.taken
    (record { hook_is = c.nothing.ensures.hook; maps = c.nothing.ensures.maps; format = c.nothing.ensures.format })

pub returns-clause-reported : goal.returns-clause-reported
returns-clause-reported c =
    reported_of c.add_asked.result None _ c.args.file.now c.args.self.now c.add_asked.ensures.reported
    (record { hook_is = c.nothing.ensures.hook; maps = c.nothing.ensures.maps; format = c.nothing.ensures.format })
