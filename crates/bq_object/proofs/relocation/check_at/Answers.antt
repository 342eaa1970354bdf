use Rattle.std.proofs.lemmas.Result.{on_ok_weaker}
use Rattle.bq_object.proofs.RelocationLemmas.{clear_section}
use Rattle.bq_object.proofs.relocation.check_at.Goals as goal

pub returns-in-Some-clause-ok : goal.returns-in-Some-clause-ok
returns-in-Some-clause-ok c =
    on_ok_weaker c.check_section.result
    (clear_section c.args.file.now c.args.headers.now c.args.index c.in-Some.section c.args.policy c.in-Some.ensures.some)
    c.check_section.ensures.ok
