use Rattle.std.proofs.Common.{map, sym, ap, ◌∙◌, map-id}
use Rattle.std.proofs.lemmas.Iterator.{YieldsList-from_chars}
use Rattle.std.proofs.lemmas.Iterator.Consumers.{YieldsList-end}
use Rattle.bq_experiment.specs.Names.{plain_of}
use Rattle.bq_experiment.proofs.names.plain.Goals as goal

pub returns : goal.returns
returns c =
    let end =
    YieldsList-end (YieldsList-from_chars c.args.name.now c.utf8.name cc) c.loop-letter.yielded _ c.loop-letter.yielded_by
    _ _ c.in-None.is c.next.ensures.steps in
    c.loop-letter.invariant ∙ ap (map plain_of) (sym (map-id c.loop-letter.yielded) ∙ end.0)
