use Rattle.std.proofs.Common.{Some, string_bytes, sym, ap, ◌∙◌}
use Rattle.std.specs.Option.{option_map}
use Rattle.bq_report.proofs.NameLemmas.{name_in}
use Rattle.bq_report.proofs.names.Names.of.Goals as goal

pub returns-in-Some : goal.returns-in-Some
returns-in-Some c =
    rw (← c.self.view_is) (ap Some c.as_str.ensures.value ∙ ap (option_map string_bytes) c.in-Some.ensures.value
    ∙ sym (name_in c.self.inside.names c.args.task))

pub returns-in-None : goal.returns-in-None
returns-in-None c =
    rw (← c.self.view_is) (ap (option_map string_bytes) c.in-None.ensures.value ∙ sym (name_in c.self.inside.names c.args.task))
