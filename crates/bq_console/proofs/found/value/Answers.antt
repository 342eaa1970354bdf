use Rattle.std.proofs.Common.{◌∙◌, sym}
use Rattle.clap.specs.Matches.{found_of}
use Rattle.bq_console.proofs.FoundLemmas.{first_value_is}
use Rattle.bq_console.proofs.found.value.Goals as goal

pub returns : goal.returns
returns c = c.get_str.ensures ∙ sym (first_value_is (found_of c.args.matches.now) c.args.option.now)
