use Rattle.std.proofs.Common.{rules}
use Rattle.bq_cli.proofs.import.import_settings.Goals as goal
use Rattle.bq_cli.proofs.import.import_settings.Goals.{in-None, in-None-maps, in-Some-maps, in-Some-maps-2+in_ok-from_str-in-Some-maps-2}

pub returns-clause-asked : goal.returns-clause-asked
returns-clause-asked c = record {
  head = c.in-Ok.head;
  gives = c.in-Ok.ensures.gives;
  hook = search rules;
  maps = elim c.match-maps-2.branch [
    | in-Some-maps w ↦ search rules
    | in-None w ↦ search rules
  ];
  version = search rules;
  text = elim c.match-words.branch [
    | in-Some-maps-2+in_ok-from_str-in-Some-maps-2 w ↦ search rules
    | in-None-maps w ↦ search rules
  ];
}
