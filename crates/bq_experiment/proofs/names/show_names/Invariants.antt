use Rattle.std.proofs.Common.{map, string_bytes, take}
use Rattle.bq_timeline.specs.Comments.{ViewerRests}
use Rattle.bq_experiment.specs.Names.{LearnsAll}
use Rattle.bq_experiment.proofs.names.show_names.Given as goal

-- this many comments gave names, and changed nothing else
abbrev pub invariant-comments : goal.invariant-comments
invariant-comments l = record {
  rest : ViewerRests l.initial.viewer l.viewer;
  names : LearnsAll (map string_bytes (take l.comment-index l.comment-items)) l.initial.viewer.screen.names l.viewer.screen.names;
}
