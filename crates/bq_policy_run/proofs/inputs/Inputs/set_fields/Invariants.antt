use Rattle.std.proofs.Common.{◌≡◌, length}
use Rattle.bq_words.specs.Words.{parts}
use Rattle.bq_policy_run.specs.Naming.{SetsField}
use Rattle.bq_policy_run.proofs.InTurnLemmas.{LeadsOn}
use Rattle.bq_policy_run.proofs.inputs.Inputs.set_fields.Given as goal

abbrev pub invariant-loop-part : goal.invariant-loop-part
invariant-loop-part l = record {
  made : LeadsOn (SetsField l.hook l.version) (parts 44 l.text) (length l.yielded) l.initial.self.context.items l.self.context.items;
  size : length l.self.context.items ≡ length l.initial.self.context.items;
  maps : l.self.maps ≡ l.initial.self.maps;
  env : l.self.env ≡ l.initial.self.env;
  board : l.self.board ≡ l.initial.self.board;
}
