use Rattle.std.proofs.Common.{◌≡◌, length, String, string_bytes}
use Rattle.std.specs.declared.alloc.Global.{Global}
use Rattle.bq_policy_run.specs.Naming.{SetsFields}
use Rattle.bq_policy_run.proofs.InTurnLemmas.{LeadsOn}
use Rattle.bq_policy_run.proofs.inputs.Inputs.set_all_fields.Given as goal

abbrev pub invariant-loop-text : goal.invariant-loop-text
invariant-loop-text l = record {
  made : LeadsOn (λ (t : String Global). SetsFields l.hook l.version (string_bytes t)) l.texts l.text-index
      l.initial.self.context.items l.self.context.items;
  env : l.self.env ≡ l.initial.self.env;
  size : length l.self.context.items ≡ length l.initial.self.context.items;
  maps : l.self.maps ≡ l.initial.self.maps;
  board : l.self.board ≡ l.initial.self.board;
}
