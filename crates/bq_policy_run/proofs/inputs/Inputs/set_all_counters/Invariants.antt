use Rattle.std.proofs.Common.{◌≡◌, String, string_bytes}
use Rattle.std.specs.declared.alloc.Global.{Global}
use Rattle.bq_policy_run.specs.Naming.{SetsCounter}
use Rattle.bq_policy_run.proofs.InTurnLemmas.{LeadsOn}
use Rattle.bq_policy_run.proofs.inputs.Inputs.set_all_counters.Given as goal

abbrev pub invariant-loop-text : goal.invariant-loop-text
invariant-loop-text l = record {
  made : LeadsOn (λ (t : String Global). SetsCounter (string_bytes t)) l.texts l.text-index l.initial.self.board l.self.board;
  env : l.self.env ≡ l.initial.self.env;
  context : l.self.context ≡ l.initial.self.context;
  maps : l.self.maps ≡ l.initial.self.maps;
}
