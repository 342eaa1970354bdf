use Rattle.std.proofs.Common.{◌≡◌, String, string_bytes}
use Rattle.std.specs.declared.alloc.Global.{Global}
use Rattle.bq_policy_run.specs.Naming.{SetsEntry}
use Rattle.bq_policy_run.proofs.InTurnLemmas.{LeadsOn}
use Rattle.bq_policy_run.proofs.inputs.Inputs.set_all_entries.Given as goal

abbrev pub invariant-loop-text : goal.invariant-loop-text
invariant-loop-text l = record {
  made : LeadsOn (λ (t : String Global). SetsEntry (string_bytes t)) l.texts l.text-index l.initial.self.maps l.self.maps;
  shapes : l.self.maps.shapes ≡ l.initial.self.maps.shapes;
  env : l.self.env ≡ l.initial.self.env;
  context : l.self.context ≡ l.initial.self.context;
  board : l.self.board ≡ l.initial.self.board;
}
