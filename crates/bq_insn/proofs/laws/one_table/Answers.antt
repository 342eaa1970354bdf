use Rattle.bq_insn.proofs.FormLemmas as forms
use Rattle.bq_insn.proofs.laws.one_table.Goals as goal

pub returns : goal.returns
returns c = forms.one_table
