use Rattle.bq_hooks.proofs.ContextLemmas as Contexts
use Rattle.bq_hooks.proofs.laws.contexts_are_bytes.Goals as goal

pub returns : goal.returns
returns c = Contexts.contexts_are_bytes
