use Rattle.std.proofs.Common.{length}
use Rattle.bq_words.specs.Words.{parts}
use Rattle.bq_policy_check.proofs.ListLemmas.{ReadsOn}
use Rattle.bq_policy_check.specs.Limiting.{IsHelperWord}
use Rattle.bq_policy_check.proofs.limits.push_helpers.Given as goal

abbrev pub invariant-loop-part : goal.invariant-loop-part
invariant-loop-part l = ReadsOn IsHelperWord (parts 44 l.text) (length l.yielded) l.helpers.items
