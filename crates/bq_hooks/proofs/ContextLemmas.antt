-- Contexts are bytes, as many as their hooks have.
use Rattle.bq_hooks.specs.Laws.{ContextsAreBytes}
use Rattle.bq_hooks.proofs.LengthLemmas.{length-place_bytes_first, length-place_bytes_second, length-preempt_bytes, length-pull_bytes}
use Rattle.bq_hooks.proofs.MemberLemmas.{place_bytes-fit, preempt_bytes-fit, pull_bytes-fit}

-- a context of each hook has its length, and holds nothing but bytes
pub contexts_are_bytes : ContextsAreBytes
contexts_are_bytes = record {
  place_first = λ f. (length-place_bytes_first f, place_bytes-fit 16 f);
  place_second = λ f. (length-place_bytes_second f, place_bytes-fit 64 f);
  preempt = λ f. (length-preempt_bytes f, preempt_bytes-fit f);
  pull = λ f. (length-pull_bytes f, pull_bytes-fit f);
}
