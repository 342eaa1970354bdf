-- The preempt context, filled field by field.
use Rattle.std.proofs.Common.{◌≡◌, ℕ, List, [], ◌++◌, length, take, refl, ap}
use Rattle.std.specs.Prelude.{Option}
use Rattle.bq_disc.specs.Tasks.{Task}
use Rattle.bq_hooks.specs.Contexts.{PreemptFacts, preempt_bytes, u32_bytes, u64_bytes, four_bytes, task_bytes, nobody, as_number}
use Rattle.bq_hooks.proofs.FillingLemmas.{more_filled, four_same, filled_whole}

-- once all fields are written one behind another, the 56 bytes are the preempt context of what they show
pub preempt_filled : (f : PreemptFacts) (c0 c1 c2 c3 c4 c5 c6 : List ℕ) (processor waiting id weight v deadline own : ℕ)
    (choice : Option Task)
    → processor ≡ f.processor → waiting ≡ length f.queue → id ≡ f.current.id → weight ≡ f.current.weight
    → take 16 c1 ≡ take 0 c0 ++ four_bytes processor waiting id weight → v ≡ f.current.v
    → take 24 c2 ≡ take 16 c1 ++ u64_bytes v → deadline ≡ f.current.deadline → take 32 c3 ≡ take 24 c2 ++ u64_bytes deadline
    → choice ≡ f.choice → take 48 c4 ≡ take 32 c3 ++ task_bytes nobody choice → own ≡ as_number f.own
    → take 52 c5 ≡ take 48 c4 ++ u32_bytes own → take 56 c6 ≡ take 52 c5 ++ u32_bytes 0 → length c6 ≡ 56
    → c6 ≡ preempt_bytes f
unfolding preempt_bytes
preempt_filled f c0 c1 c2 c3 c4 c5 c6 processor waiting id weight v deadline own choice e1 e2 e3 e4 h1 e5 h2 e6 h3 e7 h4 e8 h5 h6 l =
    let s1 = more_filled 0 16 c0 c1 [] _ _ h1 (four_same e1 e2 e3 e4) refl in
    let s2 = more_filled 16 24 c1 c2 _ _ _ h2 (ap u64_bytes e5) s1 in
    let s3 = more_filled 24 32 c2 c3 _ _ _ h3 (ap u64_bytes e6) s2 in
    let s4 = more_filled 32 48 c3 c4 _ _ _ h4 (ap (task_bytes nobody) e7) s3 in
    let s5 = more_filled 48 52 c4 c5 _ _ _ h5 (ap u32_bytes e8) s4 in
    filled_whole 56 c6 _ (more_filled 52 56 c5 c6 _ _ _ h6 refl s5) l
