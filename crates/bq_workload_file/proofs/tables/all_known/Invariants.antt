use Rattle.std.proofs.Common.{◌≡◌, ℕ, List, Bor, map}
use Rattle.toml.specs.View.{members_view}
use Rattle.bq_workload_file.specs.Keys.{first_unknown}
use Rattle.bq_workload_file.proofs.tables.all_known.Given as goal

-- none of the keys so far is unknown
abbrev pub invariant-keys : goal.invariant-keys
invariant-keys l =
    let words : List (List ℕ) = map (λ (word : Bor (List ℕ)). word.now) l.known in
    (goal.iterator-keys).can_next l.key-iterator × (goal.iterator-keys).is_finite l.key-iterator
    × (first_unknown words (members_view l.key-iterator) ≡ first_unknown words (members_view l.table.entries))
