-- How the words of two classes of places are related.
use Rattle.std.specs.Prelude.{◌≡◌, ℕ, ◌+◌, ◌%◌, ◌^◌, ◌<◌, List, Option, Some, None, slice_index_or}
use Rattle.bq_bpf.specs.Meaning.{taken}
use Rattle.bq_states.specs.declared.relations.Relation.{Relation}
use Rattle.bq_states.specs.declared.relations.Relation.TheVariants.{Sum, Compared}
use Rattle.bq_states.specs.declared.relations.Related.{Related}

-- `a` is the sum of `b` and a constant, or the comparison of both comes out as the relation says
abbrev pub IsRelated : Relation → ℕ → ℕ → Type 0
IsRelated (Sum n) a b = a ≡ (b + n) % 2 ^ 64
IsRelated (Compared width cond goes) a b = taken width cond a b ≡ goes

-- both are 64-bit words, and the relation holds between them
pub record Relates (relation : Relation) (a b : ℕ) : Type 0 where
  pub left : a < 2 ^ 64
  pub right : b < 2 ^ 64
  pub is : IsRelated relation a b

-- if a relation is known, it holds between the words of its two classes
abbrev pub IsRelatedBy : (ℕ → ℕ) → Option Related → Type 0
IsRelatedBy word None = Unit {0}
IsRelatedBy word (Some r) = Relates r.relation (word r.left) (word r.right)

-- all known relations hold between the words of the classes
abbrev pub AreRelated : (ℕ → ℕ) → List (Option Related) → Type 0
AreRelated word related = (k : ℕ) → IsRelatedBy word (slice_index_or related k None)
