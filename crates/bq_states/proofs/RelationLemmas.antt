-- Relations of the words of classes: how they last, and that `==` of relations decides equality.
use Rattle.std.proofs.Common.{◌≡◌, ◌≢◌, ℕ, ◌+◌, ◌-◌, ◌%◌, ◌^◌, ◌<◌, true, ◌&&◌, Option, Some, None, refl, ap, arith}
use Rattle.std.specs.Prelude.{◌==◌}
use Rattle.std.specs.Bool.{Decides, beq}
use Rattle.std.specs.Cmp.{booleans_Decides}
use Rattle.std.proofs.lemmas.Bool.Decides.{Decides-and, Decides-eqb, Decides-like}
use Rattle.std.specs.Option.{option_eq}
use denote.Enum.Bare.{sameb, same_true, true_same}
use Rattle.bq_insn.specs.contracts.Condition as condition
use Rattle.bq_insn.specs.contracts.Width as width
use Rattle.bq_states.specs.declared.relations.Related.{Related}
use Rattle.bq_states.specs.declared.relations.Relation.{Relation}
use Rattle.bq_states.specs.declared.relations.Relation.TheVariants.{Sum, Compared}
use Rattle.bq_states.specs.contracts.relations.RelationPartialEq.TheImpl as same_relation
use Rattle.bq_states.specs.contracts.relations.RelatedPartialEq.TheImpl as same_related
use Rattle.bq_states.specs.Relations.{IsRelatedBy, Relates}

-- if the old relation holds between the words of its classes, the new one holds between those of its own
pub record AllowsRelation (old new : Option Related) : Type 0 where
  pub has : (word : ℕ → ℕ) → IsRelatedBy word old → IsRelatedBy word new

-- if the old relation holds, the new one holds even when the word of this class becomes another one
pub record OutlivesClass (class : ℕ) (old new : Option Related) : Type 0 where
  pub has : (word other : ℕ → ℕ) → ((k : ℕ) → k ≢ class → other k ≡ word k) → IsRelatedBy word old → IsRelatedBy other new

-- if no relation was known, none may be known
pub allows_no_relation : AllowsRelation None None
allows_no_relation = record { has = λ word h. h }

-- the word to which a number is added is the sum less that number
pub sum_right : (a b n : ℕ) → n < 2 ^ 64 → Relates (Sum n) a b → b ≡ (a + (2 ^ 64 - n)) % 2 ^ 64
sum_right a b n small so = omega (arith, so.left, so.right, so.is)

-- the `==` of relations decides whether the two are equal
relation_decides : (a b : Relation) → Decides (same_relation.eq-value.it a b) (a ≡ b)
relation_decides (Sum n) (Sum m) = Decides-like (n == m) (λ (p : n ≡ m). ap Sum p) (λ e. cc) (Decides-eqb n m)
relation_decides (Sum n) (Compared v d h) = ((λ e. absurd (cc)), (λ e. absurd (cc)))
relation_decides (Compared w c g) (Sum m) = ((λ e. absurd (cc)), (λ e. absurd (cc)))
relation_decides (Compared w c g) (Compared v d h) =
    Decides-like (sameb width.the_type w v && (sameb condition.the_type c d && beq g h))
    (λ (p : (w ≡ v) × ((c ≡ d) × (g ≡ h))). λ i. Compared (p.0 i) (p.1.0 i) (p.1.1 i)) (λ e. ((cc), ((cc), (cc))))
    (Decides-and (sameb width.the_type w v) (sameb condition.the_type c d && beq g h) (same_true width.the_type tt w v, true_same width.the_type w v)
    (Decides-and (sameb condition.the_type c d) (beq g h) (same_true condition.the_type tt c d, true_same condition.the_type c d) (booleans_Decides g h)))

-- two relations of classes that `==` says are equal are equal
related_same : (a b : Related) → same_related.eq-value.it a b ≡ true → a ≡ b
related_same a b e =
    let all =
    (Decides-and (a.left == b.left) ((a.right == b.right) && same_relation.eq-value.it a.relation b.relation)
    (Decides-eqb a.left b.left) (Decides-and (a.right == b.right) (same_relation.eq-value.it a.relation b.relation)
    (Decides-eqb a.right b.right) (relation_decides a.relation b.relation))).0 e in
    λ i. record { left = all.0 i; right = all.1.0 i; relation = all.1.1 i }

-- two relations of classes, known or not, that `==` says are equal are equal
pub option_same : (a b : Option Related) → option_eq same_related.eq-value.it a b ≡ true → a ≡ b
option_same None None e = refl
option_same None (Some b) e = absurd (cc)
option_same (Some a) None e = absurd (cc)
option_same (Some a) (Some b) e = ap Some (related_same a b e)
