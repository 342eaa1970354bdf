use Rattle.std.proofs.Common.{ℕ, ◌≡◌, ◌∙◌, Option, Some, None, true, refl, sym, subst, arith, rules}
use Rattle.std.specs.Prelude.{slice_get}
use Rattle.bq_bpf.specs.declared.shape.MapShape.{MapShape}
use Rattle.bq_states.specs.AbstractStates.{size_of_shape}
use Rattle.bq_transfer.proofs.CallLemmas.{carries_update}
use Rattle.bq_transfer.proofs.calls.update.Goals as goal

pub returns-clause-transfers : goal.returns-clause-transfers
returns-clause-transfers c =
    let size : c.from.result ≡ c.in-Some-shape_of.shape.value_size = search rules in
    let values = rw size at (c.reads_value.ensures.finds c.if-not-reads_value.false) in
    carries_update c.args.shapes.now c.args.context c.args.state.now c.answer.new.state c.in-Some.map c.in-Some-shape_of.shape
    (sym c.in-Some-shape_of.ensures) c.in-Some.ensures.names (c.reads.ensures.finds c.if-not-reads.false) values
    (c.is_at_most.ensures.below c.if-not-is_at_most.false 1 (omega arith)) (λ f s x contains small.
    c.answer.ensures.contains f s x contains (omega (arith, c.full.ensures.lo), omega (arith, c.full.ensures.hi)))

shape_there : (o : Option MapShape) (size : ℕ) → size_of_shape o ≡ Some size → (shape : MapShape) × (o ≡ Some shape)
shape_there None size e = absurd (let no : ⊥ = cc in no)
shape_there (Some shape) size e = (shape, refl)

size_same : (o : Option MapShape) (shape : MapShape) (size : ℕ) → Some shape ≡ o → size_of_shape o ≡ Some size → shape.value_size ≡ size
size_same None shape size e f = absurd (let no : ⊥ = cc in no)
size_same (Some other) shape size e f =
    let same : shape ≡ other = cc in
    let is : other.value_size ≡ size = cc in
    rw same is

pub returns-in_default-clause-accepts : goal.returns-in_default-clause-accepts
returns-in_default-clause-accepts c = λ m ready. absurd (c.in_default.not-Some m (c.map_of.ensures.found m ready.names.names))

pub returns-in_default-shape_of-clause-accepts : goal.returns-in_default-shape_of-clause-accepts
returns-in_default-shape_of-clause-accepts c = λ m ready.
    let found : Some c.in-Some.map ≡ Some m = c.in-Some.ensures.found m ready.names.names in
    let same : c.in-Some.map ≡ m = cc in
    let there = shape_there (slice_get c.args.shapes.now m) ready.size ready.size_is in
    let known : slice_get c.args.shapes.now c.in-Some.map ≡ Some there.0 =
    subst (λ (n : ℕ). slice_get c.args.shapes.now n ≡ Some there.0) (sym same) there.1 in
    absurd (c.in_default-shape_of.not-Some there.0 (c.shape_of.ensures ∙ known))

pub returns-then-not-reads_value-clause-accepts : goal.returns-then-not-reads_value-clause-accepts
returns-then-not-reads_value-clause-accepts c = λ m ready.
    let found : Some c.in-Some.map ≡ Some m = c.in-Some.ensures.found m ready.names.names in
    let same : c.in-Some.map ≡ m = cc in
    let known : Some c.in-Some-shape_of.shape ≡ slice_get c.args.shapes.now m =
    subst (λ (n : ℕ). Some c.in-Some-shape_of.shape ≡ slice_get c.args.shapes.now n) same c.in-Some-shape_of.ensures in
    let size : c.from.result ≡ c.in-Some-shape_of.shape.value_size = search rules in
    let is : c.in-Some-shape_of.shape.value_size ≡ ready.size =
    size_same (slice_get c.args.shapes.now m) c.in-Some-shape_of.shape ready.size known ready.size_is in
    let count : c.from.result ≡ ready.size = size ∙ is in
    let yes' : c.reads_value.result ≡ true =
    c.reads_value.ensures.accepts ready.at ready.points (omega (arith, ready.inside, count))
    (λ i le lt. ready.set i le (omega (arith, count))) in
    absurd (let no : ⊥ = cc in no)
