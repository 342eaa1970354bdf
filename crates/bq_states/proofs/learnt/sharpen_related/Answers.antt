use Rattle.std.proofs.Common.{◌≡◌, refl, rules}
use Rattle.bq_states.specs.declared.abstract_state.ValueKind.TheVariants.{Number}
use Rattle.bq_states.proofs.LearntLemmas.{sharpens_more}
use Rattle.bq_states.proofs.learnt.sharpen_related.Goals.{in-Some, in_default}
use Rattle.bq_states.proofs.learnt.sharpen_related.Goals as goal

pub returns-then-ne-clause-contains : goal.returns-then-ne-clause-contains
returns-then-ne-clause-contains c = λ f s was d. (was, refl)

pub loop-i-init : goal.loop-i-init
loop-i-init c = record { contains = λ f s was d. (was, refl); has = λ x lasting has. has }

pub loop-i-preserved : goal.loop-i-preserved
loop-i-preserved c =
    let number : c.args.learnt.kind ≡ Number = search rules in
    elim c.match-state-i.branch [
      | in-Some w ↦ rw w.state-is (record {
        contains =
            sharpens_more c.args.learnt c.args.class c.loop-i.i w.in-Some.known c.args.state.now c.loop-i.state
            w.sharpen_left.new.state w.sharpen_right.new.state number w.in-Some.is c.loop-i.invariant.contains
            w.sharpen_left.ensures.contains w.sharpen_right.ensures.contains;
        has = λ x lasting has.
            w.sharpen_right.ensures.has x lasting
            (w.sharpen_left.ensures.has x lasting (c.loop-i.invariant.has x lasting has));
      })
      | in_default w ↦ rw w.state-is c.loop-i.invariant
    ]
