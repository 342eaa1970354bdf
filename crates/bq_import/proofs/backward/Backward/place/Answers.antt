use Rattle.std.proofs.Common.{◌≡◌, ◌+◌, ◌-◌, ℕ, arith, subst}
use Rattle.std.proofs.lemmas.Result.{err_from_is_err_and}
use Rattle.bq_import.specs.Running.{IsPutting}
use Rattle.bq_import.proofs.RunningLemmas.{all_fits, all_put, first_full, first_put, fits_in, next_front, next_full, next_put}
use Rattle.bq_import.proofs.backward.Backward.place.Goals as goal

pub put_at-requires-clause-ready : goal.put_at-requires-clause-ready
put_at-requires-clause-ready c = λ start.
    let run = c.run_end-last.ensures.run in
    run.ready c.run_end-last.result run.begins (omega arith) start

pub returns-in_err-put_at-clause-full : goal.returns-in_err-put_at-clause-full
returns-in_err-put_at-clause-full c =
    let run = c.run_end-last.ensures in
    let p = err_from_is_err_and c.from_residual.result c.from_residual.ensures.1 in
    let before = c.args.self.now in
    rw (p.1, p.2) (λ most enough.
    first_full c.args.maps c.args.old.now before.slots.items before.origins.items c.args.places.now c.requires.linked
    c.args.slot c.run_end-last.result run.run most c.in_err-put_at.field-0.0
    (fits_in c.args.maps c.args.old.now before.slots.items before.origins.items c.args.places.now c.requires.linked
    c.args.slot c.run_end-last.result run.run run.short most enough) c.in_err-put_at.ensures.full)

pub loop-done-init : goal.loop-done-init
loop-done-init c =
    let before = c.args.self.now in
    let last = c.run_end-last.result in
    let after = c.put_at.new.self in
    let same : last ≡ last - 0 = omega arith in
    subst (λ (n : ℕ).
    IsPutting c.args.maps c.args.old.now before.slots.items before.origins.items c.run_end-last.result n
    c.put_at.new.self.slots.items c.put_at.new.self.origins.items) same
    (first_put c.args.maps c.args.old.now before.slots.items before.origins.items c.args.places.now
    c.requires.linked c.args.slot c.run_end-last.result c.run_end-last.ensures.run after.slots.items
    after.origins.items c.in_ok-put_at.ensures.ok)

pub put_at-requires-in-loop-done-clause-known : goal.put_at-requires-in-loop-done-clause-known
put_at-requires-in-loop-done-clause-known c = λ slot place e. c.loop-done.invariant.keeps place slot (c.requires.known slot place e)

pub put_at-requires-in-loop-done-clause-ready : goal.put_at-requires-in-loop-done-clause-ready
put_at-requires-in-loop-done-clause-ready c = λ start.
    let run = c.run_end-last.ensures.run in
    let lt = c.loop-done-test.true in
    run.ready (c.run_end-last.result - 1 - c.loop-done.done) (omega (arith, lt)) (omega (arith, lt)) start

pub put_at-requires-in-loop-done-clause-front : goal.put_at-requires-in-loop-done-clause-front
put_at-requires-in-loop-done-clause-front c =
    let before = c.args.self.now in
    let now = c.loop-done.self in
    let last = c.run_end-last.result in
    let at : ℕ = c.run_end-last.result - 1 - c.loop-done.done in
    let lt = c.loop-done-test.true in
    let bound : last - c.loop-done.done ≡ (last - 1 - c.loop-done.done) + 1 = omega (arith, lt) in
    let p : IsPutting c.args.maps c.args.old.now before.slots.items before.origins.items c.run_end-last.result
    ((c.run_end-last.result - 1 - c.loop-done.done) + 1) now.slots.items now.origins.items =
    subst (λ (n : ℕ).
    IsPutting c.args.maps c.args.old.now before.slots.items before.origins.items c.run_end-last.result n
    now.slots.items now.origins.items) bound c.loop-done.invariant in
    next_front c.args.maps c.args.old.now before.slots.items before.origins.items c.args.places.now
    c.requires.linked c.args.slot c.run_end-last.result c.run_end-last.ensures.run now.slots.items now.origins.items
    (last - 1 - c.loop-done.done) (omega (arith, lt)) (omega (arith, lt)) p

pub returns-in_err-put_at-2-clause-full : goal.returns-in_err-put_at-2-clause-full
returns-in_err-put_at-2-clause-full c =
    let q = err_from_is_err_and c.from_residual-in_err-put_at-2.result c.from_residual-in_err-put_at-2.ensures.1 in
    let before = c.args.self.now in
    let now = c.loop-done.self in
    let last = c.run_end-last.result in
    let lt = c.loop-done-test.true in
    let bound : last - c.loop-done.done ≡ (last - 1 - c.loop-done.done) + 1 = omega (arith, lt) in
    let p : IsPutting c.args.maps c.args.old.now before.slots.items before.origins.items c.run_end-last.result
    ((c.run_end-last.result - 1 - c.loop-done.done) + 1) now.slots.items now.origins.items =
    subst (λ (n : ℕ).
    IsPutting c.args.maps c.args.old.now before.slots.items before.origins.items c.run_end-last.result n
    now.slots.items now.origins.items) bound c.loop-done.invariant in
    let run = c.run_end-last.ensures in
    rw (q.1, q.2) (λ most enough.
    next_full c.args.maps c.args.old.now before.slots.items before.origins.items c.args.places.now c.requires.linked
    c.args.slot c.run_end-last.result run.run now.slots.items now.origins.items (last - 1 - c.loop-done.done)
    (omega (arith, lt)) (omega (arith, lt)) p most c.in_err-put_at-2.field-0.0
    (fits_in c.args.maps c.args.old.now before.slots.items before.origins.items c.args.places.now c.requires.linked
    c.args.slot c.run_end-last.result run.run run.short most enough) c.in_err-put_at-2.ensures.full)

pub loop-done-preserved : goal.loop-done-preserved
loop-done-preserved c =
    let before = c.args.self.now in
    let now = c.loop-done.self in
    let more = c.put_at-in-loop-done.new.self in
    let last = c.run_end-last.result in
    let lt = c.loop-done-test.true in
    let bound : last - c.loop-done.done ≡ (last - 1 - c.loop-done.done) + 1 = omega (arith, lt) in
    let p : IsPutting c.args.maps c.args.old.now before.slots.items before.origins.items c.run_end-last.result
    ((c.run_end-last.result - 1 - c.loop-done.done) + 1) now.slots.items now.origins.items =
    subst (λ (n : ℕ).
    IsPutting c.args.maps c.args.old.now before.slots.items before.origins.items c.run_end-last.result n
    now.slots.items now.origins.items) bound c.loop-done.invariant in
    let next : last - 1 - c.loop-done.done ≡ last - (c.loop-done.done + 1) = omega arith in
    subst (λ (n : ℕ).
    IsPutting c.args.maps c.args.old.now before.slots.items before.origins.items c.run_end-last.result n
    more.slots.items more.origins.items) next
    (next_put c.args.maps c.args.old.now before.slots.items before.origins.items c.args.places.now
    c.requires.linked c.args.slot c.run_end-last.result c.run_end-last.ensures.run now.slots.items now.origins.items
    (last - 1 - c.loop-done.done) (omega (arith, lt)) (omega (arith, lt)) p more.slots.items more.origins.items
    c.in_ok-put_at-2.ensures.ok)

pub returns-clause-ok : goal.returns-clause-ok
returns-clause-ok c =
    let before = c.args.self.now in
    let now = c.loop-done.self in
    let last = c.run_end-last.result in
    let end = c.loop-done-test.false in
    let most = c.loop-done.auto.done-end in
    let begins = c.run_end-last.ensures.run.begins in
    all_put c.args.maps c.args.old.now before.slots.items before.origins.items c.args.places.now c.requires.linked
    c.args.slot c.run_end-last.result c.run_end-last.ensures.run now.slots.items now.origins.items (last - c.loop-done.done)
    (omega (arith, end, most, begins)) c.requires.start c.loop-done.invariant

pub returns-clause-grown : goal.returns-clause-grown
returns-clause-grown c =
    let before = c.args.self.now in
    let now = c.loop-done.self in
    let last = c.run_end-last.result in
    let run = c.run_end-last.ensures in
    let end = c.loop-done-test.false in
    let most = c.loop-done.auto.done-end in
    let begins = c.run_end-last.ensures.run.begins in
    let all =
    all_fits c.args.maps c.args.old.now before.slots.items before.origins.items c.args.places.now c.requires.linked
    c.args.slot c.run_end-last.result run.run now.slots.items now.origins.items (last - c.loop-done.done)
    (omega (arith, end, most, begins)) c.loop-done.invariant in
    λ room enough.
    let fits =
    fits_in c.args.maps c.args.old.now before.slots.items before.origins.items c.args.places.now c.requires.linked c.args.slot
    c.run_end-last.result run.run run.short room enough in
    omega (arith, all, fits)
