use Rattle.std.proofs.Common.{◌≡◌, ◌<◌, ◌*◌, ◌/◌, ℕ, true, length, subst, sym, ◌∙◌, arith, rules}
use Rattle.std.proofs.lemmas.Bool.{false≢true}
use Rattle.bq_states.specs.Copies.{HasWord}
use Rattle.bq_insn.specs.declared.Insn.TheVariants.{Load}
use Rattle.bq_states.proofs.PartLemmas.{read_numbers}
use Rattle.bq_transfer.proofs.PlaceLemmas.{stack_inside}
use Rattle.bq_transfer.proofs.PutLemmas.{carries_linked, carries_put}
use Rattle.bq_transfer.proofs.LoadLemmas.{load_gives, kept_load}
use Rattle.bq_transfer.proofs.loads.load.Goals as goal

pub returns-in-Some-clause-transfers : goal.returns-in-Some-clause-transfers
returns-in-Some-clause-transfers c =
    let there : c.args.dst < length c.args.state.now.registers = omega (arith, c.requires.below) in
    let slot : ℕ = c.in_ok-found.found.at.lo / 8 in
    let to : c.from.result ≡ c.args.dst = search rules in
    let first : c.in_ok-found.found.at.lo ≡ 8 * slot = omega (arith, c.in-Some.ensures.6) in
    let gives =
    kept_load c.args.shapes.now c.args.context c.args.state.now c.args.access.size c.args.signed c.args.dst
    c.args.access.base c.args.access.off c.in_ok-found.found.kind c.in_ok-found.found.at c.in-Some.word
    c.in_ok-found.ensures.finds c.in-Some.ensures c.requires.below in
    let linked = rw c.set_register.ensures.is at c.link.ensures in
    rw c.set_register.ensures.is (carries_linked c.args.shapes.now c.args.context
    (Load c.args.access.size c.args.signed c.args.dst c.args.access.base c.args.access.off) c.args.state.now
    c.args.dst slot c.in-Some.word c.link.new.classes c.link.new.related there (omega (arith, c.requires.below))
    (λ f s suits contains. let given = gives f s suits contains in (given.0, given.1, given.2, given.3 slot first))
    (λ t n copies has copy. linked t n copies has (λ m h. subst (λ (p : ℕ). HasWord t p m) (sym to) (copy m h))))

pub returns-clause-transfers : goal.returns-clause-transfers
returns-clause-transfers c =
    let there : c.args.dst < length c.args.state.now.registers = omega (arith, c.requires.below) in
    rw c.set_register-2.ensures.is (carries_put c.args.shapes.now c.args.context
    (Load c.args.access.size c.args.signed c.args.dst c.args.access.base c.args.access.off)
    c.args.state.now c.args.dst _ there
    (load_gives c.args.shapes.now c.args.context c.args.state.now c.args.access.size c.args.signed c.args.dst
    c.args.access.base c.args.access.off c.in_ok-found.found.kind c.in_ok-found.found.at c.loads.result
    c.in_ok-found.ensures.finds (search rules)
    (λ f s word bytes r contains long small is within.
    c.loads.ensures _ (read_numbers c.in_ok-found.found.kind c.in_ok-found.found.at c.reads_at.result c.args.access.size f
    s _ bytes c.args.state.now.parts r c.reads_at.ensures.any (λ stack o own at. c.reads_at.ensures.stack at stack o own)
    contains.parts long small is within)) c.requires.below))

pub returns-in_err-found-clause-accepts : goal.returns-in_err-found-clause-accepts
returns-in_err-found-clause-accepts c = λ ready.
    absurd (false≢true (c.in_err-found.ensures.accepts ready.kind ready.at ready.placed))

pub returns-then-not-is_readable-clause-accepts : goal.returns-then-not-is_readable-clause-accepts
returns-then-not-is_readable-clause-accepts c = λ ready.
    let there = c.in_ok-found.ensures.there ready.kind ready.at ready.placed in
    let inside =
    stack_inside c.args.shapes.now c.args.context c.args.state.now c.args.access.size c.args.access.base
    c.args.access.off ready.kind ready.at in
    let yes : c.is_readable.result ≡ true = c.is_readable.ensures.found
    (λ e. let under = inside (sym there.0 ∙ e) ready.placed in omega (arith, there.2, under))
    (λ e i le lt. ready.set (sym there.0 ∙ e) i (omega (arith, there.1)) (omega (arith, there.2))) in
    absurd (let no : ⊥ = cc in no)
