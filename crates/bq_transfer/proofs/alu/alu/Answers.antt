use Rattle.std.proofs.Common.{subst, refl, inl, inr, ◌≡◌, rules}
use Rattle.bq_transfer.specs.After.{After, GivesExact}
use Rattle.bq_transfer.specs.Ready.{IsCopyOfFrame}
use Rattle.bq_transfer.proofs.CertaintyLemmas.{exact_moves, has_copied, has_exact, has_given, has_moved, left_scalar, no_pointer, on_ok_at}
use Rattle.bq_insn.specs.declared.Operation.{Operation}
use Rattle.bq_insn.specs.declared.Operation.TheVariants.{Add, Mov}
use Rattle.bq_insn.specs.declared.Source.{Source}
use Rattle.bq_insn.specs.declared.Source.TheVariants.{Imm, Reg}
use Rattle.bq_insn.specs.declared.Insn.TheVariants.{Alu}
use Rattle.bq_transfer.proofs.alu.alu.Goals as goal

pub returns-then-eq-clause-transfers : goal.returns-then-eq-clause-transfers
returns-then-eq-clause-transfers c =
    let same : c.args.op ≡ Mov = search rules in
    rw same c.copy.ensures.transfers

pub returns-then-eq-clause-accepts : goal.returns-then-eq-clause-accepts
returns-then-eq-clause-accepts c = λ shapes context ready.
    let same : c.args.op ≡ Mov = search rules in
    elim ready.1 [
      | inl n ↦ (
        (c.copy.ensures.accepts n.1).0,
        λ x slot k after.
            has_given x slot k (Alu c.args.width c.args.op c.args.dst c.args.src) c.args.state.now c.copy.new.state c.args.dst
            refl (λ kind o r. no_pointer kind o slot k c.args.width c.args.op c.args.dst c.args.src r c.args.state.now n.0 n.1)
            (λ m r gives.
            has_exact m c.args.width c.args.dst c.args.src r c.args.state.now c.copy.new.state
            (on_ok_at c.copy.result (c.copy.ensures.accepts n.1).0 c.copy.ensures.exact)
            (subst (λ (op : Operation). GivesExact m (Alu c.args.width op c.args.dst c.args.src) r) same gives))
            (c.copy.ensures.accepts n.1).1 after,
      )
      | inr either ↦
          elim either [
            | inl f ↦
                let m : IsCopyOfFrame c.args.state.now c.args.width Mov c.args.src =
                record { is_copy = refl; whole = f.whole; of_frame = f.of_frame; base = f.base; stands = f.stands } in (
                  (c.copy.ensures.copies m).0,
                  λ x slot k after.
                      let at : After x slot k (Alu c.args.width c.args.op c.args.dst c.args.src) c.args.state.now = after in
                      let copied : After x slot k (Alu c.args.width Mov c.args.dst (Reg 10)) c.args.state.now =
                      subst (λ (src : Source). After x slot k (Alu c.args.width Mov c.args.dst src) c.args.state.now) f.of_frame
                      (subst (λ (op : Operation). After x slot k (Alu c.args.width op c.args.dst c.args.src) c.args.state.now) same at) in
                      has_copied x slot k c.args.width c.args.dst f.base c.args.state.now c.copy.new.state f.stands
                      (c.copy.ensures.copies m).1 copied,
                )
            | inr f ↦ absurd (let sum : c.args.op ≡ Add = f.is_sum in let no : ⊥ = cc in no)
          ]
    ]

pub returns-clause-accepts : goal.returns-clause-accepts
returns-clause-accepts c = λ shapes context ready.
    let other : c.args.op ≡ Mov → ⊥ = search rules in
    elim ready.1 [
      | inl n ↦
          let given = c.operate.ensures.accepts (left_scalar c.args.op c.args.state.now c.args.dst other n.0) n.1 in (
            given.0,
            λ x slot k after.
                has_given x slot k (Alu c.args.width c.args.op c.args.dst c.args.src) c.args.state.now c.operate.new.state c.args.dst refl
                (λ kind o r. no_pointer kind o slot k c.args.width c.args.op c.args.dst c.args.src r c.args.state.now n.0 n.1)
                (λ m r gives. absurd (exact_moves m c.args.width c.args.op c.args.dst c.args.src r other gives))
                given.1
                after,
          )
      | inr either ↦
          elim either [
            | inl f ↦ absurd (other f.is_copy)
            | inr f ↦ (
              (c.operate.ensures.moves f).0,
              λ x slot k after.
                  let at : After x slot k (Alu c.args.width c.args.op c.args.dst c.args.src) c.args.state.now = after in
                  let moved : After x slot k (Alu c.args.width Add c.args.dst (Imm f.distance)) c.args.state.now =
                  subst (λ (src : Source). After x slot k (Alu c.args.width Add c.args.dst src) c.args.state.now) f.by_distance
                  (subst (λ (op : Operation). After x slot k (Alu c.args.width op c.args.dst c.args.src) c.args.state.now) f.is_sum at) in
                  has_moved x slot k c.args.width c.args.dst f.base f.at f.distance c.args.state.now c.operate.new.state
                  f.stands f.at_is (c.operate.ensures.moves f).1 moved,
            )
          ]
    ]
