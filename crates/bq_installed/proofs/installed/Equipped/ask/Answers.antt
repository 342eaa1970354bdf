use Rattle.std.proofs.Common.{ℕ, List, length, subst, ap, ◌∙◌, arith}
use Rattle.bq_bpf.specs.Memory.{HaveShapes}
use Rattle.bq_verify.specs.Accepted.{Accepted}
use Rattle.bq_installed.specs.Answers.{Answers}
use Rattle.bq_installed.proofs.installed.Equipped.ask.Goals as goal

pub invariant_of-self : goal.invariant_of-self
invariant_of-self g c = c.run_into-done.ensures.shapes ∙ ap (λ (p : Accepted). p.shapes) c.program.ensures.value

pub returns : goal.returns
returns g c =
    let done = c.run_into-done in
    let budget =
    ap (λ (p : Accepted). p.budget) c.program.ensures.value
    ∙ ap (λ (e : Accepted × List (List ℕ)). e.0.budget) c.self.view_is in
    record {
      answers =
          subst (λ (e : Accepted × List (List ℕ)).
          Answers e.0 c.args.context.now e.1 c.args.env.now c.args.env.processor done.result.r0 done.new.maps.bytes
          done.result.steps done.new.calls.items) c.self.view_is
          (subst (λ (p : Accepted).
          Answers p c.args.context.now c.self.inside.maps.bytes c.args.env.now c.args.env.processor done.result.r0
          done.new.maps.bytes done.result.steps done.new.calls.items) c.program.ensures.value done.ensures.ran);
      within = (omega (arith, budget, done.ensures.within), omega (arith, c.calls-few.ensures.few, ap length c.calls-few.ensures.value));
      equipped = (
        c.program.ensures.accepted,
        subst (λ shapes. HaveShapes shapes done.new.maps.bytes)
            (done.ensures.shapes ∙ ap (λ (p : Accepted). p.shapes) c.program.ensures.value) c.shapes-sizes.ensures.sizes,
      );
      policy = ap (λ (e : Accepted × List (List ℕ)). e.0) c.self.view_is;
      board = done.ensures.board;
    }
