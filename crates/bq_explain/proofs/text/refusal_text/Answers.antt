use Rattle.std.proofs.Common.{◌≡◌, ◌∙◌, ◌++◌, ℕ, List, ap, append_assoc, refl, subst, sym}
use Rattle.std.specs.Prelude.{codes, string_bytes}
use Rattle.std.proofs.lemmas.Result.{IfOk-weaker}
use Rattle.bq_bpf.specs.declared.shape.MapShape.{MapShape}
use Rattle.bq_explain.specs.Explained.{DescribesFinding, DescribesRefusal}
use Rattle.bq_explain.specs.Texts.{IsStateText}
use Rattle.bq_explain.specs.declared.refusal.Finding.{Finding}
use Rattle.bq_explain.proofs.RefusalTextLemmas.{describes_refusal}
use Rattle.bq_explain.proofs.text.refusal_text.Goals as goal

pub returns-in-Graph-clause-describes : goal.returns-in-Graph-clause-describes
returns-in-Graph-clause-describes c =
    let line = string_bytes c.args.line in
    let at = string_bytes c.in_ok-at.at in
    let after = string_bytes c.in_ok-after.after in
    let need = string_bytes c.in_ok-need-in-Graph.need in
    let found = codes "\n  " ++ (need ++ codes "\n") in
    IfOk-weaker c.format.result (λ text. string_bytes text ≡ line ++ (at ++ (codes "\n  " ++ (need ++ (codes "\n" ++ after)))))
    (λ text. DescribesRefusal c.args.policy.now c.args.refusal.now (string_bytes text))
    (λ text is.
    describes_refusal c.args.policy.now c.args.refusal.now line at found after (string_bytes text) c.in_ok-at.ensures
    (subst (λ (f : Finding). DescribesFinding c.args.policy.now c.args.refusal.now.place.insn f found) (sym c.in-Graph.is) tt)
    c.in_ok-after.ensures (is ∙ ap (λ (t : List ℕ). line ++ (at ++ (codes "\n  " ++ t))) (sym (append_assoc need (codes "\n") after))))
    c.format.ensures.ok

pub returns-in-Unknown-clause-describes : goal.returns-in-Unknown-clause-describes
returns-in-Unknown-clause-describes c =
    let line = string_bytes c.args.line in
    let at = string_bytes c.in_ok-at.at in
    let after = string_bytes c.in_ok-after.after in
    let found = codes "\n  is not shown to be safe\n" in
    IfOk-weaker c.format-in-Unknown.result (λ text. string_bytes text ≡ line ++ (at ++ (found ++ after)))
    (λ text. DescribesRefusal c.args.policy.now c.args.refusal.now (string_bytes text))
    (λ text is.
    describes_refusal c.args.policy.now c.args.refusal.now line at found after (string_bytes text) c.in_ok-at.ensures
    (subst (λ (f : Finding). DescribesFinding c.args.policy.now c.args.refusal.now.place.insn f found) (sym c.in-Unknown.is) tt)
    c.in_ok-after.ensures is) c.format-in-Unknown.ensures.ok

pub returns-clause-describes : goal.returns-clause-describes
returns-clause-describes c =
    let line = string_bytes c.args.line in
    let at = string_bytes c.in_ok-at.at in
    let described = string_bytes c.in_ok-described-in-State.described in
    let lines = string_bytes c.in_ok-state-in-State.state in
    let after = string_bytes c.in_ok-after.after in
    let found = codes "\n  " ++ (described ++ (codes "\n" ++ lines)) in
    IfOk-weaker c.format-in-State.result
    (λ text. string_bytes text ≡ line ++ (at ++ (codes "\n  " ++ (described ++ (codes "\n" ++ (lines ++ after))))))
    (λ text. DescribesRefusal c.args.policy.now c.args.refusal.now (string_bytes text))
    (λ text is.
    describes_refusal c.args.policy.now c.args.refusal.now line at found after (string_bytes text) c.in_ok-at.ensures
    (subst (λ (f : Finding). DescribesFinding c.args.policy.now c.args.refusal.now.place.insn f found) (sym c.in-State.is) record {
      described = described;
      describes_need = c.in_ok-described-in-State.ensures;
      lines = lines;
      are_state =
          subst (λ (shapes : List MapShape). IsStateText shapes c.in-State.known lines) c.as_slice.ensures.value
          c.in_ok-state-in-State.ensures.text;
      hold = λ f s same contains. c.in_ok-state-in-State.ensures.describes f s (same ∙ sym c.as_slice.ensures.value) contains;
      text_is = refl;
    }) c.in_ok-after.ensures
    (is ∙ ap (λ (t : List ℕ). line ++ (at ++ (codes "\n  " ++ t))) (sym (append_assoc described (codes "\n" ++ lines) after))))
    c.format-in-State.ensures.ok
