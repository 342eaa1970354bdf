-- The text of a refusal by its parts.
use Rattle.std.proofs.Common.{◌≡◌, ◌∙◌, ◌++◌, ℕ, List, ap, append_assoc, sym}
use Rattle.bq_policy_file.specs.declared.policy_source.PolicySource.{PolicySource}
use Rattle.bq_explain.specs.Explained.{DescribesFinding, DescribesRefusal}
use Rattle.bq_explain.specs.TrailTexts.{EndsWith, DescribesTrail, place_line}
use Rattle.bq_explain.specs.declared.refusal.ExplainedRefusal.{ExplainedRefusal}

-- the parts make the whole
pub describes_refusal : (p : PolicySource) (refusal : ExplainedRefusal) (line at found after text : List ℕ)
    → EndsWith (place_line refusal.place) at → DescribesFinding p refusal.place.insn refusal.finding found
    → DescribesTrail p.form.shapes.items refusal.trail after → text ≡ line ++ (at ++ (found ++ after))
    → DescribesRefusal p refusal text
describes_refusal p refusal line at found after text (named, ends) finding trail is =
    let place = place_line refusal.place in
    record {
      before = line ++ named;
      found = found;
      describes_finding = finding;
      after = after;
      describes_trail = trail;
      text_is =
          is ∙ ap (λ (t : List ℕ). line ++ (t ++ (found ++ after))) ends
          ∙ ap (λ (t : List ℕ). line ++ t) (append_assoc named place (found ++ after))
          ∙ sym (append_assoc line named (place ++ (found ++ after)));
    }
