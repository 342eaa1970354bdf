use Rattle.std.proofs.Common.{◌≡◌, ◌++◌, ap, ◌∙◌}
use Rattle.bq_history.proofs.commits.change_jointly.Goals as goal

pub change-requires : goal.change-requires
change-requires g c =
    let is : c.gather-2.new.to ≡ (c.args.journal.now ++ c.args.caller.now) ++ c.args.parts.now =
    c.gather-2.ensures.0 ∙ ap (λ x. x ++ c.args.parts.now) (c.gather.ensures.0 ∙ ap (λ x. x ++ c.args.caller.now) c.take_all-all.ensures.1) in
    record { changes = rw is c.requires.changes }
