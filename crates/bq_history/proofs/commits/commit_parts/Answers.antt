use Rattle.std.proofs.Common.{◌≡◌, [], ◌∷◌, ◌++◌, map, ap, ◌∙◌}
use Rattle.bq_history.specs.Items.{journal_item, caller_item, part_item, receipts_in}
use Rattle.bq_history.proofs.RecordingLemmas.{commits_at}
use Rattle.bq_history.proofs.commits.commit_parts.Goals as goal

pub change_jointly-requires : goal.change_jointly-requires
change_jointly-requires g c =
    let m = c.requires.may in
    let j = c.journal.inside in
    let k = c.caller.inside in
    let is : (j.holder ++ k.holder) ++ c.args.parts.now
    ≡ journal_item j.log j.kept ∷ caller_item k.number (receipts_in k.holder) ∷ map part_item m.0 =
    ap (λ x. (x ++ k.holder) ++ c.args.parts.now) c.journal.invariant
    ∙ ap (λ x. ((journal_item j.log j.kept ∷ []) ++ x) ++ c.args.parts.now) c.caller.invariant
    ∙ ap (λ x. (journal_item j.log j.kept ∷ caller_item k.number (receipts_in k.holder) ∷ []) ++ x) m.1 in
    record {
      changes =
          commits_at (g.M.World.step c.args.history.now.setup) g.M.World.kept g.M.World.same g.M.World.fits
          (g.M.World.opening c.args.history.now.setup) c.args.history.now.callers j.log j.kept c.renew.new.kept k.number
          (receipts_in k.holder) m.0 g.Q.Holding.items c.args.draft.reported ((j.holder ++ k.holder) ++ c.args.parts.now)
          (rw (c.renew.ensures, ap (λ v. v.1) c.journal.view_is) m.2) is;
    }
