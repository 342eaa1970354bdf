use Rattle.std.proofs.Common.{◌++◌, ◌∙◌, ap, string_bytes}
use Rattle.std.proofs.lemmas.Result.{on_ok_weaker}
use Rattle.std.specs.Prelude.{codes}
use Rattle.bq_disc.specs.Counts.{saturating_sum}
use Rattle.bq_drawing.specs.Legends.{migration_key, pull_key, text_if, wait_key, wake_key}
use Rattle.bq_drawing.proofs.PictureLemmas.{both_added}
use Rattle.bq_drawing.proofs.legend.write_key.Goals as goal

pub returns : goal.returns
returns c =
    let key = c.args.key.now in
    let top = c.args.top in
    let old = string_bytes c.args.text.now in
    let t1 = string_bytes c.write_wait_key.new.text in
    let t2 = string_bytes c.write_wake_key.new.text in
    let t3 = string_bytes c.write_pull_key.new.text in
    let t4 = string_bytes c.write_migration_key.new.text in
    let waits = wait_key (saturating_sum top 5) (saturating_sum top 14) in
    let wakes = wake_key (saturating_sum top 3) (saturating_sum top 14) in
    let pulls = text_if key.has_pulls (pull_key (saturating_sum top 9) (saturating_sum top 14)) in
    let migrations = text_if key.has_migrations (migration_key (saturating_sum top 9) (saturating_sum top 14)) in
    let end = codes "\n" in
    on_ok_weaker c.write.result (λ e.
    both_added old t1 (string_bytes c.write.new.self) waits (wakes ++ (pulls ++ (migrations ++ end)))
    (c.in_ok-write_wait_key.ensures ∙ ap (λ bar. old ++ wait_key bar c.saturating_add-line.result) c.saturating_add.ensures
    ∙ ap (λ line. old ++ wait_key (saturating_sum top 5) line) c.saturating_add-line.ensures)
    (both_added t1 t2 (string_bytes c.write.new.self) wakes (pulls ++ (migrations ++ end))
    (c.in_ok-write_wake_key.ensures ∙ ap (λ begin. t1 ++ wake_key begin c.saturating_add-line.result) c.saturating_add-2.ensures
    ∙ ap (λ line. t1 ++ wake_key (saturating_sum top 3) line) c.saturating_add-line.ensures)
    (both_added t2 t3 (string_bytes c.write.new.self) pulls (migrations ++ end)
    (c.in_ok-write_pull_key.ensures
    ∙ ap (λ height. t2 ++ text_if key.has_pulls (pull_key height c.saturating_add-line.result)) c.saturating_add-height.ensures
    ∙ ap (λ line. t2 ++ text_if key.has_pulls (pull_key (saturating_sum top 9) line)) c.saturating_add-line.ensures)
    (both_added t3 t4 (string_bytes c.write.new.self) migrations end
    (c.in_ok-write_migration_key.ensures
    ∙ ap (λ height. t3 ++ text_if key.has_migrations (migration_key height c.saturating_add-line.result)) c.saturating_add-height.ensures
    ∙ ap (λ line. t3 ++ text_if key.has_migrations (migration_key (saturating_sum top 9) line)) c.saturating_add-line.ensures)
    e)))) c.write.ensures.bytes
