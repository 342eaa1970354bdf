use Rattle.std.proofs.Common.{rules, ◌≡◌, ℕ, SFits, length, subst, to_z-of_z}
use Rattle.std.specs.Int.{w32}
use Rattle.std.specs.Prelude.{IfOk, string_bytes}
use Rattle.bq_needs.specs.Words.{map_text}
use Rattle.bq_needs.proofs.words.need_text.Goals as goal

pub returns-in-Map : goal.returns-in-Map
returns-in-Map c =
    let fits : SFits w32 c.in-Map.index = search rules in
    let described : IfOk c.map_text.result (λ text. string_bytes text ≡ map_text c.in-Map.index c.len.result) =
    simp (to_z-of_z fits) at c.map_text.ensures in
    let count : c.len.result ≡ length c.args.policy.now.form.shapes.items = search rules in
    rw c.in-Map.is (subst (λ (n : ℕ). IfOk c.map_text.result (λ text. string_bytes text ≡ map_text c.in-Map.index n)) count described)
