use Rattle.std.proofs.Common.{◌≡◌, List, [], ◌∷◌, ◌++◌, ap, ◌∙◌, length, replicate, arith}
use Rattle.std.proofs.lemmas.List.{replicate_more, length-replicate}
use Rattle.bq_parts.specs.declared.lobby_entry.LobbyEntry.{LobbyEntry}
use Rattle.bq_parts.specs.declared.lobby_entry.LobbyEntry.TheVariants.{Absent}
use Rattle.bq_parts.proofs.lobby.Lobby.new.Goals as goal

pub entries-preserved : goal.entries-preserved
entries-preserved c =
    c.in_ok-push.ensures.items ∙ ap (λ (xs : List LobbyEntry). xs ++ Absent ∷ []) c.entries.invariant
    ∙ replicate_more c.entries.counter Absent

pub returns : goal.returns
returns c =
    let all : c.entries.counter ≡ 1024 = omega arith in
    c.entries.invariant ∙ ap (λ n. replicate n Absent) all

pub invariant_of-result : goal.invariant_of-result
invariant_of-result c =
    let all : c.entries.counter ≡ 1024 = omega arith in
    ap (λ (xs : List LobbyEntry). length xs) c.entries.invariant ∙ length-replicate c.entries.counter Absent ∙ all
