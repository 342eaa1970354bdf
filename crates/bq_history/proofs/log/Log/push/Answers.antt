use Rattle.std.proofs.Common.{◌≡◌, [], ◌∷◌, ◌++◌, length, sym, ap, ◌∙◌, arith, length-append}
use Rattle.bq_history.specs.Chunks.{joined, AreChunks}
use Rattle.bq_history.proofs.ChunkingLemmas.{few_chunks, one_begun, joined_begun, last_open, one_more, joined_more}
use Rattle.bq_history.proofs.log.Log.push.Goals as goal

pub push-requires : goal.push-requires
push-requires g c =
    let few = few_chunks c.self.inside.chunks c.self.invariant.0 in
    let long = ap (λ x. length x) c.self.view_is in
    let fits = c.requires.fits in
    omega (arith, few, long, fits)

pub invariant_of-self : goal.invariant_of-self
invariant_of-self g c =
    let is : c.push.new.self ≡ c.self.inside.chunks ++ (c.args.entry ∷ []) ∷ [] =
    c.push.ensures ∙ ap (λ x. c.self.inside.chunks ++ x ∷ []) c.begun-slip.ensures in
    let long = c.self.invariant.1 in
    let full = c.if-place-eq0.true in
    let more = ap (λ x. length x) (joined_begun c.self.inside.chunks c.args.entry) in
    let both = length-append (joined c.self.inside.chunks) (c.args.entry ∷ []) in
    let all = ap (λ x. length (joined x)) is in (
      rw is (one_begun c.self.inside.chunks c.args.entry c.self.invariant.0 (omega (arith, long, full))),
      omega (arith, long, more, both, all),
    )

pub append-requires : goal.append-requires
append-requires g c =
    let long = c.self.invariant.1 in
    let part = c.if-place-eq0.false in
    last_open c.self.inside.chunks c.self.invariant.0 (omega (arith, long, part))

pub invariant_of-self-else-place-eq0 : goal.invariant_of-self-else-place-eq0
invariant_of-self-else-place-eq0 g c =
    let long = c.self.invariant.1 in
    let part = c.if-place-eq0.false in
    let l = last_open c.self.inside.chunks c.self.invariant.0 (omega (arith, long, part)) in
    let is : c.append.new.chunks ≡ l.0 ++ (l.1 ++ c.args.entry ∷ []) ∷ [] = c.append.ensures l.0 l.1 l.2 in
    let was : AreChunks (l.0 ++ l.1 ∷ []) = rw (← l.2) c.self.invariant.0 in
    let before = ap (λ x. length (joined x)) l.2 in
    let more = ap (λ x. length x) (joined_more l.0 l.1 c.args.entry) in
    let both = length-append (joined (l.0 ++ l.1 ∷ [])) (c.args.entry ∷ []) in
    let all = ap (λ x. length (joined x)) is in
    (rw is (one_more l.0 l.1 c.args.entry was l.3), omega (arith, long, before, more, both, all))

pub returns-else-place-eq0 : goal.returns-else-place-eq0
returns-else-place-eq0 g c =
    let long = c.self.invariant.1 in
    let part = c.if-place-eq0.false in
    let l = last_open c.self.inside.chunks c.self.invariant.0 (omega (arith, long, part)) in
    let is : c.append.new.chunks ≡ l.0 ++ (l.1 ++ c.args.entry ∷ []) ∷ [] = c.append.ensures l.0 l.1 l.2 in
    ap (λ x. joined x) is
    ∙ (joined_more l.0 l.1 c.args.entry ∙ ap (λ x. x ++ c.args.entry ∷ []) (ap (λ x. joined x) (sym l.2) ∙ c.self.view_is))
