use Rattle.std.proofs.Common.{◌≡◌, ℕ, List, [], ◌∷◌, ◌++◌, append-nil, map, ap, sym, ◌∙◌, map-id}
use Rattle.std.proofs.Math.Utf8.{encode, encodes}
use Rattle.std.proofs.lemmas.List.{map-append}
use Rattle.std.proofs.lemmas.Str.{encodes-append}
use Rattle.std.proofs.lemmas.Iterator.{YieldsList-from_chars, YieldsList-from_take}
use Rattle.std.proofs.lemmas.Iterator.Consumers.{YieldsList-end}
use Rattle.bq_timeline.specs.TasksByName.{shown_letter}
use Rattle.bq_timeline.specs.declared.tasks_by_name.TheConstants.{QUOTED}
use Rattle.bq_timeline.proofs.tasks_by_name.quoted.Goals as goal

pub loop-letter-preserved : goal.loop-letter-preserved
loop-letter-preserved c =
    let yielded = c.loop-letter.yielded in
    let letter = c.in-Some.letter in
    let before = encodes (map shown_letter yielded) in
    let more : encodes (map shown_letter (yielded ++ letter ∷ [])) ≡ before ++ encodes (shown_letter letter ∷ []) =
    ap encodes (map-append shown_letter yielded (letter ∷ [])) ∙ encodes-append (map shown_letter yielded) (shown_letter letter ∷ []) in
    let one : encodes (shown_letter letter ∷ []) ≡ encode c.shown_letter.result =
    append-nil (encode (shown_letter letter)) ∙ ap encode (sym c.shown_letter.ensures) in
    c.in_ok-push.ensures.bytes ∙ ap (λ (b : List ℕ). b ++ encode c.shown_letter.result) c.loop-letter.invariant
    ∙ sym (more ∙ ap (λ (b : List ℕ). before ++ b) one)

pub returns : goal.returns
returns c =
    let end =
    YieldsList-end (YieldsList-from_take QUOTED (YieldsList-from_chars c.args.name.now c.utf8.name cc) cc) c.loop-letter.yielded _
    c.loop-letter.yielded_by _ _ c.in-None.is c.next.ensures.steps in
    c.loop-letter.invariant ∙ ap (λ (l : List ℕ). encodes (map shown_letter l)) (sym (map-id c.loop-letter.yielded) ∙ end.0)
