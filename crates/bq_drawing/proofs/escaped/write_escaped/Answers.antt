use Rattle.std.proofs.Common.{List, ℕ, ◌++◌, ◌∙◌, ap, map-id, string_bytes, sym}
use Rattle.std.proofs.lemmas.Iterator.{YieldsList-from_chars, YieldsList-from_take}
use Rattle.std.proofs.lemmas.Iterator.Consumers.{YieldsList-end}
use Rattle.std.specs.Prelude.{flat_map}
use Rattle.bq_drawing.specs.Escapes.{xml_letter}
use Rattle.bq_drawing.proofs.PictureLemmas.{letters_more}
use Rattle.bq_drawing.proofs.escaped.write_escaped.Goals as goal

pub loop-letter-preserved : goal.loop-letter-preserved
loop-letter-preserved c = letters_more _ _ _ c.loop-letter.yielded c.in-Some.letter c.loop-letter.invariant c.in_ok-write_letter.ensures

pub returns : goal.returns
returns c =
    let end =
    YieldsList-end (YieldsList-from_take c.args.most (YieldsList-from_chars c.args.given.now c.utf8.given cc) cc)
    c.loop-letter.yielded _ c.loop-letter.yielded_by _ _ c.in-None.is c.next.ensures.steps in
    c.loop-letter.invariant
    ∙ ap (λ (l : List ℕ). string_bytes c.args.text.now ++ flat_map xml_letter l) (sym (map-id c.loop-letter.yielded) ∙ end.0)
