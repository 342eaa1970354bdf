use Rattle.std.proofs.Common.{◌≡◌, ℕ, ◌+◌, ◌<◌, List, [], ◌∷◌, ◌++◌, length, get_or, map, take, sym, subst, ap, ◌∙◌}
use Rattle.std.proofs.lemmas.List.{take_more, map-append}
use Rattle.std.specs.String.{string_bytes}
use Rattle.bq_console.proofs.given.as_texts.Goals as goal

map_more : {A B C : Type 0} (f : A → C) (g : B → C) (xs new : List A) (ys : List B) (i : ℕ) (x : A) (y : B)
    → i < length ys → y ≡ get_or ys i y → f x ≡ g y → new ≡ xs ++ x ∷ [] → map f xs ≡ map g (take i ys)
    → map f new ≡ map g (take (i + 1) ys)
map_more f g xs new ys i x y inside here same pushed before =
    ap (map f) pushed ∙ map-append f xs (x ∷ []) ∙ ap (λ l. l ++ f x ∷ []) before ∙ ap (λ z. map g (take i ys) ++ z ∷ []) same
    ∙ sym (ap (map g) (take_more ys i y inside ∙ ap (λ z. take i ys ++ z ∷ []) (sym here)) ∙ map-append g (take i ys) (y ∷ []))

pub words-preserved : goal.words-preserved
words-preserved c =
    let same = c.deref-word-items.ensures.value in
    let i = c.words.word-index in
    let word = c.word-item.result in
    map_more (λ t. t.now) (λ w. string_bytes w) _ _ c.args.words.now.items i _ word
    (subst (λ l. i < length l) same c.words-test.true) (subst (λ l. word ≡ get_or l i word) same c.word-item.is)
    c.as_str.ensures.value c.in_ok-push.ensures.items c.words.invariant
