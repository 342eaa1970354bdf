-- Events that something takes one after another.
use Rattle.std.proofs.Common.{◌≡◌, ℕ, List, [], ◌∷◌, ◌++◌, refl, sym, ap, ◌∙◌, append_assoc, append-nil, subst}
use Rattle.bq_trace.specs.TraceEvents.{TraceEvent, Reported, TakesAll, Gets, text_of, texts}

-- what takes some events and then others takes all of them
pub TakesAll-append : {S : Type 0} (takes : S → ℕ → TraceEvent → S → Type 0) (a b c : S) (xs ys : Reported)
    → TakesAll takes a xs b → TakesAll takes b ys c → TakesAll takes a (xs ++ ys) c
TakesAll-append takes a b c [] ys h k = subst (λ s. TakesAll takes s ys c) h k
TakesAll-append takes a b c ((n, x) ∷ xs) ys h k = (h.0, h.1, TakesAll-append takes h.0 b c xs ys h.2 k)

-- a sink that takes two events, one after the other, gets both
pub gets_two : {S : Type 0} (takes : S → ℕ → TraceEvent → S → Type 0) (a b c : S) (n : ℕ) (x y : TraceEvent)
    (Holds : Reported → Type 0)
    → takes a n x b → takes b n y c → Holds ((n, x) ∷ (n, y) ∷ []) → Gets takes a c Holds
gets_two takes a b c n x y Holds h k l = record { reported = (n, x) ∷ (n, y) ∷ []; taken = (b, h, (c, k, refl)); holds = l }

-- the texts of events and of others behind are those of both, joined
pub texts-append : (xs ys : Reported) → texts (xs ++ ys) ≡ texts xs ++ texts ys
texts-append [] ys = refl
texts-append ((n, x) ∷ xs) ys = ap (λ l. text_of n x ++ l) (texts-append xs ys) ∙ sym (append_assoc (text_of n x) (texts xs) (texts ys))

-- what takes the text of each event grows by the texts of all
pub added_by : {S : Type 0} (bytes : S → List ℕ) (old new : S) (reported : Reported)
    → TakesAll (λ o n x w. bytes w ≡ bytes o ++ text_of n x) old reported new
    → bytes new ≡ bytes old ++ texts reported
added_by bytes old new [] h = ap bytes h ∙ sym (append-nil (bytes old))
added_by bytes old new ((n, x) ∷ more) h =
    added_by bytes h.0 new more h.2 ∙ ap (λ l. l ++ texts more) h.1 ∙ append_assoc (bytes old) (text_of n x) (texts more)

-- what was taken with less known of it was taken with all that follows from it
pub gets_along : {S : Type 0} (takes : S → ℕ → TraceEvent → S → Type 0) (old new : S) (Less More : Reported → Type 0)
    → ((reported : Reported) → Less reported → More reported) → Gets takes old new Less
    → Gets takes old new More
gets_along takes old new Less More along g = record { reported = g.reported; taken = g.taken; holds = along g.reported g.holds }
