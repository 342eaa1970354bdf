-- The hash by which a picture is named, byte after byte.
use Rattle.std.proofs.Common.{◌≡◌, ℕ, ◌+◌, ◌<◌, List, [], drop, get_or, length, sym, ap, ◌∙◌}
use Rattle.std.proofs.lemmas.List.{at_drop_more}
use Rattle.std.specs.List.{fold}
use Rattle.bq_drawing.specs.PictureNames.{mixed}

-- the hash of a text goes on by one more byte
pub hash_more : (bytes : List ℕ) (i d hash next whole : ℕ) → i < length bytes → next ≡ mixed hash (get_or bytes i d)
    → fold mixed hash (drop i bytes) ≡ whole → fold mixed next (drop (i + 1) bytes) ≡ whole
hash_more bytes i d hash next whole there e is =
    ap (λ n. fold mixed n (drop (i + 1) bytes)) e ∙ sym (at_drop_more (λ (l : List ℕ). fold mixed hash l) bytes i d there) ∙ is

-- once all bytes are taken the hash is that of the whole text
pub hash_all : (bytes : List ℕ) (i hash whole : ℕ) → drop i bytes ≡ [] → fold mixed hash (drop i bytes) ≡ whole → hash ≡ whole
hash_all bytes i hash whole none is = sym (ap (λ (l : List ℕ). fold mixed hash l) none) ∙ is
