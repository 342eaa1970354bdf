-- How XML writes a text.
use Rattle.std.specs.Prelude.{ℕ, ◌==◌, ◌||◌, ◌&&◌, nat_le, nat_lt, Bool, List, Option, Some, None, chars, codes, encode_utf8, flat_map, if◌then◌else◌, take, unwrap_or}

-- whether XML cannot hold a character
abbrev pub is_barred : ℕ → Bool
is_barred c = nat_lt c 32 || ((nat_le 127 c && nat_lt c 160) || (c == 65534 || c == 65535))

-- what replaces a character that XML does not take as it is
abbrev pub in_place_of : ℕ → Option (List ℕ)
in_place_of c =
    if c == 38 then Some (codes "&amp;")
    else if c == 60 then Some (codes "&lt;")
    else if c == 62 then Some (codes "&gt;")
    else if c == 34 then Some (codes "&quot;")
    else if is_barred c then Some (codes "?") else None

-- a character as XML writes it
abbrev pub xml_letter : ℕ → List ℕ
xml_letter c = unwrap_or (in_place_of c) (encode_utf8 c)

-- a text as XML writes it, cut after this many characters
abbrev pub escaped : ℕ → List ℕ → List ℕ
escaped most text = flat_map xml_letter (take most (chars text))
