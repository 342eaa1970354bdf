-- The list in a value that may be missing.
use Rattle.std.specs.Prelude.{List, [], Option, None, Some}

module _ {A B : Type 0} where
  -- the list of the value; empty if there is no value
  abbrev pub listed : Option B → (B → List A) → List A
  listed None f = []
  listed (Some b) f = f b
