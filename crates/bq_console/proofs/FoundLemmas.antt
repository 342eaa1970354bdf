-- The first value of an option, among what a parse found and among its rows.
use Rattle.std.proofs.Common.{◌≡◌, ℕ, List, [], ◌∷◌, Bool, true, false, cond, Some, refl, map}
use Rattle.std.specs.Prelude.{find, option_map, option_and_then, slice_get}
use Rattle.std.specs.Str.{bytes_eq}
use Rattle.std.proofs.lemmas.Option.{slice_get-map}
use Rattle.clap.specs.Facts.{Entry}
use Rattle.clap.specs.Matches.{first_value}
use Rattle.clap.specs.Walk.{Row, first_of, row_of, rows_of}
use Rattle.clap.specs.declared.parser.matches.Found.{Found}

-- the first value of an option among these rows is that among these entries
abbrev SameFirst : List ℕ → List Row → List Entry → Type 0
SameFirst id rows entries =
    first_of id rows
    ≡ option_and_then (λ a. option_map (λ s. s.now) (slice_get a.vals.items 0))
    (option_map (λ e. e.1) (find (λ e. bytes_eq e.0.now id) entries))

-- it is so for the rows that are made of the entries
first_in : (id : List ℕ) (entries : List Entry) → SameFirst id (map row_of entries) entries
first_in id [] = refl
first_in id (e ∷ entries) = go (bytes_eq e.0.now id) (first_in id entries)
  where
    go : (b : Bool) → SameFirst id (map row_of entries) entries
        → option_and_then (λ r. slice_get r.values 0) (cond b (Some (row_of e)) (find (λ r. bytes_eq r.id id) (map row_of entries)))
        ≡ option_and_then (λ a. option_map (λ s. s.now) (slice_get a.vals.items 0))
        (option_map (λ x. x.1) (cond b (Some e) (find (λ x. bytes_eq x.0.now id) entries)))
    go true more = slice_get-map (λ s. s.now) e.1.vals.items 0
    go false more = more

-- the first value of an option is the same among the rows as among what the parse found
pub first_value_is : (f : Found) (id : List ℕ) → first_of id (rows_of f) ≡ first_value f id
first_value_is f id = first_in id f.entries.items
