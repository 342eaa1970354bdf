-- Symbols of an object file: what has a name (System V ABI, "Object Files": ELF64).
use Rattle.std.specs.Prelude.{◌≡◌, ◌≢◌, ℕ, ◌*◌, ◌<◌, ◌%◌, List, [], ◌∷◌, slice_index}
use Rattle.bq_object.specs.declared.symbol.Symbol.{Symbol}
use Rattle.bq_object.specs.Numbers.{IsPart, number_at}

-- what an entry of 24 bytes says
abbrev pub symbol_of : List ℕ → Symbol
symbol_of entry = record {
  name = number_at 4 entry 0;
  kind = slice_index entry 4;
  section = number_at 2 entry 6;
  at = number_at 8 entry 8;
  long = number_at 8 entry 16;
}

-- the symbol of that number
pub record IsSymbol (entries : List ℕ) (index : ℕ) (symbol : Symbol) : Type 0 where
  pub entry : List ℕ
  pub entry_is : IsPart entries (index * 24) 24 entry
  pub symbol_is : symbol ≡ symbol_of entry

-- `policy`, and the 0 that ends it
abbrev pub policy_name : List ℕ
policy_name = 0x70 ∷ 0x6f ∷ 0x6c ∷ 0x69 ∷ 0x63 ∷ 0x79 ∷ 0 ∷ []

-- a function of this file: of kind 2, in one of its sections
pub record IsFunctionSymbol (symbol : Symbol) : Type 0 where
  pub kind_is : symbol.kind % 16 ≡ 2
  pub here : symbol.section ≢ 0

-- a function of this file whose name is `policy`
pub record IsPolicySymbol (names : List ℕ) (symbol : Symbol) : Type 0 where
  pub function : IsFunctionSymbol symbol
  pub named : IsPart names symbol.name 7 policy_name

-- the first symbol that is such a function
pub record IsFirstPolicy (entries names : List ℕ) (symbol : Symbol) : Type 0 where
  pub index : ℕ
  pub here : IsSymbol entries index symbol
  pub is : IsPolicySymbol names symbol
  pub none : (k : ℕ) → k < index → (other : Symbol) → IsSymbol entries k other → IsPolicySymbol names other → ⊥

-- no symbol is the function `policy`
abbrev pub HasNoPolicy : List ℕ → List ℕ → Type 0
HasNoPolicy entries names = (k : ℕ) (other : Symbol) → IsSymbol entries k other → IsPolicySymbol names other → ⊥
