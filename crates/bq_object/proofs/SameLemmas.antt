-- At one place of a file stands one part, one section, one symbol.
use Rattle.std.proofs.Common.{◌≡◌, ◌≢◌, ℕ, ◌+◌, ◌*◌, ◌<◌, List, length, sym, ap, ◌∙◌, subst, arith}
use Rattle.bq_object.specs.declared.section.Section.{Section}
use Rattle.bq_object.specs.declared.symbol.Symbol.{Symbol}
use Rattle.bq_object.specs.Numbers.{IsPart}
use Rattle.bq_object.specs.Sections.{IsSection, section_of}
use Rattle.bq_object.specs.Symbols.{IsPolicySymbol, IsSymbol, symbol_of}

-- two parts of a file with the same place and length are the same bytes
one_part : (bytes : List ℕ) (at long : ℕ) (a b : List ℕ) → IsPart bytes at long a → IsPart bytes at long b → a ≡ b
one_part bytes at long a b p q = p.part_is ∙ sym q.part_is

-- there is one section of each number
pub one_section : (headers : List ℕ) (k : ℕ) (a b : Section) → IsSection headers k a → IsSection headers k b → a ≡ b
one_section headers k a b p q =
    p.section_is ∙ (ap section_of (one_part headers (k * 64) 64 p.header q.header p.header_is q.header_is) ∙ sym q.section_is)

-- there is one symbol of each number
pub one_symbol : (entries : List ℕ) (k : ℕ) (a b : Symbol) → IsSymbol entries k a → IsSymbol entries k b → a ≡ b
one_symbol entries k a b p q =
    p.symbol_is ∙ (ap symbol_of (one_part entries (k * 24) 24 p.entry q.entry p.entry_is q.entry_is) ∙ sym q.symbol_is)

-- where a section of another kind stands, no section of this kind stands
pub other_kind : (headers : List ℕ) (k kind : ℕ) (a b : Section)
    → IsSection headers k a → a.kind ≢ kind → IsSection headers k b → b.kind ≢ kind
other_kind headers k kind a b p unlike q = subst (λ (s : Section). s.kind ≢ kind) (one_section headers k a b p q) unlike

-- past the last section there is no section
pub no_section : (headers : List ℕ) (k kind : ℕ) (b : Section) → length headers < k * 64 + 64 → IsSection headers k b → b.kind ≢ kind
no_section headers k kind b past q = let fits = q.header_is.fits in absurd (omega (arith, past, fits))

-- where a symbol stands that is not `policy`, no symbol `policy` stands
pub other_symbol : (entries names : List ℕ) (k : ℕ) (a b : Symbol)
    → IsSymbol entries k a → (IsPolicySymbol names a → ⊥) → IsSymbol entries k b → IsPolicySymbol names b → ⊥
other_symbol entries names k a b p unlike q is =
    unlike (subst (λ (s : Symbol). IsPolicySymbol names s) (sym (one_symbol entries k a b p q)) is)

-- past the last symbol there is no symbol
pub no_symbol : (entries names : List ℕ) (k : ℕ) (b : Symbol)
    → length entries < k * 24 + 24 → IsSymbol entries k b → IsPolicySymbol names b → ⊥
no_symbol entries names k b past q is = let fits = q.entry_is.fits in omega (arith, past, fits)
