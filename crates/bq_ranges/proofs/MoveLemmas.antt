-- What sign extension gives on words that fit.
use Rattle.std.proofs.Common.{◌≡◌, ℕ, ◌*◌, ◌%◌, ◌<◌, ◌≤◌, arith}
use Rattle.std.proofs.lemmas.Int.{ints}
use Rattle.std.specs.Int.{w64, cast_signed, cast_unsigned}
use Rattle.bq_ranges.proofs.OutcomeLemmas.{word_is_its_remainder, remainder_is_word}
use Rattle.bq_bpf.specs.Meaning.{modulus, modulus_of_bits, bytes_of_bits, extended}
use Rattle.bq_insn.specs.declared.Width.{Width}
use Rattle.bq_insn.specs.declared.Bits.{Bits}
use Rattle.bq_insn.specs.declared.Bits.TheVariants.{B8, B16, B32, B64}

-- a word without the sign bit is its own extension
pub extended_plain : (w : Width) (b : Bits) (x half : ℕ) → half * 2 < modulus_of_bits b → x ≤ half → x < modulus w → extended w b x ≡ x
extended_plain w b x half least p q = rw (plain b least) (word_is_its_remainder w x q)
  where
    plain : (b : Bits) → half * 2 < modulus_of_bits b → cast_unsigned w64 (cast_signed (bytes_of_bits b) (x % modulus_of_bits b)) ≡ x
    plain B8 l = grind (arith, ints)
    plain B16 l = grind (arith, ints)
    plain B32 l = grind (arith, ints)
    plain B64 l = grind (arith, ints)

-- an extension is a word of the width
pub extended_fits : (w : Width) (b : Bits) (x : ℕ) → extended w b x < modulus w
extended_fits w b x = remainder_is_word w _
