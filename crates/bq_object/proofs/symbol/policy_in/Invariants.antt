use Rattle.std.proofs.Common.{ℕ, ◌<◌}
use Rattle.bq_object.specs.declared.symbol.Symbol.{Symbol}
use Rattle.bq_object.specs.Symbols.{IsPolicySymbol, IsSymbol}
use Rattle.bq_object.proofs.symbol.policy_in.Given as goal

-- no function `policy` so far
abbrev pub invariant-loop-index : goal.invariant-loop-index
invariant-loop-index l = (k : ℕ) → k < l.index → (other : Symbol) → IsSymbol l.entries k other → IsPolicySymbol l.names other → ⊥
