use Rattle.std.proofs.Common.{refl}
use Rattle.std.proofs.lemmas.Bool.{false≢true}
use Rattle.bq_insn.specs.declared.Insn.TheVariants.{Neg}
use Rattle.bq_bpf.specs.Meaning.{negated}
use Rattle.bq_transfer.proofs.PutLemmas.{carries_number}
use Rattle.bq_transfer.proofs.moves.negate.Goals as goal

pub returns-clause-transfers : goal.returns-clause-transfers
returns-clause-transfers c = λ shapes context_length.
    carries_number shapes context_length (Neg c.args.width c.args.dst) c.args.state.now c.learn_number.new.state c.args.dst
    c.args.dst c.in_ok-word.word c.neg.result (λ n. negated c.args.width n) c.requires c.learn_number.ensures.long
    c.learn_number.ensures.is c.in_ok-word.ensures.holds c.neg.ensures.holds (λ f s n is. (n, is, c.requires, refl))

pub returns-in_err-word-clause-accepts : goal.returns-in_err-word-clause-accepts
returns-in_err-word-clause-accepts c = λ stands. absurd (false≢true (c.in_err-word.ensures.accepts stands))
