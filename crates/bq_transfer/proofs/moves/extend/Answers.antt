use Rattle.std.proofs.Common.{refl}
use Rattle.std.proofs.lemmas.Bool.{false≢true}
use Rattle.bq_insn.specs.declared.Insn.TheVariants.{MovSx}
use Rattle.bq_bpf.specs.Meaning.{extended}
use Rattle.bq_transfer.proofs.PutLemmas.{carries_number}
use Rattle.bq_transfer.proofs.moves.extend.Goals as goal

pub returns-clause-transfers : goal.returns-clause-transfers
returns-clause-transfers c = λ shapes context_length.
    carries_number shapes context_length (MovSx c.args.width c.args.bits c.args.dst c.args.src)
    c.args.state.now c.learn_number.new.state c.args.dst c.args.src c.in_ok-word.word c.extend.result
    (λ n. extended c.args.width c.args.bits n) c.requires c.learn_number.ensures.long c.learn_number.ensures.is
    c.in_ok-word.ensures.holds c.extend.ensures.holds (λ f s n is. (n, is, c.requires, refl))

pub returns-in_err-word-clause-accepts : goal.returns-in_err-word-clause-accepts
returns-in_err-word-clause-accepts c = λ stands. absurd (false≢true (c.in_err-word.ensures.accepts stands))
