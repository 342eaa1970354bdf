use Rattle.std.proofs.Common.{◌∙◌, sym}
use Rattle.bq_asm.specs.Lines.{is_comment}
use Rattle.bq_asm.proofs.CommentLemmas.{before_first-some, before_first-none}
use Rattle.bq_asm.proofs.line.without_comment.Goals as goal

pub returns-in-Some : goal.returns-in-Some
returns-in-Some c = before_first-some is_comment c.args.line.now c.in-Some.at (sym c.comment_at.ensures ∙ c.in-Some.is)

pub returns-in-None : goal.returns-in-None
returns-in-None c = before_first-none is_comment c.args.line.now (sym c.comment_at.ensures ∙ c.in-None.is)
