-- Replies in little memory.
use Rattle.std.specs.Prelude.{Bool, true, false, Result, Ok, Err}
use Rattle.bq_parts.specs.declared.reply.Reply.{Reply}
use Rattle.bq_parts.specs.declared.reply.Reply.TheVariants as reply
use Rattle.bq_parts.specs.declared.refusal.Refusal.{Refusal}
use Rattle.bq_shared.specs.declared.packed_answer.PackedReply.{PackedReply}
use Rattle.bq_shared.specs.declared.packed_answer.PackedReply.TheVariants as packed

-- the answer that a packed reply stands for
abbrev pub unpacked_answer : PackedReply → Result Reply Refusal
unpacked_answer packed.Admitted = Ok reply.Admitted
unpacked_answer packed.Retired = Ok reply.Retired
unpacked_answer (packed.Drawn g) = Ok (reply.Drawn g)
unpacked_answer packed.Installed = Ok reply.Installed
unpacked_answer (packed.Begun task loads) = Ok (reply.Begun task loads.value)
unpacked_answer (packed.Placed task to by steps) = Ok (reply.Placed task to by steps)
unpacked_answer (packed.Drained count run by steps) = Ok (reply.Drained count run by steps)
unpacked_answer (packed.Ticked run by steps) = Ok (reply.Ticked run by steps)
unpacked_answer (packed.Blocked task run) = Ok (reply.Blocked task run)
unpacked_answer (packed.Pulled task run by steps) = Ok (reply.Pulled task run by steps)
unpacked_answer (packed.Refused e) = Err e

-- whether the answer has loads
abbrev pub has_loads : Result Reply Refusal → Bool
has_loads (Ok (reply.Begun task loads)) = true
has_loads a = false
