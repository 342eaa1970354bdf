-- What has records may cross threads where a record may, and a journal where also what it keeps of the world may.
use denote.RattleType.{RattleType}
use denote.Struct.Field.{row_field}
use denote.Param.Send.{IsSend, sendable, view_send}
use denote.Param.SendFields.{declared_send, as_row_send}
use Rattle.std.proofs.Crossing.{crosses}
use Rattle.bq_history.specs.declared.law.Naming as Naming
use Rattle.bq_history.proofs.holder.Holder.TheSendSync as holder
use Rattle.bq_history.specs.contracts.shared_state.Item as Item
use Rattle.bq_history.specs.contracts.chain.GrowingList
use Rattle.bq_history.specs.contracts.chain.GrowingList.TheInside as chain
use Rattle.bq_history.specs.contracts.chunk.Chunk as Chunk
use Rattle.bq_history.specs.contracts.chunk.Chunk.TheInside as chunk
use Rattle.bq_history.specs.contracts.log.Log as Log
use Rattle.bq_history.specs.contracts.log.Log.TheInside as log
use Rattle.bq_history.specs.contracts.journal.Journal as Journal
use Rattle.bq_history.specs.contracts.journal.Journal.TheInside as inside
use Rattle.bq_history.proofs.chain.Node.TheLaws.TheKnot as knot

chain_inside : (T : RattleType) → IsSend T → IsSend (chain.the_row T)
chain_inside T s = search (crosses, knot.crosses, sendable) depth 60 fits 20000

chain_send : (T : RattleType) → IsSend T → IsSend (GrowingList.the_row T)
chain_send T s = view_send (chain.the_row T) _ _ _ _ (chain_inside T s)

chunk_inside : (R : RattleType) → IsSend R → IsSend (chunk.the_row R)
chunk_inside R s = search (crosses, sendable) depth 60 fits 20000

-- records that were taken room for together may cross threads, where a record may
pub chunk_send : (R : RattleType) → IsSend R → IsSend (Chunk.the_row R)
chunk_send R s = view_send (chunk.the_row R) _ _ _ _ (chunk_inside R s)

log_inside : (R : RattleType) → IsSend R → IsSend (log.the_row R)
log_inside R s = declared_send (log.the_type R) (chain_send (Chunk.the_row R) (chunk_send R s), (search sendable, tt))

-- the list of records may cross threads, where a record may
pub log_send : (R : RattleType) → IsSend R → IsSend (Log.the_row R)
log_send R s = view_send (log.the_row R) _ _ _ _ (log_inside R s)

-- the journal may cross threads, where what it is made of may
pub journal_send : (R P D N : RattleType) (n : Naming.Ghosts N.Denot) → IsSend R → IsSend D → IsSend (Journal.the_row R P D N n)
journal_send R P D N n s d =
    view_send (inside.the_row R P D N n) _ _ _ _
    (declared_send (inside.the_type R P D N n)
    (log_send R s, (as_row_send (row_field D) d, (holder.the_send (Item.the_row R P D) N n, tt))))
