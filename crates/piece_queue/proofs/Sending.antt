-- Pieces, senders and the queue may go to another thread, and threads may share the queue.
use mathlib.Core.List.{List, [], ◌∷◌}
use mir.Syntax.{Lifetime, Sym, Ty}
use base.Fml.{Lft}
use denote.Exit.{Kept}
use denote.RattleType.{RattleType}
use denote.Param.{arg, param}
use denote.Param.Send.{AllSend, IsSend, IsSync, arg_send, param_send, sendable, shr_send}
use denote.Param.SendFields.{declared_sync, FieldsHave, as_row_send, declared_send, variants_send}
use denote.Ref.{ShrRef}
use denote.Struct.Field.{row_field, i64-field}
use denote.Struct.Tuple.{TupleAt, parts, type_at}
use Rattle.ix_base.specs.contracts.query.Query as query
use Rattle.frozen_packet.specs.contracts.updates.Change as change
use Rattle.frozen_packet.specs.contracts.updates.QueryDelete as query_delete
use Rattle.frozen_packet.specs.contracts.updates.Updates as updates
use Rattle.thread_writer.specs.contracts.piece.Piece as piece
use Rattle.piece_queue.specs.contracts.sender.Sender as sender
use Rattle.piece_queue.specs.contracts.queue.PieceQueue as queue
use Rattle.ix_base.proofs.document.Term.TheSendSync as term
use Rattle.ix_base.proofs.query.Queries.TheLaws.TheKnot as knot
use Rattle.ix_base.proofs.text.Name.TheSendSync as name
use Rattle.ix_base.proofs.text.PhraseText.TheSendSync as phrase
use Rattle.ix_base.proofs.list.List.TheSendSync as list
use Rattle.frozen_packet.proofs.deleted_terms.DeletedTerms.TheSendSync as deleted_terms
use Rattle.frozen_packet.proofs.updates.Setting.TheSendSync as setting
use Rattle.ram_postings.proofs.freezing.Frozen.TheSendSync as frozen
use Rattle.atomic_blocks.proofs.web.Seat.TheSendSync as seat
use Rattle.crossbeam_queue.proofs.seg_queue.Chained.TheSendSync as chained
use Rattle.crossbeam_queue.proofs.seg_queue.Ends.TheSendSync as ends
use Rattle.std.proofs.Crossing.{frees}
use Rattle.std.proofs.alloc.Global.TheSendSync as global
use Rattle.std.proofs.vec.Vec.TheSendSync as vec

number_send : IsSend i64-field.row
number_send = search sendable

query_send : IsSend query.the_row
query_send = as_row_send query.the_field (knot.send-Query term.the_field_send name.the_send phrase.the_send number_send
    (knot.send-Queries (λ R s. vec.the_send R _ _ s global.the_send frees) term.the_send name.the_send phrase.the_send number_send))

query_delete_send : IsSend query_delete.the_row
query_delete_send = search (sendable, declared_send, query_send) depth 14

change_send : IsSend change.the_row
change_send = search (sendable, declared_send, variants_send, query_delete_send, setting.the_send) depth 14

updates_send : IsSend updates.the_row
updates_send = search (sendable, declared_send, deleted_terms.the_send, query_delete_send, change_send, list.the_send) depth 14

pub piece_send : IsSend piece.the_row
piece_send = search (sendable, declared_send, frozen.the_send, updates_send) depth 14

pub sender_send : IsSend sender.the_row
sender_send = search (sendable, declared_send, variants_send, piece_send, seat.the_send, global.the_send, frees) depth 14

pub queue_shared : IsSync queue.the_row
queue_shared = search (sendable, declared_sync, declared_send, variants_send, piece_send, chained.the_sync, ends.the_sync, global.the_send, global.the_sync, frees) depth 14

pub queue_send : IsSend queue.the_row
queue_send = search (sendable, declared_send, variants_send, piece_send, chained.the_send, ends.the_send, global.the_send, global.the_sync, frees) depth 14
