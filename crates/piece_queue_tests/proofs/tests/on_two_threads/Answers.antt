use Rattle.std.proofs.Common.{rules}
use denote.Exit.{yes}
use denote.Param.{param}
use denote.Param.Send.{sendable}
use denote.Param.SendFields.{declared_send, variants_send}
use Rattle.std.proofs.alloc.Global.TheSendSync as global
use Rattle.piece_queue.proofs.Sending.{sender_send}
use Rattle.piece_queue_tests.proofs.Sending.{taken_send}
use Rattle.piece_queue_tests.proofs.tests.on_two_threads.Goals as goal

pub join-first-requires-send-F : goal.join-first-requires-send-F
join-first-requires-send-F g c κs within = taken_send _ _ _ yes _ _ (param 0 g.row.R) _ _ _ (search rules) global.the_send

pub join-first-requires-send-A : goal.join-first-requires-send-A
join-first-requires-send-A g c κs within = search (sendable, declared_send, variants_send, sender_send) depth 14
