-- Readers and writers may go to another thread.
use mathlib.Core.List.{List}
use denote.RattleType.{RattleType}
use denote.Param.Send.{IsSend, IsSync, view_send, sendable}
use denote.Param.SendFields.{declared_send}
use Rattle.std.proofs.Crossing.{crosses, frees, send, sync}
use Rattle.left_right.proofs.handles.ReadHandle.TheSendSync as handle
use Rattle.value_core.proofs.value.Outcome.TheLaws.TheKnot as value
use Rattle.value_core.proofs.list_of.ListOf.TheSendSync as list
use Rattle.value_core.proofs.text.Text.TheSendSync as text
use Rattle.value_core.specs.contracts.state.Published as published
use Rattle.snap_read.specs.declared.history.SnapNaming.{Ghosts}
use Rattle.snap_read.specs.contracts.shown.Shown as shown
use Rattle.left_right.specs.contracts.handles.ReadHandle as handles
use Rattle.std.specs.contracts.alloc.Global as global
use Rattle.std.specs.contracts.impls.GlobalAllocator.TheImpl.{ghosts}
use Rattle.snap_read.specs.contracts.snap.SnapReader as reader
use Rattle.snap_read.specs.contracts.snap.SnapReader.TheInside as inside
use Rattle.left_right.specs.declared.Absorb.{Ghosts as Absorbs}
use Rattle.left_right.proofs.handles.WriteHandle.TheSendSync as write_handle
use Rattle.value_core.specs.declared.state.Published.{Published}
use Rattle.snap_read.specs.declared.shown.Shown.{Shown}
use Rattle.snap_read.specs.contracts.snap.SnapWriter as writer
use Rattle.snap_read.specs.contracts.snap.SnapWriter.TheInside as writer_inside
use Rattle.snap_read.proofs.history.Front.TheSendSync as front
use Rattle.snap_read.proofs.history.Head.TheSendSync as head

published_send : IsSend published.the_row
published_send = search (sendable, crosses, list.the_send, text.the_send, value.send-Value) depth 30

published_sync : IsSync published.the_row
published_sync = search (sendable, crosses, list.the_sync, text.the_sync, value.sync-Value) depth 30

pub shown_send : (J : RattleType) (n : Ghosts J.Denot) → IsSend (shown.the_row J n)
shown_send J n = search (sendable, crosses, published_send, published_sync, front.the_send) depth 30

pub shown_sync : (J : RattleType) (n : Ghosts J.Denot) → IsSync (shown.the_row J n)
shown_sync J n = search (sendable, crosses, published_send, published_sync, front.the_sync) depth 30

handle_send : (T : RattleType) → IsSend T → IsSync T → IsSend (handles.the_row T global.the_row ghosts)
handle_send T s y = search (sendable, crosses, send, sync, handle.the_send) depth 30

fields_send : (J : RattleType) (n : Ghosts J.Denot) → IsSend (inside.the_row J n)
fields_send J n =
    let own = shown_send J n in
    declared_send (inside.the_type J n) (own, (handle_send (shown.the_row J n) own (shown_sync J n), tt))

pub reader_send : (J : RattleType) (n : Ghosts J.Denot) → IsSend (reader.the_row J n)
reader_send J n = view_send _ _ _ _ _ (fields_send J n)

writer_fields_send : (J W S : RattleType) (n : Ghosts J.Denot) (a : Absorbs S.Denot (Shown J.Denot) (List Published)) → IsSend S → IsSync S → IsSend W → IsSend (writer_inside.the_row J W S n a)
writer_fields_send J W S n a sent synced held =
    let handle = write_handle.the_send S (shown.the_row J n) W global.the_row _ a ghosts sent (shown_send J n) held send synced sync frees in
    declared_send (writer_inside.the_type J W S n a) (send, (search (sendable, crosses, head.the_send) depth 30, (search (sendable, crosses, front.the_send) depth 30, (handle, tt))))

pub writer_send : (J W S : RattleType) (n : Ghosts J.Denot) (a : Absorbs S.Denot (Shown J.Denot) (List Published)) → IsSend S → IsSync S → IsSend W → IsSend (writer.the_row J W S n a)
writer_send J W S n a sent synced held = view_send _ _ _ _ _ (writer_fields_send J W S n a sent synced held)
