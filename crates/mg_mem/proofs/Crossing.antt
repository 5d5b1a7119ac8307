-- Frozen memtables are shared between threads.
use denote.Param.Send.{IsSend, IsSync, sendable}
use Rattle.std.proofs.Crossing.{crosses}
use Rattle.mg_types.specs.contracts.documents.Doc as Doc
use Rattle.mg_types.specs.contracts.items.Item as Item
use Rattle.mg_types.specs.contracts.keys.Key as Key
use Rattle.mg_mem.specs.contracts.frozen.Frozen as Frozen

key_send : IsSend Key.the_row
key_send = search (sendable, crosses) depth 20

key_sync : IsSync Key.the_row
key_sync = search (sendable, crosses) depth 20

doc_send : IsSend Doc.the_row
doc_send = search (sendable, crosses) depth 20

doc_sync : IsSync Doc.the_row
doc_sync = search (sendable, crosses) depth 20

item_send : IsSend Item.the_row
item_send = search (sendable, crosses, key_send, doc_send) depth 20

item_sync : IsSync Item.the_row
item_sync = search (sendable, crosses, key_sync, doc_sync) depth 20

pub frozen_send : IsSend Frozen.the_row
frozen_send = search (sendable, crosses, item_send) depth 20

pub frozen_sync : IsSync Frozen.the_row
frozen_sync = search (sendable, crosses, item_sync) depth 20
