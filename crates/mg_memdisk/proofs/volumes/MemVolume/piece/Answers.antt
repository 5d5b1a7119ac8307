use Rattle.std.proofs.Common.{◌≡◌}
use Rattle.mg_memdisk.proofs.Views.{on_log}
use Rattle.mg_memdisk.specs.Pieces.{wanted_of}
use Rattle.mg_memdisk.proofs.volumes.MemVolume.piece.Goals as goal

pub returns : goal.returns
returns c = on_log c.args.self.now _ c.args.name c.piece_under.result (λ piece bytes. piece.items ≡ wanted_of c.args.wanted bytes) c.deref.ensures.value c.piece_under.ensures
