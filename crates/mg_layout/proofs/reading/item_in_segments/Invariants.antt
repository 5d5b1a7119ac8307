use Rattle.std.proofs.Common.{◌≡◌, ◌<◌, ◌⊎◌, map}
use Rattle.std.specs.Prelude.{All}
use Rattle.std.specs.Arc.{arc_value}
use Rattle.mg_layout.proofs.SeekLaws.{SeeksNumber}
use Rattle.mg_layout.proofs.reading.item_in_segments.Given as goal

abbrev pub invariant-loop-segment : goal.invariant-loop-segment
invariant-loop-segment g l = SeeksNumber g.F.Files.told (g.F.Files.faults l.fn.port) (g.F.Files.faults l.port) (map arc_value l.segments) l.seq l.segment-index
    × (All (λ s. (l.seq < s.footer.low) ⊎ (s.footer.high < l.seq)) (map arc_value l.segments) → l.port ≡ l.fn.port)
