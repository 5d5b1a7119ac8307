use Rattle.std.proofs.Common.{[], inl, refl, sym}
use Rattle.std.proofs.lemmas.List.Elements.{All-nil}
use Rattle.mg_types.specs.Items.{IsEntry}
use Rattle.mg_table.proofs.FilterLaws.{HasBitsOf-none}
use Rattle.mg_table.proofs.EntryLaws.{sizes_of-none}
use Rattle.mg_table.proofs.writer.TableWriter.new.Goals as goal

pub returns-clause-entries : goal.returns-clause-entries
returns-clause-entries g c = (
  [],
  [],
  record {
    closed = record { frames = c.in_ok-new.ensures.frames; index = c.in_ok-new.ensures.index };
    block = cc;
    first = λ some. absurd (some refl);
    filter = HasBitsOf-none c.in_ok-filter.filter c.in_ok-filter.ensures.empty;
    count = refl;
    sizes = sym sizes_of-none;
    rising = record { rising = tt; each = All-nil IsEntry };
    parts = refl;
    filled = inl (refl, refl);
  },
)
