use Rattle.std.proofs.Common.{◌≡◌, sym, ap, arith, [], IfSome, length, refl}
use Rattle.mg_sealed.proofs.WritingLaws.{numbered-none}
use Rattle.mg_sealed.proofs.writing.start_frames.Goals as goal

pub returns-clause-empty : goal.returns-clause-empty
returns-clause-empty g c =
    let empty : IfSome (g.F.Files.drafted c.in_ok-draft.draft) (λ bytes. bytes ≡ []) = grind arith in
    record {
      bytes = rw numbered-none empty;
      len = ap length (sym numbered-none);
      count = refl;
    }
