use Rattle.std.proofs.Common.{◌≡◌, ◌-◌, ◌<◌, ℕ, List, take, drop, Vec, ap, subst, ◌∙◌, arith}
use Rattle.std.proofs.Common.{Global}
use Rattle.std.specs.Prelude.{IfSome}
use Rattle.mg_frame.specs.Frame.{taken, Means}
use Rattle.mg_frame.specs.declared.frame.Taken.TheVariants.{Short}
use Rattle.mg_wal_format.specs.Recovery.{log_name}
use Rattle.mg_wal.specs.Streams.{IsWindow}
use Rattle.mg_wal.proofs.WindowLaws.{if_ok, longer_of, piece_of, short_want, window_of}
use Rattle.mg_wal.proofs.stream.read_window.Goals as goal
use Rattle.mg_wal.proofs.stream.read_window.Goals.{in_default-via-in-Short+else-want-left, in_default-via-in_default}

pub returns-in-Short-clause-window : goal.returns-in-Short-clause-window
returns-in-Short-clause-window g c tells bytes stands is =
    let image = (g.V.Volume.view c.args.vol.now).contents in
    let name = c.log_name-name.result in
    let at = c.args.at in
    let want = c.in-Short.want in
    let front = piece_of image name c.args.log at c.min.result bytes c.in_ok-piece.piece.items c.log_name-name.ensures stands (c.in_ok-piece.ensures.bytes tells) in
    let same = (c.read_piece.ensures.stays tells).contents in
    if_ok c.read_piece-in-Short.result (λ (piece : Vec ℕ Global). IfSome ((g.V.Volume.view c.read_piece.new.vol).contents name) (λ (bs : List ℕ). piece.items ≡ take want (drop at bs)))
    (λ (piece : Vec ℕ Global). IsWindow bytes at c.args.number piece.items)
    (λ piece found. longer_of bytes c.in_ok-piece.piece.items piece.items at c.args.len c.min.result c.args.number want c.in-Short.have is (omega (arith, c.min.ensures)) front
    (subst (λ (l : List ℕ). Means l 0 c.args.number (Short want c.in-Short.have)) c.deref.ensures.value c.in-Short.ensures.meaning) c.if-want-left.true
    (piece_of (g.V.Volume.view c.read_piece.new.vol).contents name c.args.log at want bytes piece.items c.log_name-name.ensures (ap (λ i. i (log_name c.args.log)) same ∙ stands) found))
    (c.read_piece-in-Short.ensures.bytes tells)

pub returns-in_default-clause-window : goal.returns-in_default-clause-window
returns-in_default-clause-window g c tells bytes stands is =
    let image = (g.V.Volume.view c.args.vol.now).contents in
    let name = c.log_name-name.result in
    let at = c.args.at in
    let piece = c.in_ok-piece.piece.items in
    let answer = c.take_frame.result in
    let front = piece_of image name c.args.log at c.min.result bytes piece c.log_name-name.ensures stands (c.in_ok-piece.ensures.bytes tells) in
    let short : (want have : ℕ) → answer ≡ Short want have → c.args.len - at < want = elim c.in_default.branch [
      | in_default-via-in-Short+else-want-left w ↦ λ want have found. short_want answer w.in-Short.want w.in-Short.have want have (c.args.len - at) w.in-Short.is w.if-want-left.false found
      | in_default-via-in_default w ↦ λ want have found. absurd (w.in_default.not-Short want have found)
    ] in
    window_of bytes piece at c.args.len c.min.result c.args.number answer is (omega (arith, c.min.ensures)) front
    (subst (λ (l : List ℕ). answer ≡ taken l 0 c.args.number) c.deref.ensures.value c.take_frame.ensures.exact)
    (subst (λ (l : List ℕ). Means l 0 c.args.number answer) c.deref.ensures.value c.take_frame.ensures.meaning) short
