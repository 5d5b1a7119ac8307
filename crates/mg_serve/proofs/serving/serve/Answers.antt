use Rattle.std.proofs.Common.{ap, arith, sym}
use Rattle.mg_wal.specs.Book.{parts_in}
use Rattle.mg_serve.proofs.Ending.{ran}
use Rattle.mg_serve.proofs.serving.serve.Goals as goal

pub returns : goal.returns
returns g c = λ basis opening stands newest.
    let begun = c.new-session.ensures.stands basis stands newest in
    rw c.into_volume.ensures (rw (sym c.new-session.ensures.volume) (rw (sym c.new-session.ensures.book) (
    ran c.args.parts basis c.args.lines.items opening _ _ _ _ _ _ _ _ _ _ _ _ _ _ _ _ _ c.serve_all-served.result c.finish-synced.result c.end-ended.result c.requires.few
    (omega (arith, c.finish-synced.ensures.parts, c.serve_all-served.ensures.parts, ap (λ b. parts_in b) c.new-session.ensures.book, c.requires.parts))
    (c.serve_all-served.ensures.served basis opening begun)
    (c.finish-synced.ensures.stands basis)
    (λ tells. c.finish-synced.ensures.reaches tells basis)
    c.finish-synced.ensures.synced c.finish-synced.ensures.err c.finish-synced.ensures.cause c.finish-synced.ensures.once
    (λ tells. g.met.V.Volume.images_are_bytes tells _)
    (λ tells. g.met.V.Volume.only_now tells _)
    (λ tells image. g.met.V.Volume.counts_now tells _ _ image (omega arith))
    c.end-ended.ensures)))
