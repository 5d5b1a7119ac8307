use Rattle.std.proofs.Common.{◌∙◌, ◌++◌, take}
use Rattle.std.proofs.KnownBytes.{Appends-trans}
use Rattle.mg_serve.proofs.Pieces.{split_on}
use Rattle.mg_serve.proofs.writing.write_all.Goals as goal

pub loop-rest-preserved : goal.loop-rest-preserved
loop-rest-preserved g c =
    let so_far = c.loop-rest.invariant in
    let rest = c.loop-rest.rest.now in
    let count = c.in-Ok.count in
    record {
      front = so_far.front ++ take count rest;
      split = split_on c.args.bytes.now so_far.front rest _ count so_far.split c.split_at.ensures.back;
      text = Appends-trans _ _ _ so_far.front (take count rest) so_far.text c.in-Ok.ensures.bytes;
      same = c.in-Ok.ensures.once.kept ∙ so_far.same;
    }
