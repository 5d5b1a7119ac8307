use Rattle.std.proofs.Common.{sym, subst}
use Rattle.mg_indexed.specs.Index.{BeginUpTo, IsIndexFrom}
use Rattle.mg_indexed.specs.Loading.{Loaded}
use Rattle.mg_indexed.proofs.IndexLaws.{begin_up_to}
use Rattle.mg_indexed.proofs.indexed.Indexed.blocks_up_to.Goals as goal

pub returns-clause-point : goal.returns-clause-point
returns-clause-point g c =
    let keys = g.K.BlockKey.keys in
    let form = g.T.BlockItem.form in
    let at = c.self.inside.footer.index_at in
    let count = c.blocks_up_to.result in
    let found = c.blocks_up_to.ensures in
    let right = subst (λ hs. IsIndexFrom keys form keys.lowest 0 hs at) (sym c.as_slice.ensures) c.self.invariant.right in
    subst (λ (f : Loaded g.row.S.Denot g.row.K.Denot). BeginUpTo keys f.index c.args.key.now count) c.self.view_is
    (subst (λ hs. BeginUpTo keys hs c.args.key.now count) c.as_slice.ensures
    (begin_up_to keys form g.met.K.BlockKey.lawful keys.lowest 0 c.as_slice.result.now at right c.args.key.now count found.within found.last found.following))
