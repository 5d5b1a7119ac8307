use Rattle.std.proofs.Common.{◌<◌, ◌^◌, ap, subst, arith, length}
use Rattle.std.specs.List.{All}
use Rattle.mg_indexed.specs.Index.{AreRising}
use Rattle.mg_indexed.specs.Loading.{Loaded}
use Rattle.mg_indexed.specs.declared.handle.BlockHandle.{BlockHandle}
use Rattle.mg_indexed.proofs.IndexLaws.{near, rising}
use Rattle.mg_indexed.proofs.indexed.Indexed.handles.Goals as goal

pub returns-clause-some : goal.returns-clause-some
returns-clause-some g c =
    let kept = c.self.invariant in
    omega (arith, kept.count, kept.is_footer.some_blocks, ap (λ (f : Loaded g.row.S.Denot g.row.K.Denot). length f.index) c.self.view_is)

pub returns-clause-rising : goal.returns-clause-rising
returns-clause-rising g c =
    subst (λ (f : Loaded g.row.S.Denot g.row.K.Denot). AreRising g.K.BlockKey.keys f.index) c.self.view_is
    (rising g.K.BlockKey.keys g.T.BlockItem.form g.met.K.BlockKey.lawful g.K.BlockKey.keys.lowest 0 c.self.inside.index c.self.inside.footer.index_at c.self.invariant.right)

pub returns-clause-near : goal.returns-clause-near
returns-clause-near g c =
    subst (λ (f : Loaded g.row.S.Denot g.row.K.Denot). All (λ (handle : BlockHandle g.row.K.Denot). handle.at < 2 ^ 62) f.index) c.self.view_is
    (near g.K.BlockKey.keys g.T.BlockItem.form g.K.BlockKey.keys.lowest 0 c.self.inside.index c.self.inside.footer.index_at c.self.invariant.right)
