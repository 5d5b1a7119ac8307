use Rattle.std.proofs.Common.{◌≡◌, ◌+◌, ◌<◌, ◌^◌, ◌∙◌, length, sym, ap, subst, arith}
use Rattle.mg_indexed.specs.Index.{first_after}
use Rattle.mg_indexed.specs.Writing.{handle_length, index_length, Closed}
use Rattle.mg_indexed.specs.declared.handle.BlockHandle.{BlockHandle}
use Rattle.mg_indexed.proofs.WritingLaws.{closes, index_length-push, most_length, popped, stays}
use Rattle.mg_indexed.proofs.writing.ClosedBlocks.close.Goals as goal

pub handle_len-more-requires : goal.handle_len-more-requires
handle_len-more-requires g c = g.met.K.BlockKey.lawful.follows_fits _ c.args.first c.requires.follows

pub append_frame-requires-clause-room : goal.append_frame-requires-clause-room
append_frame-requires-clause-room g c =
    let closed : Closed g.row.D.Denot g.row.K.Denot = record { frames = c.self.inside.frames; index = c.self.inside.index } in
    let is = c.self.invariant.0 in
    omega (arith, most_length g.K.BlockKey.keys g.T.BlockItem.form closed is, is.few, c.requires.body.2)

pub invariant_of-self-2 : goal.invariant_of-self-2
invariant_of-self-2 g c =
    let keys = g.K.BlockKey.keys in
    let form = g.T.BlockItem.form in
    let closed : Closed g.row.D.Denot g.row.K.Denot = record { frames = c.self.inside.frames; index = c.self.inside.index } in
    let first = c.args.first in
    let handle : BlockHandle g.row.K.Denot = record { first = first; at = c.len.result; len = length c.args.body.now + 20 } in
    let follows = subst (λ (w : Closed g.row.D.Denot g.row.K.Denot). keys.follows (first_after keys.lowest w.index) first) (sym c.self.view_is) c.requires.follows in
    let room = subst (λ (w : Closed g.row.D.Denot g.row.K.Denot). index_length keys w.index + handle_length keys first < 2 ^ 32) (sym c.self.view_is) c.requires.room in
    let pushed = c.in_ok-push.ensures.ok in (
      closes keys form closed c.append_frame.new.writer c.push.new.self handle c.self.invariant.0 follows c.len.ensures c.requires.body room pushed (omega (arith, c.in_default.ensures.len))
          c.in_default.ensures.count,
      omega (arith, c.self.invariant.1, c.handle_len-more.ensures, ap (index_length keys) pushed, index_length-push keys closed.index handle),
    )

pub invariant_of-self-in-Err : goal.invariant_of-self-in-Err
invariant_of-self-in-Err g c =
    let keys = g.K.BlockKey.keys in
    let closed : Closed g.row.D.Denot g.row.K.Denot = record { frames = c.self.inside.frames; index = c.self.inside.index } in
    let same = popped c.self.inside.index c.push.new.self c.pop.new.self _ c.pop.result c.in_ok-push.ensures.ok c.pop.ensures in (
      stays keys g.T.BlockItem.form closed c.append_frame.new.writer c.pop.new.self c.self.invariant.0 c.in-Err.ensures.err.0 c.in-Err.ensures.err.1 same,
      omega (arith, c.self.invariant.1, ap (index_length keys) same),
    )

pub returns-clause-grows : goal.returns-clause-grows
returns-clause-grows g c =
    let keys = g.K.BlockKey.keys in
    let first = c.args.first in
    let handle : BlockHandle g.row.K.Denot = record { first = first; at = c.len.result; len = length c.args.body.now + 20 } in
    let Grown : Closed g.row.D.Denot g.row.K.Denot → Type 0 = λ w. index_length keys c.push.new.self ≡ index_length keys w.index + handle_length keys first in
    subst Grown c.self.view_is (ap (index_length keys) c.in_ok-push.ensures.ok ∙ index_length-push keys c.self.inside.index handle)
