use Rattle.std.proofs.Common.{◌++◌}
use Rattle.std.proofs.lemmas.Bool.{false≢true}
use Rattle.mg_frame.specs.BigEndian.{big_endian}
use Rattle.mg_indexed.proofs.FieldLaws.{behind_first}
use Rattle.mg_indexed.proofs.index.split_item.Goals as goal

pub returns-in_err-at-clause-written : goal.returns-in_err-at-clause-written
returns-in_err-at-clause-written g c = λ handle rest begins.
    let split = c.in_ok-first.ensures.split in
    let at = behind_first g.K.BlockKey.keys g.met.K.BlockKey.lawful c.args.bytes.now c.in_ok-first.first.now c.in_ok-first.rest.now handle rest split.0 split.1 begins in
    absurd (false≢true (c.in_err-at.ensures.written handle.at (big_endian 4 handle.len ++ rest) begins.0.at at).0)

pub returns-in_err-len-clause-written : goal.returns-in_err-len-clause-written
returns-in_err-len-clause-written g c = λ handle rest begins.
    let split = c.in_ok-first.ensures.split in
    let at = behind_first g.K.BlockKey.keys g.met.K.BlockKey.lawful c.args.bytes.now c.in_ok-first.first.now c.in_ok-first.rest.now handle rest split.0 split.1 begins in
    let len = (c.in_ok-at.ensures.written handle.at (big_endian 4 handle.len ++ rest) begins.0.at at).1 in
    absurd (false≢true (c.in_err-len.ensures.written handle.len rest begins.0.len len.1).0)
