use Rattle.std.proofs.Common.{◌∷◌, List, length, IfErr, IfOk}
use Rattle.mg_types.specs.declared.faults.Fault.{Fault}
use Rattle.mg_wal_format.specs.Logs.{Log}
use Rattle.mg_wal_format.specs.Records.{counts_in}
use Rattle.mg_wal_format.specs.Recovery.{IsStreamFault}
use Rattle.mg_wal.specs.Findings.{IsLogFault}
use Rattle.mg_wal.specs.declared.stream.Part.{Part}
use Rattle.mg_wal.specs.Streams.{GoesOn}
use Rattle.mg_wal.proofs.StreamLaws.{sound_first, sound_next, with_follower, without_follower}
use Rattle.mg_wal.proofs.stream.read_records.Goals as goal

pub read_before-requires-clause-sound : goal.read_before-requires-clause-sound
read_before-requires-clause-sound g c = sound_first c.args.log.now c.args.others.now c.requires.sound

pub read_before-requires-clause-kept : goal.read_before-requires-clause-kept
read_before-requires-clause-kept g c = (sound_next c.args.log.now c.args.others.now c.in-Some.next.now c.in-Some.ensures.value c.requires.sound).1

pub read_before-requires-clause-rise : goal.read_before-requires-clause-rise
read_before-requires-clause-rise g c = (sound_next c.args.log.now c.args.others.now c.in-Some.next.now c.in-Some.ensures.value c.requires.sound).0

pub read_last-requires-clause-sound : goal.read_last-requires-clause-sound
read_last-requires-clause-sound g c = sound_first c.args.log.now c.args.others.now c.requires.sound

pub returns-in-Some-clause-gives : goal.returns-in-Some-clause-gives
returns-in-Some-clause-gives g c tells found behind stands known =
    let counts = c.args.counts.items in
    with_follower (λ (ls : List Log). IfOk c.read_before.result (λ (read : Part). GoesOn (length counts) (counts_in counts) c.args.log.now.head.first (found ∷ ls) read.records.items ls))
    c.args.others.now c.in-Some.next.now behind c.in-Some.ensures.value known
    (λ follower rest follows. c.read_before.ensures.gives tells found follower rest stands follows)

pub returns-in-Some-clause-refused : goal.returns-in-Some-clause-refused
returns-in-Some-clause-refused g c tells found behind stands known =
    let counts = c.args.counts.items in
    with_follower (λ (ls : List Log). IfErr c.read_before.result (λ (fault : Fault). IsLogFault fault → IsStreamFault (length counts) (counts_in counts) c.args.log.now.head.first (found ∷ ls) fault))
    c.args.others.now c.in-Some.next.now behind c.in-Some.ensures.value known
    (λ follower rest follows. c.read_before.ensures.refused tells found follower rest stands follows)

pub returns-in-None-clause-gives : goal.returns-in-None-clause-gives
returns-in-None-clause-gives g c tells found behind stands known =
    let counts = c.args.counts.items in
    without_follower (λ (ls : List Log). IfOk c.read_last.result (λ (read : Part). GoesOn (length counts) (counts_in counts) c.args.log.now.head.first (found ∷ ls) read.records.items ls))
    c.args.others.now behind c.in-None.ensures.value known (c.read_last.ensures.gives tells found stands)

pub returns-in-None-clause-refused : goal.returns-in-None-clause-refused
returns-in-None-clause-refused g c tells found behind stands known =
    let counts = c.args.counts.items in
    without_follower (λ (ls : List Log). IfErr c.read_last.result (λ (fault : Fault). IsLogFault fault → IsStreamFault (length counts) (counts_in counts) c.args.log.now.head.first (found ∷ ls) fault))
    c.args.others.now behind c.in-None.ensures.value known (c.read_last.ensures.refused tells found stands)
