use Rattle.std.proofs.Common.{◌∙◌, sym}
use Rattle.mg_recover.proofs.GivesLemmas.{is_sync, reach_by_none, read_makes_none}
use Rattle.mg_recover.proofs.store.Store.result_of.Goals as goal

pub returns-in-Ok-clause-reaches : goal.returns-in-Ok-clause-reaches
returns-in-Ok-clause-reaches g c = λ tells. rw c.in-Ok.ensures.ok (c.change.ensures.reaches tells)

pub returns-in-Err-clause-reaches : goal.returns-in-Err-clause-reaches
returns-in-Err-clause-reaches g c = λ tells.
    let none = read_makes_none c.args.part c.args.call c.read.result (sym c.requires.reads ∙ c.if-reads.true) in
    rw c.read.ensures.same (reach_by_none _ _ _ _ _ none (λ basis list time reach b r. r))

pub returns-in-Err-2-clause-gives : goal.returns-in-Err-2-clause-gives
returns-in-Err-2-clause-gives g c =
    let sync = is_sync c.args.call c.requires.served (sym c.requires.reads ∙ c.if-reads.false) c.in-Err-2.ensures.back.1 in
    rw sync c.sync.ensures.gives

pub returns-in-Err-2-clause-reaches : goal.returns-in-Err-2-clause-reaches
returns-in-Err-2-clause-reaches g c = λ tells.
    let sync = is_sync c.args.call c.requires.served (sym c.requires.reads ∙ c.if-reads.false) c.in-Err-2.ensures.back.1 in
    rw sync (c.sync.ensures.reaches tells)
