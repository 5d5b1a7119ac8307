use Rattle.mg_memdisk.proofs.StandingLaws.{on_find, at_name}
use Rattle.mg_memdisk.proofs.crashes.find.Goals as goal

pub returns : goal.returns
returns c =
    let put = c.put_in in
    let change = at_name put.result c.args.map.now c.take_out-standing.new.map put.new.map c.name-name.result c.args.event.now c.take_out-standing.result c.synced.result c.name-name.ensures record {
      was = c.take_out-standing.ensures.now;
      was_left = c.take_out-standing.ensures.left;
      keeps = c.take_out-standing.ensures.others;
      gets = put.ensures;
    } in
    on_find put.result c.args.map.now c.take_out-standing.new.map put.new.map c.args.event.now c.take_out-standing.result c.in_ok-after.after c.synced.result
    change c.in_ok-after.ensures.now c.synced.ensures.now c.synced.ensures.left
