use Rattle.mg_memdisk.proofs.StandingLaws.{on_happen, at_name}
use Rattle.mg_memdisk.proofs.crashes.happen.Goals as goal

pub returns : goal.returns
returns c =
    let put = c.put_in in
    let change = at_name put.result c.args.map.now c.take_out-standing.new.map put.new.map c.name-name.result c.args.event.now c.take_out-standing.result c.in_ok-after.after c.name-name.ensures record {
      was = c.take_out-standing.ensures.now;
      was_left = c.take_out-standing.ensures.left;
      keeps = c.take_out-standing.ensures.others;
      gets = put.ensures;
    } in
    on_happen put.result c.args.map.now c.take_out-standing.new.map put.new.map c.args.event.now c.take_out-standing.result c.in_ok-after.after c.args.choice.now.rest.now c.go_on.new.choice.rest.now
    change c.in_ok-after.ensures.now c.in_ok-after.ensures.left c.in_ok-after.ensures.choice
