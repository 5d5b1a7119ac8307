use Rattle.std.proofs.Common.{drop, rules, sym, ap, ◌∙◌}
use Rattle.std.proofs.lemmas.List.{take_rest}
use Rattle.mg_frame.specs.BigEndian.{front_bytes}
use Rattle.mg_frame.proofs.BigEndianLaws.{front_list_none, front_list_some, field_ends, drop_past}
use Rattle.mg_frame.proofs.fields.get_long.Goals as goal

pub slice_bounds-front_bytes-count : goal.slice_bounds-front_bytes-count
slice_bounds-front_bytes-count c = field_ends 4 c.args.bytes.now c.args.at c.in_ok-count.count c.requires c.in_ok-count.ensures

pub slice_bounds-front_bytes-start : goal.slice_bounds-front_bytes-start
slice_bounds-front_bytes-start c = let ends = field_ends 4 c.args.bytes.now c.args.at c.in_ok-count.count c.requires c.in_ok-count.ensures in search rules

pub returns-in_err-count : goal.returns-in_err-count
returns-in_err-count c = rw c.from_residual.ensures (front_list_none 4 (drop c.args.at c.args.bytes.now) c.in_err-count.ensures)

pub returns : goal.returns
returns c =
    front_list_some 4 (drop c.args.at c.args.bytes.now) c.in_ok-count.count _ c.in_ok-count.ensures
    (rw take_rest at c.front_bytes.ensures ∙ ap (front_bytes c.in_ok-count.count) (sym (drop_past c.args.bytes.now c.args.at 4)))
