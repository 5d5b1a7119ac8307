use Rattle.std.proofs.Common.{◌≡◌, Result, Ok, Err, refl}
use Rattle.std.specs.Prelude.{is_ok, IsErr}
use Rattle.mg_wal.proofs.StoryLaws.{begin_by, doubt_keeps, of_named_value, of_value, set_keeps}
use Rattle.mg_wal.proofs.devices.begin_log.Goals as goal
use Rattle.mg_wal.proofs.MomentLaws.{made_begins, one_call, then_calls}

same_err : {T E U F : Type 0} (one : Result T E) (other : Result U F) (e : E) → one ≡ Err e → IsErr other → is_ok other ≡ is_ok one
same_err (Ok x) other e is error = absurd (cc)
same_err (Err f) (Ok x) e is error = absurd (cc)
same_err (Err f) (Err g) e is error = refl

pub returns-in_err-log-clause-reaches : goal.returns-in_err-log-clause-reaches
returns-in_err-log-clause-reaches g c tells =
    doubt_keeps c.args.number (g.V.Volume.view c.args.vol.now) _ c.args.bytes.now c.new_log.result c.map_err.result _ _ c.map_err.ensures.variant c.in_err-log.was c.from_residual.ensures.0 (rw c.log_name-name.ensures at c.new_log.ensures.doubt tells)

pub returns-in_err-append_lasting-clause-reaches : goal.returns-in_err-append_lasting-clause-reaches
returns-in_err-append_lasting-clause-reaches g c tells =
    begin_by c.args.number (g.V.Volume.view c.args.vol.now) (g.V.Volume.view c.append_lasting.new.vol) c.args.bytes.now c.append_lasting.result _ (same_err c.append_lasting.result _ _ c.in_err-append_lasting.was c.from_residual-in_err-append_lasting.ensures.0)
    (set_keeps _ c.args.number _ (g.V.Volume.view c.new_log.new.self) _ c.args.bytes.now c.append_lasting.result
    (of_named_value c.new_log.result c.map_err.result c.in_ok-log.log _ _ c.map_err.ensures.cases c.map_err.ensures.variant c.in_ok-log.was (rw c.log_name-name.ensures at c.new_log.ensures.named))
    (of_value c.new_log.result c.map_err.result _ _ c.map_err.ensures.variant c.in_ok-log.was (rw c.log_name-name.ensures at c.new_log.ensures.set tells)) (c.append_lasting.ensures.reaches tells))

pub returns-clause-reaches : goal.returns-clause-reaches
returns-clause-reaches g c tells basis scene newest plan seen next at are =
    let wrote = set_keeps _ c.args.number _ (g.V.Volume.view c.new_log.new.self) _ c.args.bytes.now c.append_lasting.result
    (of_named_value c.new_log.result c.map_err.result c.in_ok-log.log _ _ c.map_err.ensures.cases c.map_err.ensures.variant c.in_ok-log.was (rw c.log_name-name.ensures at c.new_log.ensures.named))
    (of_value c.new_log.result c.map_err.result _ _ c.map_err.ensures.variant c.in_ok-log.was (rw c.log_name-name.ensures at c.new_log.ensures.set tells)) (c.append_lasting.ensures.reaches tells) basis scene newest plan seen next at are in
    (of_value c.append_lasting.result c.append_lasting.result _ _ refl c.in_ok-append_lasting.was wrote.0, tt)

pub returns-in_err-log-clause-sure : goal.returns-in_err-log-clause-sure
returns-in_err-log-clause-sure g c tells name kept all =
    one_call _ _ _ (g.met.V.Volume.only_now tells c.args.vol.now) all
    (made_begins c.new_log.result _ name kept _ _ (g.met.V.Volume.may_leave_contents tells c.args.vol.now) (c.requires tells) (rw c.log_name-name.ensures at c.new_log.ensures.set tells) (rw c.log_name-name.ensures at c.new_log.ensures.doubt tells) all)

pub returns-in_err-append_lasting-clause-sure : goal.returns-in_err-append_lasting-clause-sure
returns-in_err-append_lasting-clause-sure g c tells name kept all =
    let made = made_begins c.new_log.result _ name kept _ _ (g.met.V.Volume.may_leave_contents tells c.args.vol.now) (c.requires tells) (rw c.log_name-name.ensures at c.new_log.ensures.set tells) (rw c.log_name-name.ensures at c.new_log.ensures.doubt tells) all in
    then_calls _ _ _ _ (one_call _ _ _ (g.met.V.Volume.only_now tells c.args.vol.now) all made) (c.append_lasting.ensures.sure tells name kept made.1)

pub returns-clause-sure : goal.returns-clause-sure
returns-clause-sure g c tells name kept all =
    let made = made_begins c.new_log.result _ name kept _ _ (g.met.V.Volume.may_leave_contents tells c.args.vol.now) (c.requires tells) (rw c.log_name-name.ensures at c.new_log.ensures.set tells) (rw c.log_name-name.ensures at c.new_log.ensures.doubt tells) all in
    then_calls _ _ _ _ (one_call _ _ _ (g.met.V.Volume.only_now tells c.args.vol.now) all made) (c.append_lasting.ensures.sure tells name kept made.1)
