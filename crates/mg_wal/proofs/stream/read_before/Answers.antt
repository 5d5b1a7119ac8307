use Rattle.std.proofs.Common.{◌≡◌, ◌⊎◌, inr, ◌∷◌, ℕ, length, refl, subst, arith}
use Rattle.std.proofs.lemmas.Grind.{common_steps}
use Rattle.mg_types.specs.declared.faults.Fault.{Fault}
use Rattle.mg_types.specs.declared.faults.Fault.TheVariants.{NoMemory, ReadFault}
use Rattle.mg_wal_format.specs.Records.{counts_in}
use Rattle.mg_wal_format.specs.Recovery.{found_of, log_bytes, log_file, IsStreamFault}
use Rattle.mg_wal_format.proofs.ReadingLaws.{err_is}
use Rattle.mg_wal.specs.Findings.{IsLogFault}
use Rattle.mg_wal.specs.Streams.{head_end, IsJoinFault}
use Rattle.mg_wal.proofs.RefusalLaws.{refusal_of_join}
use Rattle.mg_wal.proofs.StreamLaws.{are_of, before_breaks, before_goes, before_refused, end_exact}
use Rattle.mg_wal.proofs.stream.read_before.Goals as goal

pub returns-in_err-part-clause-refused : goal.returns-in_err-part-clause-refused
returns-in_err-part-clause-refused g c tells found follower others stands follows =
    let counts = c.args.counts.items in
    let known = c.args.log.now in
    let next = c.args.next.now in
    let bytes = log_bytes (found_of found) in
    let fault = c.in_err-part.field-0.0 in
    err_is c.from_residual.result fault (λ (f : Fault). IsLogFault f → IsStreamFault (length counts) (counts_in counts) known.head.first (found ∷ follower ∷ others) f) (grind (arith, common_steps))
    (λ refusal. before_refused (length counts) (counts_in counts) known.head.first bytes (head_end known (length bytes)) known next found follower others (log_file known.number) fault
    (are_of (g.V.Volume.view c.args.vol.now).contents known found stands) follows (end_exact known (length bytes)) refl c.requires.kept (c.in_err-part.ensures.refused tells bytes stands.1 refusal))

pub returns-in_err-check_next-clause-refused : goal.returns-in_err-check_next-clause-refused
returns-in_err-check_next-clause-refused g c tells found follower others stands follows =
    let counts = c.args.counts.items in
    let known = c.args.log.now in
    let next = c.args.next.now in
    let bytes = log_bytes (found_of found) in
    let part = c.in_ok-part.part in
    let fault = c.in_err-check_next.field-0.0 in
    let gives = c.in_ok-part.ensures.gives tells bytes stands.1 in
    err_is c.from_residual-in_err-check_next.result fault (λ (f : Fault). IsLogFault f → IsStreamFault (length counts) (counts_in counts) known.head.first (found ∷ follower ∷ others) f) (grind (arith, common_steps))
    (λ refusal. before_breaks (length counts) (counts_in counts) known.head.first bytes (head_end known (length bytes)) known next found follower others part.records.items part.stop part.counts.items fault
    (are_of (g.V.Volume.view c.args.vol.now).contents known found stands) follows (end_exact known (length bytes)) refl gives.1 c.in_ok-part.ensures.counts
    (subst (λ (n : ℕ). IsJoinFault known next n part.records.items part.counts.items fault) gives.0 c.in_err-check_next.ensures.refused))

pub returns-in_err-check_next-clause-kinds : goal.returns-in_err-check_next-clause-kinds
returns-in_err-check_next-clause-kinds g c =
    let part = c.in_ok-part.part in
    let fault = c.in_err-check_next.field-0.0 in
    err_is c.from_residual-in_err-check_next.result fault (λ (f : Fault). (f ≡ NoMemory) ⊎ (f ≡ ReadFault) ⊎ IsLogFault f) (grind (arith, common_steps))
    (inr (inr (refusal_of_join c.args.log.now c.args.next.now part.len part.records.items part.counts.items fault c.requires.sound.first c.requires.kept c.in_err-check_next.ensures.refused)))

pub returns-clause-gives : goal.returns-clause-gives
returns-clause-gives g c tells found follower others stands follows =
    let counts = c.args.counts.items in
    let known = c.args.log.now in
    let next = c.args.next.now in
    let bytes = log_bytes (found_of found) in
    let part = c.in_ok-part.part in
    let gives = c.in_ok-part.ensures.gives tells bytes stands.1 in
    before_goes (length counts) (counts_in counts) known.head.first bytes (head_end known (length bytes)) known next found follower others part.records.items part.stop part.counts.items
    (are_of (g.V.Volume.view c.args.vol.now).contents known found stands) follows (end_exact known (length bytes)) gives.1.records c.in_ok-check_next.ensures.reaches c.in_ok-part.ensures.counts c.in_ok-check_next.ensures.continues
