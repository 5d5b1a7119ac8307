use Rattle.std.proofs.Common.{◌≡◌, ◌⊎◌, inr, ◌+◌, ◌^◌, ◌∷◌, [], ℕ, length, drop, refl, sym, ap, subst, ◌∙◌, arith}
use Rattle.std.proofs.lemmas.Grind.{common_steps}
use Rattle.mg_disk.specs.Images.{Stays}
use Rattle.mg_frame.specs.Frame.{NoFrame}
use Rattle.mg_types.specs.declared.faults.Fault.{Fault}
use Rattle.mg_types.specs.declared.faults.Fault.TheVariants.{NoMemory, ReadFault}
use Rattle.mg_wal_format.specs.Records.{counts_in}
use Rattle.mg_wal_format.specs.Recovery.{found_of, log_bytes, log_file, log_name, IsStreamFault}
use Rattle.mg_wal_format.proofs.ReadingLaws.{err_is}
use Rattle.mg_wal.specs.Findings.{IsLogFault}
use Rattle.mg_wal.specs.Streams.{head_end, IsWindow}
use Rattle.mg_wal.proofs.RefusalLaws.{refusal_of_worn}
use Rattle.mg_wal.proofs.StreamLaws.{are_of, end_exact, last_ends, last_goes, last_refused, last_worn}
use Rattle.mg_wal.proofs.ReadLaws.{stays_both}
use Rattle.mg_wal.proofs.stream.read_last.Goals as goal
use Rattle.mg_wal.proofs.stream.read_last.Goals.{then-first-len-eq-NUMBER_LIMIT+in_ok-window+in_ok-refuse_worn, else-first-len-eq-NUMBER_LIMIT}

pub returns-in_err-part-clause-refused : goal.returns-in_err-part-clause-refused
returns-in_err-part-clause-refused g c tells found stands =
    let counts = c.args.counts.items in
    let known = c.args.log.now in
    let bytes = log_bytes (found_of found) in
    let fault = c.in_err-part.field-0.0 in
    err_is c.from_residual.result fault (λ (f : Fault). IsLogFault f → IsStreamFault (length counts) (counts_in counts) known.head.first (found ∷ []) f) (grind (arith, common_steps))
    (λ refusal. last_refused (length counts) (counts_in counts) known.head.first bytes (head_end known (length bytes)) known found (log_file known.number) fault
    (are_of (g.V.Volume.view c.args.vol.now).contents known found stands) (end_exact known (length bytes)) refl (c.in_err-part.ensures.refused tells bytes stands.1 refusal))

pub returns-in_err-refuse_worn-clause-refused : goal.returns-in_err-refuse_worn-clause-refused
returns-in_err-refuse_worn-clause-refused g c tells found stands =
    let counts = c.args.counts.items in
    let known = c.args.log.now in
    let bytes = log_bytes (found_of found) in
    let part = c.in_ok-part.part in
    let fault = c.in_err-refuse_worn.field-0.0 in
    let gives = c.in_ok-part.ensures.gives tells bytes stands.1 in
    let w = c.in_ok-window.ensures.window tells bytes (ap (λ image. image (log_name known.number)) (c.read_up_to.ensures.stays tells).contents ∙ stands.1) (sym gives.0) in
    err_is c.from_residual-in_err-refuse_worn.result fault (λ (f : Fault). IsLogFault f → IsStreamFault (length counts) (counts_in counts) known.head.first (found ∷ []) f) (grind (arith, common_steps))
    (λ refusal. last_worn (length counts) (counts_in counts) known.head.first bytes (head_end known (length bytes)) known found c.log_file.result part.records.items part.stop c.deref.result.now fault
    (are_of (g.V.Volume.view c.args.vol.now).contents known found stands) (end_exact known (length bytes)) c.log_file.ensures gives.1.records (omega (arith, c.if-first-len-eq-NUMBER_LIMIT.true, c.len.ensures))
    (subst (IsWindow bytes part.stop (2 ^ 62)) (sym c.deref.ensures.value) w) c.in_err-refuse_worn.ensures.worn)

pub returns-in_err-refuse_worn-clause-kinds : goal.returns-in_err-refuse_worn-clause-kinds
returns-in_err-refuse_worn-clause-kinds g c =
    let fault = c.in_err-refuse_worn.field-0.0 in
    err_is c.from_residual-in_err-refuse_worn.result fault (λ (f : Fault). (f ≡ NoMemory) ⊎ (f ≡ ReadFault) ⊎ IsLogFault f) (grind (arith, common_steps))
    (inr (inr (refusal_of_worn c.args.log.now.number c.in_ok-part.part.stop c.log_file.result c.deref.result.now fault c.log_file.ensures c.in_err-refuse_worn.ensures.worn)))

pub returns-in_err-refuse_worn-clause-stays : goal.returns-in_err-refuse_worn-clause-stays
returns-in_err-refuse_worn-clause-stays g c tells =
    stays_both _ (g.V.Volume.view c.read_up_to.new.vol) _ (g.met.V.Volume.counts_now tells c.args.vol.now) (c.read_up_to.ensures.stays tells) (c.read_window.ensures.stays tells)

pub returns-clause-stays : goal.returns-clause-stays
returns-clause-stays g c tells = elim c.if-first-len-eq-NUMBER_LIMIT.branch [
  | then-first-len-eq-NUMBER_LIMIT+in_ok-window+in_ok-refuse_worn w ↦
      subst (λ vol. Stays (g.V.Volume.view c.args.vol.now) (g.V.Volume.view vol)) (sym w.vol-is)
      (stays_both _ (g.V.Volume.view c.read_up_to.new.vol) _ (g.met.V.Volume.counts_now tells c.args.vol.now) (c.read_up_to.ensures.stays tells) (w.read_window.ensures.stays tells))
  | else-first-len-eq-NUMBER_LIMIT w ↦ subst (λ vol. Stays (g.V.Volume.view c.args.vol.now) (g.V.Volume.view vol)) (sym w.vol-is) (c.read_up_to.ensures.stays tells)
]

pub returns-clause-gives : goal.returns-clause-gives
returns-clause-gives g c tells found stands =
    let counts = c.args.counts.items in
    let known = c.args.log.now in
    let bytes = log_bytes (found_of found) in
    let part = c.in_ok-part.part in
    let gives = c.in_ok-part.ensures.gives tells bytes stands.1 in
    let reached = known.head.first + length part.records.items in
    let ends : NoFrame reached (drop part.stop bytes) = elim c.if-first-len-eq-NUMBER_LIMIT.branch [
      | then-first-len-eq-NUMBER_LIMIT+in_ok-window+in_ok-refuse_worn w ↦
          let is : 2 ^ 62 ≡ reached = omega (arith, w.if-first-len-eq-NUMBER_LIMIT.true, c.len.ensures) in
          let seen = w.in_ok-window.ensures.window tells bytes (ap (λ image. image (log_name known.number)) (c.read_up_to.ensures.stays tells).contents ∙ stands.1) (sym gives.0) in
          subst (λ (n : ℕ). NoFrame n (drop part.stop bytes)) is (seen.decides (subst (NoFrame (2 ^ 62)) w.deref.ensures.value w.in_ok-refuse_worn.ensures.none))
      | else-first-len-eq-NUMBER_LIMIT w ↦
          last_ends reached (drop part.stop bytes) gives.1.ends (λ is. absurd (omega (arith, w.if-first-len-eq-NUMBER_LIMIT.false, c.len.ensures, is)))
    ] in
    last_goes (length counts) (counts_in counts) known.head.first bytes (head_end known (length bytes)) known found part.records.items part.stop
    (are_of (g.V.Volume.view c.args.vol.now).contents known found stands) (end_exact known (length bytes)) gives.1.records ends
