-- What was read of a volume is what its image gives, or for what it is refused.
use Rattle.std.proofs.Common.{◌≡◌, ℕ, ◌<◌, ◌≤◌, ◌^◌, ◌⊎◌, inl, inr, List, [], ◌∷◌, length, map, get_or, Some, refl, sym, ap, subst, ◌∙◌}
use Rattle.std.specs.List.{AllByRecursion}
use Rattle.mg_disk.specs.Images.{Image}
use Rattle.mg_types.specs.declared.faults.Fault.{Fault}
use Rattle.mg_types.specs.declared.faults.Fault.TheVariants.{NoMemory}
use Rattle.mg_wal_format.specs.declared.record.Rec.{Rec}
use Rattle.mg_wal_format.specs.Logs.{Gives, Log}
use Rattle.mg_wal_format.specs.Recovery.{found_of, first_of, log_bytes, log_name, low_of, AreLogs, Found, HasHeads, HasRoom, IsHeadsFault, IsNewestFine, IsNewestRefused, IsRefused, IsStreamFault, end_of, AreRefused}
use Rattle.mg_wal.specs.Book.{Book}
use Rattle.mg_wal.specs.declared.finding.FoundLogs.{FoundLogs}
use Rattle.mg_wal.specs.declared.finding.HeadFrame.{HeadFrame}
use Rattle.mg_wal.specs.declared.known.KnownLog.{KnownLog}
use Rattle.mg_wal.specs.Findings.{head_frame, AreKnown, AreReady, HasFound, IsRefusalBy, StandIn}
use Rattle.mg_wal.specs.Openings.{basis_for, log_known, IsFresh, IsNewestName, OpensAs}

-- ---- heads

-- the logs whose heads were judged
abbrev pub AreJudged : ℕ → List KnownLog → List Found → Type 0
AreJudged parts known found = (logs : List Log) × (found ≡ map found_of logs) × AreKnown known logs × HasHeads logs × HasRoom parts logs

-- what judging heads tells of all logs with these first frames
abbrev pub TellsHeads : ℕ → List HeadFrame → List KnownLog → Type 0
TellsHeads parts frames known = (found : List Found) → map head_frame found ≡ frames → AreJudged parts known found

-- each list of first frames is that of some logs
frames_of_some : (frames : List HeadFrame) → (found : List Found) × (map head_frame found ≡ frames)
frames_of_some [] = ([], refl)
frames_of_some (frame ∷ frames) =
    let behind = frames_of_some frames in
    let first : Found = record { number = frame.number; body = frame.body; rest = [] } in
    (first ∷ behind.0, ap (λ (fs : List HeadFrame). frame ∷ fs) behind.1)

pub judged_some : (parts : ℕ) (frames : List HeadFrame) (known : List KnownLog) → TellsHeads parts frames known → (found : List Found) × AreJudged parts known found
judged_some parts frames known tells = let some = frames_of_some frames in (some.0, tells some.0 some.1)

pub ready_of : (parts : ℕ) (frames : List HeadFrame) (known : List KnownLog) (low : List ℕ) → TellsHeads parts frames known → length low ≡ parts
    → ((logs : List Log) → AreKnown known logs → HasRoom parts logs → HasHeads logs → (part : ℕ) → get_or low part 0 ≡ low_of logs part) → AreReady known low
ready_of parts frames known low tells len counts =
    let judged = (judged_some parts frames known tells).1 in
    record {
      logs = judged.0;
      are = judged.2;
      heads = judged.3;
      room = subst (λ (n : ℕ). HasRoom n judged.0) (sym len) judged.4;
      low_is = counts judged.0 judged.2 judged.4 judged.3;
    }

known_below : (newest : ℕ) (found : List Found) (logs : List Log) (frames : List HeadFrame) (known : List KnownLog) → found ≡ map found_of logs → map head_frame found ≡ frames → AreKnown known logs
    → AllByRecursion (λ frame. frame.number ≤ newest) frames → AllByRecursion (λ log. log.number ≤ newest) known
known_below newest found logs frames known is are are' below =
    subst (AllByRecursion (λ (log : KnownLog). log.number ≤ newest)) are'
    (by logs (subst (AllByRecursion (λ (frame : HeadFrame). frame.number ≤ newest)) (sym are ∙ ap (map head_frame) is) below))
  where
    by : (logs : List Log) → AllByRecursion (λ (frame : HeadFrame). frame.number ≤ newest) (map head_frame (map found_of logs)) → AllByRecursion (λ (log : KnownLog). log.number ≤ newest) (map log_known logs)
    by [] all = tt
    by (log ∷ logs) all = (all.0, by logs all.1)

pub below_of : (parts newest : ℕ) (frames : List HeadFrame) (known : List KnownLog) → TellsHeads parts frames known → AllByRecursion (λ frame. frame.number ≤ newest) frames → AllByRecursion (λ log. log.number ≤ newest) known
below_of parts newest frames known tells below =
    let some = frames_of_some frames in
    let judged = tells some.0 some.1 in
    known_below newest some.0 judged.0 frames known judged.1 some.1 judged.2 below

-- ---- what stands in the image

-- the logs that were found and judged
pub judged_found : (image : Image) (parts : ℕ) (logs : FoundLogs) (known : List KnownLog) → HasFound image logs → TellsHeads parts logs.whole.items known → (found : List Found) × AreLogs image found × AreJudged parts known found
judged_found image parts logs known has tells = (has.found, has.are, tells has.found has.whole)

stand_of : (image : Image) (logs : List Log) → AllByRecursion (λ (found : Found). (length found.body < 2 ^ 32) × (image (log_name found.number) ≡ Some (log_bytes found))) (map found_of logs) → StandIn image logs
stand_of image [] all = tt
stand_of image (log ∷ logs) all = (all.0.1, stand_of image logs all.1)

pub stand_found : (image now : Image) (parts : ℕ) (logs : FoundLogs) (known : List KnownLog) → HasFound image logs → TellsHeads parts logs.whole.items known → now ≡ image
    → (found : List Log) × AreKnown known found × StandIn now found
stand_found image now parts logs known has tells same =
    let judged = tells has.found has.whole in (
      judged.0,
      judged.2,
      subst (λ (i : Image). StandIn i judged.0) (sym same)
          (stand_of image judged.0 (subst (AllByRecursion (λ (found : Found). (length found.body < 2 ^ 32) × (image (log_name found.number) ≡ Some (log_bytes found)))) judged.1 has.are.stand)),
    )

-- ---- refusals

pub refused_heads : (image : Image) (parts : ℕ) (logs : FoundLogs) (fault : Fault) → HasFound image logs
    → (fault ≡ NoMemory) ⊎ (IsRefusalBy parts fault × ((found : List Found) → map head_frame found ≡ logs.whole.items → IsNewestRefused parts found fault ⊎ (IsNewestFine parts found × IsHeadsFault found fault)))
    → IsRefusalBy parts fault → IsRefused parts image fault
refused_heads image parts logs fault has (inl none) refusal = absurd (subst (IsRefusalBy parts) none refusal)
refused_heads image parts logs fault has (inr (_, why)) refusal = (has.found, has.are, by (why has.found has.whole))
  where
    by : IsNewestRefused parts has.found fault ⊎ (IsNewestFine parts has.found × IsHeadsFault has.found fault) → AreRefused parts has.found fault
    by (inl newest) = inl newest
    by (inr heads) = inr (inl heads)

pub refused_stream : (image now : Image) (parts : ℕ) (logs : FoundLogs) (known : List KnownLog) (low : List ℕ) (fault : Fault) → HasFound image logs → TellsHeads parts logs.whole.items known → now ≡ image → length low ≡ parts
    → ((found : List Log) → AreKnown known found → StandIn now found → IsStreamFault (length low) (low_of found) (first_of found) found fault) → IsRefused parts image fault
unfolding stand_found
refused_stream image now parts logs known low fault has tells same len why =
    let judged = tells has.found has.whole in
    let stand = stand_found image now parts logs known has tells same in
    (has.found, has.are, inr (inr (judged.0, judged.1, judged.3, judged.4, subst (λ (n : ℕ). IsStreamFault n (low_of judged.0) (first_of judged.0) judged.0 fault) len (why judged.0 judged.2 stand.2))))

-- ---- what is opened

pub opens_as : (image now : Image) (parts : ℕ) (logs : FoundLogs) (known : List KnownLog) (low : List ℕ) (recs : List Rec) (book : Book) → HasFound image logs → TellsHeads parts logs.whole.items known → now ≡ image → length low ≡ parts
    → ((found : List Log) → AreKnown known found → HasRoom parts found → HasHeads found → (part : ℕ) → get_or low part 0 ≡ low_of found part)
    → ((found : List Log) → AreKnown known found → StandIn now found → Gives (length low) (low_of found) (first_of found) found recs)
    → ((found : List Log) → AreKnown known found → (basis_for book recs low).first ≡ first_of found)
    → ((found : List Log) → AreKnown known found → book.reach ≡ end_of found recs)
    → ((found : List Log) → AreKnown known found → IsFresh (basis_for book recs low) found book)
    → book.newest ≡ logs.newest → OpensAs image (basis_for book recs low) book
unfolding stand_found
opens_as image now parts logs known low recs book has tells same len counts gives first reached fresh newest =
    let judged = tells has.found has.whole in
    let found = judged.0 in
    let stand = stand_found image now parts logs known has tells same in (
      record {
        logs = found;
        opens = record {
          found = subst (AreLogs image) judged.1 has.are;
          heads = judged.3;
          room = subst (λ (n : ℕ). HasRoom n found) (sym len) judged.4;
          gives = gives found judged.2 stand.2;
        };
        first = first found judged.2;
        low = counts found judged.2 judged.4 judged.3;
        reached = reached found judged.2;
        newest = subst (IsNewestName image) (sym newest) has.newest;
      },
      fresh found judged.2,
    )
