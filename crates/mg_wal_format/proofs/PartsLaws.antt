-- What an image gives for some partitions it gives for more.
use Rattle.std.proofs.Common.{ℕ, ◌+◌, ◌≤◌, List, [], ◌∷◌, length, arith}
use Rattle.mg_wal_format.specs.declared.record.Rec.{Rec}
use Rattle.mg_wal_format.specs.Logs.{counts_after, one_more, BeginsWith, Gives, InOrder, Log}
use Rattle.mg_wal_format.specs.Records.{Counts, IsNext}
use Rattle.mg_wal_format.specs.Recovery.{HasRoom}
use Rattle.mg_wal_format.specs.Opening.{MorePartsLaw}

IsNext-more : (parts more : ℕ) (counts : Counts) (rec : Rec) → parts ≤ more → IsNext parts counts rec → IsNext more counts rec
IsNext-more parts more counts rec grown next =
    record { fits = next.fits; part = omega (arith, grown, next.part); change = next.change; change_is_kept = next.change_is_kept; mark_is_kept = next.mark_is_kept }

InOrder-more : (parts more : ℕ) (counts : Counts) (number : ℕ) (recs : List Rec) → parts ≤ more → InOrder parts counts number recs → InOrder more counts number recs
InOrder-more parts more counts number [] grown ordered = tt
InOrder-more parts more counts number (rec ∷ recs) grown ordered =
    (ordered.0, ordered.1, IsNext-more parts more counts rec grown ordered.2, InOrder-more parts more (one_more counts rec.part) (number + 1) recs grown ordered.3)

BeginsWith-more : (parts more : ℕ) (counts : Counts) (number : ℕ) (bytes : List ℕ) (recs : List Rec) (rest : List ℕ) → parts ≤ more → BeginsWith parts counts number bytes recs rest → BeginsWith more counts number bytes recs rest
BeginsWith-more parts more counts number bytes recs rest grown begins = record { in_order = InOrder-more parts more counts number recs grown begins.in_order; spelled = begins.spelled }

Gives-more : (parts more : ℕ) (counts : Counts) (number : ℕ) (logs : List Log) (recs : List Rec) → parts ≤ more → Gives parts counts number logs recs → Gives more counts number logs recs
Gives-more parts more counts number [] recs grown gives = gives
Gives-more parts more counts number (log ∷ []) recs grown gives = (gives.0, BeginsWith-more parts more counts number log.rest recs gives.0 grown gives.1, gives.2)
Gives-more parts more counts number (log ∷ next ∷ logs) recs grown gives = (
  gives.0,
  gives.1,
  gives.2,
  gives.3,
  BeginsWith-more parts more counts number log.rest gives.0 gives.2 grown gives.4,
  gives.5,
  gives.6,
  Gives-more parts more (counts_after counts gives.0) (number + length gives.0) (next ∷ logs) gives.1 grown gives.7,
)

HasRoom-more : (parts more : ℕ) (logs : List Log) → parts ≤ more → HasRoom parts logs → HasRoom more logs
HasRoom-more parts more logs grown room older newest is = omega (arith, grown, room older newest is)

pub MoreParts : MorePartsLaw
MoreParts parts more image logs recs grown opens =
    record { found = opens.found; heads = opens.heads; room = HasRoom-more parts more logs grown opens.room; gives = Gives-more parts more _ _ logs recs grown opens.gives }
