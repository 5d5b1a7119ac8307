-- All records of logs are in order, and each head gives the counts before it.
use Rattle.std.proofs.Common.{◌≡◌, ℕ, ◌+◌, List, [], ◌∷◌, ◌++◌, length, refl, sym, ap, subst, ◌∙◌, arith, append_assoc}
use Rattle.std.proofs.lemmas.List.{length-append}
use Rattle.mg_wal_format.specs.declared.record.Rec.{Rec}
use Rattle.mg_wal_format.specs.Logs.{counts_after, one_more, Continues, Gives, InOrder, Log}
use Rattle.mg_wal_format.specs.Opening.{AllInOrderLaw, BeginsBehind, HeadCountsLaw}
use Rattle.mg_wal_format.specs.Records.{Counts}
use Rattle.mg_wal_format.specs.Recovery.{low_of}
use Rattle.mg_wal_format.proofs.FoundLaws.{cons_same}
use Rattle.mg_wal_format.proofs.LogLaws.{counts_after-append}

pub InOrder-append : (parts : ℕ) (counts : Counts) (number : ℕ) (recs more : List Rec) → InOrder parts counts number recs → InOrder parts (counts_after counts recs) (number + length recs) more → InOrder parts counts number (recs ++ more)
InOrder-append parts counts number [] more ordered behind = subst (λ (n : ℕ). InOrder parts counts n more) (omega arith) behind
InOrder-append parts counts number (rec ∷ recs) more ordered behind = (
  ordered.0,
  ordered.1,
  ordered.2,
  InOrder-append parts (one_more counts rec.part) (number + 1) recs more ordered.3
      (subst (λ (n : ℕ). InOrder parts (counts_after (one_more counts rec.part) recs) n more) (omega arith) behind),
)

pub AllInOrder : AllInOrderLaw
AllInOrder parts counts number [] recs gives = subst (InOrder parts counts number) (sym gives) tt
AllInOrder parts counts number (log ∷ []) recs gives = gives.1.in_order
AllInOrder parts counts number (log ∷ next ∷ logs) recs gives =
    subst (InOrder parts counts number) (sym gives.3) (InOrder-append parts counts number gives.0 gives.1 gives.4.in_order
    (AllInOrder parts (counts_after counts gives.0) (number + length gives.0) (next ∷ logs) gives.1 gives.7))

-- ---- heads

none_there : (older : List Log) (log : Log) (newer : List Log) → [] ≡ older ++ log ∷ newer → ⊥
none_there [] log newer is = cc
none_there (first ∷ older) log newer is = cc

-- behind more records
begins_later : (counts : Counts) (number : ℕ) (recs mine others : List Rec) (log : Log) → recs ≡ mine ++ others → BeginsBehind (counts_after counts mine) (number + length mine) others log
    → BeginsBehind counts number recs log
begins_later counts number recs mine others log split begins =
    record {
      before = mine ++ begins.before;
      behind = begins.behind;
      split = split ∙ ap (λ (rs : List Rec). mine ++ rs) begins.split ∙ sym (append_assoc mine begins.before begins.behind);
      first = omega (arith, begins.first, length-append mine begins.before);
      gives = λ part. begins.gives part ∙ ap (λ (c : Counts). c part) (sym (counts_after-append mine begins.before counts));
    }

heads_count : (parts : ℕ) (counts : Counts) (number : ℕ) (first : Log) (logs : List Log) (recs : List Rec) → number ≡ first.head.first → Continues counts first.head → Gives parts counts number (first ∷ logs) recs
    → (older : List Log) (log : Log) (newer : List Log) → first ∷ logs ≡ older ++ log ∷ newer → BeginsBehind counts number recs log
heads_count parts counts number first logs recs begins continues gives [] log newer is =
    let one : first ≡ log = (cons_same first log logs newer is).0 in
    record { before = []; behind = recs; split = refl; first = omega (arith, begins, ap (λ (l : Log). l.head.first) one); gives = subst (λ (l : Log). Continues counts l.head) one continues }
heads_count parts counts number first [] recs begins continues gives (other ∷ older) log newer is = absurd (none_there older log newer (cons_same first other [] (older ++ log ∷ newer) is).1)
heads_count parts counts number first (next ∷ logs) recs begins continues gives (other ∷ older) log newer is =
    begins_later counts number recs gives.0 gives.1 log gives.3
    (heads_count parts (counts_after counts gives.0) (number + length gives.0) next logs gives.1 gives.5 gives.6 gives.7 older log newer (cons_same first other (next ∷ logs) (older ++ log ∷ newer) is).1)

pub HeadCounts : HeadCountsLaw
HeadCounts parts [] recs gives older log newer is = absurd (none_there older log newer is)
HeadCounts parts (first ∷ logs) recs gives older log newer is = heads_count parts (low_of (first ∷ logs)) first.head.first first logs recs refl (λ part. refl) gives older log newer is
