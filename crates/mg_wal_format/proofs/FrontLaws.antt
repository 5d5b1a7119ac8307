-- What a crash leaves of logs gives a front of the records for which they were to be written.
use Rattle.std.proofs.Common.{◌≡◌, ℕ, suc, ◌+◌, ◌≤◌, List, [], ◌∷◌, ◌++◌, length, map, take, drop, refl, sym, ap, subst, ◌∙◌, arith, append_assoc}
use Rattle.std.proofs.lemmas.List.{length-append, length-take-le, map-append, take_at, take-append-drop, take-append-le, take-take}
use Rattle.mg_frame.specs.Frame.{NoFrame}
use Rattle.mg_frame.specs.Frames.{frames}
use Rattle.mg_frame.proofs.FramesLaws.{frames-append}
use Rattle.mg_wal_format.specs.declared.head.Head.{Head}
use Rattle.mg_wal_format.specs.declared.record.Rec.{Rec}
use Rattle.mg_wal_format.specs.Chains.{AreFor, FrontOfListLaw, GivesFront, IsFor, Leaves}
use Rattle.mg_wal_format.specs.Heads.{parts_of}
use Rattle.mg_wal_format.specs.Logs.{counts_after, entry_of, one_more, BeginsWith, Continues, InOrder, Log}
use Rattle.mg_wal_format.specs.Records.{Counts}
use Rattle.mg_wal_format.specs.Torn.{EndsAt, HasFront, Plan}
use Rattle.mg_wal_format.proofs.TornLaws.{InOrder-take}

pub InOrder-front : (parts : ℕ) (counts : Counts) (number : ℕ) (recs more : List Rec) → InOrder parts counts number (recs ++ more) → InOrder parts counts number recs
InOrder-front parts counts number [] more ordered = tt
InOrder-front parts counts number (rec ∷ recs) more ordered = (ordered.0, ordered.1, ordered.2, InOrder-front parts (one_more counts rec.part) (number + 1) recs more ordered.3)

pub InOrder-behind : (parts : ℕ) (counts : Counts) (number : ℕ) (recs more : List Rec) → InOrder parts counts number (recs ++ more) → InOrder parts (counts_after counts recs) (number + length recs) more
InOrder-behind parts counts number [] more ordered = subst (λ (n : ℕ). InOrder parts counts n more) (omega arith) ordered
InOrder-behind parts counts number (rec ∷ recs) more ordered =
    subst (λ (n : ℕ). InOrder parts (counts_after (one_more counts rec.part) recs) n more) (omega arith) (InOrder-behind parts (one_more counts rec.part) (number + 1) recs more ordered.3)

-- the first of these logs begins with the first of the records
first_is : (counts : Counts) (number : ℕ) (recs : List Rec) (plan : Plan) (plans : List Plan) → AreFor counts number recs (plan ∷ plans) → IsFor counts number recs plan
first_is counts number recs plan [] are = are
first_is counts number recs plan (next ∷ plans) are = are.0

first_left : (plan : Plan) (plans : List Plan) (log : Log) (logs : List Log) (behind : ℕ) → Leaves (plan ∷ plans) (log ∷ logs) behind → log.head ≡ plan.head
first_left plan [] log [] behind left = left.1.front.head
first_left plan [] log (other ∷ logs) behind left = absurd left
first_left plan (next ∷ plans) log logs behind left = left.2.head

-- a front of one front of a list is that of another
same_front : (recs one more mine others : List Rec) (count : ℕ) → recs ≡ one ++ more → recs ≡ mine ++ others → length mine ≤ count → count ≤ length one → take (length mine) (take count one) ≡ mine
same_front recs one more mine others count is is' enough among =
    take-take (length mine) count one enough ∙ sym (take-append-le (length mine) one more (omega (arith, enough, among))) ∙ ap (take (length mine)) (sym is ∙ is') ∙ take_at mine others (length mine) refl

frames_split : (recs more : List Rec) (rest : List ℕ) → frames (map entry_of (recs ++ more)) ++ rest ≡ frames (map entry_of recs) ++ (frames (map entry_of more) ++ rest)
frames_split recs more rest =
    ap (λ (es : List (ℕ × List ℕ)). frames es ++ rest) (map-append entry_of recs more) ∙ ap (λ (l : List ℕ). l ++ rest) (frames-append (map entry_of recs) (map entry_of more))
    ∙ append_assoc (frames (map entry_of recs)) (frames (map entry_of more)) rest

take_past : (mine others : List Rec) (count : ℕ) → take (length mine + count) (mine ++ others) ≡ mine ++ take count others
take_past [] others count = ap (λ (n : ℕ). take n others) (omega arith)
take_past (rec ∷ mine) others count =
    let more : length (rec ∷ mine) + count ≡ suc (length mine + count) = omega arith in
    ap (λ (n : ℕ). take n (rec ∷ (mine ++ others))) more ∙ ap (λ (rs : List Rec). rec ∷ rs) (take_past mine others count)

-- ---- one log

last_front : (parts : ℕ) (counts : Counts) (number : ℕ) (recs : List Rec) (plan : Plan) (log : Log) (behind count : ℕ) → InOrder parts counts number recs → IsFor counts number recs plan → EndsAt plan log count
    → plan.head.first + count ≡ behind → GivesFront parts counts number recs (log ∷ []) behind
last_front parts counts number recs plan log behind count ordered is_for last reaches =
    let has = last.front in
    let among : count ≤ length recs = omega (arith, has.among, ap length is_for.front, length-append plan.recs is_for.more) in
    let front : take count plan.recs ≡ take count recs = sym (take-append-le count plan.recs is_for.more has.among) ∙ ap (take count) (sym is_for.front) in
    record {
      count = count;
      among = among;
      reaches = omega (arith, is_for.first, reaches);
      gives = (
        last.rest,
        record {
          in_order = InOrder-take parts counts number recs count ordered;
          spelled = has.spelled ∙ ap (λ (rs : List Rec). frames (map entry_of rs) ++ last.rest) front;
        },
        subst (λ (n : ℕ). NoFrame n last.rest) (omega (arith, is_for.first, length-take-le count recs among)) last.ends,
      );
      heads = tt;
    }

begins : (parts : ℕ) (counts : Counts) (number : ℕ) (recs mine others : List Rec) (plan : Plan) (log : Log) (count : ℕ) (rest : List ℕ) → InOrder parts counts number mine → IsFor counts number recs plan
    → HasFront plan log count rest → recs ≡ mine ++ others → length mine ≤ count → BeginsWith parts counts number log.rest mine (frames (map entry_of (drop (length mine) (take count plan.recs))) ++ rest)
begins parts counts number recs mine others plan log count rest ordered is_for has is enough =
    let read = take count plan.recs in
    let behind = drop (length mine) read in
    let front : take (length mine) read ≡ mine = same_front recs plan.recs is_for.more mine others count is_for.front is enough has.among in
    let split : read ≡ mine ++ behind = sym (take-append-drop (length mine) read) ∙ ap (λ (rs : List Rec). rs ++ behind) front in
    record { in_order = ordered; spelled = has.spelled ∙ ap (λ (rs : List Rec). frames (map entry_of rs) ++ rest) split ∙ frames_split mine behind rest }

-- a log and those behind it
middle_front : (parts : ℕ) (counts : Counts) (number : ℕ) (recs mine others : List Rec) (plan next : Plan) (log other : Log) (logs : List Log) (behind count : ℕ) (after : List ℕ) → InOrder parts counts number mine
    → IsFor counts number recs plan → parts_of plan.head ≤ parts_of next.head → recs ≡ mine ++ others → IsFor (counts_after counts mine) (number + length mine) others next → HasFront plan log count after
    → next.head.first ≤ plan.head.first + count → other.head ≡ next.head → GivesFront parts (counts_after counts mine) (number + length mine) others (other ∷ logs) behind
    → GivesFront parts counts number recs (log ∷ other ∷ logs) behind
middle_front parts counts number recs mine others plan next log other logs behind count after ordered is_for grown is next_for has enough same rest =
    let first : number + length mine ≡ other.head.first = sym next_for.first ∙ ap (λ (h : Head). h.first) (sym same) in
    record {
      count = length mine + rest.count;
      among = omega (arith, rest.among, ap length is, length-append mine others);
      reaches = omega (arith, rest.reaches);
      gives = (
        mine,
        take rest.count others,
        frames (map entry_of (drop (length mine) (take count plan.recs))) ++ after,
        ap (take (length mine + rest.count)) is ∙ take_past mine others rest.count,
        begins parts counts number recs mine others plan log count after ordered is_for has is (omega (arith, enough, is_for.first, next_for.first)),
        first,
        subst (Continues (counts_after counts mine)) (sym same) next_for.gives,
        rest.gives,
      );
      heads = (
        omega (arith, first, is_for.first, ap (λ (h : Head). h.first) has.head),
        omega (arith, grown, ap parts_of has.head, ap parts_of same),
        rest.heads,
      );
    }

pub FrontOfList : FrontOfListLaw
FrontOfList parts counts number recs [] logs behind ordered are left = absurd are
FrontOfList parts counts number recs (plan ∷ []) [] behind ordered are left = absurd left
FrontOfList parts counts number recs (plan ∷ []) (log ∷ []) behind ordered are left = last_front parts counts number recs plan log behind left.0 ordered are left.1 left.2
FrontOfList parts counts number recs (plan ∷ []) (log ∷ other ∷ logs) behind ordered are left = absurd left
FrontOfList parts counts number recs (plan ∷ next ∷ plans) [] behind ordered are left = absurd left
FrontOfList parts counts number recs (plan ∷ next ∷ plans) (log ∷ []) behind ordered are left = absurd left.4
FrontOfList parts counts number recs (plan ∷ next ∷ plans) (log ∷ other ∷ logs) behind ordered are left =
    let mine = are.2 in
    let others = are.3 in
    let both : InOrder parts counts number (mine ++ others) = subst (InOrder parts counts number) are.4 ordered in
    middle_front parts counts number recs mine others plan next log other logs behind left.0 left.1 (InOrder-front parts counts number mine others both) are.0 are.1 are.4
    (first_is (counts_after counts mine) (number + length mine) others next plans are.5) left.2 left.3 (first_left next plans other logs behind left.4)
    (FrontOfList parts (counts_after counts mine) (number + length mine) others (next ∷ plans) (other ∷ logs) behind (InOrder-behind parts counts number mine others both) are.5 left.4)
