-- An image is refused for one fault.
use Rattle.std.proofs.Common.{◌≡◌, ℕ, ◌+◌, ◌-◌, ◌<◌, ◌≤◌, ◌^◌, ◌⊎◌, inl, inr, List, [], ◌∷◌, ◌++◌, length, map, Option, None, Some, refl, sym, ap, subst, ◌∙◌, arith}
use Rattle.std.proofs.lemmas.Bool.{cases_order}
use Rattle.std.proofs.lemmas.List.{append_cancel_left, same_from_push}
use Rattle.mg_frame.specs.Frame.{frame}
use Rattle.mg_frame.specs.Frames.{frames}
use Rattle.mg_types.specs.declared.faults.Fault.{Fault}
use Rattle.mg_types.specs.declared.faults.Fault.TheVariants.{Damaged, FewerParts}
use Rattle.mg_types.specs.declared.names.FileId.{FileId}
use Rattle.mg_wal_format.specs.declared.head.Head.{Head}
use Rattle.mg_wal_format.specs.declared.record.Rec.{Rec}
use Rattle.mg_wal_format.specs.Faults.{head_fault, record_fault, too_great, IsHeadRefused, IsNewestHeadFine, IsNewestHeadRefused, IsRecordRefused}
use Rattle.mg_wal_format.specs.Heads.{parts_of}
use Rattle.mg_wal_format.specs.Logs.{counts_after, entry_of, BeginsWith, Continues, Log}
use Rattle.mg_wal_format.specs.Opening.{OneFaultLaw}
use Rattle.mg_wal_format.specs.Records.{Counts}
use Rattle.mg_wal_format.specs.Recovery.{
  first_of,
  found_of,
  log_bytes,
  log_file,
  low_of,
  offset_behind,
  AreRefused,
  CountsOther,
  EndsEarly,
  Found,
  HasHeads,
  HasRoom,
  IsHeadFault,
  IsHeadsFault,
  IsNewestFine,
  IsNewestRefused,
  IsRecordFault,
  IsStreamFault,
}
use Rattle.mg_wal_format.proofs.ChainLaws.{one_log}
use Rattle.mg_wal_format.proofs.FoundLaws.{cons_same, logs_found, one_frame, some_same, OneLogs}
use Rattle.mg_wal_format.proofs.OpeningLaws.{early_not, head_taken, heads_fine, newest_fine, record_fine, same_mine}
use Rattle.mg_wal_format.proofs.ReadingLaws.{numbered}
use Rattle.mg_wal_format.proofs.SpellingLaws.{one_head, one_record}

-- ---- a body is refused for one fault

one_head_refused : (file : FileId) (body : List ℕ) (fault other : Fault) → IsHeadRefused file body fault → IsHeadRefused file body other → fault ≡ other
one_head_refused file body fault other (inl (none, why)) (inl (none', why')) = why ∙ sym why'
one_head_refused file body fault other (inl (none, why)) (inr (head, fits, is, why')) = absurd (none head fits is)
one_head_refused file body fault other (inr (head, fits, is, why)) (inl (none, why')) = absurd (none head fits is)
one_head_refused file body fault other (inr (head, fits, is, why)) (inr (head', fits', is', why')) =
    let one : head ≡ head' = one_head head head' fits fits' (sym is ∙ is') in
    some_same fault other (sym why ∙ ap (head_fault file) one ∙ why')

one_newest_head : (file : FileId) (parts : ℕ) (body : List ℕ) (fault other : Fault) → IsNewestHeadRefused file parts body fault → IsNewestHeadRefused file parts body other → fault ≡ other
one_newest_head file parts body fault other (inl (none, why)) (inl (none', why')) = why ∙ sym why'
one_newest_head file parts body fault other (inl (none, why)) (inr (head, fits, is, fewer, why')) = absurd (none head fits is)
one_newest_head file parts body fault other (inr (head, fits, is, fewer, why)) (inl (none, why')) = absurd (none head fits is)
one_newest_head file parts body fault other (inr (head, fits, is, fewer, why)) (inr (head', fits', is', fewer', why')) =
    why ∙ ap (λ (h : Head). FewerParts parts (parts_of h)) (one_head head head' fits fits' (sym is ∙ is')) ∙ sym why'

-- a newest head that is refused is not fine
newest_head_wrong : (file : FileId) (parts : ℕ) (body : List ℕ) (fault : Fault) → IsNewestHeadRefused file parts body fault → IsNewestHeadFine parts body → ⊥
newest_head_wrong file parts body fault (inl (none, why)) (head, fits, is, room) = none head fits is
newest_head_wrong file parts body fault (inr (head, fits, is, fewer, why)) (head', fits', is', room) =
    omega (arith, fewer, room, ap parts_of (one_head head head' fits fits' (sym is ∙ is')))

one_record_refused : (file : FileId) (at parts : ℕ) (counts : Counts) (body : List ℕ) (fault other : Fault) → IsRecordRefused file at parts counts body fault → IsRecordRefused file at parts counts body other → fault ≡ other
one_record_refused file at parts counts body fault other (inl (none, why)) (inl (none', why')) = why ∙ sym why'
one_record_refused file at parts counts body fault other (inl (none, why)) (inr (rec, fits, is, why')) = absurd (none rec fits is)
one_record_refused file at parts counts body fault other (inr (rec, fits, is, why)) (inl (none, why')) = absurd (none rec fits is)
one_record_refused file at parts counts body fault other (inr (rec, fits, is, why)) (inr (rec', fits', is', why')) =
    let one : rec ≡ numbered rec.number rec' =
    one_record rec (numbered rec.number rec') fits (record { part = fits'.part; change = fits'.change; what = fits'.what }) refl (sym is ∙ is') in
    some_same fault other (sym why ∙ ap (record_fault file at parts counts) one ∙ why')

-- ---- the newest head

one_newest_refused : (parts : ℕ) (found : List Found) (fault other : Fault) → IsNewestRefused parts found fault → IsNewestRefused parts found other → fault ≡ other
one_newest_refused parts found fault other (older, newest, is, why) (older', newest', is', why') =
    let one : newest ≡ newest' = (same_from_push older older' newest newest' (sym is ∙ is')).1 in
    one_newest_head (log_file newest'.number) parts newest'.body fault other (subst (λ (f : Found). IsNewestHeadRefused (log_file f.number) parts f.body fault) one why) why'

newest_wrong : (parts : ℕ) (found : List Found) (fault : Fault) → IsNewestRefused parts found fault → IsNewestFine parts found → ⊥
newest_wrong parts found fault (older, newest, is, why) (older', newest', is', fine) =
    let one : newest ≡ newest' = (same_from_push older older' newest newest' (sym is ∙ is')).1 in
    newest_head_wrong (log_file newest'.number) parts newest'.body fault (subst (λ (f : Found). IsNewestHeadRefused (log_file f.number) parts f.body fault) one why) fine

-- ---- the oldest head that is refused or falls

-- two places of a list are one, or the one stands behind the other
abbrev PlacesOf : List Found → List Found → Found → Found → Type 0
PlacesOf before others x y = ((before ≡ others) × (x ≡ y)) ⊎ ((more : List Found) × (others ≡ before ++ x ∷ more)) ⊎ ((more : List Found) × (before ≡ others ++ y ∷ more))

places_behind : (z w : Found) (before others : List Found) (x y : Found) → z ≡ w → PlacesOf before others x y → PlacesOf (z ∷ before) (w ∷ others) x y
places_behind z w before others x y first (inl (same, one)) = inl (ap (λ (f : Found). f ∷ before) first ∙ ap (λ (fs : List Found). w ∷ fs) same, one)
places_behind z w before others x y first (inr (inl (more, is))) =
    inr (inl (more, ap (λ (f : Found). f ∷ others) (sym first) ∙ ap (λ (fs : List Found). z ∷ fs) is))
places_behind z w before others x y first (inr (inr (more, is))) =
    inr (inr (more, ap (λ (f : Found). f ∷ before) first ∙ ap (λ (fs : List Found). w ∷ fs) is))

places : (before others : List Found) (x y : Found) (behind after : List Found) → before ++ x ∷ behind ≡ others ++ y ∷ after → PlacesOf before others x y
places [] [] x y behind after is = inl (refl, (cons_same x y behind after is).0)
places [] (w ∷ others) x y behind after is = inr (inl (others, ap (λ (f : Found). f ∷ others) (sym (cons_same x w behind (others ++ y ∷ after) is).0)))
places (z ∷ before) [] x y behind after is = inr (inr (before, ap (λ (f : Found). f ∷ before) (cons_same z y (before ++ x ∷ behind) after is).0))
places (z ∷ before) (w ∷ others) x y behind after is =
    let parts = cons_same z w (before ++ x ∷ behind) (others ++ y ∷ after) is in
    places_behind z w before others x y parts.0 (places before others x y behind after parts.1)

one_head_fault : (before : List Log) (bad : Found) (fault other : Fault) → IsHeadFault before bad fault → IsHeadFault before bad other → fault ≡ other
one_head_fault before bad fault other (inl refused) (inl refused') = one_head_refused (log_file bad.number) bad.body fault other refused refused'
one_head_fault before bad fault other (inl refused) (inr (head, named, sound, is, falls, why)) =
    absurd (head_taken (log_file bad.number) head fault named sound (subst (λ (b : List ℕ). IsHeadRefused (log_file bad.number) b fault) is refused))
one_head_fault before bad fault other (inr (head, named, sound, is, falls, why)) (inl refused) =
    absurd (head_taken (log_file bad.number) head other named sound (subst (λ (b : List ℕ). IsHeadRefused (log_file bad.number) b other) is refused))
one_head_fault before bad fault other (inr (head, named, sound, is, falls, why)) (inr (head', named', sound', is', falls', why')) = why ∙ sym why'

-- the oldest wrong head is one, since all before it are sound and rise
one_place : (found : List Found) (fault other : Fault) (wrong : IsHeadsFault found fault) (wrong' : IsHeadsFault found other)
    → PlacesOf (map found_of wrong.before) (map found_of wrong'.before) wrong.bad wrong'.bad → fault ≡ other
one_place found fault other wrong wrong' (inl (same, one)) =
    let before : wrong.before ≡ wrong'.before = logs_found wrong.before wrong'.before wrong.fine.0 wrong'.fine.0 same in
    one_head_fault wrong'.before wrong'.bad fault other
    (subst (λ (f : Found). IsHeadFault wrong'.before f fault) one (subst (λ (ls : List Log). IsHeadFault ls wrong.bad fault) before wrong.why)) wrong'.why
one_place found fault other wrong wrong' (inr (inl (more, is))) =
    absurd (heads_fine wrong'.before fault wrong'.fine (record { before = wrong.before; bad = wrong.bad; behind = more; split = is; fine = wrong.fine; why = wrong.why }))
one_place found fault other wrong wrong' (inr (inr (more, is))) =
    absurd (heads_fine wrong.before other wrong.fine (record { before = wrong'.before; bad = wrong'.bad; behind = more; split = is; fine = wrong'.fine; why = wrong'.why }))

one_heads_fault : (found : List Found) (fault other : Fault) → IsHeadsFault found fault → IsHeadsFault found other → fault ≡ other
one_heads_fault found fault other wrong wrong' =
    one_place found fault other wrong wrong'
    (places (map found_of wrong.before) (map found_of wrong'.before) wrong.bad wrong'.bad wrong.behind wrong'.behind (sym wrong.split ∙ wrong'.split))

-- ---- what stands behind the heads

-- behind these records the next number is too great, or a body is none of the next record
abbrev IsBadBody : ℕ → Log → Counts → ℕ → List Rec → List ℕ → Fault → Type 0
IsBadBody parts log counts number recs body fault =
    ((2 ^ 62 ≤ number + length recs) × (fault ≡ too_great (log_file log.number) (offset_behind log recs) (number + length recs)))
    ⊎ ((number + length recs < 2 ^ 62) × IsRecordRefused (log_file log.number) (offset_behind log recs) parts (counts_after counts recs) body fault)

one_bad_body : (parts : ℕ) (log : Log) (counts : Counts) (number : ℕ) (recs : List Rec) (body : List ℕ) (fault other : Fault) → IsBadBody parts log counts number recs body fault
    → IsBadBody parts log counts number recs body other → fault ≡ other
one_bad_body parts log counts number recs body fault other (inl (great, why)) (inl (great', why')) = why ∙ sym why'
one_bad_body parts log counts number recs body fault other (inl (great, why)) (inr (small, why')) = absurd (omega (arith, great, small))
one_bad_body parts log counts number recs body fault other (inr (small, why)) (inl (great, why')) = absurd (omega (arith, great, small))
one_bad_body parts log counts number recs body fault other (inr (small, why)) (inr (small', why')) =
    one_record_refused (log_file log.number) (offset_behind log recs) parts (counts_after counts recs) body fault other why why'

-- two refusals behind as many records are one
refused_alike : (parts : ℕ) (log : Log) (counts : Counts) (number : ℕ) (limit : Option ℕ) (fault other : Fault) (wrong : IsRecordFault parts log counts number limit fault)
    (wrong' : IsRecordFault parts log counts number limit other) → length wrong.recs ≡ length wrong'.recs → fault ≡ other
refused_alike parts log counts number limit fault other wrong wrong' len =
    let next = number + length wrong'.recs in
    let one : wrong.recs ≡ wrong'.recs =
    same_mine parts counts number log.rest wrong.recs wrong'.recs (frame (number + length wrong.recs) wrong.body ++ wrong.rest) (frame next wrong'.body ++ wrong'.rest) wrong.begins wrong'.begins len in
    let bytes : frames (map entry_of wrong'.recs) ++ (frame next wrong.body ++ wrong.rest) ≡ frames (map entry_of wrong'.recs) ++ (frame next wrong'.body ++ wrong'.rest) =
    ap (λ (rs : List Rec). frames (map entry_of rs) ++ (frame (number + length rs) wrong.body ++ wrong.rest)) (sym one) ∙ sym wrong.begins.spelled ∙ wrong'.begins.spelled in
    let body : wrong.body ≡ wrong'.body =
    (one_frame next wrong.body wrong'.body wrong.rest wrong'.rest wrong.body_fits wrong'.body_fits (append_cancel_left (frames (map entry_of wrong'.recs)) _ _ bytes)).0 in
    one_bad_body parts log counts number wrong'.recs wrong'.body fault other
    (subst (λ (b : List ℕ). IsBadBody parts log counts number wrong'.recs b fault) body (subst (λ (rs : List Rec). IsBadBody parts log counts number rs wrong.body fault) one wrong.why)) wrong'.why

one_record_fault : (parts : ℕ) (log : Log) (counts : Counts) (number : ℕ) (limit : Option ℕ) (fault other : Fault) (wrong : IsRecordFault parts log counts number limit fault)
    (wrong' : IsRecordFault parts log counts number limit other) → (length wrong.recs ≡ length wrong'.recs) ⊎ (length wrong.recs < length wrong'.recs) ⊎ (length wrong'.recs < length wrong.recs) → fault ≡ other
one_record_fault parts log counts number limit fault other wrong wrong' (inl alike) = refused_alike parts log counts number limit fault other wrong wrong' alike
one_record_fault parts log counts number limit fault other wrong wrong' (inr (inl less)) =
    absurd (record_fine parts log counts number limit fault wrong'.recs (frame (number + length wrong'.recs) wrong'.body ++ wrong'.rest) wrong'.begins wrong (inr less))
one_record_fault parts log counts number limit fault other wrong wrong' (inr (inr less)) =
    absurd (record_fine parts log counts number limit other wrong.recs (frame (number + length wrong.recs) wrong.body ++ wrong.rest) wrong.begins wrong' (inr less))

record_faults : (parts : ℕ) (log : Log) (counts : Counts) (number : ℕ) (limit : Option ℕ) (fault other : Fault) → IsRecordFault parts log counts number limit fault → IsRecordFault parts log counts number limit other
    → fault ≡ other
record_faults parts log counts number limit fault other wrong wrong' =
    one_record_fault parts log counts number limit fault other wrong wrong' (cases_order (length wrong.recs) (length wrong'.recs))

one_end : (parts : ℕ) (log : Log) (counts : Counts) (number first : ℕ) (fault other : Fault) → EndsEarly parts log counts number first fault → EndsEarly parts log counts number first other → fault ≡ other
one_end parts log counts number first fault other early early' =
    let one : early.recs ≡ early'.recs =
    one_log parts counts number early.recs early'.recs early.rest early'.rest early.begins.in_order early'.begins.in_order (sym early.begins.spelled ∙ early'.begins.spelled) (inr (early.ends, early'.ends)) in
    early.named ∙ ap (λ (rs : List Rec). Damaged (log_file log.number) (length (log_bytes (found_of log))) (first - 1) (number + length rs - 1)) one ∙ sym early'.named

-- good records of a log reach the first number of the next
abbrev Reaches : ℕ → Log → Counts → ℕ → ℕ → Type 0
Reaches parts log counts number first = (recs : List Rec) × (rest : List ℕ) × BeginsWith parts counts number log.rest recs rest × (number + length recs ≡ first)

-- they reach it, and what stands behind is refused
abbrev IsBehind : ℕ → Log → Log → List Log → Counts → ℕ → Fault → Type 0
IsBehind parts log next logs counts number fault =
    (recs : List Rec) × (rest : List ℕ) × BeginsWith parts counts number log.rest recs rest × (number + length recs ≡ next.head.first)
    × Continues (counts_after counts recs) next.head × IsStreamFault parts (counts_after counts recs) (number + length recs) (next ∷ logs) fault

reaches : (parts : ℕ) (log next : Log) (logs : List Log) (counts : Counts) (number : ℕ) (fault : Fault) → CountsOther parts log next counts number fault ⊎ IsBehind parts log next logs counts number fault
    → Reaches parts log counts number next.head.first
reaches parts log next logs counts number fault (inl wrong) = (wrong.recs, wrong.rest, wrong.begins, wrong.reaches)
reaches parts log next logs counts number fault (inr (recs, rest, begins, there, continues, behind)) = (recs, rest, begins, there)

-- a log with a refused body below the first number of the next neither ends early nor reaches that number
record_or_later : (parts : ℕ) (log : Log) (counts : Counts) (number first : ℕ) (fault other : Fault) → IsRecordFault parts log counts number (Some first) fault
    → EndsEarly parts log counts number first other ⊎ Reaches parts log counts number first → ⊥
record_or_later parts log counts number first fault other wrong (inl early) = record_fine parts log counts number (Some first) fault early.recs early.rest early.begins wrong (inl early.ends)
record_or_later parts log counts number first fault other wrong (inr (recs, rest, begins, there)) =
    record_fine parts log counts number (Some first) fault recs rest begins wrong (inr (omega (arith, wrong.below, there)))

-- a log that ends early does not reach it
early_or_there : (parts : ℕ) (log : Log) (counts : Counts) (number first : ℕ) (fault : Fault) → EndsEarly parts log counts number first fault → Reaches parts log counts number first → ⊥
early_or_there parts log counts number first fault early (recs, rest, begins, there) =
    early_not parts counts number recs early.recs rest early.rest begins.in_order early.begins.in_order (sym begins.spelled ∙ early.begins.spelled) early.ends (omega (arith, early.early, there))

-- where the next log gives other counts, it does not go on with them
other_or_behind : (parts : ℕ) (log next : Log) (logs : List Log) (counts : Counts) (number : ℕ) (fault other : Fault) → CountsOther parts log next counts number fault → IsBehind parts log next logs counts number other → ⊥
other_or_behind parts log next logs counts number fault other wrong (recs, rest, begins, there, continues, behind) =
    wrong.other (subst (λ (rs : List Rec). Continues (counts_after counts rs) next.head)
    (same_mine parts counts number log.rest recs wrong.recs rest wrong.rest begins wrong.begins (omega (arith, there, wrong.reaches))) continues)

-- past the bodies that are refused
later : (parts : ℕ) (log next : Log) (logs : List Log) (counts : Counts) (number : ℕ) (fault : Fault)
    → EndsEarly parts log counts number next.head.first fault ⊎ CountsOther parts log next counts number fault ⊎ IsBehind parts log next logs counts number fault
    → EndsEarly parts log counts number next.head.first fault ⊎ Reaches parts log counts number next.head.first
later parts log next logs counts number fault (inl early) = inl early
later parts log next logs counts number fault (inr there) = inr (reaches parts log next logs counts number fault there)

one_stream_fault : (parts : ℕ) (counts : Counts) (number : ℕ) (logs : List Log) (fault other : Fault) → IsStreamFault parts counts number logs fault → IsStreamFault parts counts number logs other → fault ≡ other
one_stream_fault parts counts number [] fault other wrong wrong' = absurd wrong
one_stream_fault parts counts number (log ∷ []) fault other wrong wrong' = record_faults parts log counts number None fault other wrong wrong'
one_stream_fault parts counts number (log ∷ next ∷ logs) fault other (inl wrong) (inl wrong') = record_faults parts log counts number (Some next.head.first) fault other wrong wrong'
one_stream_fault parts counts number (log ∷ next ∷ logs) fault other (inl wrong) (inr wrong') =
    absurd (record_or_later parts log counts number next.head.first fault other wrong (later parts log next logs counts number other wrong'))
one_stream_fault parts counts number (log ∷ next ∷ logs) fault other (inr wrong) (inl wrong') =
    absurd (record_or_later parts log counts number next.head.first other fault wrong' (later parts log next logs counts number fault wrong))
one_stream_fault parts counts number (log ∷ next ∷ logs) fault other (inr (inl early)) (inr (inl early')) = one_end parts log counts number next.head.first fault other early early'
one_stream_fault parts counts number (log ∷ next ∷ logs) fault other (inr (inl early)) (inr (inr there)) =
    absurd (early_or_there parts log counts number next.head.first fault early (reaches parts log next logs counts number other there))
one_stream_fault parts counts number (log ∷ next ∷ logs) fault other (inr (inr there)) (inr (inl early)) =
    absurd (early_or_there parts log counts number next.head.first other early (reaches parts log next logs counts number fault there))
one_stream_fault parts counts number (log ∷ next ∷ logs) fault other (inr (inr (inl wrong))) (inr (inr (inl wrong'))) = wrong.named ∙ sym wrong'.named
one_stream_fault parts counts number (log ∷ next ∷ logs) fault other (inr (inr (inl wrong))) (inr (inr (inr behind))) =
    absurd (other_or_behind parts log next logs counts number fault other wrong behind)
one_stream_fault parts counts number (log ∷ next ∷ logs) fault other (inr (inr (inr behind))) (inr (inr (inl wrong))) =
    absurd (other_or_behind parts log next logs counts number other fault wrong behind)
one_stream_fault parts counts number (log ∷ next ∷ logs) fault other (inr (inr (inr (recs, rest, begins, there, continues, wrong)))) (inr (inr (inr (recs', rest', begins', there', continues', wrong')))) =
    one_stream_fault parts (counts_after counts recs') (number + length recs') (next ∷ logs) fault other
    (subst (λ (rs : List Rec). IsStreamFault parts (counts_after counts rs) (number + length rs) (next ∷ logs) fault)
    (same_mine parts counts number log.rest recs recs' rest rest' begins begins' (omega (arith, there, there'))) wrong) wrong'

-- ---- an image

-- all heads are sound and there is room for the newest, and what stands behind them is refused
abbrev IsBehindHeads : ℕ → List Found → Fault → Type 0
IsBehindHeads parts found fault = (logs : List Log) × (found ≡ map found_of logs) × HasHeads logs × HasRoom parts logs × IsStreamFault parts (low_of logs) (first_of logs) logs fault

newest_or_behind : (parts : ℕ) (found : List Found) (fault other : Fault) → IsNewestRefused parts found fault → IsBehindHeads parts found other → ⊥
newest_or_behind parts found fault other newest (logs, is, heads, room, wrong) = newest_fine parts logs fault heads room (subst (λ (fs : List Found). IsNewestRefused parts fs fault) is newest)

heads_or_behind : (parts : ℕ) (found : List Found) (fault other : Fault) → IsHeadsFault found fault → IsBehindHeads parts found other → ⊥
heads_or_behind parts found fault other wrong (logs, is, heads, room, behind) = heads_fine logs fault heads (subst (λ (fs : List Found). IsHeadsFault fs fault) is wrong)

one_refusal : (parts : ℕ) (found : List Found) (fault other : Fault) → AreRefused parts found fault → AreRefused parts found other → fault ≡ other
one_refusal parts found fault other (inl newest) (inl newest') = one_newest_refused parts found fault other newest newest'
one_refusal parts found fault other (inl newest) (inr (inl (fine, wrong))) = absurd (newest_wrong parts found fault newest fine)
one_refusal parts found fault other (inl newest) (inr (inr behind)) = absurd (newest_or_behind parts found fault other newest behind)
one_refusal parts found fault other (inr (inl (fine, wrong))) (inl newest) = absurd (newest_wrong parts found other newest fine)
one_refusal parts found fault other (inr (inl (fine, wrong))) (inr (inl (fine', wrong'))) = one_heads_fault found fault other wrong wrong'
one_refusal parts found fault other (inr (inl (fine, wrong))) (inr (inr behind)) = absurd (heads_or_behind parts found fault other wrong behind)
one_refusal parts found fault other (inr (inr behind)) (inl newest) = absurd (newest_or_behind parts found other fault newest behind)
one_refusal parts found fault other (inr (inr behind)) (inr (inl (fine, wrong))) = absurd (heads_or_behind parts found other fault wrong behind)
one_refusal parts found fault other (inr (inr (logs, is, heads, room, wrong))) (inr (inr (logs', is', heads', room', wrong'))) =
    let same : logs ≡ logs' = logs_found logs logs' heads.0 heads'.0 (sym is ∙ is') in
    one_stream_fault parts (low_of logs') (first_of logs') logs' fault other (subst (λ (ls : List Log). IsStreamFault parts (low_of ls) (first_of ls) ls fault) same wrong) wrong'

pub OneFault : OneFaultLaw
OneFault parts image fault other (found, are, wrong) (found', are', wrong') =
    one_refusal parts found' fault other (subst (λ (fs : List Found). AreRefused parts fs fault) (OneLogs image found found' are are') wrong) wrong'
