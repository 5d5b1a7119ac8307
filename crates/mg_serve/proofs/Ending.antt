-- How a run ends, and what it leaves.
use Rattle.std.proofs.Common.{◌≡◌, ◌<◌, ◌≤◌, inl, inr, ℕ, zero, suc, ◌+◌, ◌-◌, List, [], ◌∷◌, ◌++◌, length, Bool, Option, Result, Ok, Err, refl, ap, subst, sym, ◌∙◌, arith}
use Rattle.std.proofs.lemmas.List.{append-nil, length-append}
use Rattle.std.specs.Prelude.{IfErr, IsTrue, MatchResult, OnOk}
use Rattle.std.specs.Io.KnownBytes.{Appends}
use Rattle.mg_disk.specs.Images.{HoldsBytes, Image, View}
use Rattle.mg_faults.specs.Causes.{CountsOnce, HasCause}
use Rattle.mg_model.specs.declared.replies.Answer.{Answer}
use Rattle.mg_model.specs.State.{length_of, State}
use Rattle.mg_model.specs.Placed.{calls_in, Placed}
use Rattle.mg_recover.specs.declared.partition.Partition.{Partition}
use Rattle.mg_recover.specs.Answers.{CarriesReach, IsSyncFault}
use Rattle.mg_recover.specs.Cuts.{LeavesCut}
use Rattle.mg_recover.specs.Made.{opened_by, run_changes}
use Rattle.mg_recover.specs.Stores.{part_at, AllSynced, Stands}
use Rattle.mg_recover.proofs.CutLemmas.{book_last, leaves_all, leaves_cut}
use Rattle.mg_script.specs.declared.script.Line.{Line}
use Rattle.mg_script.specs.Transcript.{end_line}
use Rattle.mg_types.specs.declared.faults.Fault.{Fault}
use Rattle.mg_types.specs.declared.faults.Fault.TheVariants as fault
use Rattle.mg_wal.specs.Book.{parts_in, Book}
use Rattle.mg_wal.specs.Lists.{Basis}
use Rattle.mg_wal.specs.Stories.{Reaches}
use Rattle.mg_wal.proofs.ReachLaws.{reaches_now, reaches_opens}
use Rattle.mg_wal_format.specs.Recovery.{ByNoChance}
use Rattle.mg_serve.specs.Answers.{line_limit}
use Rattle.mg_serve.specs.Lasting.{failed_writes, faults_in, Holds, KeepsLog, LeavesAllNow}
use Rattle.mg_serve.specs.Placed.{placed_of}
use Rattle.mg_serve.specs.Serving.{partition_end, partition_ends, BrokeInLine, Ends, IsEnd, KeepsFrom, LastsFrom, LastSync, Made, Ran, ServedAll}
use Rattle.mg_serve.specs.Sessions.{Standing}
use Rattle.mg_serve.specs.Told.{call_texts, end_text, end_texts, joined}
use Rattle.mg_serve.specs.Writing.{StopsInLast}
use Rattle.mg_serve.proofs.Causes.{sync_fault}
use Rattle.mg_serve.proofs.Pieces.{appends_after, stops_after}
use Rattle.mg_serve.proofs.Rising.{rises_sync}

-- ---- end lines

-- the end line of a partition of a store is that of the placed calls
end_same : (basis : Basis) (placed : List Placed) (book : Book) (partitions : List Partition) (part : ℕ) → Stands basis placed book partitions → part < parts_in book → partition_end partitions part ≡ end_text (opened_by basis) placed part
end_same basis placed book partitions part stands within =
    ap (λ (n : ℕ). end_line part n (length_of (part_at partitions part).plain) (part_at partitions part).plain.epoch) (stands.places part within)
    ∙ ap (λ (s : State). end_line part (calls_in placed part) (length_of s) s.epoch) (stands.states part within)

pub ends_same : (basis : Basis) (placed : List Placed) (book : Book) (partitions : List Partition) (parts : ℕ) → Stands basis placed book partitions → parts ≤ parts_in book
    → partition_ends partitions parts ≡ end_texts (opened_by basis) placed parts
ends_same basis placed book partitions zero stands within = refl
ends_same basis placed book partitions (suc part) stands within =
    ap (λ (ts : List (List ℕ)). ts ++ partition_end partitions part ∷ []) (ends_same basis placed book partitions part stands (omega (arith, within)))
    ∙ ap (λ (t : List ℕ). end_texts (opened_by basis) placed part ++ t ∷ []) (end_same basis placed book partitions part stands (omega (arith, within)))

-- ---- images

-- what the log reaches it leaves
pub keeps_log : (basis : Basis) (lines : List Line) (answers : List Answer) (opening : ℕ) (book : Book) (partitions : List Partition) (view : View)
    → Stands basis (placed_of lines answers) book partitions → ((time : ℕ) (image : Image) → view.left_since time image → HoldsBytes image)
    → Holds basis lines answers opening book view → KeepsLog basis lines answers opening view
keeps_log basis lines answers opening book partitions view stands bytes holds = record {
  found = (holds.found.2.past, λ image left chance. cut opening basis.reached (omega arith) holds.found image left chance);
  synced = λ number s.
      let it = holds.synced number s in
      (it.0, (it.4.2.past, λ image left chance. further number it.1 image it.2 (cut it.0 it.1 it.3 it.4 image left chance)));
}
  where
    placed : List Placed
    placed = placed_of lines answers

    cut : (time reach : ℕ) → basis.reached ≤ reach → Reaches basis (run_changes basis placed) time reach book view
        → (image : Image) → view.left_since time image → ByNoChance image view.written → LeavesCut basis placed reach image
    cut time reach behind reaches image left chance =
        leaves_cut basis placed book partitions reach image stands behind (reaches_opens basis (run_changes basis placed) time reach book view image reaches left (bytes time image left) chance)

    further : (number reach : ℕ) (image : Image) → number ≤ reach - 1 → LeavesCut basis placed reach image → LeavesCut basis placed (number + 1) image
    further number reach image low it = record {
      number = it.number;
      reached = omega (arith, low, it.reached);
      behind = it.behind;
      within = it.within;
      opened = it.opened;
      ends = it.ends;
    }

-- where all is synced, each image has all
pub leaves_all_now : (basis : Basis) (lines : List Line) (answers : List Answer) (opening : ℕ) (book : Book) (partitions : List Partition) (view : View)
    → Stands basis (placed_of lines answers) book partitions → AllSynced book → ((time : ℕ) (image : Image) → view.left_since time image → HoldsBytes image)
    → ((image : Image) → view.left_since view.moment image → view.may_leave image) → ((image : Image) → view.may_leave image → view.left_since view.moment image)
    → Holds basis lines answers opening book view → LeavesAllNow basis (placed_of lines answers) view
leaves_all_now basis lines answers opening book partitions view stands synced bytes only counts holds image may chance =
    let placed = placed_of lines answers in
    let left = counts image may in
    leaves_all basis placed book partitions image stands synced
    (reaches_opens basis (run_changes basis placed) view.moment book.reach book view image (reaches_now basis (run_changes basis placed) opening basis.reached book view only holds.found) left (bytes view.moment image left) chance)

-- the last sync keeps what is reached
pub holds_on : (basis : Basis) (lines : List Line) (answers : List Answer) (opening : ℕ) (old new : Book) (view view' : View) → CarriesReach basis (placed_of lines answers) (placed_of lines answers) old new view view'
    → Holds basis lines answers opening old view → Holds basis lines answers opening new view'
holds_on basis lines answers opening old new view view' carries holds = record {
  found = carries opening basis.reached holds.found;
  synced = λ number s. let it = holds.synced number s in (it.0, it.1, it.2, it.3, carries it.0 it.1 it.4);
}

-- ---- the whole run

-- what a run of calls came to
pub ran : (parts : ℕ) (basis : Basis) (lines : List Line) (opening count mid now : ℕ) (tells : Bool) (old : Book) (was view view' : View) (standing : Standing) (book : Book) (partitions : List Partition)
    (w w' w'' : Option (List ℕ)) (k k' k'' : ℕ) (served synced : Result Unit Fault) (ended : Result ℕ Fault)
    → length lines ≤ line_limit → parts ≤ parts_in book
    → MatchResult served (λ _. ServedAll lines w w' k k' (λ lines answers. Made basis lines answers standing opening count mid tells old was view))
    (λ fault. BrokeInLine lines w w' k k' (λ lines answers. Made basis lines answers standing opening count mid tells old was view) fault)
    → ((placed : List Placed) → Stands basis placed standing.book standing.partitions → Stands basis placed book partitions)
    → (IsTrue tells → (placed : List Placed) → Stands basis placed standing.book standing.partitions → CarriesReach basis placed placed standing.book book view view')
    → OnOk synced (AllSynced book) → IfErr synced (IsSyncFault standing.book) → HasCause fault.WriteFault mid now synced → CountsOnce mid now synced
    → (IsTrue tells → (time : ℕ) (image : Image) → view'.left_since time image → HoldsBytes image)
    → (IsTrue tells → (image : Image) → view'.left_since view'.moment image → view'.may_leave image)
    → (IsTrue tells → (image : Image) → view'.may_leave image → view'.left_since view'.moment image)
    → IsEnd partitions parts standing.status w' w'' k' k'' served synced ended
    → Ran parts basis lines count now (KeepsFrom tells basis opening old was view') (LastsFrom tells basis opening old was view') w w'' k k'' synced ended
ran parts basis lines opening count mid now tells old was view view' standing book partitions w w' w'' k k' k'' served synced ended few within calls stands carries all err cause once bytes only counts end = by_served served calls end
  where
    log : (first : List Line) (answers : List Answer) → Made basis first answers standing opening count mid tells old was view → KeepsFrom tells basis opening old was view' first answers
    log first answers made t reaches =
        keeps_log basis first answers opening book partitions view' (stands (placed_of first answers) made.stands.stands) (bytes t)
        (holds_on basis first answers opening standing.book book view view' (carries t (placed_of first answers) made.stands.stands) (made.holds t reaches))

    lasts : (first : List Line) (answers : List Answer) → Made basis first answers standing opening count mid tells old was view → AllSynced book → LastsFrom tells basis opening old was view' first answers
    lasts first answers made done t reaches =
        leaves_all_now basis first answers opening book partitions view' (stands (placed_of first answers) made.stands.stands) done (bytes t) (only t) (counts t)
        (holds_on basis first answers opening standing.book book view view' (carries t (placed_of first answers) made.stands.stands) (made.holds t reaches))

    last : (first : List Line) (answers : List Answer) → length first ≤ line_limit → Made basis first answers standing opening count mid tells old was view → (given : Result Unit Fault) → OnOk given (AllSynced book)
        → IfErr given (IsSyncFault standing.book) → LastSync basis first answers (LastsFrom tells basis opening old was view' first answers) given
    last first answers short made (Ok done) all err = lasts first answers made all
    last first answers short made (Err f) all err =
        (omega (arith, made.stands.synced, err.0, book_last basis (placed_of first answers) standing.book made.stands.stands.books), sync_fault basis standing.book f (omega (arith, made.stands.newest, short)) err)

    -- the run whose calls came to the lines of these answers
    whole : (first behind : List Line) (answers : List Answer) → lines ≡ first ++ behind → Made basis first answers standing opening count mid tells old was view
        → Ends parts basis lines first answers synced w w'' k k'' ended
        → Ran parts basis lines count now (KeepsFrom tells basis opening old was view') (LastsFrom tells basis opening old was view') w w'' k k'' synced ended
    whole first behind answers split made ends = record {
      first = first;
      behind = behind;
      answers = answers;
      split = split;
      fit = made.stands.fit;
      needed = made.stands.needed;
      log = log first answers made;
      last = last first answers (omega (arith, few, ap (λ (ls : List Line). length ls) split, length-append first behind)) made synced all err;
      rises = rises_sync synced count mid now (failed_writes answers) (faults_in answers) made.rises cause once;
      ends = ends;
    }

    all_served : (a : ServedAll lines w w' k k' (λ lines answers. Made basis lines answers standing opening count mid tells old was view)) (done : Unit) (given : Result Unit Fault) (came : Result ℕ Fault) → synced ≡ given
        → IsEnd partitions parts standing.status w' w'' k' k'' (Ok done) given came → Ends parts basis lines lines a.answers given w w'' k k'' came
    all_served a done (Err f) came is e =
        subst (λ (came : Result ℕ Fault). Ends parts basis lines lines a.answers (Err f) w w'' k k'' came) (sym e.0)
        (inr (inl (record { all = refl; sync = refl; text = subst (λ (u : Option (List ℕ)). Appends w u (joined (call_texts lines a.answers))) (sym e.1) a.text; sink = e.2 ∙ a.sink })))
    all_served a done (Ok synced) (Ok status) is e =
        let stood = stands (placed_of lines a.answers) a.made.stands.stands in
        record {
          all = refl;
          gravest = e.0 ∙ a.made.stands.status;
          sync = refl;
          text = subst (λ (ts : List (List ℕ)). Appends w w'' (joined (call_texts lines a.answers ++ ts))) (ends_same basis (placed_of lines a.answers) book partitions parts stood within)
              (appends_after (call_texts lines a.answers) (partition_ends partitions parts) w w' w'' a.text e.1);
          sink = e.2 ∙ a.sink;
        }
    all_served a done (Ok synced) (Err f) is e =
        let stood = stands (placed_of lines a.answers) a.made.stands.stands in
        inr (inr (record {
          all = refl;
          sync = refl;
          part = e.part;
          within = e.within;
          text = subst (λ (ts : List (List ℕ)). StopsInLast w w'' k k'' (call_texts lines a.answers ++ ts) f) (ends_same basis (placed_of lines a.answers) book partitions (suc e.part) stood (omega (arith, e.within, within)))
              (stops_after (call_texts lines a.answers) (partition_ends partitions (suc e.part)) w w' w'' k k' k'' f a.text a.sink e.text);
        }))

    by_served : (given : Result Unit Fault) → MatchResult given (λ _. ServedAll lines w w' k k' (λ lines answers. Made basis lines answers standing opening count mid tells old was view))
        (λ fault. BrokeInLine lines w w' k k' (λ lines answers. Made basis lines answers standing opening count mid tells old was view) fault)
        → IsEnd partitions parts standing.status w' w'' k' k'' given synced ended
        → Ran parts basis lines count now (KeepsFrom tells basis opening old was view') (LastsFrom tells basis opening old was view') w w'' k k'' synced ended
    by_served (Ok done) a e = whole lines [] a.answers (sym (append-nil lines)) a.made (all_served a done synced ended refl e)
    by_served (Err f) b e =
        whole b.first b.behind b.answers b.split b.made
        (subst (λ (came : Result ℕ Fault). Ends parts basis lines b.first b.answers synced w w'' k k'' came) (sym e.0)
        (inl (record { text = subst (λ (u : Option (List ℕ)). StopsInLast w u k k'' (call_texts b.first b.answers) f) (sym e.1) (subst (λ (n : ℕ). StopsInLast w w' k n (call_texts b.first b.answers) f) (sym e.2) b.text) })))
