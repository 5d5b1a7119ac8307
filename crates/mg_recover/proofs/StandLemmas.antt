-- A store that stood, after one call more.
use Rattle.std.proofs.Common.{◌≡◌, ◌≢◌, ◌<◌, ℕ, List, ◌++◌, length, get_or, set, Bool, true, false, nat_lt, Option, None, Some, not, ◌==◌, Result, Ok, Err, refl, ap, subst, sym, ◌∙◌, ⊎_elim, append_assoc, get_or-set_same, get_or-set_other}
use Rattle.std.specs.Prelude.{IfErr, IsTrue, OnOk}
use Rattle.std.specs.Bool.{if◌then◌else◌}
use Rattle.std.proofs.lemmas.Bool.{cases_eq}
use Rattle.mg_disk.specs.Images.{View}
use Rattle.mg_types.specs.declared.faults.Fault.{Fault}
use Rattle.mg_types.specs.declared.faults.Fault.TheVariants as fault
use Rattle.mg_model.specs.declared.calls.Call.{Call}
use Rattle.mg_model.specs.declared.calls.Call.TheVariants.{Set, Del, Get, Feed, Mark, Forget, Rollback, Clear, Sync, Compact, Stats}
use Rattle.mg_model.specs.declared.replies.Answer.{Answer}
use Rattle.mg_model.specs.declared.replies.Reply.{Reply}
use Rattle.mg_model.specs.declared.replies.Reply.TheVariants as reply
use Rattle.mg_model.specs.Fits.{is_read, may_meet, MayRefuse}
use Rattle.mg_model.specs.History.{after_history}
use Rattle.mg_model.specs.Mutations.{feed, feed_end, read}
use Rattle.mg_model.specs.Placed.{calls_in, state_in, Placed}
use Rattle.mg_model.specs.State.{feed_reply, get_reply, length_of, step, HasRoom, Outcome, State}
use Rattle.mg_wal.specs.Book.{parts_in, Book, Entry, IsWorn}
use Rattle.mg_wal.specs.Lists.{Basis, Books}
use Rattle.mg_wal.specs.Stories.{Reaches}
use Rattle.mg_recover.specs.declared.partition.Partition.{Partition}
use Rattle.mg_recover.specs.Answers.{placed_for, AnswersNext, CarriesReach, IsAnswered, IsAtLimit, IsCallFault, IsChangeFault, IsServed}
use Rattle.mg_recover.specs.Made.{all_changes, entries_of, opened_by, run_changes, states_after, AreMade}
use Rattle.mg_recover.specs.Steps.{made_by, placed_answer, places_behind, takes_place, Gives, IsStep, KeepsReachBy}
use Rattle.mg_recover.specs.Stores.{new_partition, part_at, AllSynced, Stands}
use Rattle.mg_recover.proofs.GivesLemmas.{part_read}
use Rattle.mg_recover.proofs.RunLemmas.{states_lead}
use Rattle.mg_recover.proofs.StepLemmas.{answers_next, calls_next, changes_next, entered_for, entered_if, history_next, made_next, may_want, state_next, MayGive}

-- the changes of the run with an answered call more
pub run_next : (basis : Basis) (placed : List Placed) (part client : ℕ) (call : Call) (given : Result Reply Fault) (places : ℕ) → IsServed call
    → run_changes basis (placed ++ placed_for part client call (placed_answer (is_read call) given places)) ≡ run_changes basis placed ++ made_by part call given
run_next basis placed part client call given places served =
    ap (λ (ps : List Placed). run_changes basis (placed ++ ps)) (entered_for part client call (is_read call) given places served)
    ∙ changes_next (opened_by basis) placed part client call given served

-- what was sure stays so
pub carries : (basis : Basis) (placed : List Placed) (part client : ℕ) (call : Call) (given : Result Reply Fault) (places : ℕ) (old new : Book) (partitions : List Partition) (view view' : View) → IsServed call → Stands basis placed old partitions
    → KeepsReachBy (made_by part call given) old new view view' → CarriesReach basis placed (placed ++ placed_for part client call (placed_answer (is_read call) given places)) old new view view'
carries basis placed part client call given places old new partitions view view' served at keeps time reach r =
    subst (λ (es : List Entry). Reaches basis es time reach new view') (sym (run_next basis placed part client call given places served)) (keeps basis (run_changes basis placed) time reach at.books r)

-- ---- faults

-- why a change may be refused
worn_is_refused : (call : Call) (f : Fault) (kept : ℕ) → f ≡ fault.Worn kept → MayRefuse call f
worn_is_refused call f kept e = subst (MayRefuse call) (sym e) tt

changes_may : (book : Book) (part : ℕ) (s : State) (call : Call) (f : Fault) → MayRefuse call fault.NoMemory → IsChangeFault book part s call f → MayRefuse call f
changes_may book part s call f memory why =
    ⊎_elim (λ e. subst (MayRefuse call) (sym e) memory) (λ more. ⊎_elim (λ (limit : IsAtLimit s call f). worn_is_refused call f limit.0 limit.2) (λ (worn : HasRoom s call × IsWorn book part f). worn_may worn.1) more) why
  where
    worn_may : IsWorn book part f → MayRefuse call f
    worn_may w = ⊎_elim (λ x. worn_is_refused call f book.last x.1) (λ x. worn_is_refused call f (get_or book.counts part 0) x.2) w

reads_may : (call : Call) (f : Fault) → is_read call ≡ true → f ≡ fault.NoMemory → MayGive call f
reads_may call f r e = (λ _. subst (λ (g : Fault). IsTrue (may_meet call g)) (sym e) (may_want call), λ h. absurd cc)

not_read : (call : Call) (f : Fault) → is_read call ≡ false → MayRefuse call f → MayGive call f
not_read call f r m = (λ h. absurd cc, λ _. m)

may_give : (book : Book) (part : ℕ) (s : State) (call : Call) (f : Fault) → IsServed call → IsCallFault book part s call f → MayGive call f
may_give book part s (Set key doc) f k why = not_read (Set key doc) f refl (changes_may book part s (Set key doc) f refl why)
may_give book part s (Del key) f k why = not_read (Del key) f refl (changes_may book part s (Del key) f refl why)
may_give book part s (Get key) f k why = reads_may (Get key) f refl why
may_give book part s (Feed epoch after limit) f k why = reads_may (Feed epoch after limit) f refl why
may_give book part s Mark f k why = absurd k
may_give book part s (Forget mark) f k why = absurd k
may_give book part s (Rollback to) f k why = absurd k
may_give book part s Clear f k why = absurd k
may_give book part s Sync f k why =
    not_read Sync f refl (⊎_elim (λ e. subst (MayRefuse Sync) (sym e) refl) (λ more. ⊎_elim (λ e. subst (MayRefuse Sync) (sym e) refl) (λ spent. worn_is_refused Sync f book.newest spent.1) more) why.1)
may_give book part s (Compact through) f k why = absurd k
may_give book part s Stats f k why = reads_may Stats f refl why

may_give_each : (book : Book) (part : ℕ) (s : State) (call : Call) (given : Result Reply Fault) → IsServed call → IfErr given (IsCallFault book part s call) → IfErr given (MayGive call)
may_give_each book part s call (Ok r) k why = tt
may_give_each book part s call (Err f) k why = may_give book part s call f k why

-- ---- a sync is the only call that is answered so

get_is_no_sync : (o : Option (ℕ × List ℕ)) → get_reply o ≡ reply.Synced → ⊥
get_is_no_sync None e = absurd cc
get_is_no_sync (Some found) e = absurd cc

feed_is_no_sync : (s : State) (epoch after limit : ℕ) → feed_reply s epoch after limit ≡ reply.Synced → ⊥
feed_is_no_sync s epoch after limit e = by_tests (not (epoch == s.epoch)) (nat_lt (length_of s) after) e
  where
    by_tests : (a b : Bool) → (if a then reply.Epoch s.epoch else (if b then reply.Ahead (length_of s) else reply.Feed s.epoch (feed_end s.mutations after limit) (feed s.mutations after limit))) ≡ reply.Synced → ⊥
    by_tests true b e = absurd cc
    by_tests false true e = absurd cc
    by_tests false false e = absurd cc

only_sync : (s : State) (call : Call) → IsServed call → (step s call).reply ≡ reply.Synced → call ≡ Sync
only_sync s (Set key doc) k e = absurd cc
only_sync s (Del key) k e = absurd cc
only_sync s (Get key) k e = absurd (get_is_no_sync (read s.mutations key) e)
only_sync s (Feed epoch after limit) k e = absurd (feed_is_no_sync s epoch after limit e)
only_sync s Mark k e = absurd k
only_sync s (Forget mark) k e = absurd k
only_sync s (Rollback to) k e = absurd k
only_sync s Clear k e = absurd k
only_sync s Sync k e = refl
only_sync s (Compact through) k e = absurd k
only_sync s Stats k e = absurd cc

synced_next : (s s' : State) (call : Call) (given : Result Reply Fault) (new : Book) → IsServed call → IsStep s call given s' → (call ≡ Sync → OnOk given (AllSynced new)) → given ≡ Ok reply.Synced → AllSynced new
synced_next s s' call (Ok r) new k at synced e = synced (only_sync s call k (ap (λ (o : Outcome). o.reply) at.1 ∙ told r e))
  where
    told : (r : Reply) → ◌≡◌ {A = Result Reply Fault} (Ok r) (Ok reply.Synced) → r ≡ reply.Synced
    told r e = cc
synced_next s s' call (Err f) new k at synced e = absurd cc

-- ---- where the store stands

-- the call's partition counts its place, and no other changes
pub record Counted (takes : Bool) (part : ℕ) (was now : List Partition) : Type 0 where
  pub plain : (part_at now part).plain ≡ (part_at was part).plain
  pub places : (part_at now part).places ≡ places_behind takes (part_at was part).places
  pub others : (other : ℕ) → other ≢ part → part_at now other ≡ part_at was other

-- one partition was set
pub set_counted : (takes : Bool) (part : ℕ) (was : List Partition) (p : Partition) → part < length was → p.plain ≡ (part_at was part).plain → p.places ≡ places_behind takes (part_at was part).places
    → Counted takes part was (set was part p)
set_counted takes part was p within plain places =
    let same : part_at (set was part p) part ≡ p = get_or-set_same was part p new_partition within in
    record {
      plain = ap (λ (q : Partition). q.plain) same ∙ plain;
      places = ap (λ (q : Partition). q.places) same ∙ places;
      others = λ other h. get_or-set_other was part other p new_partition h;
    }

entries_next : (basis : Basis) (placed : List Placed) (part : ℕ) (call : Call) (given : Result Reply Fault) (was mid : State) → was ≡ state_in (opened_by basis) placed part → IsStep was call given mid
    → AreMade (all_changes basis placed) → (list : List Entry) → list ≡ run_changes basis placed ++ made_by part call given → AreMade (entries_of basis.opened ++ list)
entries_next basis placed part call given was mid e step_is made list list_is =
    let here : was ≡ states_after (all_changes basis placed) part = e ∙ sym (states_lead (entries_of basis.opened) placed part) in
    subst AreMade (append_assoc (entries_of basis.opened) (run_changes basis placed) (made_by part call given) ∙ ap (λ (es : List Entry). entries_of basis.opened ++ es) (sym list_is))
    (made_next (all_changes basis placed) part call given mid made (subst (λ (s : State). IsStep s call given mid) here step_is))

stands_with : (basis : Basis) (placed : List Placed) (part client : ℕ) (call : Call) (given : Result Reply Fault) (old new : Book) (was mid now : List Partition)
    → IsServed call → part < parts_in old → Stands basis placed old was → Gives part call given old new was mid → Counted (takes_place (is_read call) given) part mid now
    → Stands basis (placed ++ entered_if (takes_place (is_read call) given) (record { part = part; client = client; call = call })) new now
stands_with basis placed part client call given old new was mid now served within at g counted =
    let run = changes_next (opened_by basis) placed part client call given served in
    record {
      books = subst (λ (es : List Entry). Books basis es new) (sym run) (g.books basis (run_changes basis placed) at.books);
      whole = at.whole;
      kept = λ k. ap (λ (ns : List ℕ). get_or ns k 0) g.released ∙ at.kept k;
      made = entries_next basis placed part call given (part_at was part).plain (part_at mid part).plain (at.states part within) g.step at.made _ run;
      states = λ k l. ⊎_elim (own_state k) (λ h. other_state k h (subst (λ n. k < n) g.parts l)) (cases_eq k part);
      places = λ k l. ⊎_elim (own_places k) (λ h. other_places k h (subst (λ n. k < n) g.parts l)) (cases_eq k part);
    }
  where
    own_state : (k : ℕ) → k ≡ part → (part_at now k).plain ≡ state_in (opened_by basis) (placed ++ entered_if (takes_place (is_read call) given) (record { part = part; client = client; call = call })) k
    own_state k e =
        let here : IsStep (state_in (opened_by basis) placed part) call given (part_at mid part).plain = subst (λ (s : State). IsStep s call given (part_at mid part).plain) (at.states part within) g.step in
        subst (λ n. (part_at now n).plain ≡ state_in (opened_by basis) (placed ++ entered_if (takes_place (is_read call) given) (record { part = part; client = client; call = call })) n) (sym e)
        (counted.plain ∙ sym (state_next (opened_by basis) placed part client call given (part_at mid part).plain here))

    own_places : (k : ℕ) → k ≡ part → (part_at now k).places ≡ calls_in (placed ++ entered_if (takes_place (is_read call) given) (record { part = part; client = client; call = call })) k
    own_places k e =
        subst (λ n. (part_at now n).places ≡ calls_in (placed ++ entered_if (takes_place (is_read call) given) (record { part = part; client = client; call = call })) n) (sym e)
        (counted.places ∙ ap (places_behind (takes_place (is_read call) given)) (g.places ∙ at.places part within) ∙ sym (calls_next placed (record { part = part; client = client; call = call }) (takes_place (is_read call) given)))

    same_part : (k : ℕ) → k ≢ part → part_at now k ≡ part_at was k
    same_part k h = counted.others k h ∙ g.others k h

    other_state : (k : ℕ) → k ≢ part → k < parts_in old → (part_at now k).plain ≡ state_in (opened_by basis) (placed ++ entered_if (takes_place (is_read call) given) (record { part = part; client = client; call = call })) k
    other_state k h l =
        ap (λ (q : Partition). q.plain) (same_part k h) ∙ at.states k l
        ∙ sym (ap (after_history (opened_by basis k)) (history_next placed (record { part = part; client = client; call = call }) (takes_place (is_read call) given) k (λ e. h (sym e))))

    other_places : (k : ℕ) → k ≢ part → k < parts_in old → (part_at now k).places ≡ calls_in (placed ++ entered_if (takes_place (is_read call) given) (record { part = part; client = client; call = call })) k
    other_places k h l =
        ap (λ (q : Partition). q.places) (same_part k h) ∙ at.places k l
        ∙ sym (ap length (history_next placed (record { part = part; client = client; call = call }) (takes_place (is_read call) given) k (λ e. h (sym e))))

rooms : (s s' : State) (call : Call) (given : Result Reply Fault) → IsStep s call given s' → OnOk given (HasRoom s call)
rooms s s' call (Ok r) at = at.0
rooms s s' call (Err f) at = tt

pub answered : (basis : Basis) (placed : List Placed) (part client : ℕ) (call : Call) (given : Result Reply Fault) (old new : Book) (was mid now : List Partition)
    → IsServed call → part < parts_in old → Stands basis placed old was → Gives part call given old new was mid → Counted (takes_place (is_read call) given) part mid now
    → IsAnswered basis placed part client call (placed_answer (is_read call) given (part_at mid part).places) old new now
answered basis placed part client call given old new was mid now served within at g counted =
    let start : (part_at was part).plain ≡ state_in (opened_by basis) placed part = at.states part within in
    let here : IsStep (state_in (opened_by basis) placed part) call given (part_at mid part).plain = subst (λ (s : State). IsStep s call given (part_at mid part).plain) start g.step in
    let why : IfErr given (IsCallFault old part (state_in (opened_by basis) placed part) call) = subst (λ (s : State). IfErr given (IsCallFault old part s call)) start g.fault in
    let places : (part_at mid part).places ≡ calls_in placed part = g.places ∙ at.places part within in
    record {
      stands = subst (λ (ps : List Placed). Stands basis (placed ++ ps) new now) (sym (entered_for part client call (is_read call) given (part_at mid part).places served)) (stands_with basis placed part client call given old new was mid now served within at g counted);
      next = subst (λ n. AnswersNext (opened_by basis) placed part client call (placed_answer (is_read call) given n)) (sym places)
          (answers_next (opened_by basis) placed part client call given (part_at mid part).plain served here (may_give_each old part (state_in (opened_by basis) placed part) call given served why));
      room = rooms (state_in (opened_by basis) placed part) (part_at mid part).plain call given here;
      fault = why;
      synced = synced_next (state_in (opened_by basis) placed part) (part_at mid part).plain call given new served here g.synced;
    }

-- the partition that the call reached takes its place
counted_at : (part i : ℕ) (takes : Bool) (mid : List Partition) (p p' : Partition) → i ≡ part → part < length mid → p ≡ get_or mid i p → p'.plain ≡ p.plain → p'.places ≡ places_behind takes p.places → Counted takes part mid (set mid i p')
counted_at part i takes mid p p' e l at plain places =
    let here : p ≡ part_at mid part = part_read mid i part p e l at in
    subst (λ n. Counted takes part mid (set mid n p')) (sym e)
    (set_counted takes part mid p' l (plain ∙ ap (λ (q : Partition). q.plain) here) (places ∙ ap (λ (q : Partition). places_behind takes q.places) here))

answer_at : (part i : ℕ) (call : Call) (given : Result Reply Fault) (reads : Bool) (mid : List Partition) (p : Partition) (answer : Answer) → i ≡ part → part < length mid → p ≡ get_or mid i p → reads ≡ is_read call → answer ≡ placed_answer reads given p.places
    → answer ≡ placed_answer (is_read call) given (part_at mid part).places
answer_at part i call given reads mid p answer e l at r told =
    told ∙ ap (λ b. placed_answer b given p.places) r ∙ ap (λ (q : Partition). placed_answer (is_read call) given q.places) (part_read mid i part p e l at)

pub call_answered : (basis : Basis) (placed : List Placed) (part client i : ℕ) (call : Call) (given : Result Reply Fault) (reads : Bool) (old new : Book) (was mid : List Partition) (p p' : Partition) (answer : Answer)
    → IsServed call → part < parts_in old → i ≡ part → part < length mid → p ≡ get_or mid i p → reads ≡ is_read call → answer ≡ placed_answer reads given p.places
    → p'.plain ≡ p.plain → p'.places ≡ places_behind (takes_place reads given) p.places → Gives part call given old new was mid → Stands basis placed old was
    → IsAnswered basis placed part client call answer old new (set mid i p')
call_answered basis placed part client i call given reads old new was mid p p' answer served within e l at r told plain places g stands =
    subst (λ (a : Answer). IsAnswered basis placed part client call a old new (set mid i p')) (sym (answer_at part i call given reads mid p answer e l at r told))
    (answered basis placed part client call given old new was mid (set mid i p') served within stands g
    (subst (λ b. Counted (takes_place b given) part mid (set mid i p')) r (counted_at part i (takes_place reads given) mid p p' e l at plain places)))

pub call_carries : (basis : Basis) (placed : List Placed) (part client i : ℕ) (call : Call) (given : Result Reply Fault) (reads : Bool) (old new : Book) (was mid : List Partition) (p : Partition) (answer : Answer) (view view' : View)
    → IsServed call → i ≡ part → part < length mid → p ≡ get_or mid i p → reads ≡ is_read call → answer ≡ placed_answer reads given p.places
    → KeepsReachBy (made_by part call given) old new view view' → Stands basis placed old was → CarriesReach basis placed (placed ++ placed_for part client call answer) old new view view'
call_carries basis placed part client i call given reads old new was mid p answer view view' served e l at r told keeps stands =
    subst (λ (a : Answer). CarriesReach basis placed (placed ++ placed_for part client call a) old new view view') (sym (answer_at part i call given reads mid p answer e l at r told))
    (carries basis placed part client call given (part_at mid part).places old new was view view' served stands keeps)
