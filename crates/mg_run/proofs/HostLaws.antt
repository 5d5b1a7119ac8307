-- A run over the volume of the log, said of the host that lent it.
use Rattle.std.proofs.Common.{◌≡◌, ◌⊎◌, inl, inr, ℕ, ◌-◌, List, Bool, Option, Result, Ok, Err, ap, subst, sym, ◌∙◌}
use Rattle.std.specs.Prelude.{IsTrue}
use Rattle.mg_disk.specs.Hosts.{GivenBack, HasFound, HostState, Lent, SameButFor}
use Rattle.mg_disk.specs.Images.{Image, View}
use Rattle.mg_faults.specs.Causes.{raised, Rose}
use Rattle.mg_model.specs.declared.replies.Answer.{Answer}
use Rattle.mg_recover.specs.Refusals.{IsStoreRefusal, IsStoreRefused}
use Rattle.mg_script.specs.declared.script.Line.{Line}
use Rattle.mg_serve.specs.Lasting.{KeepsLog, LeavesAllNow}
use Rattle.mg_serve.specs.Placed.{placed_of}
use Rattle.mg_serve.specs.Serving.{LastSync, Ran}
use Rattle.mg_types.specs.declared.faults.Fault.{Fault}
use Rattle.mg_types.specs.declared.faults.Fault.TheVariants as fault
use Rattle.mg_wal.specs.Lists.{Basis}
use Rattle.mg_wal.specs.Strays.{OpensWithStray}
use Rattle.mg_run.specs.Hosting.{log_volume, IsInside, LeavesLess, OpenedRan, OpensTo, RefusedOpening, VolumeRan, VolumeServed, WasInside}

-- ---- what a run keeps, in other words

-- what the last sync came to, in other words
last_to : (basis : Basis) (lines : List Line) (answers : List Answer) (Lasts Lasts' : Type 0) (synced : Result Unit Fault) → (Lasts → Lasts') → LastSync basis lines answers Lasts synced → LastSync basis lines answers Lasts' synced
last_to basis lines answers Lasts Lasts' (Ok done) to last = to last
last_to basis lines answers Lasts Lasts' (Err f) to last = last

pub ran_to : (parts : ℕ) (basis : Basis) (lines : List Line) (count count' : ℕ) (Keeps Lasts Keeps' Lasts' : List Line → List Answer → Type 0) (w w' : Option (List ℕ)) (k k' : ℕ) (synced : Result Unit Fault) (ended : Result ℕ Fault)
    → ((first : List Line) (answers : List Answer) → Keeps first answers → Keeps' first answers) → ((first : List Line) (answers : List Answer) → Lasts first answers → Lasts' first answers)
    → Ran parts basis lines count count' Keeps Lasts w w' k k' synced ended → Ran parts basis lines count count' Keeps' Lasts' w w' k k' synced ended
ran_to parts basis lines count count' Keeps Lasts Keeps' Lasts' w w' k k' synced ended keeps lasts r = record {
  first = r.first;
  behind = r.behind;
  answers = r.answers;
  split = r.split;
  fit = r.fit;
  log = keeps r.first r.answers r.log;
  needed = r.needed;
  last = last_to basis r.first r.answers (Lasts r.first r.answers) (Lasts' r.first r.answers) synced (lasts r.first r.answers) r.last;
  rises = r.rises;
  ends = r.ends;
}

-- why an opening stopped
abbrev pub Why : Type 0 → (Fault → Type 0) → ℕ → ℕ → ℕ → Fault → Type 0
Why HasStray IsBad parts count count' f =
    (f ≡ fault.NoMemory) ⊎ ((f ≡ fault.ReadFault) × Rose count count') ⊎ ((f ≡ fault.WriteFault) × Rose count count' × HasStray) ⊎ (IsStoreRefusal parts f × IsBad f)

pub why_refused : (parts count count' : ℕ) (HasStray : Type 0) (IsBad : Fault → Type 0) (f : Fault) → (f ≡ fault.NoMemory) ⊎ (f ≡ fault.ReadFault) ⊎ (f ≡ fault.WriteFault) ⊎ IsStoreRefusal parts f
    → ((f ≡ fault.ReadFault) ⊎ (f ≡ fault.WriteFault) → Rose count count') → (f ≡ fault.WriteFault → HasStray) → (IsStoreRefusal parts f → IsBad f) → Why HasStray IsBad parts count count' f
why_refused parts count count' HasStray IsBad f (inl memory) rose stray bad = inl memory
why_refused parts count count' HasStray IsBad f (inr (inl read)) rose stray bad = inr (inl (read, rose (inl read)))
why_refused parts count count' HasStray IsBad f (inr (inr (inl write))) rose stray bad = inr (inr (inl (write, rose (inr write), stray write)))
why_refused parts count count' HasStray IsBad f (inr (inr (inr refusal))) rose stray bad = inr (inr (inr (refusal, bad refusal)))

refused_to : (parts : ℕ) (HasStray HasStray' : Type 0) (IsBad IsBad' : Fault → Type 0) (count count' : ℕ) (f : Fault) → (HasStray → HasStray') → ((f : Fault) → IsBad f → IsBad' f)
    → Why HasStray IsBad parts count count' f → Why HasStray' IsBad' parts count count' f
refused_to parts HasStray HasStray' IsBad IsBad' count count' f stray to (inl memory) = inl memory
refused_to parts HasStray HasStray' IsBad IsBad' count count' f stray to (inr (inl read)) = inr (inl read)
refused_to parts HasStray HasStray' IsBad IsBad' count count' f stray to (inr (inr (inl write))) = inr (inr (inl (write.0, write.1, stray write.2)))
refused_to parts HasStray HasStray' IsBad IsBad' count count' f stray to (inr (inr (inr refusal))) = inr (inr (inr (refusal.0, to f refusal.1)))

-- ---- lent and given back

-- what is the same but for a volume, twice
same_twice : {V : Type 0} (n : ℕ) (old mid new : HostState V) → SameButFor n old mid → SameButFor n mid new → SameButFor n old new
same_twice n old mid new a b = record {
  settings = b.settings ∙ a.settings;
  out = λ m other. b.out m other ∙ a.out m other;
  inside = λ m other. b.inside m other ∙ a.inside m other;
  lent_faults = λ m other. b.lent_faults m other ∙ a.lent_faults m other;
  lent_moment = λ m other. b.lent_moment m other ∙ a.lent_moment m other;
}

-- a run over a volume that was lent is one over the host
pub host_served : {V : Type 0} (tells : Bool) (view : V → View) (old mid new : HostState V) (vol vol' : V) (count count' faults between faults' parts : ℕ) (lines : List Line) (w w' : Option (List ℕ)) (k k' : ℕ) (ended : Result ℕ Fault)
    → Lent log_volume count (view vol).moment old mid → (IsTrue tells → HasFound log_volume view old vol) → GivenBack tells log_volume vol' mid new
    → between ≡ faults → faults' ≡ raised between (count' - mid.lent_faults log_volume)
    → VolumeRan tells (view vol) (view vol') count count' parts lines w w' k k' ended → VolumeServed tells view old new faults faults' parts lines w w' k k' ended
host_served tells view old mid new vol vol' count count' faults between faults' parts lines w w' k k' ended lent found given kept counts ran = record {
  count = count';
  back = record {
    others = same_twice log_volume old mid new lent.others given.others;
    here = given.out;
    counts = counts ∙ ap (λ n. raised n (count' - mid.lent_faults log_volume)) kept ∙ ap (λ n. raised faults (count' - n)) (sym given.lent_faults);
  };
  ran = by_case ran;
}
  where
    lent_count : count ≡ new.lent_faults log_volume
    lent_count = sym (given.lent_faults ∙ lent.faults)

    lent_at : (view vol).moment ≡ new.lent_moment log_volume
    lent_at = sym (given.lent_moment ∙ lent.moment)

    was : (Has : Image → Type 0) → IsTrue tells → Has (view vol).contents → WasInside view old Has
    was Has t has = let f = found t in record { vol = f.found; inside = f.was; has = subst Has f.contents has }

    is : (Says : View → Type 0) → IsTrue tells → Says (view vol') → IsInside view new Says
    is Says t says = record { vol = vol'; inside = given.inside t; says = says }

    keeps : (basis : Basis) (first : List Line) (answers : List Answer) → (IsTrue tells → KeepsLog basis first answers (view vol).moment (view vol'))
        → IsTrue tells → IsInside view new (λ it. KeepsLog basis first answers (new.lent_moment log_volume) it)
    keeps basis first answers k t = is (λ it. KeepsLog basis first answers (new.lent_moment log_volume) it) t (subst (λ time. KeepsLog basis first answers time (view vol')) lent_at (k t))

    by_case : VolumeRan tells (view vol) (view vol') count count' parts lines w w' k k' ended
        → OpenedRan (λ basis. IsTrue tells → WasInside view old (OpensTo parts basis))
        (λ basis first answers. IsTrue tells → IsInside view new (λ it. KeepsLog basis first answers (new.lent_moment log_volume) it))
        (λ basis first answers. IsTrue tells → IsInside view new (λ it. LeavesAllNow basis (placed_of first answers) it))
        parts (new.lent_faults log_volume) count' lines w w' k k' ended
        ⊎ ((f : Fault) × (ended ≡ Err f)
        × RefusedOpening (IsTrue tells → WasInside view old (OpensWithStray parts)) (λ f. IsTrue tells → WasInside view old (λ image. IsStoreRefused parts image f)) parts (new.lent_faults log_volume) count' w w' k k' f
        × (IsTrue tells → WasInside view old (λ found. IsInside view new (LeavesLess (new.lent_moment log_volume) found))))
    by_case (inl opened) =
        let basis = opened.basis in
        inl (record {
          basis = basis;
          parts_are = opened.parts_are;
          found = λ t. was (OpensTo parts basis) t (opened.found t);
          synced = opened.synced;
          ran = subst (λ n. Ran parts basis lines n count' (λ first answers. IsTrue tells → IsInside view new (λ it. KeepsLog basis first answers (new.lent_moment log_volume) it))
              (λ first answers. IsTrue tells → IsInside view new (λ it. LeavesAllNow basis (placed_of first answers) it)) w w' k k' opened.synced ended) lent_count
              (ran_to parts basis lines count count' _ _ _ _ w w' k k' opened.synced ended (keeps basis) (λ first answers l t. is (λ it. LeavesAllNow basis (placed_of first answers) it) t (l t)) opened.ran);
        })
    by_case (inr refused) =
        let f = refused.0 in
        let r = refused.2 in
        inr (
          f,
          refused.1,
          subst (λ n. RefusedOpening (IsTrue tells → WasInside view old (OpensWithStray parts)) (λ f. IsTrue tells → WasInside view old (λ image. IsStoreRefused parts image f)) parts n count' w w' k k' f) lent_count (record {
            later = r.later;
            once = r.once;
            text = r.text;
            sink = r.sink;
            why = refused_to parts (IsTrue tells → OpensWithStray parts (view vol).contents) (IsTrue tells → WasInside view old (OpensWithStray parts)) (λ f. IsTrue tells → IsStoreRefused parts (view vol).contents f)
                (λ f. IsTrue tells → WasInside view old (λ image. IsStoreRefused parts image f)) count count' f (λ stray t. was (OpensWithStray parts) t (stray t)) (λ f bad t. was (λ image. IsStoreRefused parts image f) t (bad t)) r.why;
          }),
          λ t.
              was (λ found. IsInside view new (LeavesLess (new.lent_moment log_volume) found)) t
              (is (LeavesLess (new.lent_moment log_volume) (view vol).contents) t
              (subst (λ time. LeavesLess time (view vol).contents (view vol')) lent_at ((refused.3 t).later, (refused.3 t).each))),
        )
