-- Writing piece by piece, as loops do.
use Rattle.std.proofs.Common.{◌≡◌, ℕ, List, [], ◌∷◌, ◌++◌, take, drop, Option, Result, Ok, Err, refl, ap, subst, sym, ◌∙◌, arith}
use Rattle.std.specs.Prelude.{MatchResult}
use Rattle.std.specs.Result.{IsErrAnd}
use Rattle.std.specs.Io.KnownBytes.{Appends}
use Rattle.std.proofs.KnownBytes.{Appends-trans}
use Rattle.std.proofs.lemmas.List.{append_assoc, take-append-drop}
use Rattle.std.proofs.lemmas.Grind.{flat_map-append}
use Rattle.mg_faults.specs.Causes.{RoseOnce}
use Rattle.mg_types.specs.declared.faults.Fault.{Fault}
use Rattle.mg_types.specs.declared.faults.Fault.TheVariants as fault
use Rattle.mg_serve.specs.Told.{joined}
use Rattle.mg_serve.specs.Writing.{MayRise, StopsInLast, StopsWriting, WritesFront, WritesSome}

-- a count that rose by one after it had stayed rose by one in all
pub rose_since : (first before now : ℕ) → before ≡ first → RoseOnce before now → RoseOnce first now
rose_since first before now same rose = cc

-- a count that may have risen after it had stayed may have risen in all
pub may_since : (first before now : ℕ) → before ≡ first → MayRise before now → MayRise first now
may_since first before now same may = (omega (arith, same, may.0), omega (arith, same, may.1))

-- one piece more was written
pub split_on : (bytes front rest behind : List ℕ) (n : ℕ) → bytes ≡ front ++ rest → behind ≡ drop n rest → bytes ≡ (front ++ take n rest) ++ behind
split_on bytes front rest behind n e d = e ∙ ap (λ (l : List ℕ). front ++ l) (sym (take-append-drop n rest)) ∙ sym (append_assoc front (take n rest) (drop n rest)) ∙ ap (λ (l : List ℕ). (front ++ take n rest) ++ l) (sym d)

-- the last of some texts broke off behind the others
some_behind : (earlier : List (List ℕ)) (last : List ℕ) (w w' w'' : Option (List ℕ)) (least : ℕ) → Appends w w' (joined earlier) → WritesFront w' w'' last least → WritesSome w w'' (earlier ++ last ∷ []) least
some_behind earlier last w w' w'' least before f = record {
  earlier = earlier;
  last = last;
  front = f.front;
  rest = f.rest;
  split = refl;
  cut = f.split;
  left = f.left;
  text = Appends-trans w w' w'' (joined earlier) f.front before f.text;
}

-- writing stopped in a text behind others that were written
pub stops_behind : (earlier : List (List ℕ)) (last : List ℕ) (w w' w'' : Option (List ℕ)) (first before now : ℕ) (f : Fault) → Appends w w' (joined earlier) → before ≡ first
    → StopsWriting w' w'' before now last f → StopsInLast w w'' first now (earlier ++ last ∷ []) f
stops_behind earlier last w w' w'' first before now fault.NoMemory t same s = (may_since first before now same s.0, some_behind earlier last w w' w'' 0 t s.1)
stops_behind earlier last w w' w'' first before now fault.WriteFault t same s = (rose_since first before now same s.0, some_behind earlier last w w' w'' 1 t s.1)
stops_behind earlier last w w' w'' first before now fault.ReadFault t same s = s
stops_behind earlier last w w' w'' first before now (fault.Damaged file at kept found) t same s = s
stops_behind earlier last w w' w'' first before now (fault.Missing file) t same s = s
stops_behind earlier last w w' w'' first before now (fault.Gap part applied low high) t same s = s
stops_behind earlier last w w' w'' first before now (fault.BadLine line why) t same s = s
stops_behind earlier last w w' w'' first before now (fault.TooLong limit) t same s = s
stops_behind earlier last w w' w'' first before now fault.BadWords t same s = s
stops_behind earlier last w w' w'' first before now (fault.BadSettings at) t same s = s
stops_behind earlier last w w' w'' first before now (fault.FewerParts asked kept) t same s = s
stops_behind earlier last w w' w'' first before now (fault.Malformed file at) t same s = s
stops_behind earlier last w w' w'' first before now (fault.Worn kept) t same s = s

joined-append : (xs ys : List (List ℕ)) → joined (xs ++ ys) ≡ joined xs ++ joined ys
joined-append xs ys = flat_map-append (λ (p : List ℕ). p) xs ys

some_after : (before texts : List (List ℕ)) (w w' w'' : Option (List ℕ)) (least : ℕ) → Appends w w' (joined before) → WritesSome w' w'' texts least → WritesSome w w'' (before ++ texts) least
some_after before texts w w' w'' least t s = record {
  earlier = before ++ s.earlier;
  last = s.last;
  front = s.front;
  rest = s.rest;
  split = ap (λ (ts : List (List ℕ)). before ++ ts) s.split ∙ sym (append_assoc before s.earlier (s.last ∷ []));
  cut = s.cut;
  left = s.left;
  text = subst (λ (u : List ℕ). Appends w w'' u) (sym (append_assoc (joined before) (joined s.earlier) s.front) ∙ ap (λ (u : List ℕ). u ++ s.front) (sym (joined-append before s.earlier)))
      (Appends-trans w w' w'' (joined before) (joined s.earlier ++ s.front) t s.text);
}

-- writing stopped in the last of some texts behind others that were written
pub stops_after : (before texts : List (List ℕ)) (w w' w'' : Option (List ℕ)) (first mid now : ℕ) (f : Fault) → Appends w w' (joined before) → mid ≡ first → StopsInLast w' w'' mid now texts f → StopsInLast w w'' first now (before ++ texts) f
stops_after before texts w w' w'' first mid now fault.NoMemory t same s = (may_since first mid now same s.0, some_after before texts w w' w'' 0 t s.1)
stops_after before texts w w' w'' first mid now fault.WriteFault t same s = (rose_since first mid now same s.0, some_after before texts w w' w'' 1 t s.1)
stops_after before texts w w' w'' first mid now fault.ReadFault t same s = s
stops_after before texts w w' w'' first mid now (fault.Damaged file at kept found) t same s = s
stops_after before texts w w' w'' first mid now (fault.Missing file) t same s = s
stops_after before texts w w' w'' first mid now (fault.Gap part applied low high) t same s = s
stops_after before texts w w' w'' first mid now (fault.BadLine line why) t same s = s
stops_after before texts w w' w'' first mid now (fault.TooLong limit) t same s = s
stops_after before texts w w' w'' first mid now fault.BadWords t same s = s
stops_after before texts w w' w'' first mid now (fault.BadSettings at) t same s = s
stops_after before texts w w' w'' first mid now (fault.FewerParts asked kept) t same s = s
stops_after before texts w w' w'' first mid now (fault.Malformed file at) t same s = s
stops_after before texts w w' w'' first mid now (fault.Worn kept) t same s = s

-- texts behind texts were written
pub appends_after : (before texts : List (List ℕ)) (w w' w'' : Option (List ℕ)) → Appends w w' (joined before) → Appends w' w'' (joined texts) → Appends w w'' (joined (before ++ texts))
appends_after before texts w w' w'' first then = subst (λ (u : List ℕ). Appends w w'' u) (sym (joined-append before texts)) (Appends-trans w w' w'' (joined before) (joined texts) first then)

-- what is said of an error is said of the result
pub match_err : {T E : Type 0} (given : Result T E) (error : E) (A : T → Type 0) (B : E → Type 0) → IsErrAnd given (λ e. e ≡ error) → B error → MatchResult given A B
match_err (Ok x) error A B is has = absurd is
match_err (Err e) error A B is has = subst B (sym is) has
