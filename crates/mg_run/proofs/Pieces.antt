-- Reading piece by piece, and what a script that was read is.
use Rattle.std.proofs.Common.{◌≡◌, ◌≤◌, ℕ, ◌+◌, ◌-◌, List, ◌++◌, length, Option, Result, Ok, Err, ap, arith}
use Rattle.std.specs.Prelude.{IfErr, IfOk, MatchResult}
use Rattle.std.specs.Result.{IsErrAnd}
use Rattle.std.specs.Io.KnownBytes.{Consumes}
use Rattle.std.proofs.KnownBytes.{Consumes-kept, Consumes-trans}
use Rattle.std.proofs.lemmas.List.{length-append}
use Rattle.mg_script.specs.declared.script.Line.{Line}
use Rattle.mg_script.specs.Script.{script_of, Refuses}
use Rattle.mg_serve.proofs.Pieces.{may_since, rose_since}
use Rattle.mg_types.specs.declared.faults.Fault.{Fault}
use Rattle.mg_types.specs.declared.faults.Fault.TheVariants as fault
use Rattle.mg_run.specs.Runs.{script_limit, FailsRead, ReadsAll, ReadsScript, StopsInput, StopsReading}

-- a read that fails stops the reading
pub stops_reading : (left mid left' : Option (List ℕ)) (bytes : List ℕ) (first before now : ℕ) (f : Fault) → Consumes left mid bytes → length bytes ≤ script_limit → before ≡ first → FailsRead mid left' (script_limit + 1 - length bytes) before now f → StopsReading left left' first now f
stops_reading left mid left' bytes first before now fault.NoMemory t few l r =
    (may_since first before now l r.0, record { bytes = bytes ++ r.1.bytes; taken = Consumes-trans left mid left' bytes r.1.bytes t r.1.taken; in_limit = omega (arith, few, r.1.in_limit, length-append bytes r.1.bytes) })
stops_reading left mid left' bytes first before now fault.ReadFault t few l r = (rose_since first before now l r.0, record { bytes = bytes; taken = Consumes-kept left mid left' bytes t r.1; in_limit = few })
stops_reading left mid left' bytes first before now (fault.Damaged file at kept found) t few l r = r
stops_reading left mid left' bytes first before now (fault.Missing file) t few l r = r
stops_reading left mid left' bytes first before now (fault.Gap part applied low high) t few l r = r
stops_reading left mid left' bytes first before now (fault.BadLine line why) t few l r = r
stops_reading left mid left' bytes first before now (fault.TooLong limit) t few l r = absurd r
stops_reading left mid left' bytes first before now fault.BadWords t few l r = r
stops_reading left mid left' bytes first before now (fault.BadSettings at) t few l r = r
stops_reading left mid left' bytes first before now (fault.FewerParts asked kept) t few l r = r
stops_reading left mid left' bytes first before now (fault.Malformed file at) t few l r = r
stops_reading left mid left' bytes first before now (fault.Worn kept) t few l r = r
stops_reading left mid left' bytes first before now fault.WriteFault t few l r = r

-- reading that stopped is input that stopped
pub stops_input : (parts : ℕ) (left left' : Option (List ℕ)) (faults faults' : ℕ) (f : Fault) → StopsReading left left' faults faults' f → StopsInput parts left left' faults faults' f
stops_input parts left left' faults faults' fault.NoMemory s = s
stops_input parts left left' faults faults' fault.ReadFault s = s
stops_input parts left left' faults faults' fault.WriteFault s = s
stops_input parts left left' faults faults' (fault.Damaged file at kept found) s = s
stops_input parts left left' faults faults' (fault.Missing file) s = s
stops_input parts left left' faults faults' (fault.Gap part applied low high) s = s
stops_input parts left left' faults faults' (fault.BadLine line why) s = absurd s
stops_input parts left left' faults faults' (fault.TooLong limit) s = s
stops_input parts left left' faults faults' fault.BadWords s = s
stops_input parts left left' faults faults' (fault.BadSettings at) s = s
stops_input parts left left' faults faults' (fault.FewerParts asked kept) s = s
stops_input parts left left' faults faults' (fault.Malformed file at) s = s
stops_input parts left left' faults faults' (fault.Worn kept) s = s

-- a whole input that is refused as a script
refuses_input : (parts : ℕ) (left left' : Option (List ℕ)) (faults faults' : ℕ) (bytes : List ℕ) (f : Fault) → ReadsAll left left' bytes → faults' ≡ faults → Refuses f (script_of parts bytes) → StopsInput parts left left' faults faults' f
refuses_input parts left left' faults faults' bytes fault.NoMemory r k s = ((omega (arith, k), omega (arith, k)), record { bytes = bytes; taken = r.taken; in_limit = omega (arith, r.in_limit) })
refuses_input parts left left' faults faults' bytes (fault.BadLine line why) r k s = (record { bytes = bytes; read = r; script = s }, k)
refuses_input parts left left' faults faults' bytes fault.ReadFault r k s = absurd s
refuses_input parts left left' faults faults' bytes fault.WriteFault r k s = s
refuses_input parts left left' faults faults' bytes (fault.Damaged file at kept found) r k s = s
refuses_input parts left left' faults faults' bytes (fault.Missing file) r k s = s
refuses_input parts left left' faults faults' bytes (fault.Gap part applied low high) r k s = s
refuses_input parts left left' faults faults' bytes (fault.TooLong limit) r k s = absurd s
refuses_input parts left left' faults faults' bytes fault.BadWords r k s = s
refuses_input parts left left' faults faults' bytes (fault.BadSettings at) r k s = s
refuses_input parts left left' faults faults' bytes (fault.FewerParts asked kept) r k s = s
refuses_input parts left left' faults faults' bytes (fault.Malformed file at) r k s = s
refuses_input parts left left' faults faults' bytes (fault.Worn kept) r k s = s

-- what a whole input is as a script
pub reads_script : {X : Type 0} (items : X → List Line) (parts : ℕ) (left left' : Option (List ℕ)) (faults faults' : ℕ) (bytes : List ℕ) (given : Result X Fault) → ReadsAll left left' bytes → faults' ≡ faults
    → IfOk given (λ lines. script_of parts bytes ≡ Ok (items lines)) → IfErr given (λ f. Refuses f (script_of parts bytes))
    → MatchResult given (λ lines. ReadsScript parts left left' (items lines)) (λ f. StopsInput parts left left' faults faults' f)
reads_script items parts left left' faults faults' bytes (Ok lines) r k ok err = record { bytes = bytes; read = r; script = ok }
reads_script items parts left left' faults faults' bytes (Err f) r k ok err = refuses_input parts left left' faults faults' bytes f r k err

-- the result is this error
pub is_err : {T E : Type 0} (given : Result T E) (error : E) → IsErrAnd given (λ e. e ≡ error) → given ≡ Err error
is_err (Ok x) error is = absurd is
is_err (Err e) error is = ap Err is
