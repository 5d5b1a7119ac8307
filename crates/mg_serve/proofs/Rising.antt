-- How often the volume of the log failed.
use Rattle.std.proofs.Common.{◌≡◌, ◌≤◌, ℕ, ◌+◌, List, [], ◌∷◌, ◌++◌, cond, Result, Ok, Err, refl, arith}
use Rattle.mg_faults.specs.Causes.{raised, CountsOnce, HasCause}
use Rattle.mg_model.specs.declared.replies.Answer.{Answer}
use Rattle.mg_model.specs.declared.replies.Reply.{Reply}
use Rattle.mg_types.specs.declared.faults.Fault.{Fault}
use Rattle.mg_types.specs.declared.faults.Fault.TheVariants as fault
use Rattle.mg_serve.specs.Lasting.{failed_writes, faults_in, faults_of, is_fault, is_write_fault, write_count, writes_of, RisesBy}
use Rattle.mg_serve.proofs.Counts.{count-push}

-- a failed write counts one, another fault none
counts_one : (f : Fault) → cond {A = ℕ} (is_write_fault (Err f)) 1 0 ≡ write_count f
counts_one fault.NoMemory = refl
counts_one fault.ReadFault = refl
counts_one fault.WriteFault = refl
counts_one (fault.Damaged file at kept found) = refl
counts_one (fault.Missing file) = refl
counts_one (fault.Gap part applied low high) = refl
counts_one (fault.BadLine line why) = refl
counts_one (fault.TooLong limit) = refl
counts_one fault.BadWords = refl
counts_one (fault.BadSettings at) = refl
counts_one (fault.FewerParts asked kept) = refl
counts_one (fault.Malformed file at) = refl
counts_one (fault.Worn kept) = refl

-- a failed write has its cause
rises_one : {T : Type 0} (f : Fault) (mid now : ℕ) → HasCause {T = T} fault.WriteFault mid now (Err f) → raised mid (write_count f) ≤ now
rises_one fault.WriteFault mid now cause = cause.failed refl
rises_one fault.NoMemory mid now cause = omega (arith, cause.later)
rises_one fault.ReadFault mid now cause = omega (arith, cause.later)
rises_one (fault.Damaged file at kept found) mid now cause = omega (arith, cause.later)
rises_one (fault.Missing file) mid now cause = omega (arith, cause.later)
rises_one (fault.Gap part applied low high) mid now cause = omega (arith, cause.later)
rises_one (fault.BadLine line why) mid now cause = omega (arith, cause.later)
rises_one (fault.TooLong limit) mid now cause = omega (arith, cause.later)
rises_one fault.BadWords mid now cause = omega (arith, cause.later)
rises_one (fault.BadSettings at) mid now cause = omega (arith, cause.later)
rises_one (fault.FewerParts asked kept) mid now cause = omega (arith, cause.later)
rises_one (fault.Malformed file at) mid now cause = omega (arith, cause.later)
rises_one (fault.Worn kept) mid now cause = omega (arith, cause.later)

-- a count that an Ok keeps
pub rises_ok : {T : Type 0} (x : T) (before mid now least most : ℕ) → RisesBy least most before mid → CountsOnce {T = T} {E = Fault} mid now (Ok x) → RisesBy least most before now
rises_ok x before mid now least most so_far once = record { enough = omega (arith, so_far.enough, once.kept); few = omega (arith, so_far.few, once.kept) }

-- a count that an error raises by one at most, and a failed write by one
pub rises_err : {T : Type 0} (f : Fault) (before mid now least most : ℕ) → RisesBy least most before mid → HasCause {T = T} fault.WriteFault mid now (Err f) → CountsOnce {T = T} {E = Fault} mid now (Err f)
    → RisesBy (least + write_count f) (most + 1) before now
rises_err f before mid now least most so_far cause once = record {
  enough = omega (arith, so_far.enough, rises_one f mid now cause);
  few = omega (arith, so_far.few, once.once);
}

-- the count over one answer more
pub rises_next : (answers : List Answer) (answer : Answer) (before mid now : ℕ) → RisesBy (failed_writes answers) (faults_in answers) before mid
    → HasCause fault.WriteFault mid now answer.result → CountsOnce mid now answer.result → RisesBy (failed_writes (answers ++ answer ∷ [])) (faults_in (answers ++ answer ∷ [])) before now
rises_next answers answer before mid now so_far cause once = record {
  enough = omega (arith, writes, it.enough);
  few = omega (arith, faults, it.few);
}
  where
    writes : failed_writes (answers ++ answer ∷ []) ≡ failed_writes answers + cond (is_write_fault answer.result) 1 0
    writes = count-push (λ (a : Answer). is_write_fault a.result) answers answer

    faults : faults_in (answers ++ answer ∷ []) ≡ faults_in answers + cond (is_fault answer.result) 1 0
    faults = count-push (λ (a : Answer). is_fault a.result) answers answer

    by_result : (given : Result Reply Fault) → HasCause fault.WriteFault mid now given → CountsOnce mid now given
        → RisesBy (failed_writes answers + cond (is_write_fault given) 1 0) (faults_in answers + cond (is_fault given) 1 0) before now
    by_result (Ok reply) cause once =
        let kept = rises_ok reply before mid now (failed_writes answers) (faults_in answers) so_far once in
        record { enough = omega (arith, kept.enough); few = omega (arith, kept.few) }
    by_result (Err f) cause once =
        let rose = rises_err f before mid now (failed_writes answers) (faults_in answers) so_far cause once in
        record { enough = omega (arith, rose.enough, counts_one f); few = omega (arith, rose.few) }

    it : RisesBy (failed_writes answers + cond (is_write_fault answer.result) 1 0) (faults_in answers + cond (is_fault answer.result) 1 0) before now
    it = by_result answer.result cause once

-- the count over a sync more
pub rises_sync : (synced : Result Unit Fault) (before mid now least most : ℕ) → RisesBy least most before mid → HasCause fault.WriteFault mid now synced → CountsOnce mid now synced
    → RisesBy (least + writes_of synced) (most + faults_of synced) before now
rises_sync (Ok done) before mid now least most so_far cause once =
    let kept = rises_ok done before mid now least most so_far once in
    record { enough = omega (arith, kept.enough); few = omega (arith, kept.few) }
rises_sync (Err f) before mid now least most so_far cause once = rises_err f before mid now least most so_far cause once
