-- The statuses of a run.
use Rattle.std.specs.Prelude.{ℕ, List, map, ◌||◌, ◌==◌, Result, Ok, Err, if◌then◌else◌}
use Rattle.std.specs.List.{fold}
use Rattle.mg_model.specs.declared.replies.Answer.{Answer}
use Rattle.mg_model.specs.declared.replies.Reply.{Reply}
use Rattle.mg_types.specs.declared.faults.Fault.{Fault}
use Rattle.mg_types.specs.declared.faults.Fault.TheVariants as fault

-- the status of a fault
abbrev pub fault_status : Fault → ℕ
fault_status fault.NoMemory = 4
fault_status fault.ReadFault = 3
fault_status fault.WriteFault = 3
fault_status (fault.Damaged file at kept found) = 5
fault_status (fault.Missing file) = 5
fault_status (fault.Gap part applied low high) = 5
fault_status (fault.BadLine line why) = 2
fault_status (fault.TooLong limit) = 2
fault_status fault.BadWords = 1
fault_status (fault.BadSettings at) = 2
fault_status (fault.FewerParts asked kept) = 5
fault_status (fault.Malformed file at) = 5
fault_status (fault.Worn kept) = 5

-- the status of what one call gave
abbrev pub result_status : Result Reply Fault → ℕ
result_status (Ok reply) = 0
result_status (Err f) = fault_status f

-- of two statuses the graver: 5 before 3, 3 before 4, and 4 before 0
abbrev pub graver : ℕ → ℕ → ℕ
graver a b = if a == 5 || b == 5 then 5 else (if a == 3 || b == 3 then 3 else (if a == 4 || b == 4 then 4 else 0))

-- the gravest status of some answers
abbrev pub answers_status : List Answer → ℕ
answers_status answers = fold graver 0 (map (λ (answer : Answer). result_status answer.result) answers)
