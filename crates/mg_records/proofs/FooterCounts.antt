-- What the footer of a file says of its records.
use Rattle.std.proofs.Common.{◌≡◌, ℕ, List, length, Option, sum_by, ap, ◌∙◌}
use Rattle.mg_records.specs.File.{first_number, last_number}
use Rattle.mg_records.specs.Record.{Kind}
use Rattle.mg_records.specs.Writing.{Filed, Represents}
use Rattle.mg_indexed.specs.declared.footer.Footer.{Footer}

pub count_of : {T S : Type 0} (kind : Kind T) (told : S → Option (List ℕ)) (filed : Filed S) (records : List T) → Represents kind told filed records → filed.footer.count ≡ length records
count_of kind told filed records holds = ap (λ (f : Footer). f.count) holds.footer ∙ ap length holds.all

pub sum_of : {T S : Type 0} (kind : Kind T) (told : S → Option (List ℕ)) (filed : Filed S) (records : List T) → Represents kind told filed records → filed.footer.sum ≡ sum_by kind.size records
sum_of kind told filed records holds = ap (λ (f : Footer). f.sum) holds.footer ∙ ap (sum_by kind.size) holds.all

pub first_of : {T S : Type 0} (kind : Kind T) (told : S → Option (List ℕ)) (filed : Filed S) (records : List T) → Represents kind told filed records → filed.footer.low ≡ first_number kind records
first_of kind told filed records holds = ap (λ (f : Footer). f.low) holds.footer ∙ ap (first_number kind) holds.all

pub last_of : {T S : Type 0} (kind : Kind T) (told : S → Option (List ℕ)) (filed : Filed S) (records : List T) → Represents kind told filed records → filed.footer.high ≡ last_number kind records
last_of kind told filed records holds = ap (λ (f : Footer). f.high) holds.footer ∙ ap (last_number kind) holds.all
