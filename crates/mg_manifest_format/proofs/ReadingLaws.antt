-- What the readers of layouts, marks and records have in common.
use Rattle.std.proofs.Common.{◌≡◌, ℕ, List, ◌++◌, Option, Some, None, sym, ap, ◌∙◌}
use Rattle.std.proofs.lemmas.List.{append_assoc}
use Rattle.mg_manifest_format.specs.declared.layout.LayoutNames.{LayoutNames}
use Rattle.mg_manifest_format.specs.declared.record.ManifestRec.{ManifestRec}
use Rattle.mg_manifest_format.specs.declared.record.MarkNames.{MarkNames}

-- ---- fields one after another, and what follows them

pub three_behind : (a b c rest : List ℕ) → (a ++ (b ++ c)) ++ rest ≡ a ++ (b ++ (c ++ rest))
three_behind a b c rest = append_assoc a (b ++ c) rest ∙ ap (λ (l : List ℕ). a ++ l) (append_assoc b c rest)

four_behind : (a b c d rest : List ℕ) → (a ++ (b ++ (c ++ d))) ++ rest ≡ a ++ (b ++ (c ++ (d ++ rest)))
four_behind a b c d rest = append_assoc a (b ++ (c ++ d)) rest ∙ ap (λ (l : List ℕ). a ++ l) (three_behind b c d rest)

five_behind : (a b c d e rest : List ℕ) → (a ++ (b ++ (c ++ (d ++ e)))) ++ rest ≡ a ++ (b ++ (c ++ (d ++ (e ++ rest))))
five_behind a b c d e rest = append_assoc a (b ++ (c ++ (d ++ e))) rest ∙ ap (λ (l : List ℕ). a ++ l) (four_behind b c d e rest)

pub six_behind : (a b c d e f rest : List ℕ) → (a ++ (b ++ (c ++ (d ++ (e ++ f))))) ++ rest ≡ a ++ (b ++ (c ++ (d ++ (e ++ (f ++ rest)))))
six_behind a b c d e f rest = append_assoc a (b ++ (c ++ (d ++ (e ++ f)))) rest ∙ ap (λ (l : List ℕ). a ++ l) (five_behind b c d e f rest)

pub two_read : (bytes a b left rest : List ℕ) → bytes ≡ a ++ left → left ≡ b ++ rest → bytes ≡ (a ++ b) ++ rest
two_read bytes a b left rest first second = first ∙ ap (λ (l : List ℕ). a ++ l) second ∙ sym (append_assoc a b rest)

pub three_read : (bytes a b c left last rest : List ℕ) → bytes ≡ a ++ left → left ≡ b ++ last → last ≡ c ++ rest → bytes ≡ (a ++ (b ++ c)) ++ rest
three_read bytes a b c left last rest first second third = two_read bytes a (b ++ c) left rest first (two_read left b c last rest second third)

-- ---- values with the same fields

pub same_layout : (one other : LayoutNames) → one.runs ≡ other.runs → one.segments ≡ other.segments → one.deletes ≡ other.deletes → one ≡ other
same_layout one other a b c = λ k. record { runs = a k; segments = b k; deletes = c k }

pub same_mark : (one other : MarkNames) → one.mark ≡ other.mark → one.layout ≡ other.layout → one ≡ other
same_mark one other a b = λ k. record { mark = a k; layout = b k }

pub same_record : (one other : ManifestRec) → one.version ≡ other.version → one.epoch ≡ other.epoch → one.applied ≡ other.applied → one.receipt ≡ other.receipt
    → one.flushed ≡ other.flushed → one.next_file ≡ other.next_file → one.layout ≡ other.layout → one.marks ≡ other.marks → one ≡ other
same_record one other a b c d e f g h =
    λ k. record { version = a k; epoch = b k; applied = c k; receipt = d k; flushed = e k; next_file = f k; layout = g k; marks = h k }

-- the same record of another version
abbrev pub versioned : ℕ → ManifestRec → ManifestRec
versioned version rec =
    record {
      version = version;
      epoch = rec.epoch;
      applied = rec.applied;
      receipt = rec.receipt;
      flushed = rec.flushed;
      next_file = rec.next_file;
      layout = rec.layout;
      marks = rec.marks;
    }

-- ---- what was found

pub none_is_not_found : {X : Type 0} (found : Option X) (x : X) → found ≡ None → found ≡ Some x → ⊥
none_is_not_found None x none some = cc
none_is_not_found (Some y) x none some = cc

pub found_is : {X : Type 0} (x y : X) → Some x ≡ Some y → x ≡ y
found_is x y same = cc

pub flaw_is_none : {X Y : Type 0} (flaw : X → Option Y) (x y : X) (found : Y) → Some x ≡ Some y → flaw x ≡ Some found → flaw y ≡ None → ⊥
flaw_is_none flaw x y found same some none = cc
