use Rattle.std.proofs.Common.{IfOk, IfSome, Result, Ok, Err, Option, Some, None, ◌≡◌, ◌≤◌, ◌<◌, ◌⊎◌, ℕ, List, length, take, drop, arith, inl, inr, ap, ◌∙◌}
use Rattle.std.proofs.lemmas.Option.{IfSome_then}
use Rattle.std.proofs.lemmas.List.{length-drop}
use Rattle.mg_sealed.specs.Reading.{needed, IsEnough}
use Rattle.mg_sealed.proofs.ReadingLaws.{first_enough, second_enough}
use Rattle.mg_sealed.proofs.reading.read_enough.Goals.{then-needed-len-via-then-needed-len, then-needed-len-via-else-needed-len+then-needed-left}
use Rattle.mg_sealed.proofs.reading.read_enough.Goals as goal

pub returns-then-needed-len-clause-told : goal.returns-then-needed-len-clause-told
returns-then-needed-len-clause-told g c =
    let piece = c.in_ok-piece.piece.items in
    let first = c.min-first.result in
    let room = c.saturating_sub-left.result in
    let need : c.needed-needed.result ≡ needed piece = c.needed-needed.ensures.needed ∙ ap needed c.deref.ensures.value in
    let within : first ≤ room = grind arith in
    let least : (12 ≤ first) ⊎ (first ≡ room) = grind arith in
    let stops : (needed piece ≤ length piece) ⊎ (room < needed piece) = elim c.then-needed-len.branch [
      | then-needed-len-via-then-needed-len w ↦ let t = w.if-needed-len.true in inl (grind arith)
      | then-needed-len-via-else-needed-len+then-needed-left w ↦ let t = w.if-needed-left.true in inr (grind arith)
    ] in
    let known : List ℕ → Type 0 = λ bytes. piece ≡ take first (drop c.args.at bytes) in
    let wanted : List ℕ → Type 0 = λ bytes. c.args.file.now.len ≡ length bytes → IsEnough (drop c.args.at bytes) piece in
    IfSome_then (g.F.Files.told c.args.file.now.file) {P = known} {Q = wanted} c.in_ok-piece.ensures.told (λ bytes is len.
    first_enough (drop c.args.at bytes) piece first room is (grind (arith, length-drop c.args.at bytes)) within least stops)

IfOk_then : {T E : Type 0} (r : Result T E) (P Q : T → Type 0) → IfOk r P → ((x : T) → P x → Q x) → IfOk r Q
IfOk_then (Ok x) P Q p f = f x p
IfOk_then (Err e) P Q p f = tt

both : (r : Option (List ℕ)) (P Q R : List ℕ → Type 0) → IfSome r P → IfSome r Q → ((x : List ℕ) → P x → Q x → R x) → IfSome r R
both None P Q R p q f = tt
both (Some x) P Q R p q f = f x p q

pub returns-clause-told : goal.returns-clause-told
returns-clause-told g c =
    let piece = c.in_ok-piece.piece.items in
    let first = c.min-first.result in
    let room = c.saturating_sub-left.result in
    let need : c.needed-needed.result ≡ needed piece = c.needed-needed.ensures.needed ∙ ap needed c.deref.ensures.value in
    let within : first ≤ room = grind arith in
    let least : (12 ≤ first) ⊎ (first ≡ room) = grind arith in
    let more : length piece < needed piece = grind arith in
    let fits : needed piece ≤ room = grind arith in
    let known : List ℕ → Type 0 = λ bytes. piece ≡ take first (drop c.args.at bytes) in
    let again : List ℕ → Type 0 = λ bytes. IfOk c.read_piece-2.result (λ piece. piece.items ≡ take c.needed-needed.result (drop c.args.at bytes)) in
    let wanted : List ℕ → Type 0 = λ bytes. c.args.file.now.len ≡ length bytes → IfOk c.read_piece-2.result (λ piece. IsEnough (drop c.args.at bytes) piece.items) in
    both (g.F.Files.told c.args.file.now.file) known again wanted c.in_ok-piece.ensures.told c.read_piece-2.ensures.told (λ bytes is is' len.
    IfOk_then c.read_piece-2.result (λ piece. piece.items ≡ take c.needed-needed.result (drop c.args.at bytes)) (λ piece. IsEnough (drop c.args.at bytes) piece.items) is' (λ other found.
    second_enough (drop c.args.at bytes) piece other.items first room is (grind (arith, length-drop c.args.at bytes)) within least more fits
    (found ∙ ap (λ k. take k (drop c.args.at bytes)) need)))
