-- Bytes are the numbered frames of one list of bodies.
use Rattle.std.proofs.Common.{◌≡◌, ℕ, ◌+◌, ◌<◌, ◌≤◌, ◌^◌, List, [], ◌∷◌, ◌++◌, length, map, take, drop, refl, sym, ap, ◌∙◌, arith}
use Rattle.std.proofs.lemmas.List.{append-nil, drop_at, length-append, take_at}
use Rattle.std.proofs.lemmas.List.Elements.{All-cons, All-head, All-nil, All-tail}
use Rattle.std.specs.List.{All, enumerate_from}
use Rattle.mg_frame.specs.Frame.{IsEntry}
use Rattle.mg_frame.specs.Frames.{frames, numbered_frames}
use Rattle.mg_frame.proofs.FrameLaws.{none_if_short}
use Rattle.mg_frame.proofs.FramesLaws.{OneReading}
use Rattle.mg_sealed.specs.Lists.{OneListOfFrames}

are_entries : (n : ℕ) (bodies : List (List ℕ)) → n + length bodies ≤ 2 ^ 64 → All (λ body. length body < 2 ^ 32) bodies → All IsEntry (enumerate_from n bodies)
are_entries n [] few small = All-nil IsEntry
are_entries n (body ∷ bodies) few small =
    let Small = λ (b : List ℕ). length b < 2 ^ 32 in
    All-cons IsEntry (n, body) (enumerate_from (n + 1) bodies) (record { number_fits = omega (arith, few); body_fits = All-head Small body bodies small })
    (are_entries (n + 1) bodies (omega (arith, few)) (All-tail Small body bodies small))

bodies_back : (n : ℕ) (bodies : List (List ℕ)) → map (λ (entry : ℕ × List ℕ). entry.1) (enumerate_from n bodies) ≡ bodies
bodies_back n [] = refl
bodies_back n (body ∷ bodies) = ap (λ bs. body ∷ bs) (bodies_back (n + 1) bodies)

pub one_list_of_frames : OneListOfFrames
unfolding numbered_frames
one_list_of_frames bodies others fit fit' same =
    let entries = enumerate_from 0 bodies in
    let entries' = enumerate_from 0 others in
    let whole : frames entries ++ [] ≡ frames entries' ++ [] = append-nil (frames entries) ∙ same ∙ sym (append-nil (frames entries')) in
    let none = none_if_short [] (omega arith) in
    let one = OneReading entries entries' [] [] (are_entries 0 bodies (omega (arith, fit.few)) fit.small) (are_entries 0 others (omega (arith, fit'.few)) fit'.small) whole none none in
    sym (bodies_back 0 bodies) ∙ ap (map (λ (entry : ℕ × List ℕ). entry.1)) one.0 ∙ bodies_back 0 others

-- lists that end in as many elements are the same in both parts
pub same_parts : {T : Type 0} (xs ys us vs : List T) → length us ≡ length vs → xs ++ us ≡ ys ++ vs → (xs ≡ ys) × (us ≡ vs)
same_parts xs ys us vs len same =
    let long : length xs ≡ length ys = omega (arith, ap length same, length-append xs us, length-append ys vs) in (
      sym (take_at xs us (length xs) refl) ∙ ap (take (length xs)) same ∙ take_at ys vs (length xs) (sym long),
      sym (drop_at xs us (length xs) refl) ∙ ap (drop (length xs)) same ∙ drop_at ys vs (length xs) (sym long),
    )
