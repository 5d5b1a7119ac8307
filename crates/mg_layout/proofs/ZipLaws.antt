-- Lists of equal length, of which each pair is related.
use Rattle.std.proofs.Common.{◌≡◌, ℕ, zero, suc, ◌<◌, List, [], ◌∷◌, ◌++◌, length, get_or, map, refl, ap, arith}
use Rattle.std.specs.List.{AllZip}

-- the members at each place are related
pub zip_at : {A B : Type 0} (R : A → B → Type 0) (xs : List A) (ys : List B) (i : ℕ) (d : A) (e : B) → AllZip R xs ys → i < length xs → R (get_or xs i d) (get_or ys i e)
zip_at R [] ys i d e z h = absurd (omega (arith, h))
zip_at R (x ∷ xs) [] i d e z h = absurd z
zip_at R (x ∷ xs) (y ∷ ys) zero d e z h = z.0
zip_at R (x ∷ xs) (y ∷ ys) (suc i) d e z h = zip_at R xs ys i d e z.1 (omega (arith, h))

-- where each member of the second list has this image, and the first list has these images, they are images of the same members
pub zip_map : {A B : Type 0} (f : A → B) (xs ys : List A) → AllZip (λ x y. f y ≡ f x) xs ys → map f ys ≡ map f xs
zip_map f [] [] z = refl
zip_map f [] (y ∷ ys) z = absurd z
zip_map f (x ∷ xs) [] z = absurd z
zip_map f (x ∷ xs) (y ∷ ys) z = rw (z.0, zip_map f xs ys z.1) refl

-- what is related to a list in two parts has two parts
pub zip_split : {A B : Type 0} (R : A → B → Type 0) (xs more : List A) (ys : List B) → AllZip R (xs ++ more) ys
    → (front : List B) × (back : List B) × (ys ≡ front ++ back) × AllZip R xs front × AllZip R more back
zip_split R [] more ys z = ([], ys, refl, tt, z)
zip_split R (x ∷ xs) more [] z = absurd z
zip_split R (x ∷ xs) more (y ∷ ys) z = let s = zip_split R xs more ys z.1 in (y ∷ s.0, s.1, ap (λ q. y ∷ q) s.2, (z.0, s.3), s.4)

pub zip_join : {A B : Type 0} (R : A → B → Type 0) (xs more : List A) (ys others : List B) → AllZip R xs ys → AllZip R more others → AllZip R (xs ++ more) (ys ++ others)
zip_join R [] more [] others z h = h
zip_join R [] more (y ∷ ys) others z h = absurd z
zip_join R (x ∷ xs) more [] others z h = absurd z
zip_join R (x ∷ xs) more (y ∷ ys) others z h = (z.0, zip_join R xs more ys others z.1 h)
