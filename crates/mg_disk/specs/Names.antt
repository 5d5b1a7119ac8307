-- What names go on standing for, and the numbers of one kind of names.
use Rattle.std.specs.Prelude.{◌≡◌, ◌==◌, ℕ, List, [], ◌∷◌, if◌then◌else◌, Option, Some}
use Rattle.mg_types.specs.Names.{kind_code}
use Rattle.mg_types.specs.declared.names.Kind.{Kind}
use Rattle.mg_types.specs.declared.names.Name.{Name}

-- what a name stood for, it still stands for
abbrev pub KeepsEach : (Name → Option (List ℕ)) → (Name → Option (List ℕ)) → Type 0
KeepsEach old new = (name : Name) (known : List ℕ) → old name ≡ Some known → new name ≡ Some known

-- the numbers of the names of this kind
abbrev pub numbers_of : Kind → List Name → List ℕ
numbers_of kind [] = []
numbers_of kind (name ∷ names) = if kind_code name.kind == kind_code kind then name.number ∷ numbers_of kind names else numbers_of kind names
