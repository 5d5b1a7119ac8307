-- Tables and lists of entries determine each other.
use Rattle.std.specs.Prelude.{◌≡◌, ℕ, List}
use Rattle.mg_frame.specs.BigEndian.{AreBytes}
use Rattle.mg_table.specs.Table.{IsTable}
use Rattle.mg_types.specs.declared.items.Entry.{Entry}

-- bytes are the table of one list of entries over one interval
abbrev pub OneTable : Type 0
OneTable = (bytes : List ℕ) (lo hi : ℕ) (entries : List Entry) (lo' hi' : ℕ) (others : List Entry) → IsTable bytes lo hi entries → IsTable bytes lo' hi' others
    → (entries ≡ others) × (lo ≡ lo') × (hi ≡ hi')

-- a list of entries over an interval has one table among lists of bytes
abbrev pub OneFileOfTable : Type 0
OneFileOfTable = (bytes others : List ℕ) (lo hi : ℕ) (entries : List Entry) → AreBytes bytes → AreBytes others → IsTable bytes lo hi entries → IsTable others lo hi entries
    → bytes ≡ others
