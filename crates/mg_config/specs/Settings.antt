-- What the settings of a document are, and which rule refuses one.
use Rattle.std.specs.Prelude.{◌≡◌, ◌≤◌, ℕ, ℤ, pos, negsuc, List, length, codes, Bool, true, ◌&&◌, ◌||◌, nat_le, Option, Some, None, Result, Ok, Err, ◌⊎◌, if◌then◌else◌, IsUtf8, bytes_eq}
use Rattle.toml.specs.Data.{Data, as_integer, Members, no_members, member, get_member}
use Rattle.toml.specs.Parse.{parse_document}
use Rattle.mg_types.specs.declared.faults.Fault.{Fault}
use Rattle.mg_types.specs.declared.faults.Fault.TheVariants as fault
use Rattle.mg_config.specs.declared.settings.SettingRange.{SettingRange}
use Rattle.mg_config.specs.declared.settings.Settings.{Settings}

-- the most bytes of a document
abbrev pub document_limit : ℕ
document_limit = 65536

-- how many partitions there are
abbrev pub partitions_range : SettingRange
partitions_range = record { least = 1; most = 64; default = 1 }

-- how many threads work beside the clients
abbrev pub workers_range : SettingRange
workers_range = record { least = 0; most = 8; default = 2 }

-- the bytes that a memtable may hold before it is frozen
abbrev pub memtable_range : SettingRange
memtable_range = record { least = 1024; most = 16777216; default = 1048576 }

-- how many blocks a cache keeps
abbrev pub cache_range : SettingRange
cache_range = record { least = 0; most = 65536; default = 1024 }

-- the settings where nothing is said of them
abbrev pub default_settings : Settings
default_settings = record {
  partitions = partitions_range.default;
  workers = workers_range.default;
  memtable = memtable_range.default;
  cache = cache_range.default;
}

-- the number is in the range
abbrev pub IsWithin : SettingRange → ℕ → Type 0
IsWithin range n = (range.least ≤ n) × (n ≤ range.most)

-- each of the settings is in its range
pub record AreInRange (settings : Settings) : Type 0 where
  pub partitions : IsWithin partitions_range settings.partitions
  pub workers : IsWithin workers_range settings.workers
  pub memtable : IsWithin memtable_range settings.memtable
  pub cache : IsWithin cache_range settings.cache

-- the bytes are a document that `toml` reads as this table
pub record IsDocumentOf (bytes : List ℕ) (table : Members) : Type 0 where
  pub short : length bytes ≤ document_limit
  pub text : IsUtf8 bytes
  pub reads : parse_document bytes ≡ Some table

-- the key is one of the four
abbrev pub is_known : List ℕ → Bool
is_known key = bytes_eq key (codes "partitions") || bytes_eq key (codes "workers") || bytes_eq key (codes "memtable") || bytes_eq key (codes "cache")

-- each key of the table is one of the four
abbrev pub are_known : Members → Bool
are_known no_members = true
are_known (member key value rest) = is_known key && are_known rest

-- an integer as a number of a range
abbrev pub number_in : SettingRange → ℤ → Option ℕ
number_in range (pos n) = if nat_le range.least n && nat_le n range.most then Some n else None
number_in range (negsuc n) = None

-- what was found of an integer as a number of a range
abbrev pub whole_number : SettingRange → Option ℤ → Option ℕ
whole_number range None = None
whole_number range (Some z) = number_in range z

-- what a look-up found as a whole number of a range, or the default where it found nothing
abbrev pub number_of : SettingRange → Option Data → Option ℕ
number_of range None = Some range.default
number_of range (Some value) = whole_number range (as_integer value)

-- the number that a table gives at a key
abbrev pub number_at : List ℕ → SettingRange → Members → Option ℕ
number_at key range table = number_of range (get_member key table)

-- the number goes on to the rules behind, and where there is none the rule is broken
abbrev pub or_rule : ℕ → Option ℕ → (ℕ → Result Settings Fault) → Result Settings Fault
or_rule at None behind = Err (fault.BadSettings at)
or_rule at (Some n) behind = behind n

-- the settings of a table, or the least rule that it breaks
abbrev pub settings_of : Members → Result Settings Fault
settings_of table =
    if are_known table
    then or_rule 2 (number_at (codes "partitions") partitions_range table) (λ partitions.
    or_rule 3 (number_at (codes "workers") workers_range table) (λ workers.
    or_rule 4 (number_at (codes "memtable") memtable_range table) (λ memtable.
    or_rule 5 (number_at (codes "cache") cache_range table) (λ cache.
    Ok (record { partitions = partitions; workers = workers; memtable = memtable; cache = cache })))))
    else Err (fault.BadSettings 1)

-- the document, where there is one, has these settings
abbrev pub IsAccepted : Option (List ℕ) → Settings → Type 0
IsAccepted None settings = settings ≡ default_settings
IsAccepted (Some bytes) settings = (table : Members) × (IsDocumentOf bytes table × (settings_of table ≡ Ok settings))

-- the document is there and breaks this rule: it is none that `toml` reads, or its table breaks the rule
abbrev pub IsRefused : Option (List ℕ) → Fault → Type 0
IsRefused None f = ⊥
IsRefused (Some bytes) f =
    ((f ≡ fault.BadSettings 0) × ((table : Members) → ¬ (IsDocumentOf bytes table)))
    ⊎ ((table : Members) × (IsDocumentOf bytes table × (settings_of table ≡ Err f)))
