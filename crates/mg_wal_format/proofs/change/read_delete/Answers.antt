use Rattle.std.proofs.Common.{◌∙◌, []}
use Rattle.mg_wal_format.proofs.ReadingLaws.{none_is_not_some, not_empty}
use Rattle.mg_wal_format.proofs.SpellingLaws.{delete_parts}
use Rattle.mg_wal_format.proofs.change.read_delete.Goals as goal

pub returns-in_default-clause-read : goal.returns-in_default-clause-read
returns-in_default-clause-read c = (
  tt,
  λ what fits spelled.
      let parts = delete_parts what fits in
      absurd (none_is_not_some c.in_ok-key.field-0 c.in_default.is (c.in_ok-key.ensures.written parts.0 [] parts.1 (spelled ∙ parts.3)).0),
)

pub returns-then-not-is_empty-clause-read : goal.returns-then-not-is_empty-clause-read
returns-then-not-is_empty-clause-read c = (
  tt,
  λ what fits spelled.
      let parts = delete_parts what fits in
      let split = rw c.in-Some.is at (c.in_ok-key.ensures.written parts.0 [] parts.1 (spelled ∙ parts.3)).1 in
      absurd (not_empty c.in-Some.rest.now c.if-not-is_empty.ensures split.1),
)
