use Rattle.std.proofs.Common.{◌≡◌, length, List, ℕ, subst, take}
use Rattle.mg_wal.specs.Findings.{IsSize}
use Rattle.mg_wal.proofs.FindLaws.{size_read}
use Rattle.mg_wal.proofs.StoryLaws.{of_named_value}
use Rattle.mg_wal.proofs.finding.first_size.Goals as goal

pub returns-clause-size : goal.returns-clause-size
returns-clause-size g c tells =
    size_read (g.V.Volume.view c.args.vol.now).contents (g.V.Volume.view c.log_len.new.self).contents c.args.number c.in_ok-len.len c.in_ok-header.header.items c.size_by.result
    (c.log_len.ensures.stays tells).contents (c.requires.there tells)
    (of_named_value c.log_len.result c.map_err.result c.in_ok-len.len _ _ c.map_err.ensures.cases c.map_err.ensures.variant c.in_ok-len.was (rw c.log_name-name.ensures at c.log_len.ensures.len tells)) (rw c.log_name-name.ensures at c.in_ok-header.ensures.bytes tells)
    (subst (λ (header : List ℕ). (bytes : List ℕ) → c.in_ok-len.len ≡ length bytes → header ≡ take 12 bytes → IsSize c.args.number bytes c.size_by.result) c.deref.ensures.value c.size_by.ensures)
