use Rattle.std.proofs.Common.{◌≡◌, drop}
use Rattle.mg_manifest_format.specs.Flaws.{first_flaw, file_flaw}
use Rattle.mg_manifest_format.proofs.flaws.check_files.Given as goal

-- what is wrong with those that are left is what is wrong with all
abbrev pub invariant-loop-file : goal.invariant-loop-file
invariant-loop-file l = first_flaw (file_flaw l.next) (drop l.file-index l.files) ≡ first_flaw (file_flaw l.next) l.files
