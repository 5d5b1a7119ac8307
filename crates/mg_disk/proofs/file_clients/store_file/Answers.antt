use Rattle.std.proofs.Common.{◌∙◌, ap}
use Rattle.mg_disk.specs.Hosts.{HostState}
use Rattle.mg_disk.proofs.file_clients.store_file.Goals as goal

pub returns-clause-kept : goal.returns-clause-kept
returns-clause-kept g c tells before after was now there =
    let same = ap (λ (s : HostState g.row.H-Vol.Denot). s.inside c.args.n) c.write_through.ensures.same in
    c.adopt_in.ensures.kept tells before after (same ∙ was) now there
