use Rattle.std.proofs.Common.{◌∙◌, inl, inr, arith, refl, sym}
use Rattle.std.specs.Prelude.{IsTrue}
use Rattle.mg_recover.specs.Refusals.{IsStoreRefused}
use Rattle.mg_wal.specs.Strays.{OpensWithStray}
use Rattle.mg_run.proofs.HostLaws.{ran_to, why_refused}
use Rattle.mg_run.proofs.hosted.run_volume.Goals as goal

pub returns-in-Ok : goal.returns-in-Ok
returns-in-Ok g c =
    let it = c.in-Ok.ensures.stands in
    rw (sym c.in-Ok.ensures.kept) (inl (record {
      basis = it.0;
      parts_are = sym it.1.books.parts ∙ c.in-Ok.ensures.parts;
      found = λ tells.
          let opened = c.in-Ok.ensures.opened tells in
          record {
            found = (it.2 tells).0;
            opened = record {
              logs = opened.logs;
              recs = opened.recs;
              opens = opened.opens;
              whole = opened.whole;
              made = opened.made;
              led = λ part within. sym (it.1.states part (omega (arith, within, c.in-Ok.ensures.parts))) ∙ opened.led part within;
            };
          };
      synced = c.serve-vol.result.synced;
      ran = ran_to _ it.0 _ _ _ _ _ _ _ _ _ _ _ _ _ (λ first answers keeps tells. keeps tells (it.2 tells).1) (λ first answers lasts tells. lasts tells (it.2 tells).1)
          (c.serve-vol.ensures it.0 (g.V.Volume.view c.args.vol).moment it.1 (omega (arith, it.3)));
    }))

pub returns-in-Err : goal.returns-in-Err
returns-in-Err g c =
    let e = c.in-Err.ensures in
    inr (
      c.in-Err.field-0.fault,
      refl,
      record {
        later = e.cause.0;
        once = e.once;
        text = refl;
        sink = refl;
        why = why_refused c.args.parts _ _ (IsTrue g.V.Volume.tells → OpensWithStray c.args.parts (g.V.Volume.view c.args.vol).contents)
            (λ f. IsTrue g.V.Volume.tells → IsStoreRefused c.args.parts (g.V.Volume.view c.args.vol).contents f) c.in-Err.field-0.fault e.kinds e.cause.1
            (λ write tells. e.wrote tells write) (λ refusal tells. e.refused tells refusal);
      },
      λ tells. e.back tells,
    )
