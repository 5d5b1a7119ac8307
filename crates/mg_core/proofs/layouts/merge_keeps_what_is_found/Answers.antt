use Rattle.mg_core.proofs.ReadLemmas.{kept_is_found}
use Rattle.mg_core.proofs.layouts.merge_keeps_what_is_found.Goals as goal

pub returns : goal.returns
returns c = λ inputs hi lo e a s h. kept_is_found hi lo inputs e s a h
