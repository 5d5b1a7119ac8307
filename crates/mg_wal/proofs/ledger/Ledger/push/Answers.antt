use Rattle.std.proofs.Common.{◌≡◌, ℕ, List, Option, Some, length, get_or, sym, subst, ◌∙◌, ◌+◌, ◌<◌, ◌^◌, ◌-◌, arith}
use Rattle.std.proofs.lemmas.Grind.{common_steps}
use Rattle.std.proofs.lemmas.List.{get_or_default}
use Rattle.std.specs.Option.{ForSome}
use Rattle.mg_wal.specs.Book.{IsReady}
use Rattle.mg_wal.proofs.ledger.Ledger.push.Goals as goal

-- the staged partition is one for which there is room
ready : (last : ℕ) (counts : List ℕ) (part place : ℕ) (staged taken : Option ℕ) → ForSome staged (IsReady last counts) → taken ≡ staged → taken ≡ Some part → place ≡ part → IsReady last counts place
ready last counts part place staged taken has was some at = subst (IsReady last counts) (sym at) (has part (sym was ∙ some))

fits : (counts : List ℕ) (place count : ℕ) → place < length counts → get_or counts place 0 < 2 ^ 62 - 1 → count ≡ get_or counts place count → count + 1 < 2 ^ 64
fits counts place count within small is = omega (arith, is ∙ get_or_default counts place count 0 within)

pub index_mut-requires : goal.index_mut-requires
index_mut-requires c = grind (arith, common_steps, (ready _ _ _ _ _ _ c.args.self.now.ready c.take.ensures.value c.unwrap.ensures c.from-part.ensures).0)

pub overflow_add-index_mut : goal.overflow_add-index_mut
overflow_add-index_mut c =
    let is_ready = ready _ _ _ _ _ _ c.args.self.now.ready c.take.ensures.value c.unwrap.ensures c.from-part.ensures in
    omega (arith, fits _ _ _ is_ready.0 is_ready.2 c.index_mut.ensures.value)
