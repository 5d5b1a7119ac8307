use Rattle.std.proofs.Common.{◌≡◌, ◌≤◌, ◌+◌, ◌<◌, ℕ, ap, arith, length, slice_index_or}
use Rattle.std.proofs.lemmas.Grind.{common_steps}
use Rattle.mg_indexed.specs.NumberKeys.{number_keys}
use Rattle.mg_indexed.specs.NumberKeyLaws.{number_lawful}
use Rattle.mg_indexed.specs.declared.handle.BlockHandle.{BlockHandle}
use Rattle.mg_indexed.proofs.IndexLaws.{above_previous, near, rising}
use Rattle.mg_records.proofs.HandleLaws.{last_first}
use Rattle.mg_records.proofs.file.RecordFile.span.Goals as goal
use Rattle.mg_records.proofs.file.RecordFile.span.Goals.{in-Some, in-None}

pub returns-clause-first : goal.returns-clause-first
returns-clause-first g c =
    let index = c.self.inside.indexed.index in
    let d : BlockHandle ℕ = record { first = 0; at = 0; len = 0 } in
    let within : c.args.number < length index = grind (arith, common_steps) in
    let is = ap (λ hs. (slice_index_or hs c.args.number d).first) c.handles-handles.ensures.handles in
    omega (arith, above_previous number_keys g.R.BlockItem.form number_lawful 0 0 index _ c.self.invariant.whole.right c.args.number d within, is)

pub returns-clause-order : goal.returns-clause-order
returns-clause-order g c =
    let index = c.self.inside.indexed.index in
    let d : BlockHandle ℕ = record { first = 0; at = 0; len = 0 } in
    let number = c.args.number in
    let within : number < length index = grind (arith, common_steps) in
    let is = ap (λ hs. (slice_index_or hs number d).first) c.handles-handles.ensures.handles in
    elim c.match-get.branch [
      | in-Some w ↦
          (let more : number + 1 < length index = grind (arith, common_steps) in
          let next : c.match-get.end ≡ (slice_index_or index (number + 1) d).first = grind (arith, common_steps) in
          omega (arith, rising number_keys g.R.BlockItem.form number_lawful 0 0 index _ c.self.invariant.whole.right number (number + 1) d (omega arith) more, is, next))
      | in-None w ↦
          (let ends : length index ≤ number + 1 = grind (arith, common_steps) in
          let last : c.match-get.end ≡ c.self.inside.indexed.footer.high + 1 = grind (arith, common_steps) in
          omega (arith, last_first 0 index number d within ends, is, last, c.self.invariant.agrees.last))
    ]

pub returns-clause-at : goal.returns-clause-at
returns-clause-at g c =
    let index = c.self.inside.indexed.index in
    let d : BlockHandle ℕ = record { first = 0; at = 0; len = 0 } in
    let within : c.args.number < length index = grind (arith, common_steps) in
    let is = ap (λ hs. (slice_index_or hs c.args.number d).at) c.handles-handles.ensures.handles in
    omega (arith, near number_keys g.R.BlockItem.form 0 0 index _ c.self.invariant.whole.right c.args.number d within, is)
