use Rattle.std.proofs.Common.{◌≡◌, ℕ, ◌<◌, ◌^◌, List, ◌++◌, length, Some, sym, ap, ◌∙◌, arith, rules}
use Rattle.mg_frame.specs.BigEndian.{big_endian}
use Rattle.mg_wal_format.specs.declared.head.Head.{Head}
use Rattle.mg_wal_format.specs.Heads.{head_bytes, numbers_bytes, IsHead}
use Rattle.mg_wal_format.proofs.SpellingLaws.{length-numbers_bytes, one_head}
use Rattle.mg_wal_format.proofs.head.split_head.Goals as goal

pub returns-then-rest-from-clause-read : goal.returns-then-rest-from-clause-read
unfolding head_bytes
returns-then-rest-from-clause-read c = (
  tt,
  λ head fits is.
      let format = (c.in-Some.ensures.written 1 _ (omega arith) is).1 in
      let first = (c.in-Some-split_u64.ensures.written head.first _ fits.first format.1).1 in
      let parts = (c.in-Some-split_u16.ensures.written (length head.before) _ fits.parts first.1).1 in
      absurd (c.if-rest-from.true (omega (arith, ap length parts.1, length-numbers_bytes head.before, parts.0, c.from.ensures))),
)

pub returns-clause-read : goal.returns-clause-read
unfolding head_bytes
returns-clause-read c =
    let first = c.in-Some-split_u64.first in
    let before = c.in_ok-before.before in
    let found : Head = record { first = first; before = before } in
    let first_fits : first < 2 ^ 64 = search (rules, c.split_u64.type_inv) in
    let count_fits : c.in-Some-split_u16.count < 2 ^ 16 = search (rules, c.split_u16.type_inv) in
    let count : c.in-Some-split_u16.count ≡ length before = omega (arith, ap length c.in_ok-before.ensures.read.1, length-numbers_bytes before, c.if-rest-from.false, c.from.ensures) in
    let fits : IsHead found = record { first = first_fits; parts = omega (arith, count, count_fits); before = c.in_ok-before.ensures.read.0 } in
    let is : c.args.body.now ≡ head_bytes found =
    c.in-Some.ensures.split
    ∙ ap (λ (n : ℕ). big_endian 1 n ++ c.in-Some.rest.now) c.if-format-ne-FORMAT.false
    ∙ ap (λ (l : List ℕ). big_endian 1 1 ++ l) (c.in-Some-split_u64.ensures.split
    ∙ ap (λ (l : List ℕ). big_endian 8 first ++ l) (c.in-Some-split_u16.ensures.split
    ∙ ap (λ (l : List ℕ). big_endian 2 c.in-Some-split_u16.count ++ l) c.in_ok-before.ensures.read.1
    ∙ ap (λ (n : ℕ). big_endian 2 n ++ numbers_bytes before) count)) in
    ((fits, is), λ head fits' is'. ap (λ (h : Head). Some h) (one_head found head fits fits' (sym is ∙ is')))
