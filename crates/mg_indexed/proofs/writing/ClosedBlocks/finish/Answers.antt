use Rattle.std.proofs.Common.{◌≡◌, ◌≢◌, ◌+◌, ◌<◌, ◌^◌, ◌∙◌, ◌++◌, ◌∷◌, ℕ, [], List, length, refl, sym, ap, subst, arith, IfSome}
use Rattle.std.specs.List.{All}
use Rattle.mg_frame.specs.Frames.{numbered_frames}
use Rattle.mg_sealed.specs.Writing.{HasFrames}
use Rattle.mg_sealed.proofs.AnswerLaws.{some_then}
use Rattle.mg_indexed.specs.Footer.{footer_bytes}
use Rattle.mg_indexed.specs.Index.{index_bytes}
use Rattle.mg_indexed.specs.Loading.{IsIndexed}
use Rattle.mg_indexed.specs.Writing.{file_bodies, filter_frames, Closed}
use Rattle.mg_indexed.specs.declared.footer.Footer.{Footer}
use Rattle.mg_indexed.specs.declared.handle.BlockHandle.{BlockHandle}
use Rattle.mg_indexed.proofs.HandleLaws.{firsts_fit, least-index_bytes}
use Rattle.mg_indexed.proofs.WritingLaws.{bodies_are, finished, kept, most_length, said_is, short_footer}
use Rattle.mg_indexed.proofs.writing.ClosedBlocks.finish.Goals as goal

pub put_index-requires-clause-fits : goal.put_index-requires-clause-fits
put_index-requires-clause-fits g c =
    let keys = g.K.BlockKey.keys in
    subst (λ (hs : List (BlockHandle g.row.K.Denot)). All (λ (handle : BlockHandle g.row.K.Denot). keys.fits handle.first) hs) (sym c.as_slice.ensures)
    (firsts_fit keys g.T.BlockItem.form g.met.K.BlockKey.lawful keys.lowest 0 c.self.inside.index c.self.inside.frames.len c.self.invariant.0.right)

pub put_index-requires-clause-room : goal.put_index-requires-clause-room
put_index-requires-clause-room g c =
    let keys = g.K.BlockKey.keys in
    let closed : Closed g.row.D.Denot g.row.K.Denot = record { frames = c.self.inside.frames; index = c.self.inside.index } in
    let is = c.self.invariant.0 in
    let bytes : index_bytes keys c.as_slice.result.now ≡ index_bytes keys c.self.inside.index = ap (index_bytes keys) c.as_slice.ensures in
    omega (arith, most_length keys g.T.BlockItem.form closed is, is.few, ap length bytes)

pub put_filter-requires-clause-room : goal.put_filter-requires-clause-room
put_filter-requires-clause-room g c =
    let keys = g.K.BlockKey.keys in
    let closed : Closed g.row.D.Denot g.row.K.Denot = record { frames = c.self.inside.frames; index = c.self.inside.index } in
    let is = c.self.invariant.0 in
    let bytes : index_bytes keys c.as_slice.result.now ≡ index_bytes keys c.self.inside.index = ap (index_bytes keys) c.as_slice.ensures in
    omega (arith, most_length keys g.T.BlockItem.form closed is, is.few, ap length bytes, c.in_ok-index_at.ensures.len, c.requires.filter)

pub overflow_cast-footer : goal.overflow_cast-footer
overflow_cast-footer g c =
    let keys = g.K.BlockKey.keys in
    let small : c.len.result < 2 ^ 32 = omega (arith, least-index_bytes keys c.self.inside.index, c.self.invariant.0.few, c.len.ensures) in
    record { fits = small }

pub append_frame-requires-clause-body : goal.append_frame-requires-clause-body
append_frame-requires-clause-body g c =
    let footer : Footer = record { count = c.args.summary.now.count; sum = c.args.summary.now.sum; low = c.args.summary.now.low; high = c.args.summary.now.high; index_at = c.in_ok-index_at.index_at; filter_at = c.in_ok-filter_at.filter_at; blocks = c.len.result } in
    let short = short_footer c.has_filter.result footer c.put_index.new.frames.len c.deref.result.now (c.deref.ensures.value ∙ c.in_ok-footer_body.ensures) c.in_ok-filter_at.ensures.place in
    omega (arith, short)

pub append_frame-requires-clause-room : goal.append_frame-requires-clause-room
append_frame-requires-clause-room g c =
    let keys = g.K.BlockKey.keys in
    let form = g.T.BlockItem.form in
    let inside = c.self.inside in
    let closed : Closed g.row.D.Denot g.row.K.Denot = record { frames = inside.frames; index = inside.index } in
    let is = c.self.invariant.0 in
    let bytes : index_bytes keys c.as_slice.result.now ≡ index_bytes keys inside.index = ap (index_bytes keys) c.as_slice.ensures in
    let footer : Footer = record { count = c.args.summary.now.count; sum = c.args.summary.now.sum; low = c.args.summary.now.low; high = c.args.summary.now.high; index_at = c.in_ok-index_at.index_at; filter_at = c.in_ok-filter_at.filter_at; blocks = c.len.result } in
    let short = short_footer c.has_filter.result footer c.put_index.new.frames.len c.deref.result.now (c.deref.ensures.value ∙ c.in_ok-footer_body.ensures) c.in_ok-filter_at.ensures.place in
    omega (arith, short, most_length keys form closed is, is.few, ap length bytes, c.in_ok-index_at.ensures.len, c.in_ok-filter_at.ensures.len, c.requires.filter)

pub invariant_of-result : goal.invariant_of-result
invariant_of-result g c =
    let keys = g.K.BlockKey.keys in
    let form = g.T.BlockItem.form in
    let inside = c.self.inside in
    let closed : Closed g.row.D.Denot g.row.K.Denot = record { frames = inside.frames; index = inside.index } in
    let is = c.self.invariant.0 in
    let bytes : index_bytes keys c.as_slice.result.now ≡ index_bytes keys inside.index = ap (index_bytes keys) c.as_slice.ensures in
    let footer : Footer = record { count = c.args.summary.now.count; sum = c.args.summary.now.sum; low = c.args.summary.now.low; high = c.args.summary.now.high; index_at = c.in_ok-index_at.index_at; filter_at = c.in_ok-filter_at.filter_at; blocks = c.len.result } in
    let said = said_is keys closed c.args.summary.now c.has_filter.result form.filtered c.in_ok-index_at.index_at c.in_ok-filter_at.filter_at c.len.result c.put_index.new.frames.len footer refl
    c.in_ok-index_at.ensures.place c.in_ok-filter_at.ensures.place c.has_filter.ensures
    (c.in_ok-index_at.ensures.len ∙ ap (λ (xs : List ℕ). inside.frames.len + length xs + 20) bytes) c.len.ensures in
    let some : inside.index ≢ [] = λ none. c.requires.some (sym (ap (λ (w : Closed g.row.D.Denot g.row.K.Denot). w.index) c.self.view_is) ∙ none) in
    kept keys form closed c.args.summary.now footer is some c.requires.summary said

pub returns-clause-kept : goal.returns-clause-kept
returns-clause-kept g c =
    let keys = g.K.BlockKey.keys in
    let form = g.T.BlockItem.form in
    let inside = c.self.inside in
    let closed : Closed g.row.D.Denot g.row.K.Denot = record { frames = inside.frames; index = inside.index } in
    let is = c.self.invariant.0 in
    let bytes : index_bytes keys c.as_slice.result.now ≡ index_bytes keys inside.index = ap (index_bytes keys) c.as_slice.ensures in
    let footer : Footer = record { count = c.args.summary.now.count; sum = c.args.summary.now.sum; low = c.args.summary.now.low; high = c.args.summary.now.high; index_at = c.in_ok-index_at.index_at; filter_at = c.in_ok-filter_at.filter_at; blocks = c.len.result } in
    let said = said_is keys closed c.args.summary.now c.has_filter.result form.filtered c.in_ok-index_at.index_at c.in_ok-filter_at.filter_at c.len.result c.put_index.new.frames.len footer refl
    c.in_ok-index_at.ensures.place c.in_ok-filter_at.ensures.place c.has_filter.ensures
    (c.in_ok-index_at.ensures.len ∙ ap (λ (xs : List ℕ). inside.frames.len + length xs + 20) bytes) c.len.ensures in
    let some : inside.index ≢ [] = λ none. c.requires.some (sym (ap (λ (w : Closed g.row.D.Denot g.row.K.Denot). w.index) c.self.view_is) ∙ none) in
    kept keys form closed c.args.summary.now footer is some c.requires.summary said

pub returns-clause-bytes : goal.returns-clause-bytes
returns-clause-bytes g c = λ bodies has.
    let keys = g.K.BlockKey.keys in
    let form = g.T.BlockItem.form in
    let inside = c.self.inside in
    let closed : Closed g.row.D.Denot g.row.K.Denot = record { frames = inside.frames; index = inside.index } in
    let is = c.self.invariant.0 in
    let bytes : index_bytes keys c.as_slice.result.now ≡ index_bytes keys inside.index = ap (index_bytes keys) c.as_slice.ensures in
    let footer : Footer = record { count = c.args.summary.now.count; sum = c.args.summary.now.sum; low = c.args.summary.now.low; high = c.args.summary.now.high; index_at = c.in_ok-index_at.index_at; filter_at = c.in_ok-filter_at.filter_at; blocks = c.len.result } in
    let drafted = g.F.Files.drafted in
    let put = subst (λ (w : Closed g.row.D.Denot g.row.K.Denot). HasFrames drafted w.frames bodies) (sym c.self.view_is) has in
    let one = bodies ++ index_bytes keys c.as_slice.result.now ∷ [] in
    let two = one ++ filter_frames c.has_filter.result c.args.filter.now in
    let all = two ++ c.deref.result.now ∷ [] in
    let sealed = c.in_ok-append_frame.ensures.frames two (c.in_ok-filter_at.ensures.frames one (c.in_ok-index_at.ensures.frames bodies put)) in
    let same = bodies_are bodies (index_bytes keys c.as_slice.result.now) (index_bytes keys c.args.self.index) c.has_filter.result form.filtered c.args.filter.now c.deref.result.now (footer_bytes footer)
    (bytes ∙ ap (λ (w : Closed g.row.D.Denot g.row.K.Denot). index_bytes keys w.index) c.self.view_is) c.has_filter.ensures (c.deref.ensures.value ∙ c.in_ok-footer_body.ensures) in
    subst (λ (bs : List (List ℕ)). IfSome (g.F.Files.told c.in_ok-file.file.file) (λ bytes. bytes ≡ numbered_frames bs)) same (c.in_ok-file.ensures.frames all sealed)

pub returns-clause-len : goal.returns-clause-len
returns-clause-len g c = λ bodies has.
    let keys = g.K.BlockKey.keys in
    let form = g.T.BlockItem.form in
    let inside = c.self.inside in
    let closed : Closed g.row.D.Denot g.row.K.Denot = record { frames = inside.frames; index = inside.index } in
    let is = c.self.invariant.0 in
    let bytes : index_bytes keys c.as_slice.result.now ≡ index_bytes keys inside.index = ap (index_bytes keys) c.as_slice.ensures in
    let footer : Footer = record { count = c.args.summary.now.count; sum = c.args.summary.now.sum; low = c.args.summary.now.low; high = c.args.summary.now.high; index_at = c.in_ok-index_at.index_at; filter_at = c.in_ok-filter_at.filter_at; blocks = c.len.result } in
    let drafted = g.F.Files.drafted in
    let put = subst (λ (w : Closed g.row.D.Denot g.row.K.Denot). HasFrames drafted w.frames bodies) (sym c.self.view_is) has in
    let one = bodies ++ index_bytes keys c.as_slice.result.now ∷ [] in
    let two = one ++ filter_frames c.has_filter.result c.args.filter.now in
    let all = two ++ c.deref.result.now ∷ [] in
    let sealed = c.in_ok-append_frame.ensures.frames two (c.in_ok-filter_at.ensures.frames one (c.in_ok-index_at.ensures.frames bodies put)) in
    let same = bodies_are bodies (index_bytes keys c.as_slice.result.now) (index_bytes keys c.args.self.index) c.has_filter.result form.filtered c.args.filter.now c.deref.result.now (footer_bytes footer)
    (bytes ∙ ap (λ (w : Closed g.row.D.Denot g.row.K.Denot). index_bytes keys w.index) c.self.view_is) c.has_filter.ensures (c.deref.ensures.value ∙ c.in_ok-footer_body.ensures) in
    c.in_ok-file.ensures.len ∙ sealed.len ∙ ap (λ (bs : List (List ℕ)). length (numbered_frames bs)) same

pub returns-clause-indexed : goal.returns-clause-indexed
returns-clause-indexed g c = λ bodies has.
    let keys = g.K.BlockKey.keys in
    let form = g.T.BlockItem.form in
    let inside = c.self.inside in
    let closed : Closed g.row.D.Denot g.row.K.Denot = record { frames = inside.frames; index = inside.index } in
    let is = c.self.invariant.0 in
    let bytes : index_bytes keys c.as_slice.result.now ≡ index_bytes keys inside.index = ap (index_bytes keys) c.as_slice.ensures in
    let footer : Footer = record { count = c.args.summary.now.count; sum = c.args.summary.now.sum; low = c.args.summary.now.low; high = c.args.summary.now.high; index_at = c.in_ok-index_at.index_at; filter_at = c.in_ok-filter_at.filter_at; blocks = c.len.result } in
    let said = said_is keys closed c.args.summary.now c.has_filter.result form.filtered c.in_ok-index_at.index_at c.in_ok-filter_at.filter_at c.len.result c.put_index.new.frames.len footer refl
    c.in_ok-index_at.ensures.place c.in_ok-filter_at.ensures.place c.has_filter.ensures
    (c.in_ok-index_at.ensures.len ∙ ap (λ (xs : List ℕ). inside.frames.len + length xs + 20) bytes) c.len.ensures in
    let some : inside.index ≢ [] = λ none. c.requires.some (sym (ap (λ (w : Closed g.row.D.Denot g.row.K.Denot). w.index) c.self.view_is) ∙ none) in
    let drafted = g.F.Files.drafted in
    let put = subst (λ (w : Closed g.row.D.Denot g.row.K.Denot). HasFrames drafted w.frames bodies) (sym c.self.view_is) has in
    let one = bodies ++ index_bytes keys c.as_slice.result.now ∷ [] in
    let two = one ++ filter_frames c.has_filter.result c.args.filter.now in
    let all = two ++ c.deref.result.now ∷ [] in
    let sealed = c.in_ok-append_frame.ensures.frames two (c.in_ok-filter_at.ensures.frames one (c.in_ok-index_at.ensures.frames bodies put)) in
    let same = bodies_are bodies (index_bytes keys c.as_slice.result.now) (index_bytes keys inside.index) c.has_filter.result form.filtered c.args.filter.now c.deref.result.now (footer_bytes footer)
    bytes c.has_filter.ensures (c.deref.ensures.value ∙ c.in_ok-footer_body.ensures) in
    let all' = file_bodies keys form.filtered bodies inside.index c.args.filter.now footer in
    let long : c.in_ok-file.file.len ≡ length (numbered_frames all') = c.in_ok-file.ensures.len ∙ sealed.len ∙ ap (λ (bs : List (List ℕ)). length (numbered_frames bs)) same in
    some_then (g.F.Files.told c.in_ok-file.file.file) (λ bytes. bytes ≡ numbered_frames all)
    (λ bytes. IsIndexed keys form bytes footer inside.index × (length bytes ≡ c.in_ok-file.file.len))
    (λ bytes spelled. (
      finished keys form drafted closed c.args.summary.now c.args.filter.now footer bodies bytes is some c.requires.summary said put (spelled ∙ ap numbered_frames same),
      ap length (spelled ∙ ap numbered_frames same) ∙ sym long,
    )) (c.in_ok-file.ensures.frames all sealed)

pub returns-clause-small : goal.returns-clause-small
returns-clause-small g c =
    let keys = g.K.BlockKey.keys in
    let inside = c.self.inside in
    let closed : Closed g.row.D.Denot g.row.K.Denot = record { frames = inside.frames; index = inside.index } in
    let is = c.self.invariant.0 in
    let bytes : index_bytes keys c.as_slice.result.now ≡ index_bytes keys inside.index = ap (index_bytes keys) c.as_slice.ensures in
    let footer : Footer = record { count = c.args.summary.now.count; sum = c.args.summary.now.sum; low = c.args.summary.now.low; high = c.args.summary.now.high; index_at = c.in_ok-index_at.index_at; filter_at = c.in_ok-filter_at.filter_at; blocks = c.len.result } in
    let short = short_footer c.has_filter.result footer c.put_index.new.frames.len c.deref.result.now (c.deref.ensures.value ∙ c.in_ok-footer_body.ensures) c.in_ok-filter_at.ensures.place in
    omega (arith, c.in_ok-file.ensures.len, c.in_ok-append_frame.ensures.len, short, most_length keys g.T.BlockItem.form closed is, is.few, ap length bytes, c.in_ok-index_at.ensures.len, c.in_ok-filter_at.ensures.len, c.requires.filter)
