-- What bytes are the body of.
use Rattle.std.specs.Prelude.{◌≡◌, ℕ, Bool, List}
use Rattle.mg_indexed.specs.Footer.{footer_bytes, IsInFields}
use Rattle.mg_indexed.specs.Forms.{Form}
use Rattle.mg_indexed.specs.Index.{index_bytes, IsIndexFrom}
use Rattle.mg_indexed.specs.Keys.{Keys}
use Rattle.mg_indexed.specs.declared.footer.Footer.{Footer}
use Rattle.mg_indexed.specs.declared.handle.BlockHandle.{BlockHandle}

-- bytes are the body of one footer
abbrev pub OneFooter : Type 0
OneFooter = (filtered : Bool) (footer other : Footer) → IsInFields filtered footer → IsInFields filtered other → footer_bytes footer ≡ footer_bytes other → footer ≡ other

-- bytes are the body of one index
abbrev pub OneIndex : {K : Type 0} → Keys K → Form → Type 0
OneIndex {K} keys form = (index other : List (BlockHandle K)) (end end' : ℕ) → IsIndexFrom keys form keys.lowest 0 index end → IsIndexFrom keys form keys.lowest 0 other end'
    → index_bytes keys index ≡ index_bytes keys other → index ≡ other
