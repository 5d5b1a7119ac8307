use Rattle.std.proofs.Common.{◌≡◌, ◌∙◌, List, map, refl}
use Rattle.std.specs.Arc.{arc_value}
use Rattle.std.proofs.lemmas.List.Elements.{same_from_all_zip}
use Rattle.mg_records.specs.Writing.{Filed}
use Rattle.mg_layout.specs.Files.{LayoutFiles, RunFile}
use Rattle.mg_layout.proofs.ZipLaws.{zip_map}
use Rattle.mg_layout.proofs.layout.Layout.share.Goals as goal

-- layouts of the same files are the same
same_files : {S : Type 0} (runs runs' : List (RunFile S)) (segments segments' deletes deletes' : List (Filed S)) → runs ≡ runs' → segments ≡ segments' → deletes ≡ deletes'
    → ◌≡◌ {A = LayoutFiles S} (record { runs = runs; segments = segments; deletes = deletes }) (record { runs = runs'; segments = segments'; deletes = deletes' })
same_files runs runs' segments segments' deletes deletes' r s d = rw (r, s, d) refl

pub returns : goal.returns
returns g c =
    same_files c.in_ok-clone.field-0.items c.self.inside.runs.items (map arc_value c.in_ok-clone-2.field-0.items) (map arc_value c.self.inside.segments.items)
    (map arc_value c.in_ok-clone-3.field-0.items) (map arc_value c.self.inside.deletes.items)
    (same_from_all_zip (λ (run other : RunFile g.row.S.Denot). other ≡ run) c.self.inside.runs.items c.in_ok-clone.field-0.items c.in_ok-clone.ensures.cases.0 (λ x y e. e))
    (zip_map arc_value c.self.inside.segments.items c.in_ok-clone-2.field-0.items c.in_ok-clone-2.ensures.cases.0)
    (zip_map arc_value c.self.inside.deletes.items c.in_ok-clone-3.field-0.items c.in_ok-clone-3.ensures.cases.0)
    ∙ c.self.view_is
