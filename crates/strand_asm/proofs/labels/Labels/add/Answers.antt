use Rattle.std.proofs.Common.{◌≡◌, ◌++◌, ◌∷◌, [], None, sym, ap, ◌∙◌, map}
use Rattle.std.specs.Map.{lookup}
use Rattle.std.specs.Str.{bytes_eq}
use Rattle.std.specs.String.{string_bytes, string_eq}
use Rattle.indexmap.proofs.CallerLemmas.{insert_entry-new}
use Rattle.strand_asm.specs.Layout.{label_place}
use Rattle.strand_asm.proofs.LabelLookup.{seen, lookup-seen, map-seen-push, from_ok}
use Rattle.strand_asm.proofs.labels.Labels.add.Goals as goal

pub returns : goal.returns
unfolding label_place
returns c =
    let n = c.args.name.now in
    let places = c.self.inside.places in
    let key : string_bytes c.in-Ok.name ≡ n = c.in-Ok.ensures.ok in
    let by_bytes = lookup-seen string_bytes (bytes_eq (string_bytes c.in-Ok.name)) places.entries in
    let absent : label_place c.args.self.now (string_bytes c.in-Ok.name) ≡ None = ap (label_place c.args.self.now) key ∙ c.requires in
    let none : lookup (λ k. bytes_eq (string_bytes c.in-Ok.name) (string_bytes k)) places.entries ≡ None = by_bytes ∙ ap (λ ls. label_place ls (string_bytes c.in-Ok.name)) c.self.view_is ∙ absent in
    let last = insert_entry-new string_eq places c.in-Ok.name c.args.place none in
    let entries = from_ok c.insert.result _ (sym c.is_err.ensures.value ∙ c.if-is_err.false) c.insert.ensures.entries in
    ap (map (seen string_bytes)) (entries ∙ last) ∙ map-seen-push string_bytes places.entries c.in-Ok.name c.args.place ∙ ap (λ ls. ls ++ (string_bytes c.in-Ok.name, c.args.place) ∷ []) c.self.view_is ∙ ap (λ k. c.args.self.now ++ (k, c.args.place) ∷ []) key
