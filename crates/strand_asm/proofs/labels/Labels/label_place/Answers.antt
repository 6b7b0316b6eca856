use Rattle.std.proofs.Common.{ap}
use Rattle.std.specs.Str.{bytes_eq}
use Rattle.std.specs.String.{string_bytes}
use Rattle.strand_asm.specs.Layout.{label_place}
use Rattle.strand_asm.proofs.LabelLookup.{lookup-seen}
use Rattle.strand_asm.proofs.labels.Labels.label_place.Goals as goal

pub returns : goal.returns
unfolding label_place
returns c =
    let n = c.args.name.now in
    let seen = lookup-seen string_bytes (bytes_eq n) c.self.inside.places.entries in
    let same_place = ap (λ ls. label_place ls n) c.self.view_is in
    let got = c.get.ensures.value in
    let copied = c.copied.ensures in
    cc
