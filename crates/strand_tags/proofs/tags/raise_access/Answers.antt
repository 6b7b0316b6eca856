use Rattle.std.proofs.Common.{◌≡◌, length, max, ap, ◌∙◌, rules}
use Rattle.std.specs.Prelude.{slice_index, slice_set}
use Rattle.std.proofs.lemmas.List.{get_or_default}
use Rattle.strand_base.specs.declared.limits.TheConstants.{CORE_ROOM}
use Rattle.strand_tags.specs.declared.count_vector.CountVector.{CountVector}
use Rattle.strand_tags.specs.Greater.{no_counts, vector}
use Rattle.strand_tags.proofs.Vectors.{each_is}
use Rattle.strand_tags.proofs.tags.raise_access.Goals as goal

pub returns : goal.returns
returns c =
    let size : length c.greater.result.counts ≡ CORE_ROOM = search rules in
    let before = c.index.ensures ∙ get_or_default c.args.waits.now.items c.args.place c.index.result.now no_counts c.requires in
    ap (λ counts. slice_set c.args.waits.now.items c.args.place (vector counts)) (each_is _ c.greater.result.counts size
    (λ k few. c.greater.ensures k few ∙ ap (λ (v : CountVector). max (slice_index v.counts k) (slice_index c.args.wait.now.counts k)) before))
