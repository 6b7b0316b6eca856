-- The set's access, within the whole.
use Rattle.std.proofs.Common.{◌<◌, refl, sym, ap, ◌∙◌, subst, arith}
use Rattle.std.specs.Prelude.{◌%◌, ◌==◌, slice_set}
use Rattle.std.specs.List.{list_any}
use Rattle.std.proofs.lemmas.List.{length-set}
use Rattle.strand_exec.specs.Memory.{extents_of}
use Rattle.strand_exec.specs.Plan.{IsWord}
use Rattle.strand_cache.specs.Lists.{lines_after}
use Rattle.strand_cache.specs.Copies.{row_lines, row_of}
use Rattle.strand_cache.specs.Accesses.{cache_line_of}
use Rattle.strand_cache.specs.Coherence.{IsBounded}
use Rattle.strand_cache.specs.Changes.{access_of}
use Rattle.strand_cache.specs.Hits.{shape_of}
use Rattle.strand_cache.specs.Seen.{IsAccess, Seen}
use Rattle.strand_cache.specs.Whole.{IsWhole, flat_memory}
use Rattle.strand_cache.proofs.Memory.Whole.{flat_extents, seen_extents, rows_found, left_whole}
use Rattle.strand_cache.proofs.Lists.Access.{access_is}
use Rattle.std.specs.Vec.{with_item}
use Rattle.strand_cache.specs.contracts.hierarchy.Hierarchy.{the_view}
use Rattle.strand_cache.proofs.hierarchy.Hierarchy.access.Goals as goal

pub access-seen-requires-clause-word : goal.access-seen-requires-clause-word
access-seen-requires-clause-word c =
    let h = c.self.inside in
    let same = seen_extents h.sets h.groups.items h.backing c.args.self.now.memory (ap (λ (v : Seen). v.memory) c.self.view_is) in
    subst (λ x. IsWord x c.args.word) same c.requires.word

pub access-seen-requires-clause-bounded : goal.access-seen-requires-clause-bounded
access-seen-requires-clause-bounded c =
    let h = c.self.inside in
    let whole : IsWhole h.cores h.sets h.ways h.groups.items h.backing = c.self.invariant.0 in
    let old_is = rows_found h.cores h.sets h.ways h.groups.items h.backing c.index_mut-group.result.now c.args.word whole c.index_mut-group.ensures.value in
    let together = whole.coheres (cache_line_of c.args.word % h.sets) (omega (arith, whole.some_sets)) in
    subst (IsBounded h.ways) (sym old_is) (record { short = together.short; low = λ core held a. let p = together.placed core held a in p.1 })

pub invariant_of-self : goal.invariant_of-self
invariant_of-self c =
    let h = c.self.inside in
    let left = left_whole h.cores h.sets h.ways h.groups.items h.backing c.access-seen.new.backing c.args.self.now.memory c.index_mut-group.result.now c.access-seen.new.self c.args.word c.args.change c.access-seen.result.value
    c.self.invariant.0 c.apart.ensures (ap (λ (v : Seen). v.memory) c.self.view_is) c.requires.word c.index_mut-group.ensures.value c.access-seen.ensures.extents c.access-seen.ensures.rows c.access-seen.ensures.accessed in
    (left.0, length-set h.counts.items c.args.core c.counted.result ∙ c.self.invariant.1)

pub returns-clause-value : goal.returns-clause-value
returns-clause-value c =
    let h = c.self.inside in
    let left = left_whole h.cores h.sets h.ways h.groups.items h.backing c.access-seen.new.backing c.args.self.now.memory c.index_mut-group.result.now c.access-seen.new.self c.args.word c.args.change c.access-seen.result.value
    c.self.invariant.0 c.apart.ensures (ap (λ (v : Seen). v.memory) c.self.view_is) c.requires.word c.index_mut-group.ensures.value c.access-seen.ensures.extents c.access-seen.ensures.rows c.access-seen.ensures.accessed in
    left.1

pub returns-clause-memory : goal.returns-clause-memory
returns-clause-memory c =
    let h = c.self.inside in
    let left = left_whole h.cores h.sets h.ways h.groups.items h.backing c.access-seen.new.backing c.args.self.now.memory c.index_mut-group.result.now c.access-seen.new.self c.args.word c.args.change c.access-seen.result.value
    c.self.invariant.0 c.apart.ensures (ap (λ (v : Seen). v.memory) c.self.view_is) c.requires.word c.index_mut-group.ensures.value c.access-seen.ensures.extents c.access-seen.ensures.rows c.access-seen.ensures.accessed in
    left.2

pub returns-clause-extents : goal.returns-clause-extents
returns-clause-extents c =
    let h = c.self.inside in
    let same = seen_extents h.sets h.groups.items h.backing c.args.self.now.memory (ap (λ (v : Seen). v.memory) c.self.view_is) in
    flat_extents h.sets (slice_set h.groups.items (cache_line_of c.args.word % h.sets) c.access-seen.new.self) c.access-seen.new.backing ∙ c.access-seen.ensures.extents ∙ sym same

pub returns-clause-access : goal.returns-clause-access
returns-clause-access c =
    let h = c.self.inside in
    let whole : IsWhole h.cores h.sets h.ways h.groups.items h.backing = c.self.invariant.0 in
    let old_is = rows_found h.cores h.sets h.ways h.groups.items h.backing c.index_mut-group.result.now c.args.word whole c.index_mut-group.ensures.value in
    let same = seen_extents h.sets h.groups.items h.backing c.args.self.now.memory (ap (λ (v : Seen). v.memory) c.self.view_is) in
    let is : IsWord (extents_of h.backing) c.args.word = subst (λ x. IsWord x c.args.word) same c.requires.word in
    subst (λ (v : Seen). IsAccess v (the_view (record { alloc = h.alloc; cores = h.cores; sets = h.sets; ways = h.ways; groups = with_item h.groups (cache_line_of c.args.word % h.sets) c.access-seen.new.self; backing = c.access-seen.new.backing; counts = with_item h.counts c.args.core c.counted.result })) c.args.core c.args.word c.args.change c.access-seen.result.hit) c.self.view_is
    (access_is h.cores h.sets h.ways (flat_memory h.sets h.groups.items h.backing) (flat_memory h.sets (slice_set h.groups.items (cache_line_of c.args.word % h.sets) c.access-seen.new.self) c.access-seen.new.backing)
    h.counts.items (slice_set h.counts.items c.args.core c.counted.result) h.groups.items c.access-seen.new.self c.args.core c.args.word c.args.change c.access-seen.result.hit
    whole.all_sets whole.some_sets whole.some_ways (subst (λ (v : Seen). c.args.core < v.cores) (sym c.self.view_is) c.requires.core)
    (λ k. c.access-seen.ensures.lines h.sets (cache_line_of c.args.word % h.sets) refl k ∙ ap (λ g. lines_after (shape_of h.sets h.ways) (access_of c.args.core c.args.word c.args.change) k (cache_line_of c.args.word % h.sets) (row_lines (row_of g k))) old_is)
    (c.access-seen.ensures.hit ∙ ap (λ g. list_any (λ l. cache_line_of c.args.word == l) (row_lines (row_of g c.args.core))) old_is))
