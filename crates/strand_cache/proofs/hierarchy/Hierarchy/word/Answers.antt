-- The word that the set's rows and the backing memory show is the flat memory's.
use Rattle.std.proofs.Common.{◌≡◌, Some, None, sym, ap, ◌∙◌, subst}
use Rattle.std.specs.Prelude.{◌%◌}
use Rattle.strand_exec.specs.Memory.{extents_of, word_in}
use Rattle.strand_exec.specs.Plan.{IsWord}
use Rattle.strand_cache.specs.Copies.{owned}
use Rattle.strand_cache.specs.Accesses.{cache_line_of, line_place}
use Rattle.strand_cache.specs.Seen.{Seen}
use Rattle.strand_cache.specs.Whole.{IsWhole, group_of, owned_word}
use Rattle.strand_cache.proofs.Memory.Whole.{seen_extents, rows_found, flat_word}
use Rattle.strand_cache.proofs.hierarchy.Hierarchy.word.Goals as goal

pub read-requires : goal.read-requires
read-requires c =
    let h = c.self.inside in
    let same = seen_extents h.sets h.groups.items h.backing c.args.self.now.memory (ap (λ (v : Seen). v.memory) c.self.view_is) in
    subst (λ x. IsWord x c.args.word) same c.requires

pub returns-in-Some : goal.returns-in-Some
returns-in-Some c =
    let h = c.self.inside in
    let whole : IsWhole h.cores h.sets h.ways h.groups.items h.backing = c.self.invariant.0 in
    let group = rows_found h.cores h.sets h.ways h.groups.items h.backing c.index-group.result.now c.args.word whole c.index-group.ensures in
    let found : owned (cache_line_of c.args.word) (group_of h.groups.items (cache_line_of c.args.word % h.sets)) ≡ Some c.in-Some.held = ap (owned (cache_line_of c.args.word)) (sym group) ∙ sym c.owned.ensures ∙ c.in-Some.is in
    let same = seen_extents h.sets h.groups.items h.backing c.args.self.now.memory (ap (λ (v : Seen). v.memory) c.self.view_is) in
    let is : IsWord (extents_of h.backing) c.args.word = subst (λ x. IsWord x c.args.word) same c.requires in
    sym (ap (λ o. owned_word o (line_place c.args.word) (word_in h.backing c.args.word)) found) ∙ sym (flat_word h.sets h.groups.items h.backing c.args.word c.apart.ensures is) ∙ ap (λ (v : Seen). word_in v.memory c.args.word) c.self.view_is

pub returns-in-None : goal.returns-in-None
returns-in-None c =
    let h = c.self.inside in
    let whole : IsWhole h.cores h.sets h.ways h.groups.items h.backing = c.self.invariant.0 in
    let group = rows_found h.cores h.sets h.ways h.groups.items h.backing c.index-group.result.now c.args.word whole c.index-group.ensures in
    let found : owned (cache_line_of c.args.word) (group_of h.groups.items (cache_line_of c.args.word % h.sets)) ≡ None = ap (owned (cache_line_of c.args.word)) (sym group) ∙ sym c.owned.ensures ∙ c.in-None.is in
    let same = seen_extents h.sets h.groups.items h.backing c.args.self.now.memory (ap (λ (v : Seen). v.memory) c.self.view_is) in
    let is : IsWord (extents_of h.backing) c.args.word = subst (λ x. IsWord x c.args.word) same c.requires in
    c.read.ensures ∙ sym (ap (λ o. owned_word o (line_place c.args.word) (word_in h.backing c.args.word)) found) ∙ sym (flat_word h.sets h.groups.items h.backing c.args.word c.apart.ensures is) ∙ ap (λ (v : Seen). word_in v.memory c.args.word) c.self.view_is
