-- The words of both regions are the flat memory's.
use Rattle.std.proofs.Common.{◌+◌, ◌*◌, inl, inr, sym, ap, ◌∙◌, subst, arith}
use Rattle.std.specs.Prelude.{length, map}
use Rattle.std.specs.List.{range_with_len}
use Rattle.std.proofs.lemmas.List.FromFn.{length-map-range_with_len}
use Rattle.strand_base.specs.declared.regions.TheConstants.{VOLATILE_BASE, PERSISTENT_BASE}
use Rattle.strand_exec.specs.Memory.{extents_of, word_in}
use Rattle.strand_exec.specs.Plan.{IsWord}
use Rattle.strand_cache.specs.Backing.{IsApart}
use Rattle.strand_cache.specs.Seen.{Seen}
use Rattle.strand_cache.proofs.Memory.Whole.{seen_extents, low_words, high_words}
use Rattle.strand_cache.proofs.hierarchy.Hierarchy.flatten.Goals as goal

pub region-requires-clause-words : goal.region-requires-clause-words
region-requires-clause-words c i lt =
    let h = c.self.inside in
    let same = seen_extents h.sets h.groups.items h.backing c.args.self.now.memory (ap (λ (v : Seen). v.memory) c.self.view_is) in
    let is : IsWord (extents_of h.backing) (VOLATILE_BASE + 8 * i) = (omega arith, inl (omega arith, omega (arith, lt, c.volatile_words-low.ensures))) in
    subst (λ x. IsWord x (VOLATILE_BASE + 8 * i)) (sym same) is

pub region-requires-2-clause-words : goal.region-requires-2-clause-words
region-requires-2-clause-words c i lt =
    let h = c.self.inside in
    let same = seen_extents h.sets h.groups.items h.backing c.args.self.now.memory (ap (λ (v : Seen). v.memory) c.self.view_is) in
    let is : IsWord (extents_of h.backing) (PERSISTENT_BASE + 8 * i) = (omega arith, inr (omega arith, omega (arith, lt, c.persistent_words-high.ensures))) in
    subst (λ x. IsWord x (PERSISTENT_BASE + 8 * i)) (sym same) is

pub invariant_of-result : goal.invariant_of-result
invariant_of-result c =
    let low = ap length c.in_ok-volatile.ensures ∙ length-map-range_with_len (λ i. word_in c.args.self.now.memory (VOLATILE_BASE + 8 * i)) 0 c.volatile_words-low.result ∙ c.volatile_words-low.ensures in
    let high = ap length c.in_ok-persistent.ensures ∙ length-map-range_with_len (λ i. word_in c.args.self.now.memory (PERSISTENT_BASE + 8 * i)) 0 c.persistent_words-high.result ∙ c.persistent_words-high.ensures in
    (omega (arith, low, c.apart.ensures.apart), omega (arith, high, c.apart.ensures.small))

pub returns : goal.returns
returns c =
    let h = c.self.inside in
    let m = c.args.self.now.memory in
    let same = seen_extents h.sets h.groups.items h.backing c.args.self.now.memory (ap (λ (v : Seen). v.memory) c.self.view_is) in
    let small : IsApart c.args.self.now.memory = record { apart = omega (arith, c.apart.ensures.apart, ap (λ x. x.volatile) same); small = omega (arith, c.apart.ensures.small, ap (λ x. x.persistent) same) } in
    let low = c.in_ok-volatile.ensures ∙ ap (λ n. map (λ i. word_in m (VOLATILE_BASE + 8 * i)) (range_with_len 0 n)) (c.volatile_words-low.ensures ∙ sym (ap (λ x. x.volatile) same)) ∙ low_words m small in
    let high = c.in_ok-persistent.ensures ∙ ap (λ n. map (λ i. word_in m (PERSISTENT_BASE + 8 * i)) (range_with_len 0 n)) (c.persistent_words-high.ensures ∙ sym (ap (λ x. x.persistent) same)) ∙ high_words m in
    λ i. record { volatile = low i; persistent = high i }
