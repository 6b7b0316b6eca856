-- Empty caches are whole, and stand for no access.
use Rattle.std.proofs.Common.{◌≡◌, [], sym, ap, ◌∙◌, subst}
use Rattle.std.specs.Prelude.{length, map, replicate}
use Rattle.std.proofs.lemmas.List.{length-replicate}
use Rattle.strand_cache.specs.Copies.{row_lines, row_of}
use Rattle.strand_cache.specs.Seen.{none_counted}
use Rattle.strand_cache.specs.Whole.{IsWhole, flat_memory, group_of}
use Rattle.strand_cache.proofs.Memory.Empty.{fresh_whole, fresh_memory, fresh_lines, no_row}
use Rattle.strand_cache.proofs.Lists.Access.{lines_is}
use Rattle.strand_cache.proofs.hierarchy.Hierarchy.new.Goals as goal

pub invariant_of-result : goal.invariant_of-result
invariant_of-result c =
    let counts = c.in_ok-counts.ensures in (
      subst (λ g. IsWhole c.args.cores c.args.sets c.args.ways g c.in_ok-backing.backing) (sym c.in_ok-groups.ensures)
          (fresh_whole c.args.cores c.args.sets c.args.ways c.in_ok-backing.backing c.requires.sets.0 c.requires.ways.0 c.requires.ways.1),
      ap length (counts.items_if_clones_equal (λ y e. e)) ∙ length-replicate c.args.cores none_counted,
    )

pub returns-clause-empty : goal.returns-clause-empty
returns-clause-empty c =
    let counts = c.in_ok-counts.ensures in
    let words = c.in_ok-backing.ensures in
    let memory : flat_memory c.args.sets c.in_ok-groups.groups.items c.in_ok-backing.backing ≡ record { volatile = c.args.volatile.now; persistent = c.args.persistent.now } =
    ap (λ g. flat_memory c.args.sets g c.in_ok-backing.backing) c.in_ok-groups.ensures ∙ fresh_memory c.args.cores c.args.sets c.in_ok-backing.backing c.apart.ensures ∙ (λ i. record { volatile = words.0 i; persistent = words.1 i }) in
    let lines : map (map row_lines) c.in_ok-groups.groups.items ≡ replicate c.args.sets (replicate c.args.cores []) = ap (map (map row_lines)) c.in_ok-groups.ensures ∙ fresh_lines c.args.cores c.args.sets in
    let none : c.in_ok-counts.counts.items ≡ replicate c.args.cores none_counted = counts.items_if_clones_equal (λ y e. e) in
    λ i. record { cores = c.args.cores; sets = c.args.sets; ways = c.args.ways; memory = memory i; counts = none i; lines = lines i }

pub returns-clause-stands : goal.returns-clause-stands
returns-clause-stands c core set within lt =
    lines_is c.in_ok-groups.groups.items set core ∙ ap (λ g. row_lines (row_of (group_of g set) core)) c.in_ok-groups.ensures ∙ ap row_lines (no_row c.args.cores c.args.sets set core)
