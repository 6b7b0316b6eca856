use Rattle.std.proofs.Common.{◌<◌, ◌∙◌, length, sym, ap, subst, arith}
use Rattle.std.specs.Prelude.{slice_index_or}
use Rattle.std.proofs.lemmas.List.FromFn.{get_or-map-range_with_len}
use Rattle.strand_cache.specs.Seen.{Seen, counts_seen, none_counted}
use Rattle.strand_machine.specs.Cached.{core_counts}
use Rattle.strand_machine.specs.KeptMachine.{seen}
use Rattle.strand_machine.specs.Machine.{RingMachine}
use Rattle.strand_machine.proofs.machine.Machine.counts.Goals as goal

pub returns : goal.returns
returns c =
    let m = (seen c.self.inside).machine in
    let n = c.args.n in
    let there : n < length m.state.now.cores = subst (λ (r : RingMachine). n < length r.machine.state.now.cores) (sym c.self.view_is) c.requires in
    c.counts.ensures
    ∙ ap (λ (cache : Seen). counts_seen cache n) c.cache.ensures
    ∙ ap (λ cs. slice_index_or cs n none_counted) c.self.invariant.stand.cache.counts
    ∙ get_or-map-range_with_len (core_counts m.config m.state.now.trace) 0 (length m.state.now.cores) n n none_counted there (omega arith)
    ∙ ap (λ (r : RingMachine). core_counts r.machine.config r.machine.state.now.trace n) c.self.view_is
