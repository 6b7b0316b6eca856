use Rattle.std.proofs.Common.{◌∙◌, ap, subst, List, Bool, length, arith}
use Rattle.strand_events.specs.Trace.{persists_of}
use Rattle.strand_events.specs.declared.event.Event.{Event}
use Rattle.strand_inputs.specs.declared.mode.Mode.{Mode}
use Rattle.strand_judge.specs.Verdicts.{IsVerdict}
use Rattle.strand_judge.specs.Words.{crash_of}
use Rattle.strand_path.specs.Chosen.{IsChosenChain}
use Rattle.strand_path.proofs.ChosenChains.{chosen_longest}
use Rattle.strand_report.specs.Persists.{marked}
use Rattle.strand_rules.specs.Bubbles.{bubbles_of}
use Rattle.strand_run.proofs.telling.summary.Goals as goal

pub returns : goal.returns
returns c =
    let chain = c.in_ok-path.path.chain in
    let events = c.in_ok-graph.ensures.events ∙ c.trace-trace.ensures.events in
    let of_mode = subst (λ (m : Mode). IsChosenChain m c.in_ok-graph.graph.events chain) c.in_ok-graph.ensures.mode c.in_ok-path.ensures.chosen in
    let chosen = subst (λ (t : List Event). IsChosenChain c.args.mode t chain) events of_mode in
    let of_words = rw c.as_slice-held.ensures at c.in_ok-verdict.ensures in
    let judged = subst (λ (m : Mode). IsVerdict m c.in_ok-graph.graph.events (crash_of c.args.initial.now c.args.run.now.held) c.in_ok-verdict.verdict) c.in_ok-graph.ensures.mode of_words in
    record {
      persists = c.from.ensures ∙ c.persists.ensures ∙ ap (λ (t : List Event). length (persists_of t)) c.trace-trace.ensures.events;
      durable = c.count_marked.ensures ∙ ap (λ (m : List Bool). length (marked m)) c.durable.ensures.marks;
      chain = chain;
      chosen = chosen;
      longest = λ other is. chosen_longest _ _ _ other chosen is;
      path = ap length c.as_slice-2.ensures;
      done = let many = ap length (c.in_ok-bubbles.ensures ∙ ap bubbles_of c.as_slice.ensures) in omega (arith, c.saturating_sub.ensures, c.made.ensures, c.len.ensures, many);
      judged = subst (λ (t : List Event). IsVerdict c.args.mode t (crash_of c.args.initial.now c.args.run.now.held) c.in_ok-verdict.verdict) events judged;
    }
