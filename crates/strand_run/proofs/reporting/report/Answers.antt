use Rattle.std.proofs.Common.{◌∙◌, subst, List}
use Rattle.strand_events.specs.declared.event.Event.{Event}
use Rattle.strand_inputs.specs.declared.mode.Mode.{Mode}
use Rattle.strand_path.specs.Chosen.{IsChosenChain}
use Rattle.strand_path.proofs.ChosenChains.{chosen_longest}
use Rattle.strand_run.proofs.reporting.report.Goals as goal

pub returns : goal.returns
returns c =
    let chain = c.in_ok-path.path.chain in
    let events = c.in_ok-graph.ensures.events ∙ c.trace.ensures.events in
    let of_mode = subst (λ (m : Mode). IsChosenChain m c.in_ok-graph.graph.events chain) c.in_ok-graph.ensures.mode c.in_ok-path.ensures.chosen in
    let chosen = subst (λ (t : List Event). IsChosenChain c.args.mode t chain) events of_mode in
    record {
      chain = chain;
      chosen = chosen;
      longest = λ other is. chosen_longest _ _ _ other chosen is;
      is = rw c.new-text.ensures.items at c.in_ok-put_report.ensures;
    }
