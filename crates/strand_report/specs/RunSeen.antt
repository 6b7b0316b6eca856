-- What is reported of a run, as the report's definition has it.
use Rattle.strand_report.specs.declared.run.RunView.{RunView}
use Rattle.strand_report.specs.Report.{View}

-- all but the chosen chain
abbrev pub view_of : RunView → View
view_of view =
    record {
      stop = view.stop;
      cores = view.cores.now;
      trace = view.trace.now.events;
      bubbles = view.bubbles.now;
      visible = view.visible.now;
      held = view.held.now;
      durable = view.durable.now;
      counts = view.counts.now;
      fault = view.fault;
    }
