use Rattle.std.proofs.Common.{subst}
use Rattle.strand_refute.specs.Facts.{AreFacts}
use Rattle.strand_refute.proofs.facts.facts_of.Goals as goal

pub returns : goal.returns
returns c = subst (λ t. AreFacts t c.args.found.now (record { joined = c.in_ok-joined_marks.field-0; joins = c.in_ok-last_joins.field-0; offered = c.in_ok-gather.field-0 })) c.events-events.ensures.events (record { joined = c.in_ok-joined_marks.ensures; joins = c.in_ok-last_joins.ensures; offered = c.in_ok-gather.ensures })
