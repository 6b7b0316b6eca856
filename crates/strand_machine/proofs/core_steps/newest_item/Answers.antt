use Rattle.std.proofs.Common.{◌-◌, ◌∙◌, List, length, sym, ap}
use Rattle.std.specs.Prelude.{Some}
use Rattle.strand_events.specs.declared.event.Event.{Event}
use Rattle.strand_events.specs.Trace.{epoch, persists_of}
use Rattle.strand_queue.specs.declared.item.Item.TheVariants.{Persist}
use Rattle.strand_machine.proofs.Stand.NextEvent.{newest_store}
use Rattle.strand_machine.proofs.core_steps.newest_item.Goals as goal

pub returns-in-Store-true-default-default-default :
    goal.returns-in-Store-true-default-default-default
returns-in-Store-true-default-default-default c =
    let t = c.args.trace.now.events in
    let e = c.in-Store-true-default-default-default in
    rw (e.word-is, e.value-is)
    (ap (λ n. Some (Persist (n - 1) e.word e.value c.epoch_of.result)) c.persists.ensures
    ∙ ap (λ k. Some (Persist (length (persists_of t) - 1) e.word e.value k)) (c.epoch_of.ensures ∙ ap (λ (es : List Event). epoch c.args.mode t (length es - 1)) c.events.ensures.events)
    ∙ sym (newest_store c.args.mode t e.persist e.core e.word e.value (c.requires ∙ ap (λ e. Some e) e.is) (sym e.persist-is ∙ e.persist-test)))
