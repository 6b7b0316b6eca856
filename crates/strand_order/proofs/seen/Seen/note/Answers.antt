use Rattle.std.proofs.Common.{◌≡◌, ◌++◌, [], ◌∷◌, ap, ◌∙◌, cond}
use Rattle.std.specs.Prelude.{slice_index_or, slice_set}
use Rattle.std.specs.Ordering.{nat_cmp}
use Rattle.std.specs.BTreeMap.{get}
use Rattle.strand_events.specs.Trace.{core_of, word_of}
use Rattle.strand_order.specs.Graph.{drained_by}
use Rattle.strand_order.specs.declared.lasts.CoreLasts.{CoreLasts}
use Rattle.strand_order.specs.CoreLasts.{lasts_after, no_lasts}
use Rattle.strand_order.specs.Seen.{lasts_in}
use Rattle.strand_order.proofs.Edges.Lasts.{noted}
use Rattle.strand_order.proofs.seen.Seen.note.Goals as goal

pub returns : goal.returns
returns c = λ t at seen.
    let core : slice_index_or c.args.self.now.cores c.core.result no_lasts ≡ slice_index_or c.args.self.now.cores (core_of c.args.e) no_lasts = ap (λ x. slice_index_or c.args.self.now.cores x no_lasts) c.core.ensures in
    let word : c.lasts_in-word.result ≡ lasts_in (get nat_cmp c.args.self.now.words (word_of c.args.e)) = c.lasts_in-word.ensures ∙ ap (λ x. lasts_in (get nat_cmp c.args.self.now.words x)) c.word.ensures in
    noted t c.args.n c.args.e at c.requires.core c.args.self.now _ seen
    (ap (λ x. slice_set c.args.self.now.cores x c.lasts_after.result) c.core-2.ensures ∙ ap (slice_set c.args.self.now.cores (core_of c.args.e)) (c.lasts_after.ensures ∙ ap (lasts_after c.args.e c.args.n) core))
    c.in_ok-note_word.ensures
    (c.in_ok-push.ensures.items ∙ ap (λ x. c.args.self.now.word_links.items ++ x ∷ []) (c.link.ensures ∙ cc (c.is_access.ensures, word)))
    (c.in_ok-push-2.ensures.items ∙ ap (λ x. c.args.self.now.core_links.items ++ x ∷ []) (c.link-2.ensures ∙ ap (λ b. cond b (slice_index_or c.args.self.now.cores c.core.result no_lasts).drained 0) c.drained_by.ensures ∙ ap (λ (m : CoreLasts). cond (drained_by c.args.e) m.drained 0) core))
