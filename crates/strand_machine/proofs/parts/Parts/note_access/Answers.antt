use Rattle.std.proofs.Common.{◌≡◌, ◌<◌, ◌∙◌, ap, subst, length, arith}
use Rattle.std.proofs.lemmas.List.{get_or_default}
use Rattle.strand_events.specs.Trace.{is_store, word_of}
use Rattle.strand_tags.specs.Access.{access, noted_as}
use Rattle.strand_tags.specs.TagsSeen.{TagsSeen}
use Rattle.strand_machine.specs.Changed.{Notes}
use Rattle.strand_machine.specs.Stand.{PartsSeen, Tally, no_tally, tally_at}
use Rattle.strand_machine.proofs.parts.Parts.note_access.Goals as goal

pub returns-then-is_access-clause-noted : goal.returns-then-is_access-clause-noted
returns-then-is_access-clause-noted c is =
    let there : c.args.n < length c.self.inside.tallies.items = omega (arith, c.requires.tally, ap (λ (p : PartsSeen). length p.tallies) c.self.view_is) in
    let tally : c.index-tally.result.now ≡ tally_at c.args.self.now c.args.n = c.index-tally.ensures ∙ get_or_default c.self.inside.tallies.items c.args.n c.index-tally.result.now no_tally there ∙ ap (λ (p : PartsSeen). tally_at p c.args.n) c.self.view_is in
    let strand = c.strand-strand.ensures ∙ ap (λ (t : Tally). t.strand) tally in
    let made = c.made-made.ensures.made ∙ ap (λ (t : Tally). length t.numbers) tally in
    let same : noted_as (access c.args.n c.strand-strand.result c.word.result c.is_store.result) c.made-made.result c.args.wait.now.counts ≡ noted_as (access c.args.n (tally_at c.args.self.now c.args.n).strand (word_of c.args.event) (is_store c.args.event)) (length (tally_at c.args.self.now c.args.n).numbers) c.args.wait.now.counts =
    cc (strand, made, c.word.ensures, c.is_store.ensures) in
    subst (λ (t : TagsSeen). Notes t c.note.new.self (noted_as (access c.args.n (tally_at c.args.self.now c.args.n).strand (word_of c.args.event) (is_store c.args.event)) (length (tally_at c.args.self.now c.args.n).numbers) c.args.wait.now.counts)) (ap (λ (p : PartsSeen). p.tags) c.self.view_is)
    (subst (Notes c.self.inside.tags c.note.new.self) same (record { extents = c.note.ensures.extents; strands = c.note.ensures.strands; made = c.note.ensures.made; cores = c.note.ensures.cores; stands = c.note.ensures.stands }))
