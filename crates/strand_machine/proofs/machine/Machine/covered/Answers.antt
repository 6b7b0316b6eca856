use Rattle.std.proofs.Common.{◌≡◌, ◌++◌, [], ◌∷◌, length, refl, sym, ap, subst, ◌∙◌, arith}
use Rattle.strand_rules.specs.Looking.{next_strand}
use Rattle.strand_rules.proofs.IsReached.{reached_good}
use Rattle.strand_tags.specs.Access.{Access, access, covered}
use Rattle.strand_tags.specs.TagsSeen.{CanAsk}
use Rattle.strand_tags.specs.Traces.{access_at, noted_accesses}
use Rattle.strand_tags.proofs.LongerTrace.{noted_before}
use Rattle.strand_machine.specs.Stand.{Tally}
use Rattle.strand_machine.proofs.Stand.Counts.{access_new, next_access}
use Rattle.strand_machine.proofs.Stand.Core.{can_ask}
use Rattle.strand_machine.proofs.machine.Machine.covered.Goals.{After-is_store}
use Rattle.strand_machine.proofs.machine.Machine.covered.Goals as goal

-- what the tags are asked of the event
asked : (c : After-is_store) → access c.args.n c.strand-strand.result c.word.result c.is_store.result ≡ next_access c.args.self.now.machine.config.mode c.args.self.now.machine.state.now.trace c.args.event
asked c =
    let m = c.args.self.now.machine in
    let strand : c.strand-strand.result ≡ next_strand m.config.mode m.state.now.trace c.args.n =
    c.strand-strand.ensures ∙ ap (λ (t : Tally). t.strand) c.tally.ensures ∙ (c.keeps.ensures.holds.stand.tallies c.args.n c.requires.core).strand in
    cc (c.requires.fits.core, strand, c.word.ensures, c.is_store.ensures)

pub covers-requires : goal.covers-requires
covers-requires c =
    let m = c.args.self.now.machine in
    let all = c.keeps.ensures.holds in
    let within = (reached_good m.config m.program m.state all.reached).ordered.within in
    subst (CanAsk c.tags.result.now) (sym (asked c))
    (can_ask m.config m.state c.args.event m.state.now.cores m.state.now.memory m.state.retired within m.program.sizes refl c.tags.result.now c.tags.ensures.stands
    (omega (arith, c.requires.core, c.requires.fits.core)) (c.requires.fits.word c.requires.access) (omega (arith, all.kept.few_events, all.kept.made_within, all.kept.few_steps)))

pub returns : goal.returns
returns c k lt =
    let m = c.args.self.now.machine in
    let t = m.state.now.trace in
    let asked_now : Access = access_at m.config.mode (t ++ c.args.event ∷ []) (length t) in
    c.covers.ensures.stands (noted_accesses m.config.conflict m.config.mode t) c.tags.ensures.stands.accesses k lt
    ∙ ap (λ (a : Access). covered k a (noted_accesses m.config.conflict m.config.mode t)) (asked (goal.at.returns c).After-is_store ∙ sym (access_new t c.args.event m.config.mode))
    ∙ ap (covered k asked_now) (sym (noted_before t c.args.event m.config.conflict m.config.mode))
