use Rattle.std.proofs.Common.{◌≡◌, ℕ, length, sym, ap, ◌∙◌, arith, subst}
use Rattle.std.specs.Prelude.{slice_index_or}
use Rattle.std.specs.Ordering.{nat_cmp}
use Rattle.std.specs.BTreeMap.{get}
use Rattle.strand_events.specs.declared.event.Event.{Event}
use Rattle.strand_events.specs.Trace.{core_of, word_of}
use Rattle.strand_order.specs.declared.lasts.WordLasts.{WordLasts}
use Rattle.strand_order.specs.declared.lasts.Sources.{Sources}
use Rattle.strand_order.specs.CoreLasts.{no_lasts}
use Rattle.strand_order.specs.Sources.{sources_of}
use Rattle.strand_order.specs.Walks.{IsWalked}
use Rattle.strand_order.specs.Seen.{lasts_in, AreSmall}
use Rattle.strand_inputs.specs.declared.mode.Mode.{Mode}
use Rattle.strand_order.specs.declared.seen.Seen.{Seen}
use Rattle.strand_order.proofs.Edges.Sources.{given_by, lasts_small, last_among, word_walk, core_walk}
use Rattle.strand_order.proofs.building.sources_to.Goals as goal

-- the sources by the numbers that calls gave
by_calls : (s : Seen) (e : Event) (mode : Mode) (core word : ℕ) (w : WordLasts) (x : Sources) → core ≡ core_of e → word ≡ word_of e → w ≡ lasts_in (get nat_cmp s.words word) → x ≡ sources_of mode e (slice_index_or s.cores core no_lasts) w → x ≡ given_by s e mode
by_calls s e mode core word w x a b d f = f ∙ ap (λ y. sources_of mode e (slice_index_or s.cores y no_lasts) w) a ∙ ap (sources_of mode e (slice_index_or s.cores (core_of e) no_lasts)) (d ∙ ap (λ y. lasts_in (get nat_cmp s.words y)) b)

pub sources_of-sources-requires : goal.sources_of-sources-requires
sources_of-sources-requires c =
    let k = c.requires.seen in
    subst (λ x. AreSmall (slice_index_or c.args.seen.now.cores x no_lasts)) (sym c.core.ensures) (lasts_small k.0 c.args.n c.args.e k.1 c.requires.core c.args.seen.now k.2 c.requires.small)

pub walk-requires-clause-last : goal.walk-requires-clause-last
walk-requires-clause-last c =
    let k = c.requires.seen in
    let same = by_calls c.args.seen.now c.args.e c.args.mode c.core.result c.word.result c.word-2.result c.sources_of-sources.result c.core.ensures c.word.ensures c.word-2.ensures c.sources_of-sources.ensures in
    omega (arith, ap (λ (x : Sources). x.last) same, (last_among k.0 c.args.n c.args.e k.1 c.requires.core c.args.seen.now k.2 c.args.mode).0, ap length c.deref.ensures.value)

pub walk-requires-else-is_access-clause-last : goal.walk-requires-else-is_access-clause-last
walk-requires-else-is_access-clause-last c =
    let k = c.requires.seen in
    let same = by_calls c.args.seen.now c.args.e c.args.mode c.core.result c.word.result c.word-2.result c.sources_of-sources.result c.core.ensures c.word.ensures c.word-2.ensures c.sources_of-sources.ensures in
    omega (arith, ap (λ (x : Sources). x.last) same, (last_among k.0 c.args.n c.args.e k.1 c.requires.core c.args.seen.now k.2 c.args.mode).1, ap length c.deref-else-is_access.ensures.value)

pub returns-in_ok-walk : goal.returns-in_ok-walk
returns-in_ok-walk c = λ t at seen.
    let same = by_calls c.args.seen.now c.args.e c.args.mode c.core.result c.word.result c.word-2.result c.sources_of-sources.result c.core.ensures c.word.ensures c.word-2.ensures c.sources_of-sources.ensures in
    word_walk t c.args.n c.args.e at c.requires.core c.args.seen.now seen c.args.mode c.in_ok-walk.field-0.items (sym c.is_access.ensures ∙ c.if-is_access.true) (subst (λ x. IsWalked c.args.seen.now.word_links.items x c.in_ok-walk.field-0.items) same (subst (λ xs. IsWalked xs c.sources_of-sources.result c.in_ok-walk.field-0.items) c.deref.ensures.value c.in_ok-walk.ensures))

pub returns-in_ok-walk-2 : goal.returns-in_ok-walk-2
returns-in_ok-walk-2 c = λ t at seen.
    let same = by_calls c.args.seen.now c.args.e c.args.mode c.core.result c.word.result c.word-2.result c.sources_of-sources.result c.core.ensures c.word.ensures c.word-2.ensures c.sources_of-sources.ensures in
    core_walk t c.args.n c.args.e at c.requires.core c.args.seen.now seen c.args.mode c.in_ok-walk-2.field-0.items (sym c.is_access.ensures ∙ c.if-is_access.false) (subst (λ x. IsWalked c.args.seen.now.core_links.items x c.in_ok-walk-2.field-0.items) same (subst (λ xs. IsWalked xs c.sources_of-sources.result c.in_ok-walk-2.field-0.items) c.deref-else-is_access.ensures.value c.in_ok-walk-2.ensures))
