use Rattle.std.proofs.Common.{◌≡◌, ℕ, ◌<◌, length, List, ap, sym, subst, ◌∙◌, arith}
use Rattle.std.specs.Prelude.{slice_index}
use Rattle.strand_base.specs.Counting.{list_below, count_below}
use Rattle.strand_events.specs.declared.event.Event.{Event}
use Rattle.strand_events.specs.Trace.{persists_of}
use Rattle.strand_events.specs.Order.{Set, set_of, sets_word}
use Rattle.strand_events.proofs.TraceInvariant.{persists_most}
use Rattle.strand_base.specs.Places.{address_of}
use Rattle.strand_judge.specs.Words.{crash_of}
use Rattle.strand_judge.specs.Images.{IsImageOf}
use Rattle.strand_judge.proofs.Least.Sets.{judged_settled, least_judged}
use Rattle.strand_judge.proofs.Least.JoinedNumbers.{persist_within}
use Rattle.strand_judge.proofs.Verdicts.Word.{all_agree, differs_first}
use Rattle.strand_judge.proofs.judging.verdict.Goals as goal

pictured : (ev t : List Event) → ev ≡ t → (all : Set) (first values same : List ℕ) → same ≡ values → IsImageOf ev all first values → IsImageOf t all first same
pictured ev t e all first values same s i = subst (λ x. IsImageOf x all first same) e (subst (λ x. IsImageOf ev all first x) (sym s) i)

pub numbers_of-requires-clause-small : goal.numbers_of-requires-clause-small
numbers_of-requires-clause-small c = omega (arith, ap length c.requires.persists, persists_most c.args.graph.now.events, c.events.ensures.small)

pub numbers_of-requires-clause-within : goal.numbers_of-requires-clause-within
numbers_of-requires-clause-within c = λ p lt.
    let here : slice_index (persists_of c.args.graph.now.events) p < length c.args.graph.now.events = persist_within c.args.graph.now.events p (omega (arith, lt, ap length c.requires.persists)) in
    omega (arith, here, c.requires.marks, ap (λ xs. slice_index xs p) c.requires.persists)

pub returns-in-None-clause-yes : goal.returns-in-None-clause-yes
returns-in-None-clause-yes c =
    let mode = c.args.graph.now.mode in
    let t = c.args.graph.now.events in
    let crash = crash_of c.args.first.now c.args.found.now in
    let all = set_of c.args.marks.now in
    let least = c.requires.least in
    record {
      set = all;
      least = record {
        judged = record {
          allowed = least.settled.allowed;
          agrees = all_agree t all c.args.first.now c.args.found.now c.deref.result.now c.requires.same (pictured c.events.result.now c.args.graph.now.events c.events.ensures.events (set_of c.args.marks.now) c.args.first.now c.in_ok-image.image.items c.deref.result.now c.deref.ensures.value c.in_ok-image.ensures) c.in-None.ensures;
        };
        least = λ other j. least.least other (judged_settled mode t crash other j);
      };
      list_is = c.in_ok-numbers_of-in-None.ensures ∙ ap (λ xs. list_below (length xs) (λ p. all (slice_index xs p))) c.requires.persists;
    }

pub returns-clause-no : goal.returns-clause-no
returns-clause-no c = λ set j.
    let mode = c.args.graph.now.mode in
    let t = c.args.graph.now.events in
    let crash = crash_of c.args.first.now c.args.found.now in
    let all = set_of c.args.marks.now in
    let at = differs_first t all c.args.first.now c.args.found.now c.deref.result.now c.requires.same (pictured c.events.result.now c.args.graph.now.events c.events.ensures.events (set_of c.args.marks.now) c.args.first.now c.in_ok-image.image.items c.deref.result.now c.deref.ensures.value c.in_ok-image.ensures) c.in-Some.place c.in-Some.ensures in
    let judged = least_judged mode t crash all set c.requires.least.settled c.requires.least.least j in
    at.differs (judged.agrees _ at.has)

pub returns-clause-word : goal.returns-clause-word
returns-clause-word c = record {
  set = set_of c.args.marks.now;
  least = c.requires.least;
  at = differs_first c.args.graph.now.events (set_of c.args.marks.now) c.args.first.now c.args.found.now c.deref.result.now c.requires.same (pictured c.events.result.now c.args.graph.now.events c.events.ensures.events (set_of c.args.marks.now) c.args.first.now c.in_ok-image.image.items c.deref.result.now c.deref.ensures.value c.in_ok-image.ensures) c.in-Some.place c.in-Some.ensures;
  rank_is = c.rank-rank.ensures ∙ ap (λ xs. count_below (length xs) (sets_word xs (set_of c.args.marks.now) (address_of c.in-Some.place))) c.events-in-Some.ensures.events;
}
