use Rattle.std.proofs.Common.{◌≡◌, ℕ, suc, ◌<◌, ◌≤◌, ◌∙◌, length, map, ap, sym, subst, arith}
use Rattle.std.specs.Prelude.{slice_index}
use Rattle.std.proofs.lemmas.List.{length-map, get_or-map}
use Rattle.strand_path.specs.Chains.{events_of}
use Rattle.strand_events.specs.Trace.{persist_number}
use Rattle.strand_path.specs.Chosen.{IsChosen}
use Rattle.strand_path.specs.Picking.{ArePicked}
use Rattle.strand_path.proofs.Check.Bounds.{number_within}
use Rattle.strand_path.proofs.LongestPath.Members.{members_rise}
use Rattle.strand_path.proofs.LongestPath.ChosenChain.{picked_chosen, events_again}
use Rattle.strand_path.proofs.choosing.longest.Goals as goal

pub returns-clause-chosen : goal.returns-clause-chosen
returns-clause-chosen c =
    let mode = c.args.graph.now.mode in
    let t = c.args.graph.now.events in
    let levels = c.in_ok-traces.traces.levels.items in
    let members = c.in_ok-members.members.items in
    let picked : ArePicked mode t levels members 0 = c.in_ok-members.ensures in
    let numbers : c.in_ok-numbers_of.field-0 ≡ map (persist_number t) members = c.in_ok-numbers_of.ensures ∙ ap (λ ev. map (persist_number ev) c.deref-2.result.now) c.events-2.ensures.events ∙ ap (map (persist_number t)) c.deref-2.ensures.value in
    let same : events_of t c.in_ok-numbers_of.field-0 ≡ members = ap (events_of t) numbers ∙ events_again mode t members (λ k lt. picked.persist k (omega arith) lt) in
    record {
      numbers = λ k lt.
          let long : length c.in_ok-numbers_of.field-0 ≡ length members = ap length numbers ∙ length-map members (persist_number t) in
          let inside : k < length members = omega (arith, lt, long) in
          let here : slice_index c.in_ok-numbers_of.field-0 k ≡ persist_number t (slice_index members k) = ap (λ xs. slice_index xs k) numbers ∙ get_or-map (persist_number t) members k 0 0 inside in
          omega (arith, here, number_within mode t (slice_index members k) (picked.persist k (omega arith) inside));
      chosen = subst (λ xs. IsChosen mode t xs) (sym same) (picked_chosen mode t levels c.in_ok-traces.ensures.levels c.in_ok-traces.ensures.supported members picked);
    }

pub numbers_of-requires-clause-rising : goal.numbers_of-requires-clause-rising
numbers_of-requires-clause-rising c =
    let rises = members_rise c.args.graph.now.mode c.args.graph.now.events c.in_ok-traces.traces.levels.items c.in_ok-members.members.items c.in_ok-members.ensures in
    subst (λ xs. (k : ℕ) → suc k < length xs → slice_index xs k ≤ slice_index xs (suc k)) (sym c.deref-2.ensures.value) (λ k lt. omega (arith, rises k lt))
