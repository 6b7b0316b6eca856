-- Serves closed and joined of Pipeline::durable, stands of PlainMachine::step: what holds of a reached state.
use Rattle.std.proofs.Common.{◌≡◌, ℕ, ◌≤◌, List, [], ◌∷◌, ◌++◌, refl, sym, ap, subst, ◌∙◌}
use Rattle.strand_inputs.specs.Settings.{Settings}
use Rattle.std.specs.Prelude.{Some, slice_get, replicate, length, Bool, false, ◌==◌, if◌then◌else◌}
use Rattle.std.proofs.lemmas.Bool.{true≢false}
use Rattle.std.specs.declared.option.Option.{Option}
use Rattle.strand_base.specs.declared.limits.TheConstants.{MOST_MEMORY}
use Rattle.strand_inputs.specs.declared.step.Step.{Step}
use Rattle.strand_inputs.specs.declared.step.Step.TheVariants.{Core, Dispatch, Send, Write}
use Rattle.strand_exec.specs.Core as cores
use Rattle.strand_exec.specs.Memory.{Memory}
use Rattle.strand_modules.specs.Bank.{BankSeen}
use Rattle.strand_exec.specs.declared.planned.Plan.{Plan}
use Rattle.strand_events.specs.declared.event.Event.{Event}
use Rattle.strand_events.specs.Order.{IsDownwardClosed, HoldsJoined}
use Rattle.strand_rules.specs.Visible.{Program, event_of, next_plan}
use Rattle.strand_rules.specs.declared.turn.Turn.{Turn}
use Rattle.strand_rules.specs.declared.turn.Cause.TheVariants as causes
use Rattle.strand_rules.specs.declared.turn.Turn.TheVariants.{Done, Bubble}
use Rattle.strand_rules.specs.Cycle.{State, core_turn, made_turn, item_turn, send_turn, write_turn, turn, event_in, next_event, front, eligible, older_waits, core_after, item_after, send_after, write_after, done_after, after_turn, after, after_steps, start_at, durable_set, IsReached}
use Rattle.strand_rules.specs.Machine.{Machine, StepLeaves, StandsOn, stepped}
use Rattle.strand_rules.specs.Pipeline.{IsReachedWithSome, with_memory}
use Rattle.strand_rules.proofs.MachineInvariant.{IsStart}
use Rattle.strand_rules.proofs.Order.Invariant.{IsGood, start_good}
use Rattle.strand_rules.proofs.Order.Run.{run_good, good_closed}
use Rattle.strand_rules.proofs.Buffers.Run.{IsFit, start_fit, run_fit}
use Rattle.strand_rules.proofs.Places.Run.{ArePlaced, run_placed}
use Rattle.strand_rules.proofs.StandsOn.{core_stand, steps_stand}

pub reached_good : (g : Settings) (p : Program) (s : State) → IsReached g p s → IsGood g s
reached_good g p s (cores, memory, steps, is) = subst (IsGood g) (sym is) (run_good g p (start_at cores memory) steps (start_good g cores memory))

pub reached_fit : (g : Settings) (p : Program) (s : State) → IsReached g p s → IsFit g s
reached_fit g p s (cores, memory, steps, is) = subst (IsFit g) (sym is) (run_fit g p (start_at cores memory) steps (start_good g cores memory) (start_fit g cores memory))

pub reached_placed : (g : Settings) (p : Program) (s : State) → p.sizes.volatile ≤ MOST_MEMORY → IsReached g p s → ArePlaced p s.now.trace
reached_placed g p s small (cores, memory, steps, is) = subst (λ (s : State). ArePlaced p s.now.trace) (sym is) (run_placed p small g (start_at cores memory) steps (λ q is. absurd (true≢false (sym is))))

pub start_reached : (g : Settings) (p : Program) (cores : List cores.Core) (memory : Memory) → IsReached g p (start_at cores memory)
start_reached g p cores memory = (cores, memory, [], refl)

start_state : (cores : List cores.Core) (memory : Memory) (t : List Event) (retired dispatched flight : List ℕ) (buffered durable : List Bool)
    → t ≡ [] → retired ≡ [] → dispatched ≡ replicate (length cores) 0 → buffered ≡ [] → flight ≡ [] → durable ≡ []
    → record { now = record { cores = cores; memory = memory; trace = t }; retired = retired; dispatched = dispatched; buffered = buffered; flight = flight; durable = durable } ≡ start_at cores memory
start_state cores memory t retired dispatched flight buffered durable e1 e2 e3 e4 e5 e6 = rw (e1, e2, e3, e4, e5, e6) refl

-- the machine before its first step
pub machine_reached : (m : Machine) → IsStart m → m.state.dispatched ≡ replicate (length m.state.now.cores) 0 → IsReached m.config m.program m.state
machine_reached m s zeros = (
  m.state.now.cores,
  m.state.now.memory,
  [],
  start_state m.state.now.cores m.state.now.memory m.state.now.trace m.state.retired m.state.dispatched m.state.flight m.state.buffered m.state.durable s.trace s.retired zeros s.buffered s.flight s.durable,
)

run_more : (g : Settings) (p : Program) (s : State) (steps : List Step) (step : Step) → after_steps g p s (steps ++ step ∷ []) ≡ after g p (after_steps g p s steps) step
run_more g p s [] step = refl
run_more g p s (first ∷ steps) step = run_more g p (after g p s first) steps step

pub reached_after : (g : Settings) (p : Program) (s : State) (step : Step) → IsReached g p s → IsReached g p (after g p s step)
reached_after g p s step (cores, memory, steps, is) =
    (cores, memory, steps ++ step ∷ [], ap (λ s. after g p s step) is ∙ sym (run_more g p (start_at cores memory) steps step))

-- a step that is done
pub reached_done : (g : Settings) (p : Program) (s : State) (step : Step) → IsReached g p s → turn g p s step ≡ Done → IsReached g p (done_after g p s step)
reached_done g p s step reached done = subst (IsReached g p) (ap (λ t. after_turn t s (done_after g p s step)) done) (reached_after g p s step reached)

pub reached_stands : (old new : Machine) (step : Step) (t : Turn) (bank bank' : BankSeen) → IsReached old.config old.program old.state → old.program.sizes.volatile ≤ MOST_MEMORY
    → StepLeaves old new bank bank' step t → StandsOn old.program.sizes.persistent old.state new.state bank bank'
reached_stands old new step t bank bank' reached small =
    steps_stand old new bank bank' step t (reached_good old.config old.program old.state reached) (reached_placed old.config old.program old.state small reached)

pub core_stands : (old new : Machine) (n : ℕ) (bank : BankSeen) → IsReached old.config old.program old.state → new ≡ stepped old (Core n)
    → StandsOn old.program.sizes.persistent old.state new.state bank bank
core_stands old new n bank reached same =
    subst (λ (m : Machine). StandsOn old.program.sizes.persistent old.state m.state bank bank) (sym same)
    (core_stand old.config old.program old.state (reached_good old.config old.program old.state reached) old.program.sizes.persistent n bank)

-- core n's instruction with this plan is done
pub core_reached : (m : Machine) (n : ℕ) (asked : Plan) (e : Option Event) → IsReached m.config m.program m.state → Some asked ≡ next_plan m.program m.state.now n
    → e ≡ event_of n m.state.now.memory asked → made_turn m.config m.state n e ≡ Done → IsReached m.config m.program (core_after m.program m.state n e)
core_reached m n asked e reached next is done =
    let now : e ≡ next_event m.program m.state.now n = is ∙ ap (event_in n m.state.now.memory) next in
    subst (λ e. IsReached m.config m.program (core_after m.program m.state n e)) (sym now)
    (reached_done m.config m.program m.state (Core n) reached (sym (ap (core_turn m.config m.state n) next) ∙ sym (ap (made_turn m.config m.state n) is) ∙ done))

-- item k, the first of core n's queue, is dispatched
pub item_reached : (m : Machine) (n k : ℕ) → IsReached m.config m.program m.state → front m.config m.state n ≡ Some k
    → item_turn m.config m.state n (Some k) ≡ Done → IsReached m.config m.program (item_after m.state n (Some k))
item_reached m n k reached first done =
    subst (λ o. IsReached m.config m.program (item_after m.state n o)) first
    (reached_done m.config m.program m.state (Dispatch n) reached (ap (item_turn m.config m.state n) first ∙ done))

-- persist p, eligible at place j of buffer b of core n, is sent
pub send_reached : (m : Machine) (n b j p : ℕ) → IsReached m.config m.program m.state → Some p ≡ slice_get (eligible m.config m.state n b) j
    → (length m.state.flight == m.config.flight) ≡ false → IsReached m.config m.program (send_after m.state (Some p))
send_reached m n b j p reached at room =
    subst (λ o. IsReached m.config m.program (send_after m.state o)) (sym at)
    (reached_done m.config m.program m.state (Send n b j) reached (sym (ap (send_turn m.config m.state) at) ∙ ap (λ full. if full then Bubble causes.FlightFull else Done) room))

-- persist p, in flight at place j, is written
pub write_reached : (m : Machine) (j p : ℕ) → IsReached m.config m.program m.state → Some p ≡ slice_get m.state.flight j
    → older_waits m.state j p ≡ false → IsReached m.config m.program (write_after m.state j (Some p))
write_reached m j p reached at alone =
    subst (λ o. IsReached m.config m.program (write_after m.state j o)) (sym at)
    (reached_done m.config m.program m.state (Write j) reached (sym (ap (write_turn m.state j) at) ∙ ap (λ older. if older then Bubble causes.OlderWaits else Done) alone))

-- the durable set of a reached state
pub reached_closed : (g : Settings) (p : Program) (s : State) → IsReached g p s → IsDownwardClosed g.mode s.now.trace (durable_set s)
reached_closed g p s reached = good_closed g s (reached_good g p s reached)

pub reached_joined : (g : Settings) (p : Program) (s : State) → IsReached g p s → HoldsJoined s.now.trace (durable_set s)
reached_joined g p s reached = (reached_good g p s reached).ordered.drained

-- the same where a run reaches the state with some memory
pub item_reached_with_some : (m : Machine) (n k : ℕ) → IsReachedWithSome m.config m.program m.state → front m.config m.state n ≡ Some k
    → item_turn m.config m.state n (Some k) ≡ Done → IsReachedWithSome m.config m.program (item_after m.state n (Some k))
item_reached_with_some m n k (memory, reached) first done = (memory, item_reached (with_memory memory m) n k reached first done)

pub send_reached_with_some : (m : Machine) (n b j p : ℕ) → IsReachedWithSome m.config m.program m.state → Some p ≡ slice_get (eligible m.config m.state n b) j
    → (length m.state.flight == m.config.flight) ≡ false → IsReachedWithSome m.config m.program (send_after m.state (Some p))
send_reached_with_some m n b j p (memory, reached) at room = (memory, send_reached (with_memory memory m) n b j p reached at room)

pub write_reached_with_some : (m : Machine) (j p : ℕ) → IsReachedWithSome m.config m.program m.state → Some p ≡ slice_get m.state.flight j
    → older_waits m.state j p ≡ false → IsReachedWithSome m.config m.program (write_after m.state j (Some p))
write_reached_with_some m j p (memory, reached) at alone = (memory, write_reached (with_memory memory m) j p reached at alone)
